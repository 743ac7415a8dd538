use Rattle.sheet.specs.Contents.{contents}
use Rattle.theory.proofs.Building.{pushes_then, pushes_as, adds_clause}
use Rattle.theory.proofs.Laws.{as_false}
use Rattle.theory.proofs.Builder.z_follows.Goals as goal

pub returns : goal.returns
returns c = adds_clause (pushes_then (pushes_as (λ n. as_false (contents c.args.self.now.sheet) n _ _ _) c.push_facts.ensures) (pushes_then c.push.ensures c.push-2.ensures)) c.end.ensures
