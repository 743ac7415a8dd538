use Rattle.sheet.specs.Contents.{contents}
use Rattle.theory.proofs.Building.{pushes_then, pushes_as}
use Rattle.theory.proofs.Parts.{fact_pushed}
use Rattle.theory.proofs.Builder.push_fact.Goals as goal

pub returns : goal.returns
returns c = pushes_as (λ n. fact_pushed (contents c.args.self.now.sheet) n _ _ _ _ c.bit.ensures c.bit-2.ensures (c.fact-x.ensures n) c.opposite.ensures) (pushes_then c.push_if.ensures c.push_if-2.ensures)
