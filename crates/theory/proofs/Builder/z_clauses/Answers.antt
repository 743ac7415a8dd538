use Rattle.sheet.specs.Contents.{contents}
use Rattle.theory.proofs.Building.{adds_then, adds_as}
use Rattle.theory.proofs.Parts.{z_made}
use Rattle.theory.proofs.Builder.z_clauses.Goals as goal

pub returns : goal.returns
returns c = adds_as (λ n. z_made (contents c.args.self.now.sheet) n c.args.step c.args.j c.rule-rule.result c.rule-rule.ensures.is (c.action-action.ensures n) (c.z-z.ensures n) c.opposite.ensures c.opposite-2.ensures c.before-2.ensures c.before-3.ensures) (adds_then c.pair.ensures (adds_then c.pair_facts.ensures c.z_follows.ensures))
