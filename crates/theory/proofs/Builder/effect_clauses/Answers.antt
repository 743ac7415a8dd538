use mathlib.Core.Bool.{true}
use mathlib.Core.List.{map}
use lib.ListN.{get_or}
use Rattle.paper.specs.Clauses.{literals}
use Rattle.sheet.specs.Contents.{contents}
use Rattle.theory.specs.Making.{beside}
use Rattle.theory.proofs.Building.{adds_as}
use Rattle.theory.proofs.Builder.effect_clauses.Goals as goal

pub returns : goal.returns
returns c = adds_as (λ n i. map (beside true (c.z-x.ensures n i)) (literals (contents c.args.self.now.sheet) n (c.after.ensures i) (get_or (c.rule-rule.ensures.is i) 3 0) (get_or (c.rule-rule.ensures.is i) 4 0))) c.pair_facts.ensures
