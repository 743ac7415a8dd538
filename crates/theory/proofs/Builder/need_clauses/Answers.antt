use mathlib.Core.Bool.{false}
use mathlib.Core.List.{map}
use Rattle.paper.specs.Clauses.{literals}
use Rattle.sheet.specs.Contents.{contents}
use Rattle.theory.specs.Making.{beside}
use Rattle.theory.proofs.Building.{adds_as}
use Rattle.theory.proofs.Builder.need_clauses.Goals as goal

pub returns : goal.returns
returns c = adds_as (λ n i. map (beside false (c.action-x.ensures n i)) (literals (contents c.args.self.now.sheet) n (c.before-2.ensures i) (c.need-need.ensures.one i) (c.need-need.ensures.nil i))) c.pair_facts.ensures
