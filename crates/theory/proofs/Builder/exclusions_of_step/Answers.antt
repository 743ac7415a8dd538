use Rattle.paper.specs.Clauses.{exclusions}
use Rattle.theory.proofs.Building.{adds_start, adds_more, adds_actions}
use Rattle.theory.proofs.Builder.exclusions_of_step.Goals as goal

pub loop-a-init : goal.loop-a-init
loop-a-init c = adds_start _

pub loop-a-preserved : goal.loop-a-preserved
loop-a-preserved c = adds_more _ c.loop-a.invariant c.exclusions_of.ensures

pub returns : goal.returns
unfolding exclusions
returns c = adds_actions _ c.loop-a.invariant c.loop-a.auto.a-end c.loop-a-test.false
