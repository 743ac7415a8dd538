use Rattle.paper.specs.Clauses.{effect_clauses}
use Rattle.theory.proofs.Building.{adds_start, adds_more, adds_rules}
use Rattle.theory.proofs.Builder.effects_of_step.Goals as goal

pub loop-j-init : goal.loop-j-init
loop-j-init c = adds_start _

pub loop-j-preserved : goal.loop-j-preserved
loop-j-preserved c = adds_more _ c.loop-j.invariant c.effect_clauses.ensures

pub returns : goal.returns
unfolding effect_clauses
returns c = adds_rules _ c.loop-j.invariant c.loop-j.auto.j-end c.loop-j-test.false
