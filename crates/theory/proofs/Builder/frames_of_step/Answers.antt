use Rattle.paper.specs.Clauses.{frames}
use Rattle.theory.proofs.Building.{adds_start, adds_more, adds_facts}
use Rattle.theory.proofs.Builder.frames_of_step.Goals as goal

pub loop-k-init : goal.loop-k-init
loop-k-init c = adds_start _

pub loop-k-preserved : goal.loop-k-preserved
loop-k-preserved c = adds_more _ c.loop-k.invariant c.frames_of.ensures

pub returns : goal.returns
unfolding frames
returns c = adds_facts _ c.loop-k.invariant c.loop-k.auto.k-end c.loop-k-test.false
