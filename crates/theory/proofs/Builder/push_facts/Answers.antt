use Rattle.theory.specs.Making.{literals_as}
use Rattle.theory.proofs.Building.{pushes_start, pushes_more, pushes_facts}
use Rattle.theory.proofs.Builder.push_facts.Goals as goal

pub loop-k-init : goal.loop-k-init
loop-k-init c = pushes_start _

pub loop-k-preserved : goal.loop-k-preserved
loop-k-preserved c = pushes_more _ c.loop-k.invariant c.push_fact.ensures

pub returns : goal.returns
unfolding literals_as
returns c = pushes_facts _ c.loop-k.invariant c.loop-k.auto.k-end c.loop-k-test.false
