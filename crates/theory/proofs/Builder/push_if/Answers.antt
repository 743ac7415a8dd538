use Rattle.theory.proofs.Building.{pushes_wanted, pushes_unwanted}
use Rattle.theory.proofs.Builder.push_if.Goals as goal

pub returns-then-wanted : goal.returns-then-wanted
returns-then-wanted c = pushes_wanted _ _ c.if-wanted.true c.push.ensures

pub returns-else-wanted : goal.returns-else-wanted
returns-else-wanted c = pushes_unwanted _ _ c.if-wanted.false
