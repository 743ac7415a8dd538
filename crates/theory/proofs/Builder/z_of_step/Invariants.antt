use Rattle.paper.specs.Lists.{each, up_from}
use Rattle.theory.specs.Building.{Adds}
use Rattle.theory.specs.Making.{z_part}
use Rattle.theory.proofs.Builder.z_of_step.Given as goal

abbrev pub invariant-loop-j : goal.invariant-loop-j
invariant-loop-j l = Adds (λ p n. each (up_from 0 l.j) (z_part p n l.step)) l.initial.self l.self
