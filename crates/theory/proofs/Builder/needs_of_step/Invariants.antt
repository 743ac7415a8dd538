use Rattle.paper.specs.Lists.{each, up_from}
use Rattle.theory.specs.Building.{Adds}
use Rattle.theory.specs.Making.{need_part}
use Rattle.theory.proofs.Builder.needs_of_step.Given as goal

abbrev pub invariant-loop-a : goal.invariant-loop-a
invariant-loop-a l = Adds (λ p n. each (up_from 0 l.a) (need_part p n l.step)) l.initial.self l.self
