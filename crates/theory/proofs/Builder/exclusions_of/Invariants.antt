use Rattle.paper.specs.Lists.{each, up_from}
use Rattle.theory.specs.Building.{Adds}
use Rattle.theory.specs.Making.{exclusion_part}
use Rattle.theory.proofs.Builder.exclusions_of.Given as goal

abbrev pub invariant-loop-b : goal.invariant-loop-b
invariant-loop-b l = Adds (λ p n. each (up_from 0 l.b) (exclusion_part p n l.step l.a)) l.initial.self l.self
