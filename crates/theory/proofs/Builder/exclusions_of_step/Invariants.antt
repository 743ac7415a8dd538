use Rattle.paper.specs.Lists.{each, up_from}
use Rattle.theory.specs.Building.{Adds}
use Rattle.theory.specs.Making.{exclusions_of}
use Rattle.theory.proofs.Builder.exclusions_of_step.Given as goal

abbrev pub invariant-loop-a : goal.invariant-loop-a
invariant-loop-a l = Adds (λ p n. each (up_from 0 l.a) (exclusions_of p n l.step)) l.initial.self l.self
