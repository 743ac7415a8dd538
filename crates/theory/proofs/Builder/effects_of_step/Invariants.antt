use Rattle.paper.specs.Lists.{each, up_from}
use Rattle.theory.specs.Building.{Adds}
use Rattle.theory.specs.Making.{effect_part}
use Rattle.theory.proofs.Builder.effects_of_step.Given as goal

abbrev pub invariant-loop-j : goal.invariant-loop-j
invariant-loop-j l = Adds (λ p n. each (up_from 0 l.j) (effect_part p n l.step)) l.initial.self l.self
