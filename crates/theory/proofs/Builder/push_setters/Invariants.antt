use Rattle.paper.specs.Lists.{each, up_from}
use Rattle.paper.specs.Step.{rule_of}
use Rattle.theory.specs.Making.{set_to}
use Rattle.theory.specs.Building.{Pushes}
use Rattle.theory.proofs.Parts.{setter_part}
use Rattle.theory.proofs.Builder.push_setters.Given as goal

abbrev pub invariant-loop-j : goal.invariant-loop-j
invariant-loop-j l = Pushes (λ p n. each (up_from 0 l.j) (setter_part p n l.step (λ r. set_to l.value (rule_of p r)) l.k)) l.initial.self l.self
