use Rattle.paper.specs.Lists.{each, up_from}
use Rattle.paper.specs.Clauses.{step_clauses, every_pair}
use Rattle.theory.specs.Building.{Adds}
use Rattle.theory.proofs.Builder.steps.Given as goal

abbrev pub invariant-loop-i : goal.invariant-loop-i
invariant-loop-i l = Adds (λ p n. each (up_from 0 l.i) (λ j. step_clauses p l.n every_pair (record { 0 = j }))) l.initial.self l.self
