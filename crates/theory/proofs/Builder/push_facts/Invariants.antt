use Rattle.paper.specs.Lists.{each, up_from}
use Rattle.theory.specs.Making.{fact_as}
use Rattle.theory.specs.Building.{Pushes}
use Rattle.theory.proofs.Builder.push_facts.Given as goal

abbrev pub invariant-loop-k : goal.invariant-loop-k
invariant-loop-k l = Pushes (λ p n. each (up_from 0 l.k) (fact_as p n l.sign l.moment l.masks.one l.masks.nil)) l.initial.self l.self
