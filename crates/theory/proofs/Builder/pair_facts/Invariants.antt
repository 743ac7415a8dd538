use mathlib.Core.Bool.{true}
use mathlib.Core.List.{map}
use Rattle.paper.specs.Lists.{each, up_from}
use Rattle.theory.specs.Making.{fact_as, beside}
use Rattle.theory.specs.Building.{as_lit, Adds}
use Rattle.theory.proofs.Builder.pair_facts.Given as goal

abbrev pub invariant-loop-k : goal.invariant-loop-k
invariant-loop-k l = Adds (λ p n. each (up_from 0 l.k) (λ k. map (beside l.ahead (as_lit l.x)) (fact_as p n true l.moment l.masks.one l.masks.nil k))) l.initial.self l.self
