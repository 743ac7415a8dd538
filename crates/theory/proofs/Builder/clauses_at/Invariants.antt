use mathlib.Core.List.{map}
use Rattle.paper.specs.Sheet.{masks_at, offsets}
use Rattle.paper.specs.Clauses.{at_moment}
use Rattle.theory.specs.Building.{Adds}
use Rattle.theory.proofs.Builder.clauses_at.Given as goal

abbrev pub invariant-loop-i : goal.invariant-loop-i
invariant-loop-i l = Adds (λ p n. at_moment p n l.moment (map (masks_at l.bytes) (offsets l.from 4 l.i))) l.initial.self l.self
