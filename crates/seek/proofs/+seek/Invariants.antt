use Prim.Native.Nat.{◌+◌, ◌≤◌}
use Rattle.paper.specs.Sheet.{Sheet}
use Rattle.prefixes.specs.Circuits.{Of, fixed_steps, passes_of}
use Rattle.seek.proofs.Steps.{Remains}
use Rattle.seek.proofs.+seek.Given as goal

abbrev pub invariant-loop-e : goal.invariant-loop-e
invariant-loop-e l = (l.e ≤ l.circuit.numbers.trailer.actions + 1) × (1 ≤ l.left)
    × ((p : Sheet) → Of l.circuit p → Remains (passes_of l.circuit p) l.circuit.numbers.trailer.actions l.left (fixed_steps l.prefix) l.e)

abbrev pub decreases-seek : goal.decreases-seek
decreases-seek l = l.left
