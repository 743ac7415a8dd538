use mathlib.Core.Path.{◌≡◌}
use mathlib.Core.Bool.{true}
use Prim.Native.Nat.{◌^◌, ◌<◌}
use lib.ListN.{drop}
use Rattle.paper.specs.Sheet.{Sheet}
use Rattle.paper.specs.Step.{entries_fit, run_from, run}
use Rattle.sheet.specs.Writes.{Writes}
use Rattle.run.proofs.walk.Given as goal

abbrev pub invariant-loop-entry : goal.invariant-loop-entry
invariant-loop-entry l =
    (l.at.0 ≡ l.entry-index) × ((p : Sheet) → Writes p l.needs l.rules l.n → entries_fit p l.schedule ≡ true → l.s < 2 ^ p.F → (l.state < 2 ^ p.F) × (run_from p l.entry-index l.state (drop l.entry-index l.schedule) ≡ run p l.s l.schedule))
