use mathlib.Core.Path.{◌≡◌}
use lib.ListN.{length}
use Rattle.sheet.specs.Contents.{contents}
use Rattle.plan.proofs.Loop.{At}
use Rattle.plan.proofs.horizons.Given as goal

abbrev pub invariant-loop-n : goal.invariant-loop-n
invariant-loop-n l = (length l.values ≡ 65536) × (l.schedule ≡ l.initial.schedule) × (length l.schedule ≡ length l.initial.schedule) × At (contents l.sheet) l.limit l.initial.table l.last l.n l.table
