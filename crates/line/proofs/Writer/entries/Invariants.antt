use mathlib.Core.Path.{◌≡◌}
use lib.ListN.{length, take}
use Rattle.paper.specs.Lists.{each}
use Rattle.paper.specs.Program.{spaced}
use Rattle.line.specs.Written.{Writes}
use Rattle.line.proofs.Writer.entries.Given as goal

abbrev pub invariant-loop-e : goal.invariant-loop-e
invariant-loop-e l = (l.self.out.ghost_name ≡ l.initial.self.out.ghost_name)
    × (length l.self.out.now ≡ length l.initial.self.out.now)
    × Writes l.initial.self.at (each (take l.e-index l.s) spaced) l.initial.self.out.now l.self.out.now l.self.at
