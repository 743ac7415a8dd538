-- How many entries an answer has. Not in document 01.
-- Assumes nothing.
use Rattle.std.specs.Prelude.{ℕ, Result, Ok, Err}
use Rattle.paper.specs.declared.Fault.{Fault}
use Rattle.paper.specs.declared.Planned.{Planned}

abbrev pub entries : Result Planned Fault → ℕ
entries (Err f) = 0
entries (Ok (Planned.TooMuch n)) = 0
entries (Ok (Planned.NoRoom n e)) = 0
entries (Ok (Planned.NoPlan n c)) = 0
entries (Ok (Planned.Found n c)) = n
