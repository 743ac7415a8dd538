-- What the search answers.
-- Assumes nothing.
use Rattle.std.specs.Prelude.{◌≡◌, List, ℕ, take, Option, Some, None}
use Rattle.std.proofs.Math.Option as math
use Rattle.std.proofs.Math.Option.{none, some}
use Rattle.paper.specs.Operations.{Schedule, Test}
use Rattle.paper.specs.Search.{search}

-- the first n entries of what was found
abbrev pub entries_of : ℕ → Option (List ℕ) → math.Option Schedule
entries_of n (Some σ) = some (take n σ)
entries_of n None = none

-- the first schedule that begins with the prefix and has so many steps more, or that there is none
pub record Says (test : Test) (A left : ℕ) (prefix : Schedule) (found : math.Option Schedule) : Type 0 where
  pub says : found ≡ search test test A left prefix
