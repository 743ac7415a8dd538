-- A rule as an array of numbers, and when it fires.
-- Assumes nothing.
use Rattle.std.specs.Prelude.{Bool, ◌&&◌, List, ℕ, eqb, get_or}
use Rattle.paper.specs.Step.{meets}

-- a rule of five numbers fires at action a in state s
abbrev pub fires : ℕ → List ℕ → ℕ → ℕ → Bool
fires F rule a s = eqb (get_or rule 0 0) a && meets F s (get_or rule 1 0) (get_or rule 2 0)
