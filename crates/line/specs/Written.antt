-- Bytes in a lent slice. Not in document 01.
-- Assumes nothing.
use Rattle.std.specs.Prelude.{◌≡◌, List, ◌++◌, ℕ, ◌+◌, length, take, drop}

-- xs stand in T's place from `at` on: U is T with them there, and the place behind them is r
pub record Writes (at : ℕ) (xs T U : List ℕ) (r : ℕ) : Type 0 where
  pub bytes_are : U ≡ take at T ++ xs ++ drop (at + length xs) T
  pub end_is : r ≡ at + length xs
