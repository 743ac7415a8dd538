-- What the arrays handed to the step rule and to the clause maker are of a sheet.
-- Assumes nothing.
use Rattle.std.specs.Prelude.{◌≡◌, List, ℕ}
use Rattle.paper.specs.Sheet.{Sheet, Fine}
use Rattle.sheet.specs.Reading.{pairs_of, fives_of}

-- the writes of a well-formed sheet: its needs and its n rules
pub record Writes (p : Sheet) (needs : List (List ℕ)) (rules : List (List ℕ)) (n : ℕ) : Type 0 where
  pub fine : Fine p
  pub needs_are : needs ≡ pairs_of p
  pub rules_are : rules ≡ fives_of p
  pub rules_count : n ≡ p.R
