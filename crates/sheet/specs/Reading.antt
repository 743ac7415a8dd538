-- How the code holds what decode says: the trailer of an accepted sheet beside its bytes, rows as arrays of numbers.
-- Assumes nothing.
use Rattle.std.specs.Prelude.{◌≡◌, Bool, not, cond, ltb, replicate, List, [], ◌∷◌, map, ℕ, ◌+◌, ◌*◌, ◌≤◌, length, Option, Some, None}
use Rattle.std.specs.List.{find, range_with_len}
use Rattle.paper.specs.declared.Trailer.{Trailer}
use Rattle.paper.specs.Lists.{up_from}
use Rattle.paper.specs.Sheet.{Need, Rule, Sheet, word, trailer, body_at, Bounded, good_need, good_rule, good_masks, need_at, rule_at, masks_at}
use Rattle.paper.specs.Step.{need_of, rule_of}
use Rattle.sheet.specs.declared.Part.{Part}
use Rattle.sheet.specs.declared.Part.TheVariants.{Needs, Rules, Clauses}

-- bytes with their own trailer: its counts are within their bounds, and the parts of the body fill the file up to it
pub record Whole (b : List ℕ) (t : Trailer) : Type 0 where
  pub trailer_is : trailer b ≡ t
  pub bounds : Bounded t
  pub back_fits : t.back + 16 ≤ length b
  pub parts : body_at b t + 4 * t.actions + 10 * t.rules + 4 * t.starts + 4 * t.goals + 16 ≡ length b
  pub short : length b ≤ 432

-- the bytes of a row
abbrev pub width : Part → ℕ
width Needs = 4
width Rules = 10
width Clauses = 4

-- the row at an offset breaks 4
abbrev pub bad_row : List ℕ → Trailer → Part → ℕ → Bool
bad_row b t Needs o = not (good_need t.facts (need_at b o))
bad_row b t Rules o = not (good_rule t.facts t.actions (rule_at b o))
bad_row b t Clauses o = not (good_masks t.facts (masks_at b o))

-- the first of n rows of a kind, one after the other from an offset on, that breaks 4
unfoldable pub first_bad : List ℕ → Trailer → Part → ℕ → ℕ → Option ℕ
first_bad b t p o n = find (bad_row b t p) (map (λ k. o + width p * k) (range_with_len 0 n))

-- the first of some offsets
abbrev pub first_in : List ℕ → Option ℕ
first_in [] = None
first_in (o ∷ os) = Some o

-- n numbers in a row, the first at an offset; row j of m such rows, zeros where there is none
unfoldable pub numbers : List ℕ → ℕ → ℕ → List ℕ
numbers b o n = map (λ i. word b (o + 2 * i)) (up_from 0 n)

abbrev pub row_below : List ℕ → ℕ → ℕ → ℕ → ℕ → List ℕ
row_below b o n m j = cond (ltb j m) (numbers b (o + 2 * n * j) n) (replicate n 0)

-- a need and a rule as arrays of numbers, and all that a sheet can have
abbrev pub pair : Need → List ℕ
pair n = n.need1 ∷ n.need0 ∷ []

abbrev pub fives : Rule → List ℕ
fives r = r.action ∷ r.cond1 ∷ r.cond0 ∷ r.set1 ∷ r.set0 ∷ []

unfoldable pub pairs_of : Sheet → List (List ℕ)
pairs_of p = map (λ a. pair (need_of p a)) (up_from 0 12)

unfoldable pub fives_of : Sheet → List (List ℕ)
fives_of p = map (λ r. fives (rule_of p r)) (up_from 0 24)
