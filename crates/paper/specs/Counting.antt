-- Where counting begins: bits of a mask from the low end, moments and steps.
-- Assumes nothing.
use Rattle.std.specs.Prelude.{Bool, true, false, ◌&&◌, ◌||◌, ℕ, zero, suc, ◌+◌, ◌/◌, ◌%◌, ◌^◌, eqb}
use Rattle.paper.specs.declared.Moment.{Moment}
use Rattle.paper.specs.declared.Step.{Step}

-- fact k has weight 2 ^ k in a mask, counted from the low end, from 0
abbrev pub bit : ℕ → ℕ → Bool
bit m k = eqb (m / 2 ^ k % 2) 1

-- every number below n passes; some number below n passes
unfoldable pub all_below : ℕ → (ℕ → Bool) → Bool
all_below zero f = true
all_below (suc n) f = all_below n f && f n

unfoldable pub some_below : ℕ → (ℕ → Bool) → Bool
some_below zero f = false
some_below (suc n) f = some_below n f || f n

-- a yes counts w, a no counts nothing
unfoldable pub worth : Bool → ℕ → ℕ
worth true w = w
worth false w = 0

-- how many numbers below n pass
unfoldable pub count_below : ℕ → (ℕ → Bool) → ℕ
count_below zero f = 0
count_below (suc n) f = count_below n f + worth (f n) 1

-- the mask of the numbers below n that pass
unfoldable pub mask_below : ℕ → (ℕ → Bool) → ℕ
mask_below zero f = 0
mask_below (suc n) f = mask_below n f + worth (f n) (2 ^ n)

-- two masks overlap: some of 16 bits is in both
unfoldable pub overlap : ℕ → ℕ → Bool
overlap m n = some_below 16 (λ k. bit m k && bit n k)

-- step i leads from moment i to moment i + 1
abbrev pub before : Step → Moment
before t = record { 0 = t.0 }

abbrev pub after : Step → Moment
after t = record { 0 = t.0 + 1 }

-- a proof by computation says `unfolding computed_counting`, which opens every definition of this module
unfoldable pub computed_counting : ℕ
unfolding all_below some_below worth count_below mask_below overlap
computed_counting = 0
