-- Lists by a test, and numbers in a row: the words that every section uses.
-- Assumes nothing.
use Rattle.std.specs.Prelude.{Bool, true, false, ◌&&◌, ◌||◌, cond, List, [], ◌∷◌, ◌++◌, ℕ, zero, suc, ◌+◌, eqb}

module _ {A : Type 0} where
  -- some element passes; every element passes; those that pass, in their order
  abbrev pub any : (A → Bool) → List A → Bool
  any f [] = false
  any f (x ∷ xs) = f x || any f xs

  abbrev pub all : (A → Bool) → List A → Bool
  all f [] = true
  all f (x ∷ xs) = f x && all f xs

  abbrev pub filter : (A → Bool) → List A → List A
  filter f [] = []
  filter f (x ∷ xs) = cond (f x) (x ∷ filter f xs) (filter f xs)

  -- a list of no element or one
  unfoldable pub only : Bool → A → List A
  only true x = x ∷ []
  only false x = []

module _ {A B : Type 0} where
  -- the lists of all elements, one after the other
  unfoldable pub each : List A → (A → List B) → List B
  each [] f = []
  each (x ∷ xs) f = f x ++ each xs f

-- n numbers from i on
unfoldable pub up_from : ℕ → ℕ → List ℕ
up_from i zero = []
up_from i (suc n) = i ∷ up_from (i + 1) n

abbrev pub elem : ℕ → List ℕ → Bool
elem x xs = any (eqb x) xs

abbrev pub sum : List ℕ → ℕ
sum [] = 0
sum (n ∷ ns) = n + sum ns

-- a proof by computation says `unfolding computed_lists`, which opens every definition of this module
unfoldable pub computed_lists : ℕ
unfolding only each up_from
computed_lists = 0
