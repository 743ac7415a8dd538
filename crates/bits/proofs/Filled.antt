-- Arrays that a loop fills from the front, as lists of a function's values. Assumes nothing.
use mathlib.Core.Path.{◌≡◌, refl, sym, ap, ◌∙◌}
use mathlib.Core.Bool.{Bool}
use mathlib.Core.List.{List, ◌∷◌, map}
use Prim.Native.Nat.{ℕ, zero, suc, ◌+◌, ◌*◌, ◌<◌}
use native.Mathlib.Omega.{arith}
use borrow.Author.Count.{below_more}
use lib.ListN.{length, get_or, set, length-map}
use lib.Seq.{get_or-set_same, get_or-set_other, ext_get_or}
use Rattle.paper.specs.Lists.{all, up_from}
use Rattle.paper.specs.Counting.{all_below}
use Rattle.paper.specs.Sheet.{offsets}
use Rattle.paper.proofs.Decoded.{length_count}
use Rattle.paper.proofs.Lists.{all_map, all_below_lem}

module _ {A : Type 0} where
  -- one store more
  pub fill_at : (l : List A) (i : ℕ) (v d : A) (g : ℕ → A) → i < length l
      → ((k : ℕ) → k < i → get_or l k d ≡ g k) → v ≡ g i → (k : ℕ) → k < i + 1 → get_or (set l i v) k d ≡ g k
  fill_at l i v d g h old e =
      below_more (λ (k : ℕ). get_or (set l i v) k d ≡ g k) i
      (λ k lt. get_or-set_other l i k v d (λ q. omega arith) ∙ old k lt)
      (get_or-set_same l i v d h ∙ e)

  length_values : (f : ℕ → A) (n i : ℕ) → length (map f (up_from i n)) ≡ n
  length_values f n i = length-map (up_from i n) f ∙ length_count n i

  values_from : (f : ℕ → A) (d : A) (n i k : ℕ) → k < n → get_or (map f (up_from i n)) k d ≡ f (i + k)
  unfolding up_from
  values_from f d zero i k h = absurd (omega arith)
  values_from f d (suc n) i zero h = ap f (omega arith)
  values_from f d (suc n) i (suc k) h = values_from f d n (i + 1) k (omega arith) ∙ ap f (omega arith)

  -- value k of n values
  pub value_at_lem : (f : ℕ → A) (d : A) (n k : ℕ) → k < n → get_or (map f (up_from 0 n)) k d ≡ f k
  value_at_lem f d n k h = values_from f d n 0 k h ∙ ap f (omega arith)

  -- a list that is f k at each place k is the list of values
  pub values_are : (n : ℕ) (f : ℕ → A) (d : A) (l : List A) → length l ≡ n → ((k : ℕ) → k < n → get_or l k d ≡ f k) → l ≡ map f (up_from 0 n)
  values_are n f d l e h =
      ext_get_or d l (map f (up_from 0 n)) (e ∙ sym (length_values f n 0)) (λ i lt. h i (omega arith) ∙ sym (value_at_lem f d n i (omega arith)))

  -- values of two functions that agree below n
  pub map_below : (f g : ℕ → A) (n : ℕ) → ((k : ℕ) → k < n → f k ≡ g k) → map f (up_from 0 n) ≡ map g (up_from 0 n)
  map_below f g n e =
      ext_get_or (f 0) (map f (up_from 0 n)) (map g (up_from 0 n)) (length_values f n 0 ∙ sym (length_values g n 0))
      (λ i lt. let h : i < n = omega (arith, length_values f n 0) in value_at_lem f (f 0) n i h ∙ e i h ∙ sym (value_at_lem g (f 0) n i h))

  -- the rows of w bytes from o on
  map_offsets : (f : ℕ → A) (o w n i : ℕ) → map f (map (λ k. o + w * k) (up_from i n)) ≡ map (λ k. f (o + w * k)) (up_from i n)
  unfolding up_from
  map_offsets f o w zero i = refl
  map_offsets f o w (suc n) i = ap (λ xs. f (o + w * i) ∷ xs) (map_offsets f o w n (i + 1))

  pub rows_of : (f : ℕ → A) (o w n : ℕ) → map f (offsets o w n) ≡ map (λ k. f (o + w * k)) (up_from 0 n)
  unfolding offsets
  rows_of f o w n = map_offsets f o w n 0

  -- all elements of a list pass, by number
  pub all_listed : (f : A → Bool) (d : A) (xs : List A) → all f xs ≡ all_below (length xs) (λ k. f (get_or xs k d))
  all_listed f d xs =
      ap (all f) (values_are (length xs) (λ k. get_or xs k d) d xs refl (λ k h. refl))
      ∙ all_map f (λ k. get_or xs k d) (up_from 0 (length xs))
      ∙ all_below_lem (length xs) (λ k. f (get_or xs k d)) (λ k. f (get_or xs k d)) (λ k h. refl)
