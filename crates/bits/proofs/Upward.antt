-- Lists by the numbers below n, and lists of lists: one number more. Assumes nothing.
use mathlib.Core.Path.{◌≡◌, refl, sym, ap, ◌∙◌}
use mathlib.Core.List.{List, [], ◌∷◌, ◌++◌, map, append-nil, append_assoc, map-append}
use Prim.Native.Nat.{ℕ, zero, suc, ◌+◌}
use native.Mathlib.Numerals.{add-one}
use native.Mathlib.Omega.{arith}
use Rattle.paper.specs.Lists.{each, up_from}

up_from_lem : (i n : ℕ) → up_from i (suc n) ≡ up_from i n ++ ((i + n) ∷ [])
unfolding up_from
up_from_lem i zero = ap (λ (k : ℕ). k ∷ []) (omega arith)
up_from_lem i (suc n) = ap (λ (l : List ℕ). i ∷ l) (up_from_lem (i + 1) n ∙ ap (λ (k : ℕ). up_from (i + 1) n ++ (k ∷ [])) (omega arith))

pub up_more : (n : ℕ) → up_from 0 (n + 1) ≡ up_from 0 n ++ (n ∷ [])
up_more n = ap (up_from 0) (add-one n) ∙ up_from_lem 0 n ∙ ap (λ (k : ℕ). up_from 0 n ++ (k ∷ [])) (omega arith)

pub map_more : {A : Type 0} (f : ℕ → A) (n : ℕ) → map f (up_from 0 (n + 1)) ≡ map f (up_from 0 n) ++ (f n ∷ [])
map_more f n = ap (map f) (up_more n) ∙ map-append f (up_from 0 n) (n ∷ [])

module _ {A B : Type 0} where
  pub each_append : (xs ys : List A) (f : A → List B) → each (xs ++ ys) f ≡ each xs f ++ each ys f
  unfolding each
  each_append [] ys f = refl
  each_append (x ∷ xs) ys f = ap (λ l. f x ++ l) (each_append xs ys f) ∙ sym (append_assoc (f x) (each xs f) (each ys f))

  -- one element more
  pub each_last : (xs : List A) (y : A) (f : A → List B) → each (xs ++ (y ∷ [])) f ≡ each xs f ++ f y
  unfolding each
  each_last xs y f = each_append xs (y ∷ []) f ∙ ap (λ l. each xs f ++ l) (append-nil (f y))

pub each_more : {B : Type 0} (f : ℕ → List B) (n : ℕ) → each (up_from 0 (n + 1)) f ≡ each (up_from 0 n) f ++ f n
each_more f n = ap (λ l. each l f) (up_more n) ∙ each_last (up_from 0 n) n f
