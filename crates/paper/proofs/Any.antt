-- Laws of `any` and `filter`. Assumes nothing.
use mathlib.Core.Path.{◌≡◌, refl, ◌∙◌, subst}
use mathlib.Core.Bool.{Bool, true, false, not, ◌&&◌, ◌||◌}
use mathlib.Core.List.{List, [], ◌∷◌}
use Prim.Native.Nat.{ℕ, ◌≤◌, ◌<◌}
use native.Mathlib.Omega.{arith}
use lib.Dec.{eqb}
use lib.ListN.{length}
use borrow.Author.Tests.{eqb-true}
use Rattle.paper.specs.declared.Lit.{Lit}
use Rattle.paper.specs.Lists.{any, filter, elem}
use Rattle.paper.specs.Clauses.{Clauses}
use Rattle.paper.specs.Circuit.{vars_c, vars, lits}
use Rattle.paper.proofs.Basic.{never, or_r, or_l, or_e, or_f, by, any_append}

module _ {A : Type 0} where
  pub any_mono : (f g : A → Bool) → ((x : A) → f x ≡ true → g x ≡ true) → (xs : List A) → any f xs ≡ true → any g xs ≡ true
  any_mono f g m [] h = h
  any_mono f g m (x ∷ xs) h = or_e (f x) (any f xs) h (λ p. or_l (any g xs) (m x p)) (λ p. or_r (g x) (any_mono f g m xs p))

  pub any_none : (f : A → Bool) → ((x : A) → f x ≡ false) → (xs : List A) → any f xs ≡ false
  any_none f m [] = refl
  any_none f m (x ∷ xs) = rw (m x) (any_none f m xs)

  pub any_or : (f g : A → Bool) (xs : List A) → any (λ x. f x || g x) xs ≡ true → (any f xs || any g xs) ≡ true
  any_or f g [] h = h
  any_or f g (x ∷ xs) h = or_e (f x || g x) (any (λ x. f x || g x) xs) h
      (λ p. or_e (f x) (g x) p (λ q. rw q) (λ q. or_r (f x || any f xs) (rw q)))
      (λ p. or_e (any f xs) (any g xs) (any_or f g xs p) (λ q. or_l (any g (x ∷ xs)) (or_r (f x) q)) (λ q. or_r (any f (x ∷ xs)) (or_r (g x) q)))

  pub any_filter : (f p : A → Bool) (xs : List A) → any f (filter p xs) ≡ any (λ x. p x && f x) xs
  any_filter f p [] = refl
  any_filter f p (x ∷ xs) = by (p x) (λ e. rw (e, any_filter f p xs)) (λ e. rw e (any_filter f p xs))

  pub any_filter_none : (f p : A → Bool) (xs : List A) → any f xs ≡ false → any f (filter p xs) ≡ false
  any_filter_none f p [] h = h
  any_filter_none f p (x ∷ xs) h =
      let e = or_f (f x) (any f xs) h in
      by (p x) (λ q. rw (q, e.0) (any_filter_none f p xs e.1)) (λ q. rw q (any_filter_none f p xs e.1))

  pub filter_le : (p : A → Bool) (xs : List A) → length (filter p xs) ≤ length xs
  filter_le p [] = omega arith
  filter_le p (x ∷ xs) = let k = filter_le p xs in by (p x) (λ q. rw q (omega arith)) (λ q. rw q (omega arith))

  pub filter_lt : (p : A → Bool) (xs : List A) → any p xs ≡ true → length (filter (λ x. not (p x)) xs) < length xs
  filter_lt p [] h = never h refl
  filter_lt p (x ∷ xs) h = by (p x)
      (λ q. let k = filter_le (λ x. not (p x)) xs in rw q (omega arith))
      (λ q. let k = filter_lt p xs (rw q at h) in rw q (omega arith))

pub any_elem : (p : ℕ → Bool) (y : ℕ) (xs : List ℕ) → elem y xs ≡ true → p y ≡ true → any p xs ≡ true
any_elem p y [] h k = h
any_elem p y (x ∷ xs) h k = or_e (eqb y x) (elem y xs) h
    (λ q. or_l (any p xs) (subst (λ z. p z ≡ true) (eqb-true y x q) k))
    (λ q. or_r (p x) (any_elem p y xs q k))

pub vars_any : (y : ℕ) (S : Clauses) → elem y (vars S) ≡ any (λ c. elem y (vars_c c)) S
vars_any y [] = refl
vars_any y (c ∷ S) = any_append (eqb y) (vars_c c) (vars S) ∙ rw (vars_any y S)

pub lits_filter : (p : List Lit → Bool) (S : Clauses) → lits (filter p S) ≤ lits S
lits_filter p [] = omega arith
lits_filter p (c ∷ S) = let k = lits_filter p S in by (p c) (λ q. rw q (omega arith)) (λ q. rw q (omega arith))
