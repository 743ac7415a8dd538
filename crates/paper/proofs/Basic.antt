-- Small facts on Booleans, `any`, `all`, `filter`, `elem`. Assumes nothing.
use mathlib.Core.Path.{◌≡◌, refl, sym, ◌∙◌}
use mathlib.Core.Bool.{Bool, true, false, not, ◌&&◌, ◌||◌, cond, true≢false}
use mathlib.Core.List.{List, [], ◌∷◌, ◌++◌}
use Prim.Native.Nat.{ℕ}
use lib.Dec.{eqb}
use borrow.Author.Tests.{eq-eqb}
use Rattle.paper.specs.Lists.{any, all, filter}

pub never {ℓ} : {X : Type ℓ} {b : Bool} → b ≡ true → b ≡ false → X
never p q = absurd (true≢false (sym p ∙ q))

pub or_r : (a : Bool) {b : Bool} → b ≡ true → (a || b) ≡ true
or_r true h = refl
or_r false h = h

pub or_l : {a : Bool} (b : Bool) → a ≡ true → (a || b) ≡ true
or_l b h = rw h

-- by the cases of a disjunction that holds
pub or_e {ℓ} : {X : Type ℓ} (a b : Bool) → (a || b) ≡ true → (a ≡ true → X) → (b ≡ true → X) → X
or_e true b h f g = f refl
or_e false b h f g = g h

pub or_f : (a b : Bool) → (a || b) ≡ false → (a ≡ false) × (b ≡ false)
or_f true b h = never refl h
or_f false b h = (refl, h)

pub and_i : {a b : Bool} → a ≡ true → b ≡ true → (a && b) ≡ true
and_i p q = rw (p, q)

pub and_e : (a b : Bool) → (a && b) ≡ true → (a ≡ true) × (b ≡ true)
and_e true b h = (refl, h)
and_e false b h = never h refl

pub not_t : (a : Bool) → not a ≡ true → a ≡ false
not_t true h = sym h
not_t false h = refl

pub and_zero : (a : Bool) → (a && false) ≡ false
and_zero true = refl
and_zero false = refl

pub and_swap : (a b c : Bool) → (a && (b && c)) ≡ (b && (a && c))
and_swap true b c = refl
and_swap false b c = sym (and_zero b)

pub and_join : (a b c : Bool) → (a && (b && c)) ≡ ((a && b) && c)
and_join true b c = refl
and_join false b c = refl

pub or_join : (a b c : Bool) → (a || (b || c)) ≡ ((a || b) || c)
or_join true b c = refl
or_join false b c = refl

-- a goal by the cases of a Boolean, with the equation in hand
pub by {ℓ} : {X : Type ℓ} (b : Bool) → (b ≡ true → X) → (b ≡ false → X) → X
by true f g = f refl
by false f g = g refl

pub not_true : {b : Bool} → (b ≡ true → ⊥) → b ≡ false
not_true {b} h = by b (λ p. absurd (h p)) (λ q. q)

pub eqb_same : (n : ℕ) → eqb n n ≡ true
eqb_same n = eq-eqb n n refl

module _ {A : Type 0} (p : A → Bool) where
  pub any_append : (xs ys : List A) → any p (xs ++ ys) ≡ (any p xs || any p ys)
  any_append [] ys = refl
  any_append (x ∷ xs) ys = rw (any_append xs ys) (or_join (p x) (any p xs) (any p ys))

  -- a filter and its opposite share out the list
  pub all_split : (q : A → Bool) (xs : List A) → (all q (filter p xs) && all q (filter (λ x. not (p x)) xs)) ≡ all q xs
  all_split q [] = refl
  all_split q (x ∷ xs) = rw (← all_split q xs) (cases (p x))
    where
      cases : (b : Bool) → (all q (cond b (x ∷ filter p xs) (filter p xs)) && all q (cond (not b) (x ∷ filter (λ x. not (p x)) xs) (filter (λ x. not (p x)) xs))) ≡ (q x && (all q (filter p xs) && all q (filter (λ x. not (p x)) xs)))
      cases true = sym (and_join (q x) (all q (filter p xs)) (all q (filter (λ x. not (p x)) xs)))
      cases false = and_swap (all q (filter p xs)) (q x) (all q (filter (λ x. not (p x)) xs))

-- every member has it
unfoldable pub Every : {A : Type 0} → (A → Type 0) → List A → Type 0
Every P [] = Unit {0}
Every P (x ∷ xs) = P x × Every P xs
