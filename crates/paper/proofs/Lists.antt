-- Laws of `all` and `any` over ++, map, filter, each, up_from; tests of all numbers below n. Assumes nothing.
use mathlib.Core.Path.{◌≡◌, refl, sym, ◌∙◌, subst}
use mathlib.Core.Bool.{Bool, true, false, not, ◌&&◌, ◌||◌, beq}
use mathlib.Core.List.{List, [], ◌∷◌, ◌++◌, map}
use Prim.Native.Nat.{ℕ, zero, suc, ◌+◌, ◌<◌}
use native.Mathlib.Omega.{arith}
use lib.Dec.{eqb}
use lib.ListN.{length, get_or}
use borrow.Author.Tests.{eqb-true}
use Rattle.paper.specs.declared.Lit.{Lit}
use Rattle.paper.specs.Lists.{any, all, filter, only, each, up_from}
use Rattle.paper.specs.Counting.{all_below, some_below}
use Rattle.paper.specs.Clauses.{neg, Assign, holds}
use Rattle.paper.proofs.Basic.{never, or_r, or_l, or_e, and_i, and_e, and_join, by, any_append}

-- two Booleans that are true together are equal
pub bool_same : (a b : Bool) → (a ≡ true → b ≡ true) → (b ≡ true → a ≡ true) → a ≡ b
bool_same true b f g = sym (f refl)
bool_same false true f g = g refl
bool_same false false f g = refl

pub beq_t : (b : Bool) → beq b true ≡ b
beq_t true = refl
beq_t false = refl

pub beq_f : (b : Bool) → beq b false ≡ not b
beq_f true = refl
beq_f false = refl

pub beq_eq : (a b : Bool) → beq a b ≡ true → a ≡ b
beq_eq true true h = refl
beq_eq true false h = sym h
beq_eq false true h = h
beq_eq false false h = refl

pub beq_same : (a b : Bool) → a ≡ b → beq a b ≡ true
beq_same true b h = rw (← h)
beq_same false b h = rw (← h)

pub or_nil : (b : Bool) → (b || false) ≡ b
or_nil true = refl
or_nil false = refl

pub and_nil : (b : Bool) → (b && true) ≡ b
and_nil true = refl
and_nil false = refl

-- a test that is an implication
pub imp_e : (a b : Bool) → (not a || b) ≡ true → a ≡ true → b ≡ true
imp_e true b h e = h
imp_e false b h e = never e refl

pub imp_i : (a b : Bool) → (a ≡ true → b ≡ true) → (not a || b) ≡ true
imp_i true b f = f refl
imp_i false b f = refl

module _ {A B : Type 0} where
  pub all_map : (f : B → Bool) (g : A → B) (xs : List A) → all f (map g xs) ≡ all (λ x. f (g x)) xs
  all_map f g [] = refl
  all_map f g (x ∷ xs) = rw (all_map f g xs)

  pub any_map : (f : B → Bool) (g : A → B) (xs : List A) → any f (map g xs) ≡ any (λ x. f (g x)) xs
  any_map f g [] = refl
  any_map f g (x ∷ xs) = rw (any_map f g xs)

module _ {A : Type 0} where
  pub all_append : (f : A → Bool) (xs ys : List A) → all f (xs ++ ys) ≡ (all f xs && all f ys)
  all_append f [] ys = refl
  all_append f (x ∷ xs) ys = rw (all_append f xs ys) (and_join (f x) (all f xs) (all f ys))

  pub all_filter : (f p : A → Bool) (xs : List A) → all f (filter p xs) ≡ all (λ x. not (p x) || f x) xs
  all_filter f p [] = refl
  all_filter f p (x ∷ xs) = by (p x) (λ e. rw (e, all_filter f p xs)) (λ e. rw e (all_filter f p xs))

  pub all_same : (f g : A → Bool) → ((x : A) → f x ≡ g x) → (xs : List A) → all f xs ≡ all g xs
  all_same f g e [] = refl
  all_same f g e (x ∷ xs) = rw (e x, all_same f g e xs)

  pub any_same : (f g : A → Bool) → ((x : A) → f x ≡ g x) → (xs : List A) → any f xs ≡ any g xs
  any_same f g e [] = refl
  any_same f g e (x ∷ xs) = rw (e x, any_same f g e xs)

  -- a side that does not depend on the element
  pub all_or : (f : A → Bool) (b : Bool) (xs : List A) → all (λ x. f x || b) xs ≡ (all f xs || b)
  all_or f b [] = refl
  all_or f b (x ∷ xs) = rw (all_or f b xs) (shared (f x) (all f xs) b)
    where
      shared : (x y b : Bool) → ((x || b) && (y || b)) ≡ ((x && y) || b)
      shared true y b = refl
      shared false true true = refl
      shared false true false = refl
      shared false false true = refl
      shared false false false = refl

  pub all_or_l : (b : Bool) (f : A → Bool) (xs : List A) → all (λ x. b || f x) xs ≡ (b || all f xs)
  all_or_l true f [] = refl
  all_or_l true f (x ∷ xs) = all_or_l true f xs
  all_or_l false f xs = refl

  -- elements that pass one test pass two others together
  pub all_when : (q f g : A → Bool) → ((x : A) → q x ≡ true → f x ≡ g x) → (xs : List A) → all q xs ≡ true → all f xs ≡ all g xs
  all_when q f g e [] h = refl
  all_when q f g e (x ∷ xs) h = let d = and_e (q x) (all q xs) h in rw (e x d.0, all_when q f g e xs d.1)

  pub all_only : (f : A → Bool) (b : Bool) (x : A) → all f (only b x) ≡ (not b || f x)
  unfolding only
  all_only f true x = and_nil (f x)
  all_only f false x = refl

  pub any_only : (f : A → Bool) (b : Bool) (x : A) → any f (only b x) ≡ (b && f x)
  unfolding only
  any_only f true x = or_nil (f x)
  any_only f false x = refl

module _ {A B : Type 0} where
  pub all_each : (f : B → Bool) (g : A → List B) (xs : List A) → all f (each xs g) ≡ all (λ x. all f (g x)) xs
  unfolding each
  all_each f g [] = refl
  all_each f g (x ∷ xs) = all_append f (g x) (each xs g) ∙ rw (all_each f g xs)

  pub any_each : (f : B → Bool) (g : A → List B) (xs : List A) → any f (each xs g) ≡ any (λ x. any f (g x)) xs
  unfolding each
  any_each f g [] = refl
  any_each f g (x ∷ xs) = any_append f (g x) (each xs g) ∙ rw (any_each f g xs)

-- ---- all and any of the numbers from i on
pub all_at : (f : ℕ → Bool) (n i k : ℕ) → all f (up_from i n) ≡ true → k < n → f (i + k) ≡ true
unfolding up_from
all_at f zero i k h l = absurd (omega arith)
all_at f (suc n) i zero h l = subst (λ j. f j ≡ true) (omega arith) (and_e (f i) (all f (up_from (i + 1) n)) h).0
all_at f (suc n) i (suc k) h l =
    subst (λ j. f j ≡ true) (omega arith) (all_at f n (i + 1) k (and_e (f i) (all f (up_from (i + 1) n)) h).1 (omega arith))

pub all_i : (f : ℕ → Bool) (n i : ℕ) → ((k : ℕ) → k < n → f (i + k) ≡ true) → all f (up_from i n) ≡ true
unfolding up_from
all_i f zero i h = refl
all_i f (suc n) i h =
    and_i (subst (λ j. f j ≡ true) (omega arith) (h 0 (omega arith)))
    (all_i f n (i + 1) (λ k l. subst (λ j. f j ≡ true) (omega arith) (h (suc k) (omega arith))))

pub any_w {ℓ} : {X : Type ℓ} (f : ℕ → Bool) (n i : ℕ) → any f (up_from i n) ≡ true → ((k : ℕ) → k < n → f (i + k) ≡ true → X) → X
unfolding up_from
any_w f zero i h go = never h refl
any_w f (suc n) i h go = or_e (f i) (any f (up_from (i + 1) n)) h
    (λ e. go 0 (omega arith) (subst (λ j. f j ≡ true) (omega arith) e))
    (λ e. any_w f n (i + 1) e (λ k l d. go (suc k) (omega arith) (subst (λ j. f j ≡ true) (omega arith) d)))

pub any_i : (f : ℕ → Bool) (n i k : ℕ) → k < n → f (i + k) ≡ true → any f (up_from i n) ≡ true
unfolding up_from
any_i f zero i k l e = absurd (omega arith)
any_i f (suc n) i zero l e = or_l (any f (up_from (i + 1) n)) (subst (λ j. f j ≡ true) (omega arith) e)
any_i f (suc n) i (suc k) l e = or_r (f i) (any_i f n (i + 1) k (omega arith) (subst (λ j. f j ≡ true) (omega arith) e))

-- from 0
pub all_at0 : (f : ℕ → Bool) (n : ℕ) → all f (up_from 0 n) ≡ true → (k : ℕ) → k < n → f k ≡ true
all_at0 f n h k l = subst (λ j. f j ≡ true) (omega arith) (all_at f n 0 k h l)

pub all_i0 : (f : ℕ → Bool) (n : ℕ) → ((k : ℕ) → k < n → f k ≡ true) → all f (up_from 0 n) ≡ true
all_i0 f n h = all_i f n 0 (λ k l. subst (λ j. f j ≡ true) (omega arith) (h k l))

pub any_w0 {ℓ} : {X : Type ℓ} (f : ℕ → Bool) (n : ℕ) → any f (up_from 0 n) ≡ true → ((k : ℕ) → k < n → f k ≡ true → X) → X
any_w0 f n h go = any_w f n 0 h (λ k l e. go k l (subst (λ j. f j ≡ true) (omega arith) e))

pub any_i0 : (f : ℕ → Bool) (n : ℕ) (k : ℕ) → k < n → f k ≡ true → any f (up_from 0 n) ≡ true
any_i0 f n k l e = any_i f n 0 k l (subst (λ j. f j ≡ true) (omega arith) e)

-- ---- all_below and some_below
pub below_suc : (P : ℕ → Type 0) (n k : ℕ) → k < suc n → (k < n → P k) → P n → P k
below_suc P n k h f x = by (eqb k n) (λ p. rw (eqb-true k n p) x) (λ p. f (lower p))
  where
    lower : eqb k n ≡ false → k < n
    lower p = let q : k ≡ n → ⊥ = borrow.Author.Tests.eqb-false k n p in omega arith

pub below_at : (n : ℕ) (f : ℕ → Bool) → all_below n f ≡ true → (k : ℕ) → k < n → f k ≡ true
unfolding all_below
below_at zero f e k h = absurd (omega arith)
below_at (suc n) f e k h =
    let d = and_e (all_below n f) (f n) e in below_suc (λ i. f i ≡ true) n k h (below_at n f d.0 k) d.1

pub below_i : (n : ℕ) (f : ℕ → Bool) → ((k : ℕ) → k < n → f k ≡ true) → all_below n f ≡ true
unfolding all_below
below_i zero f h = refl
below_i (suc n) f h = and_i (below_i n f (λ k l. h k (omega arith))) (h n (omega arith))

pub some_w {ℓ} : {X : Type ℓ} (n : ℕ) (f : ℕ → Bool) → some_below n f ≡ true → ((k : ℕ) → k < n → f k ≡ true → X) → X
unfolding some_below
some_w zero f e go = never e refl
some_w (suc n) f e go = or_e (some_below n f) (f n) e (λ d. some_w n f d (λ k l. go k (omega arith))) (λ d. go n (omega arith) d)

pub some_i : (n : ℕ) (f : ℕ → Bool) (k : ℕ) → k < n → f k ≡ true → some_below n f ≡ true
unfolding some_below
some_i zero f k h e = absurd (omega arith)
some_i (suc n) f k h e =
    below_suc (λ i. f i ≡ true → (some_below n f || f n) ≡ true) n k h
    (λ l d. or_l (f n) (some_i n f k l d)) (λ d. or_r (some_below n f) d) e

-- tests that agree below n
pub all_below_lem : (n : ℕ) (f g : ℕ → Bool) → ((k : ℕ) → k < n → f k ≡ g k) → all f (up_from 0 n) ≡ all_below n g
all_below_lem n f g e = bool_same (all f (up_from 0 n)) (all_below n g)
    (λ h. below_i n g (λ k l. sym (e k l) ∙ all_at0 f n h k l))
    (λ h. all_i0 f n (λ k l. e k l ∙ below_at n g h k l))

pub any_below : (n : ℕ) (f g : ℕ → Bool) → ((k : ℕ) → k < n → f k ≡ g k) → any f (up_from 0 n) ≡ some_below n g
any_below n f g e = bool_same (any f (up_from 0 n)) (some_below n g)
    (λ h. any_w0 f n h (λ k l d. some_i n g k l (sym (e k l) ∙ d)))
    (λ h. some_w n g h (λ k l d. any_i0 f n k l (e k l ∙ d)))

pub any_counts : (n : ℕ) (f g : ℕ → Bool) → ((k : ℕ) → k < n → f k ≡ g k) → any f (up_from 0 n) ≡ any g (up_from 0 n)
any_counts n f g e = bool_same (any f (up_from 0 n)) (any g (up_from 0 n))
    (λ h. any_w0 f n h (λ k l d. any_i0 g n k l (sym (e k l) ∙ d)))
    (λ h. any_w0 g n h (λ k l d. any_i0 f n k l (e k l ∙ d)))

module _ {A : Type 0} where
  -- an element of a list whose elements all pass
  pub all_get_d : (f : A → Bool) (d : A) (xs : List A) → all f xs ≡ true → (i : ℕ) → i < length xs → f (get_or xs i d) ≡ true
  all_get_d f d [] h i l = absurd (omega arith)
  all_get_d f d (x ∷ xs) h zero l = (and_e (f x) (all f xs) h).0
  all_get_d f d (x ∷ xs) h (suc i) l = all_get_d f d xs (and_e (f x) (all f xs) h).1 i (omega arith)

-- tests that agree below n pass the same numbers
pub filter_below : (f g : ℕ → Bool) (n i : ℕ) → ((k : ℕ) → k < i + n → f k ≡ g k) → filter f (up_from i n) ≡ filter g (up_from i n)
unfolding up_from
filter_below f g zero i e = refl
filter_below f g (suc n) i e = rw (e i (omega arith), filter_below f g n (i + 1) (λ k l. e k (omega arith)))

-- a test that nothing passes
pub filter_none : {A : Type 0} (f : A → Bool) → ((x : A) → f x ≡ false) → (xs : List A) → filter f xs ≡ []
filter_none f e [] = refl
filter_none f e (x ∷ xs) = rw (e x) (filter_none f e xs)

-- the opposites of literals
pub any_neg : (v : Assign) (ls : List Lit) → any (holds v) (map neg ls) ≡ not (all (holds v) ls)
any_neg v [] = refl
any_neg v (l ∷ ls) = rw (any_neg v ls) (cases (v l.var) l.sign (all (holds v) ls))
  where
    cases : (x y b : Bool) → (beq x (not y) || not b) ≡ not (beq x y && b)
    cases true true b = refl
    cases true false b = refl
    cases false true b = refl
    cases false false b = refl
