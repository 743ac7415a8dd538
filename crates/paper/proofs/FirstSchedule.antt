-- The first schedule of the list is the first in the order; there is one answer only. Assumes nothing.
use mathlib.Core.Path.{◌≡◌, refl, sym, ap, ◌∙◌, subst}
use mathlib.Core.Bool.{true, false, ◌&&◌, ◌||◌}
use mathlib.Core.List.{List, [], ◌∷◌, map}
use mathlib.Core.Option
use mathlib.Core.Option.{Option, none, some}
use Prim.Native.Nat.{ℕ, zero, suc, ◌+◌, ◌≤◌, ◌<◌}
use native.Mathlib.Omega.{arith}
use lib.Dec.{eqb, ltb, leb}
use borrow.Author.Tests.{eqb-true, ltb-true, lt-ltb, leb-true, le-leb}
use Rattle.paper.specs.Lists.{up_from, each}
use Rattle.paper.specs.Operations.{Schedule, Test, schedules, first_of, valid, earlier, First}
use Rattle.paper.specs.Search.{or_else, search, Safe}
use Rattle.paper.proofs.Basic.{never, or_r, or_l, or_e, or_f, and_e, and_i, not_true, by, eqb_same}
use Rattle.paper.proofs.Search.{spread, first_append, search_first}

-- a higher first entry is not earlier
later_f : (x y : ℕ) (s t : Schedule) → x < y → earlier (y ∷ t) (x ∷ s) ≡ false
later_f x y s t h = not_true (λ k. or_e (ltb y x) (eqb y x && earlier t s) k
    (λ e. let q = ltb-true y x e in absurd (omega arith))
    (λ e. let q = eqb-true y x (and_e (eqb y x) (earlier t s) e).0 in absurd (omega arith)))

-- begins with e, and the rest is one of v
abbrev starts : ℕ → Test → Test
starts e v [] = false
starts e v (x ∷ s) = eqb x e && v s

-- begins with one of the k numbers from e up
abbrev from : ℕ → ℕ → Test → Test
from e zero v s = false
from e (suc k) v s = starts e v s || from (e + 1) k v s

from_in : (e k : ℕ) (v : Test) (x : ℕ) (s : Schedule) → from e k v (x ∷ s) ≡ true → (e ≤ x) × (x < e + k) × (v s ≡ true)
from_in e zero v x s h = never h refl
from_in e (suc k) v x s h = or_e (eqb x e && v s) (from (e + 1) k v (x ∷ s)) h
    (λ q. let z = and_e (eqb x e) (v s) q in let n = eqb-true x e z.0 in (omega arith, omega arith, z.1))
    (λ q. let z = from_in (e + 1) k v x s q in (omega arith, omega arith, z.2))

from_nil : (e k : ℕ) (v : Test) → from e k v [] ≡ false
from_nil e zero v = refl
from_nil e (suc k) v = from_nil (e + 1) k v

in_from : (e k : ℕ) (v : Test) (x : ℕ) (s : Schedule) → e ≤ x → x < e + k → v s ≡ true → from e k v (x ∷ s) ≡ true
in_from e zero v x s a b h = absurd (omega arith)
in_from e (suc k) v x s a b h = by (eqb x e)
    (λ q. or_l (from (e + 1) k v (x ∷ s)) (and_i q h))
    (λ q. or_r (eqb x e && v s) (in_from (e + 1) k v x s (differ q) (omega arith) h))
  where
    differ : eqb x e ≡ false → e + 1 ≤ x
    differ q =
        let n : x ≡ e → ⊥ = λ z. never (subst (λ y. eqb x y ≡ true) z (eqb_same x)) q in
        omega arith

from_valid : (A n : ℕ) (s : Schedule) → from 0 (suc A) (valid A n) s ≡ valid A (suc n) s
from_valid A n [] = from_nil 0 (suc A) (valid A n)
from_valid A n (x ∷ s) = by (leb x A && valid A n s)
    (λ q. let z = and_e (leb x A) (valid A n s) q in let k = leb-true x A z.0 in in_from 0 (suc A) (valid A n) x s (omega arith) (omega arith) z.1 ∙ sym q)
    (λ q. not_true (λ k. let z = from_in 0 (suc A) (valid A n) x s k in never (and_i (le-leb x A (omega arith)) z.2) q) ∙ sym q)

first_as : (v w : Test) → ((s : Schedule) → v s ≡ w s) → (good : Test) (o : Option Schedule) → First v good o → First w good o
first_as v w e good none h = λ s k. h s (e s ∙ k)
first_as v w e good (some s) h = (sym (e s) ∙ h.0, h.1, λ t k. h.2 t (e t ∙ k))

-- the best of two ranges, the first earlier the second
first_else : (v w : Test) (good : Test) → ((s t : Schedule) → v s ≡ true → w t ≡ true → earlier t s ≡ false) → (o p : Option Schedule) → First v good o → First w good p → First (λ s. v s || w s) good (or_else o p)
first_else v w good b none none h k = λ s q. or_e (v s) (w s) q (h s) (k s)
first_else v w good b none (some t) h k = (or_r (v t) k.0, k.1, λ s q g. or_e (v s) (w s) q (λ z. never g (h s z)) (λ z. k.2 s z g))
first_else v w good b (some s) p h k = (or_l (w s) h.0, h.1, λ t q g. or_e (v t) (w t) q (λ z. h.2 t z g) (λ z. b s t h.0 z))

-- one entry put in front
first_map : (good : Test) (e : ℕ) (ss : List Schedule) → first_of good (map (λ s. e ∷ s) ss) ≡ Option.map (λ s. e ∷ s) (first_of (λ s. good (e ∷ s)) ss)
unfolding first_of
first_map good e [] = refl
first_map good e (s ∷ ss) = by (good (e ∷ s)) (λ q. rw q) (λ q. rw q (first_map good e ss))

begin_with : (e : ℕ) (v : Test) (P : Schedule → Type 0) → ((s : Schedule) → v s ≡ true → P (e ∷ s)) → (s : Schedule) → starts e v s ≡ true → P s
begin_with e v P h [] k = never k refl
begin_with e v P h (x ∷ s) k = let z = and_e (eqb x e) (v s) k in subst (λ y. P (y ∷ s)) (sym (eqb-true x e z.0)) (h s z.1)

earlier_tail : (e : ℕ) (t s : Schedule) → earlier t s ≡ false → earlier (e ∷ t) (e ∷ s) ≡ false
earlier_tail e t s h = not_true (λ k. or_e (ltb e e) (eqb e e && earlier t s) k
    (λ q. let z = ltb-true e e q in absurd (omega arith))
    (λ q. never (and_e (eqb e e) (earlier t s) q).1 h))

first_cons : (e : ℕ) (v good : Test) (o : Option Schedule) → First v (λ s. good (e ∷ s)) o → First (starts e v) good (Option.map (λ s. e ∷ s) o)
first_cons e v good none h = begin_with e v (λ s. good s ≡ false) h
first_cons e v good (some s) h =
    (and_i (eqb_same e) h.0, h.1, begin_with e v (λ t. good t ≡ true → earlier t (e ∷ s) ≡ false) (λ t k g. earlier_tail e t s (h.2 t k g)))

starts_earlier : (e k : ℕ) (v : Test) (s t : Schedule) → starts e v s ≡ true → from (e + 1) k v t ≡ true → earlier t s ≡ false
starts_earlier e k v s [] h q = refl
starts_earlier e k v [] (y ∷ t) h q = never h refl
starts_earlier e k v (x ∷ s) (y ∷ t) h q =
    let z = from_in (e + 1) k v y t q in
    let n = eqb-true x e (and_e (eqb x e) (v s) h).0 in
    later_f x y s t (omega arith)

spread_first : (v : Test) (ss : List Schedule) → ((good : Test) → First v good (first_of good ss)) → (good : Test) (k e : ℕ) → First (from e k v) good (first_of good (spread (up_from e k) ss))
unfolding first_of up_from each
spread_first v ss h good zero e = λ s q. never q refl
spread_first v ss h good (suc k) e =
    subst (First (from e (suc k) v) good) (sym (first_append good (map (λ s. e ∷ s) ss) (spread (up_from (e + 1) k) ss)))
    (first_else (starts e v) (from (e + 1) k v) good (starts_earlier e k v) (first_of good (map (λ s. e ∷ s) ss)) (first_of good (spread (up_from (e + 1) k) ss))
    (subst (First (starts e v) good) (sym (first_map good e ss)) (first_cons e v good (first_of (λ s. good (e ∷ s)) ss) (h (λ s. good (e ∷ s)))))
    (spread_first v ss h good k (e + 1)))

-- the first of the list is the first in the order
pub schedules_first : (A n : ℕ) (good : Test) → First (valid A n) good (first_of good (schedules A n))
unfolding first_of schedules
schedules_first A zero good = by (good [])
    (λ e. rw e (refl, e, alone))
    (λ e. rw e (none_left e))
  where
    alone : (t : Schedule) → valid A zero t ≡ true → good t ≡ true → earlier t [] ≡ false
    alone [] k g = refl
    alone (x ∷ t) k g = refl

    none_left : good [] ≡ false → (s : Schedule) → valid A zero s ≡ true → good s ≡ false
    none_left e [] k = e
    none_left e (x ∷ s) k = never k refl
schedules_first A (suc n) good = first_as (from 0 (suc A) (valid A n)) (valid A (suc n)) (from_valid A n) good (first_of good (schedules A (suc n))) (spread_first (valid A n) (schedules A n) (schedules_first A n) good (suc A) 0)

-- and so is what the search finds
pub search_finds : (good may : Test) → Safe good may → (A n : ℕ) → First (valid A n) good (search good may A n [])
search_finds good may safe A n = subst (First (valid A n) good) (sym (search_first good may safe A n)) (schedules_first A n good)

-- two schedules of one length, neither earlier the other, are one
same_place : (A n : ℕ) (s t : Schedule) → valid A n s ≡ true → valid A n t ≡ true → earlier s t ≡ false → earlier t s ≡ false → s ≡ t
same_place A zero [] [] a b p q = refl
same_place A zero [] (y ∷ t) a b p q = never b refl
same_place A zero (x ∷ s) t a b p q = never a refl
same_place A (suc n) [] t a b p q = never a refl
same_place A (suc n) (x ∷ s) [] a b p q = never b refl
same_place A (suc n) (x ∷ s) (y ∷ t) a b p q =
    let e = or_f (ltb x y) (eqb x y && earlier s t) p in
    let f = or_f (ltb y x) (eqb y x && earlier t s) q in
    let m : x < y → ⊥ = λ h. never (lt-ltb x y h) e.0 in
    let k : y < x → ⊥ = λ h. never (lt-ltb y x h) f.0 in
    let z : x ≡ y = omega arith in
    let c : earlier s t ≡ false = not_true (λ h. never (and_i (subst (λ w. eqb x w ≡ true) z (eqb_same x)) h) e.1) in
    let d : earlier t s ≡ false = not_true (λ h. never (and_i (subst (λ w. eqb w x ≡ true) z (eqb_same x)) h) f.1) in
    λ i. z i ∷ same_place A n s t (and_e (leb x A) (valid A n s) a).1 (and_e (leb y A) (valid A n t) b).1 c d i

-- one answer
pub one_first : (A n : ℕ) (good : Test) (o p : Option Schedule) → First (valid A n) good o → First (valid A n) good p → o ≡ p
one_first A n good none none h k = refl
one_first A n good none (some t) h k = never k.1 (h t k.0)
one_first A n good (some s) none h k = never h.1 (k s h.0)
one_first A n good (some s) (some t) h k = ap some (same_place A n s t h.0 k.0 (k.2 s h.0 h.1) (h.2 t k.0 k.1))
