-- How many variables, clauses and literals T(P) has at most: 396, 6,896 and 18,720, the bounds of request E2. Assumes nothing.
use mathlib.Core.Path.{◌≡◌, refl}
use mathlib.Core.Bool.{Bool, true, false, not, ◌&&◌}
use mathlib.Core.List.{List, [], ◌∷◌, ◌++◌, map}
use Prim.Native.Nat.{ℕ, zero, suc, ◌+◌, ◌-◌, ◌*◌, ◌≤◌, ◌<◌}
use native.Mathlib.Nat.{suc-mul, mul-le-mul_right}
use native.Mathlib.Omega.{arith}
use lib.Dec.{ltb}
use lib.ListN.{length, length-map, length-append}
use borrow.Author.Tests.{ltb-true}
use Rattle.paper.specs.declared.Moment.{Moment}
use Rattle.paper.specs.declared.Step.{Step}
use Rattle.paper.specs.declared.Lit.{Lit}
use Rattle.paper.specs.Lists.{filter, only, each, up_from}
use Rattle.paper.specs.Counting.{bit, overlap, before, after}
use Rattle.paper.specs.Sheet.{Masks, Sheet, good_need, Fine}
use Rattle.paper.specs.Step.{need_of, rule_of}
use Rattle.paper.specs.Clauses.{Clause, Clauses, yes·, no·, neg, fact, action, z, facts, actions, rule_nos, literals, at_moment, need_clauses, z_clauses, effect_clauses, exclusions, frames, step_clauses, theory_of, variables, stride}
use Rattle.paper.specs.Circuit.{lits}
use Rattle.paper.proofs.Basic.{never, and_e, and_i, by, not_t}
use Rattle.paper.proofs.Any.{filter_le}
use Rattle.paper.proofs.Lists.{all_get_d}
use Rattle.paper.proofs.Decoded.{length_count}
use Rattle.paper.proofs.Tidy.{Parted, parted, pair_parted, rule_good}

-- the sum of weights
unfoldable pub total : {A : Type 0} → (A → ℕ) → List A → ℕ
total w [] = 0
total w (x ∷ xs) = w x + total w xs

-- the sum of the numbers that g gives to 0 .. n - 1, from i on
unfoldable pub sum_from : (ℕ → ℕ) → ℕ → ℕ → ℕ
sum_from g i zero = 0
sum_from g i (suc n) = g i + sum_from g (i + 1) n

module _ {A : Type 0} (w : A → ℕ) where
  total_append : (xs ys : List A) → total w (xs ++ ys) ≡ total w xs + total w ys
  unfolding total
  total_append [] ys = omega arith
  total_append (x ∷ xs) ys = let e = total_append xs ys in omega arith

  total_sum : (f : ℕ → List A) (g : ℕ → ℕ) (n i : ℕ) → ((k : ℕ) → k < i + n → total w (f k) ≤ g k) → total w (each (up_from i n) f) ≤ sum_from g i n
  unfolding total each up_from sum_from
  total_sum f g zero i h = omega arith
  total_sum f g (suc n) i h =
      let e = total_append (f i) (each (up_from (i + 1) n) f) in
      let a = h i (omega arith) in
      let r = total_sum f g n (i + 1) (λ k l. h k (omega arith)) in
      omega arith

  total_each : (f : ℕ → List A) (b n m i : ℕ) → n ≤ m → ((k : ℕ) → k < i + n → total w (f k) ≤ b) → total w (each (up_from i n) f) ≤ m * b
  unfolding total each up_from
  total_each f b zero m i l h = omega arith
  total_each f b (suc n) zero i l h = absurd (omega arith)
  total_each f b (suc n) (suc m) i l h =
      let e = total_append (f i) (each (up_from (i + 1) n) f) in
      let a = h i (omega arith) in
      let r = total_each f b n m (i + 1) (omega arith) (λ k l. h k (omega arith)) in
      let s : suc m * b ≡ m * b + b = suc-mul m b in
      omega arith

total_map : {A B : Type 0} (w : B → ℕ) (f : A → B) (b m : ℕ) (xs : List A) → length xs ≤ m → ((x : A) → w (f x) ≤ b) → total w (map f xs) ≤ m * b
unfolding total
total_map w f b m [] l h = omega arith
total_map w f b zero (x ∷ xs) l h = absurd (omega arith)
total_map w f b (suc m) (x ∷ xs) l h =
    let r = total_map w f b m xs (omega arith) h in
    let a = h x in
    let s : suc m * b ≡ m * b + b = suc-mul m b in
    omega arith

-- a longer sum is larger
sum_more : (g : ℕ → ℕ) (n m i : ℕ) → n ≤ m → sum_from g i n ≤ sum_from g i m
unfolding sum_from
sum_more g zero m i l = omega arith
sum_more g (suc n) zero i l = absurd (omega arith)
sum_more g (suc n) (suc m) i l = let r = sum_more g n m (i + 1) (omega arith) in omega arith

-- ---- lengths
-- of the numbers from i on below i + n, those above a
above : (a : ℕ) (q : ℕ → Bool) → ((b : ℕ) → q b ≡ true → a < b) → (n i : ℕ) → length (filter q (up_from i n)) ≤ i + n - (a + 1)
unfolding up_from
above a q h zero i = omega arith
above a q h (suc n) i = by (q i)
    (λ e.
    let k = h i e in
    let r = filter_le q (up_from (i + 1) n) in
    let c = length_count n (i + 1) in
    rw e (omega arith))
    (λ e. let r = above a q h n (i + 1) in rw e (omega arith))

-- two tests that never pass together
two_tests : (q r : ℕ → Bool) (n i : ℕ) → ((k : ℕ) → k < i + n → (q k && r k) ≡ false) → length (filter q (up_from i n)) + length (filter r (up_from i n)) ≤ n
unfolding up_from
two_tests q r zero i h = omega arith
two_tests q r (suc n) i h =
    let ih = two_tests q r n (i + 1) (λ k l. h k (omega arith)) in
    by (q i)
    (λ a. by (r i) (λ b. never (and_i a b) (h i (omega arith))) (λ b. rw (a, b) (omega arith)))
    (λ a. by (r i) (λ b. rw (a, b) (omega arith)) (λ b. rw (a, b) (omega arith)))

-- the literals of two masks that share no fact
lits_length : (p : Sheet) (N : ℕ) (t : Moment) (one nil : ℕ) → Parted p.F one nil → length (literals p N t one nil) ≤ p.F
unfolding literals facts only each up_from
lits_length p N t one nil h = go p.F 0 (λ k l. h k (omega arith))
  where
    at_most : (x y : Bool) (l m : Lit) → (x && y) ≡ false → length (only x l ++ only y m) ≤ 1
    at_most true true l m h = never refl h
    at_most true false l m h = omega arith
    at_most false true l m h = omega arith
    at_most false false l m h = omega arith

    go : (n i : ℕ) → ((k : ℕ) → k < i + n → (bit one k && bit nil k) ≡ false) → length (each (up_from i n) (λ k. only (bit one k) (yes· (fact p N t k)) ++ only (bit nil k) (no· (fact p N t k)))) ≤ n
    go zero i h = omega arith
    go (suc n) i h =
        let a = at_most (bit one i) (bit nil i) (yes· (fact p N t i)) (no· (fact p N t i)) (h i (omega arith)) in
        let r = go n (i + 1) (λ k l. h k (omega arith)) in
        let e = length-append (only (bit one i) (yes· (fact p N t i)) ++ only (bit nil i) (no· (fact p N t i))) (each (up_from (i + 1) n) (λ k. only (bit one k) (yes· (fact p N t k)) ++ only (bit nil k) (no· (fact p N t k)))) in
        omega arith

need_good : (p : Sheet) → Fine p → (a : ℕ) → a < p.A → Parted p.F (need_of p a).need1 (need_of p a).need0
unfolding need_of good_need
need_good p fine a l =
    let h : a < length p.needs = omega (arith, fine.needs_count) in
    pair_parted p.F (need_of p a).need1 (need_of p a).need0 fine.facts_most (all_get_d (good_need p.F) (record { need1 = 0; need0 = 0 }) p.needs fine.needs_fine a h)

total_pass : {A B : Type 0} (w : B → ℕ) (f : A → B) (q : A → Bool) (b m : ℕ) (xs : List A) → length xs ≤ m → ((x : A) → q x ≡ true → w (f x) ≤ b) → total w (map f (filter q xs)) ≤ m * b
unfolding total
total_pass w f q b m [] l h = omega arith
total_pass w f q b zero (x ∷ xs) l h = absurd (omega arith)
total_pass w f q b (suc m) (x ∷ xs) l h =
    let r = total_pass w f q b m xs (omega arith) h in
    let s : suc m * b ≡ m * b + b = suc-mul m b in
    by (q x) (λ e. let a = h x e in rw e (omega arith)) (λ e. rw e (omega arith))

-- a weight of clauses, with what it is at most at a clause of two literals, of 12, of 14, and at two of 28 together
module _ (p : Sheet) (N : ℕ) (fine : Fine p) (w : Clause → ℕ) (b2 b12 b14 bf : ℕ)
    (h2 : (l m : Lit) → w (l ∷ m ∷ []) ≤ b2) (h12 : (c : Clause) → length c ≤ 12 → w c ≤ b12) (h14 : (c : Clause) → length c ≤ 14 → w c ≤ b14)
    (hf : (c d : Clause) → length c + length d ≤ 28 → w c + w d ≤ bf) where
  lits_few : (t : Moment) (one nil : ℕ) → Parted p.F one nil → length (literals p N t one nil) ≤ 12
  lits_few t one nil h = let a = lits_length p N t one nil h in let b = fine.facts_most in omega arith

  need_size : (t : Step) → total w (need_clauses p N t) ≤ 12 * (12 * b2)
  unfolding need_clauses actions
  need_size t = total_each w _ (12 * b2) p.A 12 0 fine.actions_most (λ a l.
      total_map w (λ l. l ∷ no· (action p N t a) ∷ []) b2 12 (literals p N (before t) (need_of p a).need1 (need_of p a).need0) (lits_few (before t) (need_of p a).need1 (need_of p a).need0 (need_good p fine a (omega arith))) (λ x. h2 x (no· (action p N t a))))

  z_size : (t : Step) → total w (z_clauses p N t) ≤ 24 * (13 * b2 + b14)
  unfolding z_clauses rule_nos total
  z_size t = total_each w _ (13 * b2 + b14) p.R 24 0 fine.rules_most (λ r l.
      let cs : Clause = literals p N (before t) (rule_of p r).cond1 (rule_of p r).cond0 in
      let a : ℕ = action p N t ((rule_of p r).action - 1) in
      let n = lits_few (before t) (rule_of p r).cond1 (rule_of p r).cond0 (pair_parted p.F _ _ fine.facts_most (rule_good p fine r (omega arith)).0) in
      let x = h2 (yes· a) (no· (z p N t r)) in
      let y = total_map w (λ l. l ∷ no· (z p N t r) ∷ []) b2 12 cs n (λ x. h2 x (no· (z p N t r))) in
      let d : Clause = map neg cs ++ (no· a ∷ yes· (z p N t r) ∷ []) in
      let u = length-append (map neg cs) (no· a ∷ yes· (z p N t r) ∷ []) in
      let m = length-map cs neg in
      let v = h14 d (omega arith) in
      let e = total_append w (map (λ l. l ∷ no· (z p N t r) ∷ []) cs) (d ∷ []) in
      omega arith)

  effect_size : (t : Step) → total w (effect_clauses p N t) ≤ 24 * (12 * b2)
  unfolding effect_clauses rule_nos
  effect_size t = total_each w _ (12 * b2) p.R 24 0 fine.rules_most (λ r l.
      total_map w (λ l. no· (z p N t r) ∷ l ∷ []) b2 12 (literals p N (after t) (rule_of p r).set1 (rule_of p r).set0) (lits_few (after t) (rule_of p r).set1 (rule_of p r).set0 (pair_parted p.F _ _ fine.facts_most (rule_good p fine r (omega arith)).1)) (λ x. h2 (no· (z p N t r)) x))

  excl_size : (ex : ℕ → ℕ → Bool) (t : Step) → total w (exclusions p N ex t) ≤ 66 * b2
  unfolding exclusions actions sum_from
  excl_size ex t =
      let a = total_sum w _ (λ a. (11 - a) * b2) p.A 0 (λ a l.
      total_map w (λ b. no· (action p N t a) ∷ no· (action p N t b) ∷ []) b2 (11 - a) (filter (λ b. ltb a b && ex a b) (up_from 0 p.A))
      (let k = above a (λ b. ltb a b && ex a b) (λ b q. ltb-true a b (and_e (ltb a b) (ex a b) q).0) p.A 0 in let m = fine.actions_most in omega arith)
      (λ b. h2 (no· (action p N t a)) (no· (action p N t b)))) in
      let b = sum_more (λ a. (11 - a) * b2) p.A 12 0 fine.actions_most in
      omega arith

  frame_size : (t : Step) → total w (frames p N t) ≤ 12 * bf
  unfolding frames facts rule_nos total
  frame_size t = total_each w _ bf p.F 12 0 fine.facts_most (λ k l.
      let zs : (ℕ → Bool) → Clause = λ q. map (λ r. yes· (z p N t r)) (filter q (up_from 0 p.R)) in
      let q0 : ℕ → Bool = λ r. bit (rule_of p r).set0 k in
      let q1 : ℕ → Bool = λ r. bit (rule_of p r).set1 k in
      let n = two_tests q1 q0 p.R 0 (λ r b. pair_parted p.F (rule_of p r).set1 (rule_of p r).set0 fine.facts_most (rule_good p fine r (omega arith)).1 k (omega arith)) in
      let m = fine.rules_most in
      let e0 = length-append (zs q0) (yes· (fact p N (after t) k) ∷ []) in
      let e1 = length-append (zs q1) (no· (fact p N (after t) k) ∷ []) in
      let m0 = length-map (filter q0 (up_from 0 p.R)) (λ r. yes· (z p N t r)) in
      let m1 = length-map (filter q1 (up_from 0 p.R)) (λ r. yes· (z p N t r)) in
      let h = hf ((no· (fact p N (before t) k) ∷ zs q0) ++ (yes· (fact p N (after t) k) ∷ [])) ((yes· (fact p N (before t) k) ∷ zs q1) ++ (no· (fact p N (after t) k) ∷ [])) (omega arith) in
      omega arith)

  step_size : (ex : ℕ → ℕ → Bool) (t : Step) → total w (step_clauses p N ex t) ≤ 810 * b2 + 24 * b14 + 12 * bf
  unfolding step_clauses
  step_size ex t =
      let a = need_size t in let b = z_size t in let c = effect_size t in let d = excl_size ex t in let e = frame_size t in
      let e1 = total_append w (need_clauses p N t) (z_clauses p N t) in
      let e2 = total_append w (need_clauses p N t ++ z_clauses p N t) (effect_clauses p N t) in
      let e3 = total_append w (need_clauses p N t ++ z_clauses p N t ++ effect_clauses p N t) (exclusions p N ex t) in
      let e4 = total_append w (need_clauses p N t ++ z_clauses p N t ++ effect_clauses p N t ++ exclusions p N ex t) (frames p N t) in
      omega arith

  moment_size : (t : Moment) (cs : List Masks) → length cs ≤ 16 → total w (at_moment p N t cs) ≤ 16 * b12
  unfolding at_moment
  moment_size t cs l = total_pass w (λ c. literals p N t c.pos c.neg) (λ c. not (overlap c.pos c.neg)) b12 16 cs l (λ c q.
      h12 _ (lits_few t c.pos c.neg (parted p.F c.pos c.neg fine.facts_most (not_t (overlap c.pos c.neg) q))))

  theory_weight : (ex : ℕ → ℕ → Bool) → N ≤ 8 → total w (theory_of p ex N) ≤ 32 * b12 + 8 * (810 * b2 + 24 * b14 + 12 * bf)
  unfolding theory_of
  theory_weight ex l =
      let S : Clauses = at_moment p N (record { 0 = 0 }) p.starts in
      let G : Clauses = at_moment p N (record { 0 = N }) p.goals in
      let T : Clauses = each (up_from 0 N) (λ i. step_clauses p N ex (record { 0 = i })) in
      let a = moment_size (record { 0 = 0 }) p.starts fine.starts_most in
      let b = moment_size (record { 0 = N }) p.goals fine.goals_most in
      let c = total_each w (λ i. step_clauses p N ex (record { 0 = i })) (810 * b2 + 24 * b14 + 12 * bf) N 8 0 l (λ i k. step_size ex (record { 0 = i })) in
      let e1 = total_append w S G in
      let e2 = total_append w (S ++ G) T in
      omega arith

total_ones : (S : Clauses) → total (λ c. 1) S ≡ length S
unfolding total
total_ones [] = refl
total_ones (c ∷ S) = let e = total_ones S in omega arith

total_lits : (S : Clauses) → total length S ≡ lits S
unfolding total
total_lits [] = refl
total_lits (c ∷ S) = let e = total_lits S in omega arith

pub theory_size : (ex : ℕ → ℕ → Bool) (p : Sheet) → Fine p → (n : ℕ) → n ≤ 8 → (length (theory_of p ex n) ≤ 6896) × (lits (theory_of p ex n) ≤ 18720)
theory_size ex p fine n l =
    let a = theory_weight p n fine (λ c. 1) 1 1 1 2 (λ l m. omega arith) (λ c h. omega arith) (λ c h. omega arith) (λ c d h. omega arith) ex l in
    let b = theory_weight p n fine length 2 12 14 28 (λ l m. omega arith) (λ c h. h) (λ c h. h) (λ c d h. h) ex l in
    let e = total_ones (theory_of p ex n) in
    let f = total_lits (theory_of p ex n) in
    (omega arith, omega arith)

-- V is at most 396
pub variables_most : (p : Sheet) → Fine p → (n : ℕ) → n ≤ 8 → variables p n ≤ 396
unfolding variables stride
variables_most p fine n l =
    let a = fine.facts_most in
    let b = fine.actions_most in
    let c = fine.rules_most in
    let d : n * stride p ≤ 8 * stride p = mul-le-mul_right (stride p) l in
    omega arith
