-- T(P)'s clauses list their literals by variable, each variable once, and all variables are 1..V. Assumes nothing.
use mathlib.Core.Path.{◌≡◌, refl, sym, ap, ◌∙◌, subst}
use mathlib.Core.Bool.{Bool, true, false, not, ◌&&◌}
use mathlib.Core.List.{List, [], ◌∷◌, ◌++◌, map}
use Prim.Native.Nat.{ℕ, zero, suc, ◌+◌, ◌-◌, ◌*◌, ◌≤◌, ◌<◌}
use native.Mathlib.Nat.{suc-mul, mul-le-mul_right}
use native.Mathlib.Omega.{arith}
use lib.Dec.{eqb, ltb, leb}
use lib.ListN.{length}
use borrow.Author.Tests.{eqb-true, ltb-true}
use Rattle.paper.specs.declared.Moment.{Moment}
use Rattle.paper.specs.declared.Lit.{Lit}
use Rattle.paper.specs.Lists.{filter, only, each, up_from, elem}
use Rattle.paper.specs.Counting.{bit, overlap}
use Rattle.paper.specs.Sheet.{Rule, Masks, Sheet, fits, good_pair, good_rule, Fine}
use Rattle.paper.specs.Step.{need_of, rule_of}
use Rattle.paper.specs.Clauses.{Clause, Clauses, yes·, no·, neg, stride, fact, action, z, variables, facts, actions, rule_nos, literals, at_moment, need_clauses, z_clauses, effect_clauses, exclusions, frames, step_clauses, theory_of}
use Rattle.paper.specs.Circuit.{vars_c, vars}
use Rattle.paper.proofs.Basic.{Every, never, and_e, by, not_true, not_t, or_e, any_append}
use Rattle.paper.proofs.Lists.{all_get_d, some_i}
use Rattle.paper.proofs.OneStep.{rule_act}

module _ {A : Type 0} (P : A → Type 0) where
  every_append : (xs ys : List A) → Every P xs → Every P ys → Every P (xs ++ ys)
  unfolding Every
  every_append [] ys h k = k
  every_append (x ∷ xs) ys h k = (h.0, every_append xs ys h.1 k)

  every_each : (g : ℕ → List A) (n i : ℕ) → ((k : ℕ) → i ≤ k → k < i + n → Every P (g k)) → Every P (each (up_from i n) g)
  unfolding Every each up_from
  every_each g zero i h = tt
  every_each g (suc n) i h = every_append (g i) (each (up_from (i + 1) n) g) (h i (omega arith) (omega arith)) (every_each g n (i + 1) (λ k a b. h k (omega arith) (omega arith)))

  every_only : (b : Bool) (x : A) → P x → Every P (only b x)
  unfolding Every only
  every_only true x h = (h, tt)
  every_only false x h = tt

every_map : {A B : Type 0} (P : B → Type 0) (g : A → B) (xs : List A) → Every (λ x. P (g x)) xs → Every P (map g xs)
unfolding Every
every_map P g [] h = tt
every_map P g (x ∷ xs) h = (h.0, every_map P g xs h.1)

every_count : (P : ℕ → Type 0) (q : ℕ → Bool) (n i : ℕ) → ((k : ℕ) → q k ≡ true → k < i + n → P k) → Every P (filter q (up_from i n))
unfolding Every up_from
every_count P q zero i h = tt
every_count P q (suc n) i h = by (q i)
    (λ e. rw e (h i e (omega arith), every_count P q n (i + 1) (λ k d b. h k d (omega arith))))
    (λ e. rw e (every_count P q n (i + 1) (λ k d b. h k d (omega arith))))

every_filter : {A : Type 0} (P : A → Type 0) (q : A → Bool) (xs : List A) → ((x : A) → q x ≡ true → P x) → Every P (filter q xs)
unfolding Every
every_filter P q [] h = tt
every_filter P q (x ∷ xs) h = by (q x) (λ e. rw e (h x e, every_filter P q xs h)) (λ e. rw e (every_filter P q xs h))

every_nil : {A : Type 0} (P : A → Type 0) → Every P []
unfolding Every
every_nil P = tt

every_cons : {A : Type 0} (P : A → Type 0) (x : A) (xs : List A) → P x → Every P xs → Every P (x ∷ xs)
unfolding Every
every_cons P x xs h k = (h, k)

-- ---- the variables of a clause rise from above lo up to hi
unfoldable pub Span : ℕ → ℕ → Clause → Type 0
Span lo hi [] = lo ≤ hi
Span lo hi (l ∷ c) = (lo < l.var) × Span l.var hi c

span_cons : (lo hi : ℕ) (l : Lit) (c : Clause) → lo < l.var → Span l.var hi c → Span lo hi (l ∷ c)
unfolding Span
span_cons lo hi l c h k = (h, k)

span_one : (lo hi : ℕ) (l : Lit) → lo < l.var → l.var ≤ hi → Span lo hi (l ∷ [])
unfolding Span
span_one lo hi l h k = (h, k)

span_two : (lo hi : ℕ) (l m : Lit) → lo < l.var → l.var < m.var → m.var ≤ hi → Span lo hi (l ∷ m ∷ [])
unfolding Span
span_two lo hi l m h k b = (h, (k, b))

span_wide : (lo hi lo' hi' : ℕ) (c : Clause) → lo' ≤ lo → hi ≤ hi' → Span lo hi c → Span lo' hi' c
unfolding Span
span_wide lo hi lo' hi' [] a b h = omega arith
span_wide lo hi lo' hi' (l ∷ c) a b h = (omega arith, span_wide l.var hi l.var hi' c (omega arith) b h.1)

span_append : (lo mid hi : ℕ) (c d : Clause) → Span lo mid c → Span mid hi d → Span lo hi (c ++ d)
unfolding Span
span_append lo mid hi [] d h k = span_wide mid hi lo hi d h (omega arith) k
span_append lo mid hi (l ∷ c) d h k = (h.0, span_append l.var mid hi c d h.1 k)

span_neg : (lo hi : ℕ) (c : Clause) → Span lo hi c → Span lo hi (map neg c)
unfolding Span
span_neg lo hi [] h = h
span_neg lo hi (l ∷ c) h = (h.0, span_neg l.var hi c h.1)

span_each : (g : ℕ → Clause) (base n i : ℕ) → ((k : ℕ) → i ≤ k → k < i + n → Span (base + k) (base + k + 1) (g k)) → Span (base + i) (base + i + n) (each (up_from i n) g)
unfolding Span each up_from
span_each g base zero i h = omega arith
span_each g base (suc n) i h =
    span_append (base + i) (base + i + 1) (base + i + suc n) (g i) (each (up_from (i + 1) n) g) (h i (omega arith) (omega arith))
    (span_wide (base + (i + 1)) (base + (i + 1) + n) (base + i + 1) (base + i + suc n) (each (up_from (i + 1) n) g) (omega arith) (omega arith)
    (span_each g base n (i + 1) (λ k a b. h k (omega arith) (omega arith))))

-- the numbers that pass, as variables
span_filter : (w : ℕ → ℕ) (base : ℕ) → ((r : ℕ) → w r ≡ base + r + 1) → (q : ℕ → Bool) (n i : ℕ) → Span (base + i) (base + i + n) (map (λ r. yes· (w r)) (filter q (up_from i n)))
unfolding Span up_from
span_filter w base e q zero i = omega arith
span_filter w base e q (suc n) i =
    let ih = span_filter w base e q n (i + 1) in
    let ei = e i in
    by (q i)
    (λ d. rw d (omega arith, span_wide (base + (i + 1)) (base + (i + 1) + n) (w i) (base + i + suc n) (map (λ r. yes· (w r)) (filter q (up_from (i + 1) n))) (omega arith) (omega arith) ih))
    (λ d. rw d (span_wide (base + (i + 1)) (base + (i + 1) + n) (base + i) (base + i + suc n) (map (λ r. yes· (w r)) (filter q (up_from (i + 1) n))) (omega arith) (omega arith) ih))

-- ---- the literals of two masks
-- the masks share no fact
abbrev pub Parted : ℕ → ℕ → ℕ → Type 0
Parted F one nil = (k : ℕ) → k < F → (bit one k && bit nil k) ≡ false

pub parted : (F one nil : ℕ) → F ≤ 12 → overlap one nil ≡ false → Parted F one nil
unfolding overlap
parted F one nil b h k l = not_true (λ e. never (some_i 16 (λ k. bit one k && bit nil k) k (omega arith) e) h)

one_of : (x y : Bool) (lo w : ℕ) → (x && y) ≡ false → w ≡ lo + 1 → Span lo (lo + 1) (only x (yes· w) ++ only y (no· w))
unfolding Span only
one_of true true lo w h e = never refl h
one_of true false lo w h e = omega arith
one_of false true lo w h e = omega arith
one_of false false lo w h e = omega arith

module _ (p : Sheet) (n : ℕ) where
  lits_every : (P : Lit → Type 0) (t : Moment) (one nil : ℕ) → ((k : ℕ) → k < p.F → P (yes· (fact p n t k)) × P (no· (fact p n t k))) → Every P (literals p n t one nil)
  unfolding literals facts
  lits_every P t one nil h = every_each P _ p.F 0 (λ k a b. let x = h k (omega arith) in every_append P (only (bit one k) (yes· (fact p n t k))) (only (bit nil k) (no· (fact p n t k))) (every_only P (bit one k) (yes· (fact p n t k)) x.0) (every_only P (bit nil k) (no· (fact p n t k)) x.1))

  lits_span : (i one nil : ℕ) → Parted p.F one nil → Span (i * stride p) (i * stride p + p.F) (literals p n (record { 0 = i }) one nil)
  unfolding literals facts fact
  lits_span i one nil h =
      span_wide (i * stride p + 0) (i * stride p + 0 + p.F) (i * stride p) (i * stride p + p.F) _ (omega arith) (omega arith)
      (span_each _ (i * stride p) p.F 0 (λ k a b. one_of (bit one k) (bit nil k) (i * stride p + k) (i * stride p + k + 1) (h k (omega arith)) (omega arith)))

pub pair_parted : (F one nil : ℕ) → F ≤ 12 → good_pair F one nil ≡ true → Parted F one nil
unfolding good_pair
pair_parted F one nil b h = parted F one nil b (not_t (overlap one nil) (and_e (fits F one && fits F nil) (not (overlap one nil)) h).1)

pub rule_good : (p : Sheet) → Fine p → (r : ℕ) → r < p.R → (good_pair p.F (rule_of p r).cond1 (rule_of p r).cond0 ≡ true) × (good_pair p.F (rule_of p r).set1 (rule_of p r).set0 ≡ true)
unfolding rule_of good_rule
rule_good p fine r l =
    let h : r < length p.rules = omega (arith, fine.rules_count) in
    let R : Rule = rule_of p r in
    and_e (good_pair p.F R.cond1 R.cond0) (good_pair p.F R.set1 R.set0) (and_e (leb 1 R.action && leb R.action p.A) (good_pair p.F R.cond1 R.cond0 && good_pair p.F R.set1 R.set0)
    (all_get_d (good_rule p.F p.A) (record { action = 0; cond1 = 0; cond0 = 0; set1 = 0; set0 = 0 }) p.rules fine.rules_fine r h)).1

z_base : (p : Sheet) (n i r : ℕ) → z p n (record { 0 = i }) r ≡ i * stride p + p.F + p.A + r + 1
unfolding z
z_base p n i r = refl

-- ---- the clauses of a step
module _ (p : Sheet) (fine : Fine p) (n i : ℕ) (l : i < n) where
  -- where the variables of the step stand
  block : i * stride p + stride p ≤ n * stride p
  block = subst (λ (x : ℕ). x ≤ n * stride p) (suc-mul i (stride p)) (mul-le-mul_right (stride p) l)

  more : (i + 1) * stride p ≡ i * stride p + stride p
  more = ap (λ (x : ℕ). x * stride p) (omega arith) ∙ suc-mul i (stride p)

  fact_here : (k : ℕ) → k < p.F → (i * stride p < fact p n (record { 0 = i }) k) × (fact p n (record { 0 = i }) k ≤ i * stride p + p.F)
  unfolding fact
  fact_here k h = omega arith

  action_here : (a : ℕ) → a < p.A → (i * stride p + p.F < action p n (record { 0 = i }) a) × (action p n (record { 0 = i }) a ≤ i * stride p + p.F + p.A)
  unfolding action
  action_here a h = omega arith

  z_here : (r : ℕ) → r < p.R → (i * stride p + p.F + p.A < z p n (record { 0 = i }) r) × (z p n (record { 0 = i }) r ≤ i * stride p + stride p)
  unfolding z stride
  z_here r h = omega arith

  next_here : (k : ℕ) → k < p.F → (i * stride p + stride p < fact p n (record { 0 = i + 1 }) k) × (fact p n (record { 0 = i + 1 }) k ≤ variables p n)
  unfolding fact variables
  next_here k h = let e = more in let b = block in omega arith

  end_here : i * stride p + stride p ≤ variables p n
  unfolding variables
  end_here = let b = block in omega arith

  wide_here : i * stride p + p.F + p.A + p.R ≤ i * stride p + stride p
  unfolding stride
  wide_here = omega arith

  need_tidy : Every (Span 0 (variables p n)) (need_clauses p n (record { 0 = i }))
  unfolding need_clauses actions
  need_tidy = every_each (Span 0 (variables p n)) _ p.A 0 (λ a x y.
      every_map (Span 0 (variables p n)) (λ l. l ∷ no· (action p n (record { 0 = i }) a) ∷ []) _
      (lits_every p n _ (record { 0 = i }) (need_of p a).need1 (need_of p a).need0 (λ k b.
      let f = fact_here k b in let g = action_here a (omega arith) in let e = end_here in let w = wide_here in
      (span_two 0 (variables p n) _ _ (omega arith) (omega arith) (omega arith), span_two 0 (variables p n) _ _ (omega arith) (omega arith) (omega arith)))))

  z_tidy : Every (Span 0 (variables p n)) (z_clauses p n (record { 0 = i }))
  unfolding z_clauses rule_nos
  z_tidy = every_each (Span 0 (variables p n)) _ p.R 0 (λ r x y.
      let a : ℕ = (rule_of p r).action - 1 in
      let g = action_here a (rule_act p fine r (omega arith)) in
      let h = z_here r (omega arith) in
      let e = end_here in
      let w = wide_here in
      let cs : Clause = literals p n (record { 0 = i }) (rule_of p r).cond1 (rule_of p r).cond0 in
      every_cons (Span 0 (variables p n)) _ _ (span_two 0 (variables p n) _ _ (omega arith) (omega arith) (omega arith))
      (every_append (Span 0 (variables p n)) (map (λ l. l ∷ no· (z p n (record { 0 = i }) r) ∷ []) cs) _
      (every_map (Span 0 (variables p n)) (λ l. l ∷ no· (z p n (record { 0 = i }) r) ∷ []) cs
      (lits_every p n _ (record { 0 = i }) (rule_of p r).cond1 (rule_of p r).cond0 (λ k b. let f = fact_here k b in
      (span_two 0 (variables p n) _ _ (omega arith) (omega arith) (omega arith), span_two 0 (variables p n) _ _ (omega arith) (omega arith) (omega arith)))))
      (every_cons (Span 0 (variables p n)) _ _
      (span_append 0 (i * stride p + p.F) (variables p n) (map neg cs) _
      (span_neg 0 (i * stride p + p.F) cs (span_wide (i * stride p) (i * stride p + p.F) 0 (i * stride p + p.F) cs (omega arith) (omega arith)
      (lits_span p n i (rule_of p r).cond1 (rule_of p r).cond0 (pair_parted p.F _ _ fine.facts_most (rule_good p fine r (omega arith)).0))))
      (span_two (i * stride p + p.F) (variables p n) _ _ (omega arith) (omega arith) (omega arith)))
      (every_nil (Span 0 (variables p n))))))

  effect_tidy : Every (Span 0 (variables p n)) (effect_clauses p n (record { 0 = i }))
  unfolding effect_clauses rule_nos
  effect_tidy = every_each (Span 0 (variables p n)) _ p.R 0 (λ r x y.
      every_map (Span 0 (variables p n)) (λ l. no· (z p n (record { 0 = i }) r) ∷ l ∷ []) _
      (lits_every p n _ (record { 0 = i + 1 }) (rule_of p r).set1 (rule_of p r).set0 (λ k b.
      let f = next_here k b in let h = z_here r (omega arith) in
      (span_two 0 (variables p n) _ _ (omega arith) (omega arith) (omega arith), span_two 0 (variables p n) _ _ (omega arith) (omega arith) (omega arith)))))

  excl_tidy : (ex : ℕ → ℕ → Bool) → Every (Span 0 (variables p n)) (exclusions p n ex (record { 0 = i }))
  unfolding exclusions actions action
  excl_tidy ex = every_each (Span 0 (variables p n)) _ p.A 0 (λ a x y.
      every_map (Span 0 (variables p n)) (λ b. no· (action p n (record { 0 = i }) a) ∷ no· (action p n (record { 0 = i }) b) ∷ []) _
      (every_count _ (λ b. ltb a b && ex a b) p.A 0 (λ b q u.
      let g = action_here a (omega arith) in let h = action_here b (omega arith) in let e = end_here in let w = wide_here in
      let lt : a < b = ltb-true a b (and_e (ltb a b) (ex a b) q).0 in
      span_two 0 (variables p n) _ _ (omega arith) (omega arith) (omega arith))))

  frame_tidy : Every (Span 0 (variables p n)) (frames p n (record { 0 = i }))
  unfolding frames facts rule_nos
  frame_tidy = every_each (Span 0 (variables p n)) _ p.F 0 (λ k x y.
      every_cons (Span 0 (variables p n)) _ _ (one k (omega arith) false true (λ r. bit (rule_of p r).set0 k))
      (every_cons (Span 0 (variables p n)) _ _ (one k (omega arith) true false (λ r. bit (rule_of p r).set1 k)) (every_nil (Span 0 (variables p n)))))
    where
      one : (k : ℕ) → k < p.F → (b c : Bool) (q : ℕ → Bool) → Span 0 (variables p n)
          ((record { var = fact p n (record { 0 = i }) k; sign = b } ∷ map (λ r. yes· (z p n (record { 0 = i }) r)) (filter q (up_from 0 p.R))) ++ (record { var = fact p n (record { 0 = i + 1 }) k; sign = c } ∷ []))
      one k h b c q =
          let f = fact_here k h in
          let g = next_here k h in
          let w = wide_here in
          let base : ℕ = i * stride p + p.F + p.A in
          span_append 0 (i * stride p + stride p) (variables p n) _ _
          (span_cons 0 (i * stride p + stride p) _ _ (omega arith)
          (span_wide (base + 0) (base + 0 + p.R) (fact p n (record { 0 = i }) k) (i * stride p + stride p) (map (λ r. yes· (z p n (record { 0 = i }) r)) (filter q (up_from 0 p.R))) (omega arith) (omega arith)
          (span_filter (z p n (record { 0 = i })) base (z_base p n i) q p.R 0)))
          (span_one (i * stride p + stride p) (variables p n) _ (omega arith) (omega arith))

  step_tidy : (ex : ℕ → ℕ → Bool) → Every (Span 0 (variables p n)) (step_clauses p n ex (record { 0 = i }))
  unfolding step_clauses
  step_tidy ex =
      let T : Clause → Type 0 = Span 0 (variables p n) in
      every_append T _ _ (every_append T _ _ (every_append T _ _ (every_append T _ _ need_tidy z_tidy) effect_tidy) (excl_tidy ex)) frame_tidy

-- ---- the theory
moment_tidy : (p : Sheet) → Fine p → (n i : ℕ) → i ≤ n → (cs : List Masks) → Every (Span 0 (variables p n)) (at_moment p n (record { 0 = i }) cs)
unfolding at_moment variables
moment_tidy p fine n i l cs =
    let b : i * stride p ≤ n * stride p = mul-le-mul_right (stride p) l in
    every_map (Span 0 (variables p n)) (λ c. literals p n (record { 0 = i }) c.pos c.neg) _
    (every_filter _ (λ c. not (overlap c.pos c.neg)) cs (λ c q.
    span_wide (i * stride p) (i * stride p + p.F) 0 (variables p n) _ (omega arith) (omega arith)
    (lits_span p n i c.pos c.neg (parted p.F c.pos c.neg fine.facts_most (not_t (overlap c.pos c.neg) q)))))

pub theory_tidy : (ex : ℕ → ℕ → Bool) (p : Sheet) → Fine p → (n : ℕ) → Every (Span 0 (variables p n)) (theory_of p ex n)
unfolding theory_of
theory_tidy ex p fine n =
    let T : Clause → Type 0 = Span 0 (variables p n) in
    every_append T _ _ (every_append T _ _ (moment_tidy p fine n 0 (omega arith) p.starts) (moment_tidy p fine n n (omega arith) p.goals))
    (every_each T _ n 0 (λ i a b. step_tidy p fine n i (omega arith) ex))

-- ---- its variables are 1..V
span_le : (lo hi : ℕ) (c : Clause) → Span lo hi c → lo ≤ hi
unfolding Span
span_le lo hi [] h = h
span_le lo hi (l ∷ c) h = let k = span_le l.var hi c h.1 in omega arith

span_vars : (lo hi y : ℕ) (c : Clause) → Span lo hi c → elem y (vars_c c) ≡ true → (lo < y) × (y ≤ hi)
unfolding Span
span_vars lo hi y [] h e = never e refl
span_vars lo hi y (l ∷ c) h e = or_e (eqb y l.var) (elem y (vars_c c)) e
    (λ q. let k = span_le l.var hi c h.1 in let d : y ≡ l.var = eqb-true y l.var q in omega arith)
    (λ q. let k = span_vars l.var hi y c h.1 q in omega arith)

every_vars : (hi y : ℕ) (S : Clauses) → Every (Span 0 hi) S → elem y (vars S) ≡ true → (0 < y) × (y ≤ hi)
unfolding Every
every_vars hi y [] h e = never e refl
every_vars hi y (c ∷ S) h e = or_e (elem y (vars_c c)) (elem y (vars S)) (sym (any_append (eqb y) (vars_c c) (vars S)) ∙ e)
    (λ q. span_vars 0 hi y c h.0 q)
    (λ q. every_vars hi y S h.1 q)

pub theory_vars : (ex : ℕ → ℕ → Bool) (p : Sheet) → Fine p → (n y : ℕ) → elem y (vars (theory_of p ex n)) ≡ true → (0 < y) × (y ≤ variables p n)
theory_vars ex p fine n y e = every_vars (variables p n) y (theory_of p ex n) (theory_tidy ex p fine n) e

-- ---- no clause repeats a literal: each variable stands once
abbrev pub Once : Clause → Type 0
Once [] = Unit {0}
Once (l ∷ c) = (elem l.var (vars_c c) ≡ false) × Once c

span_once : (lo hi : ℕ) (c : Clause) → Span lo hi c → Once c
unfolding Span
span_once lo hi [] h = tt
span_once lo hi (l ∷ c) h =
    (not_true (λ e. let k = span_vars l.var hi l.var c h.1 e in omega arith), span_once l.var hi c h.1)

every_once : (hi : ℕ) (S : Clauses) → Every (Span 0 hi) S → Every Once S
unfolding Every
every_once hi [] h = tt
every_once hi (c ∷ S) h = (span_once 0 hi c h.0, every_once hi S h.1)

pub theory_once : (ex : ℕ → ℕ → Bool) (p : Sheet) → Fine p → (n : ℕ) → Every Once (theory_of p ex n)
theory_once ex p fine n = every_once (variables p n) (theory_of p ex n) (theory_tidy ex p fine n)
