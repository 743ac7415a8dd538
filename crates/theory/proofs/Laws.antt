-- Laws of the clause maker: one literal, one end, one part after the other. Assumes nothing.
use mathlib.Core.Path.{◌≡◌, refl, sym, ap, ◌∙◌, subst}
use mathlib.Core.Bool.{Bool, true, false, cond}
use mathlib.Core.List.{List, [], ◌∷◌, ◌++◌, map, append-nil, append_assoc, map-append}
use Prim.Native.Nat.{ℕ, ◌+◌, ◌≤◌, ◌<◌}
use native.Mathlib.Numerals.{add-one}
use native.Mathlib.Omega.{arith}
use lib.ListN.{drop, length, take, set, length-append, length-set}
use lib.Seq.{take-suc-set, drop-set-lt}
use Rattle.paper.specs.declared.Lit.{Lit}
use Rattle.paper.specs.declared.Moment.{Moment}
use Rattle.paper.specs.Lists.{only, each, up_from, filter}
use Rattle.paper.specs.Counting.{bit}
use Rattle.paper.specs.Sheet.{Sheet}
use Rattle.paper.specs.Clauses.{Clause, Clauses, yes·, no·, neg, fact, facts, literals}
use Rattle.paper.specs.Circuit.{lits}
use Rattle.bits.proofs.Upward.{each_last, each_more}
use Rattle.bits.proofs.Agree.{drop_later}
use Rattle.theory.specs.declared.Filled.{Filled}
use Rattle.theory.specs.Flat.{Fit, Stored, code_of, codes, ends_from}
use Rattle.theory.specs.Making.{Holds, Pushes, Ends, Adds, fact_as, literals_as, beside}

-- ---- lists of lists
module _ {A B : Type 0} where
  pub each_same : (xs : List A) (f g : A → List B) → ((x : A) → f x ≡ g x) → each xs f ≡ each xs g
  unfolding each
  each_same [] f g h = refl
  each_same (x ∷ xs) f g h = λ i. h x i ++ each_same xs f g h i

-- ---- the arrays
pub lits_append : (S D : Clauses) → lits (S ++ D) ≡ lits S + lits D
lits_append [] D = omega arith
lits_append (c ∷ S) D = let e = lits_append S D in omega arith

ends_append : (i : ℕ) (S : Clauses) (c : Clause) → ends_from i (S ++ (c ∷ [])) ≡ ends_from i S ++ ((i + (lits S + length c)) ∷ [])
unfolding ends_from
ends_append i [] c = ap (λ (k : ℕ). k ∷ []) (omega arith)
ends_append i (d ∷ S) c =
    ap (λ (l : List ℕ). (i + length d) ∷ l) (ends_append (i + length d) S c ∙ ap (λ (k : ℕ). ends_from (i + length d) S ++ (k ∷ [])) (omega arith))

codes_append : (S : Clauses) (c : Clause) → codes (S ++ (c ∷ [])) ++ [] ≡ codes S ++ map code_of c
unfolding codes
codes_append S c = append-nil (codes (S ++ (c ∷ []))) ∙ each_last S c (λ c. map code_of c)

-- a literal is stored
pub pushed : (L : List ℕ) (m : Filled) (l : Lit) (v : ℕ) → v ≡ code_of l → m.literals < length L
    → Pushes (l ∷ []) L (set L m.literals v) m (record { literals = m.literals + 1; clauses = m.clauses })
pushed L m l v e h = record {
  pushes = λ E S c k. record { stored = holds E S c k };
  clauses_stay = refl;
  literals_grow = omega arith;
  literals_behind = drop-set-lt (m.literals + 1) L m.literals v (omega arith);
}
  where
    holds : (E : List ℕ) (S : Clauses) (c : Clause) → Holds L E m S c → Fit (set L m.literals v) E S (c ++ (l ∷ []))
        → Stored (set L m.literals v) E (record { literals = m.literals + 1; clauses = m.clauses }) S (c ++ (l ∷ []))
    holds E S c k f =
        let n = length-append c (l ∷ []) in
        let a = f.literals_fit in
        let b = f.literals_most in
        let d = length-set L m.literals v in
        let s = k.stored (record { literals_fit = omega arith; literals_most = omega arith; clauses_fit = f.clauses_fit; clauses_most = f.clauses_most }) in
        let x = s.literals_are in
        record {
          clauses_are = s.clauses_are;
          literals_are = omega arith;
          literals_stored =
              ap (λ (i : ℕ). take i (set L m.literals v)) (add-one m.literals) ∙ take-suc-set L m.literals v h
              ∙ (λ i. s.literals_stored i ++ (e i ∷ []))
              ∙ append_assoc (codes S) (map code_of c) (code_of l ∷ []) ∙ ap (λ z. codes S ++ z) (sym (map-append code_of c (l ∷ [])));
          ends_stored = s.ends_stored;
        }

-- an end is stored
pub ended : (E : List ℕ) (m : Filled) → m.clauses < length E → Ends E (set E m.clauses m.literals) m (record { literals = m.literals; clauses = m.clauses + 1 })
ended E m h = record {
  closes = λ L S c k. record { stored = holds L S c k };
  literals_stay = refl;
  clauses_grow = omega arith;
  ends_behind = drop-set-lt (m.clauses + 1) E m.clauses m.literals (omega arith);
}
  where
    holds : (L : List ℕ) (S : Clauses) (c : Clause) → Holds L E m S c → Fit L (set E m.clauses m.literals) (S ++ (c ∷ [])) []
        → Stored L (set E m.clauses m.literals) (record { literals = m.literals; clauses = m.clauses + 1 }) (S ++ (c ∷ [])) []
    holds L S c k f =
        let n = length-append S (c ∷ []) in
        let o = lits_append S (c ∷ []) in
        let d = length-set E m.clauses m.literals in
        let a = f.literals_fit in
        let b = f.literals_most in
        let g = f.clauses_fit in
        let j = f.clauses_most in
        let s = k.stored (record { literals_fit = omega arith; literals_most = omega arith; clauses_fit = omega arith; clauses_most = omega arith }) in
        let x = s.clauses_are in
        let y = s.literals_are in
        let z : m.literals ≡ 0 + (lits S + length c) = omega arith in
        record {
          clauses_are = omega arith;
          literals_are = omega arith;
          literals_stored = s.literals_stored ∙ sym (codes_append S c);
          ends_stored =
              ap (λ (i : ℕ). take i (set E m.clauses m.literals)) (add-one m.clauses) ∙ take-suc-set E m.clauses m.literals h
              ∙ (λ i. s.ends_stored i ++ (z i ∷ [])) ∙ sym (ends_append 0 S c);
        }

pub end_full : (E : List ℕ) (m : Filled) → (m.clauses < length E → m.clauses < 65535 → ⊥) → Ends E E m m
end_full E m h = record {
  closes = λ L S c k. record {
    stored = λ f.
        let n = length-append S (c ∷ []) in
        let o = lits_append S (c ∷ []) in
        let a = f.literals_fit in
        let b = f.literals_most in
        let g = f.clauses_fit in
        let j = f.clauses_most in
        let s = k.stored (record { literals_fit = omega arith; literals_most = omega arith; clauses_fit = omega arith; clauses_most = omega arith }) in
        let x = s.clauses_are in
        absurd (h (omega arith) (omega arith));
  };
  literals_stay = refl;
  clauses_grow = omega arith;
  ends_behind = refl;
}

-- ---- one after the other
-- what is behind the longer part is as it was, by what is behind each
behind_then : (L M N : List ℕ) (k o : ℕ) → k ≤ o → drop k M ≡ drop k L → drop o N ≡ drop o M → drop o N ≡ drop o L
behind_then L M N k o h e f = f ∙ drop_later k o M L h e

pub pushes_none : {L : List ℕ} {m : Filled} → Pushes [] L L m m
pushes_none {L} {m} = record {
  pushes = λ E S c h. subst (Holds L E m S) (sym (append-nil c)) h;
  clauses_stay = refl;
  literals_grow = omega arith;
  literals_behind = refl;
}

pub pushes_then : {ls ks : Clause} {L M N : List ℕ} {m k o : Filled} → Pushes ls L M m k → Pushes ks M N k o → Pushes (ls ++ ks) L N m o
pushes_then {ls} {ks} {L} {M} {N} {m} {k} {o} f g =
    let a = f.literals_grow in
    let b = g.literals_grow in
    record {
      pushes = λ E S c h. subst (Holds N E o S) (append_assoc c ls ks) (g.pushes E S (c ++ ls) (f.pushes E S c h));
      clauses_stay = g.clauses_stay ∙ f.clauses_stay;
      literals_grow = omega arith;
      literals_behind = behind_then L M N k.literals o.literals b f.literals_behind g.literals_behind;
    }

pub adds_none : {L E : List ℕ} {m : Filled} → Adds [] L L E E m m
adds_none {L} {E} {m} = record {
  adds = λ S h. subst (λ D. Holds L E m D []) (sym (append-nil S)) h;
  literals_grow = omega arith;
  literals_behind = refl;
  clauses_grow = omega arith;
  ends_behind = refl;
}

pub adds_then : {C D : Clauses} {L M N E G H : List ℕ} {m k o : Filled} → Adds C L M E G m k → Adds D M N G H k o → Adds (C ++ D) L N E H m o
adds_then {C} {D} {L} {M} {N} {E} {G} {H} {m} {k} {o} f g =
    let a = f.literals_grow in
    let b = g.literals_grow in
    let c = f.clauses_grow in
    let d = g.clauses_grow in
    record {
      adds = λ S h. subst (λ X. Holds N H o X []) (append_assoc S C D) (g.adds (S ++ C) (f.adds S h));
      literals_grow = omega arith;
      literals_behind = behind_then L M N k.literals o.literals b f.literals_behind g.literals_behind;
      clauses_grow = omega arith;
      ends_behind = behind_then E G H k.clauses o.clauses d f.ends_behind g.ends_behind;
    }

-- a clause of the literals that were pushed
pub adds_clause : {c : Clause} {L M E G : List ℕ} {m k o : Filled} → Pushes c L M m k → Ends E G k o → Adds (c ∷ []) L M E G m o
adds_clause {c} {L} {M} {E} {G} {m} {k} {o} f g =
    let a = f.literals_grow in
    let b = f.clauses_stay in
    let d = g.literals_stay in
    let e = g.clauses_grow in
    record {
      adds = λ S h. g.closes M S c (f.pushes E S [] h);
      literals_grow = omega arith;
      literals_behind = subst (λ (i : ℕ). drop i M ≡ drop i L) (sym d) f.literals_behind;
      clauses_grow = omega arith;
      ends_behind = g.ends_behind;
    }

-- ---- the definitions' parts as lists of lists
pub map_only : {A B : Type 0} (f : A → B) (b : Bool) (x : A) → map f (only b x) ≡ only b (f x)
unfolding only
map_only f true x = refl
map_only f false x = refl

map_each : {A B C : Type 0} (g : B → C) (xs : List A) (f : A → List B) → map g (each xs f) ≡ each xs (λ x. map g (f x))
unfolding each
map_each g [] f = refl
map_each g (x ∷ xs) f = map-append g (f x) (each xs f) ∙ ap (λ l. map g (f x) ++ l) (map_each g xs f)

pub map_filter : {A B : Type 0} (g : A → B) (q : A → Bool) (xs : List A) → map g (filter q xs) ≡ each xs (λ x. only (q x) (g x))
unfolding each only
map_filter g q [] = refl
map_filter g q (x ∷ xs) = cases (q x) (map_filter g q xs)
  where
    cases : (b : Bool) → map g (filter q xs) ≡ each xs (λ x. only (q x) (g x)) → map g (cond b (x ∷ filter q xs) (filter q xs)) ≡ only b (g x) ++ each xs (λ x. only (q x) (g x))
    cases true e = ap (λ l. g x ∷ l) e
    cases false e = e

module _ (p : Sheet) (n : ℕ) (t : Moment) (one nil : ℕ) where
  pub as_true : literals_as p n true t one nil ≡ literals p n t one nil
  unfolding literals_as literals
  as_true = refl

  pub as_false : literals_as p n false t one nil ≡ map neg (literals p n t one nil)
  unfolding literals_as literals
  as_false =
      sym (map_each neg (facts p n) (fact_as p n true t one nil)
      ∙ each_same (facts p n) (λ k. map neg (fact_as p n true t one nil k)) (fact_as p n false t one nil) (λ k.
      map-append neg (only (bit one k) (yes· (fact p n t k))) (only (bit nil k) (no· (fact p n t k)))
      ∙ (λ i. map_only neg (bit one k) (yes· (fact p n t k)) i ++ map_only neg (bit nil k) (no· (fact p n t k)) i)))

  pub besides_each : (ahead : Bool) (x : Lit) → map (beside ahead x) (literals p n t one nil) ≡ each (facts p n) (λ k. map (beside ahead x) (fact_as p n true t one nil k))
  unfolding literals
  besides_each ahead x = map_each (beside ahead x) (facts p n) (fact_as p n true t one nil)

-- ---- a loop's next turn
pub adds_more : (n : ℕ) (f : ℕ → Clauses) {L M N E G H : List ℕ} {m k o : Filled} → Adds (each (up_from 0 n) f) L M E G m k → Adds (f n) M N G H k o → Adds (each (up_from 0 (n + 1)) f) L N E H m o
adds_more n f {L} {N = N} {E} {H = H} {m} {o = o} a b = subst (λ D. Adds D L N E H m o) (sym (each_more f n)) (adds_then a b)
