-- The circuit of a set has only the set's variables, and its conjunctions share none. Assumes nothing.
use mathlib.Core.Path.{◌≡◌, refl, sym, subst}
use mathlib.Core.Bool.{true, false, ◌||◌}
use mathlib.Core.List.{List, [], ◌∷◌, map}
use Prim.Native.Nat.{ℕ, zero, suc}
use lib.Dec.{eqb}
use borrow.Author.Tests.{eqb-true}
use Rattle.paper.specs.declared.Lit.{Lit}
use Rattle.paper.specs.Lists.{any, elem}
use Rattle.paper.specs.Clauses.{Clauses}
use Rattle.paper.specs.Circuit.{make, vars, lits, lowest, parts, Line, has_empty, no_clause, one_literal, split, line_of, side, decide, part, by_line, build_for, build, Circuit, no_way, any_way, leaf, conj, choice, beside, both, apart, one_of, both_all, tree, circuit}
use Rattle.paper.proofs.Basic.{never, or_r, or_l, or_e, not_true}
use Rattle.paper.proofs.Make.{make_gone, make_sub}
use Rattle.paper.proofs.PartLaws.{parts_sub, parts_apart, parts_within, Apart, Within}
use Rattle.paper.proofs.Forgetting.{occurs, Strange, Decomposable}
use Rattle.paper.proofs.CircuitValue.{Facts, line_facts}

-- what the simplified forms keep
beside_occurs : (y : ℕ) (a b : Circuit) → occurs y (beside a b) ≡ true → (occurs y a || occurs y b) ≡ true
beside_occurs y a no_way h = never h refl
beside_occurs y a any_way h = or_l false h
beside_occurs y a (leaf l) h = h
beside_occurs y a (conj b c) h = h
beside_occurs y a (choice x b c) h = h

both_occurs : (y : ℕ) (a b : Circuit) → occurs y (both a b) ≡ true → (occurs y a || occurs y b) ≡ true
both_occurs y no_way b h = never h refl
both_occurs y any_way b h = h
both_occurs y (leaf l) b h = beside_occurs y (leaf l) b h
both_occurs y (conj a c) b h = beside_occurs y (conj a c) b h
both_occurs y (choice x a c) b h = beside_occurs y (choice x a c) b h

apart_occurs : (y x : ℕ) (a b : Circuit) → occurs y (apart x a b) ≡ true → (occurs y a || occurs y b) ≡ true
apart_occurs y x a no_way h = or_l false h
apart_occurs y x a any_way h = h
apart_occurs y x a (leaf l) h = h
apart_occurs y x a (conj b c) h = h
apart_occurs y x a (choice z b c) h = h

one_of_occurs : (y x : ℕ) (a b : Circuit) → occurs y (one_of x a b) ≡ true → (occurs y a || occurs y b) ≡ true
one_of_occurs y x no_way b h = h
one_of_occurs y x any_way b h = apart_occurs y x any_way b h
one_of_occurs y x (leaf l) b h = apart_occurs y x (leaf l) b h
one_of_occurs y x (conj a c) b h = apart_occurs y x (conj a c) b h
one_of_occurs y x (choice z a c) b h = apart_occurs y x (choice z a c) b h

beside_dec : (a b : Circuit) → Decomposable a → Decomposable b → Strange a b → Decomposable (beside a b)
beside_dec a no_way p q d = tt
beside_dec a any_way p q d = p
beside_dec a (leaf l) p q d = (p, q, d)
beside_dec a (conj b c) p q d = (p, q, d)
beside_dec a (choice x b c) p q d = (p, q, d)

both_dec : (a b : Circuit) → Decomposable a → Decomposable b → Strange a b → Decomposable (both a b)
both_dec no_way b p q d = tt
both_dec any_way b p q d = q
both_dec (leaf l) b p q d = beside_dec (leaf l) b p q d
both_dec (conj a c) b p q d = beside_dec (conj a c) b p q d
both_dec (choice x a c) b p q d = beside_dec (choice x a c) b p q d

apart_dec : (x : ℕ) (a b : Circuit) → Decomposable a → Decomposable b → Decomposable (apart x a b)
apart_dec x a no_way p q = p
apart_dec x a any_way p q = (p, q)
apart_dec x a (leaf l) p q = (p, q)
apart_dec x a (conj b c) p q = (p, q)
apart_dec x a (choice y b c) p q = (p, q)

one_of_dec : (x : ℕ) (a b : Circuit) → Decomposable a → Decomposable b → Decomposable (one_of x a b)
one_of_dec x no_way b p q = q
one_of_dec x any_way b p q = apart_dec x any_way b p q
one_of_dec x (leaf l) b p q = apart_dec x (leaf l) b p q
one_of_dec x (conj a c) b p q = apart_dec x (conj a c) b p q
one_of_dec x (choice y a c) b p q = apart_dec x (choice y a c) b p q

-- decomposable, and with variables of the list alone
pub record Fits (vs : List ℕ) (c : Circuit) : Type 0 where
  pub dec : Decomposable c
  pub sub : (y : ℕ) → occurs y c ≡ true → elem y vs ≡ true

module _ (r : Clauses → Circuit) (ih : (S : Clauses) → Fits (vars S) (r S)) where
  side_fits : (l : Lit) (S : Clauses) → elem l.var (vars S) ≡ true → Fits (vars S) (side tree r l S)
  side_fits l S h = record { dec = both_dec (leaf l) (r (make l S)) tt (ih (make l S)).dec strange; sub = sub }
    where
      strange : Strange (leaf l) (r (make l S))
      strange y e = not_true (λ k. never ((ih (make l S)).sub y k) (subst (λ z. elem z (vars (make l S)) ≡ false) (sym (eqb-true y l.var e)) (make_gone l S)))

      sub : (y : ℕ) → occurs y (side tree r l S) ≡ true → elem y (vars S) ≡ true
      sub y k = or_e (eqb y l.var) (occurs y (r (make l S))) (both_occurs y (leaf l) (r (make l S)) k)
          (λ e. subst (λ z. elem z (vars S) ≡ true) (sym (eqb-true y l.var e)) h)
          (λ e. make_sub l y S ((ih (make l S)).sub y e))

  decide_fits : (x : ℕ) (S : Clauses) → elem x (vars S) ≡ true → Fits (vars S) (decide tree r x S)
  decide_fits x S h = record {
    dec = one_of_dec x (side tree r pos S) (side tree r neg S) a.dec b.dec;
    sub = λ y k. or_e (occurs y (side tree r pos S)) (occurs y (side tree r neg S)) (one_of_occurs y x (side tree r pos S) (side tree r neg S) k) (a.sub y) (b.sub y);
  }
    where
      pos : Lit
      pos = record { var = x; sign = true }

      neg : Lit
      neg = record { var = x; sign = false }

      a : Fits (vars S) (side tree r pos S)
      a = side_fits pos S h

      b : Fits (vars S) (side tree r neg S)
      b = side_fits neg S h

  parts_dec : (N : ℕ) (ps : List Clauses) → Within N ps → Apart ps →
      Decomposable (both_all (map (part tree r) ps)) × ((y : ℕ) → occurs y (both_all (map (part tree r) ps)) ≡ true → any (λ P. elem y (vars P)) ps ≡ true)
  parts_dec N [] w a = (tt, λ y k. never k refl)
  parts_dec N (P ∷ ps) w a =
      let f = decide_fits (lowest P) P w.1 in
      let g = parts_dec N ps w.2 a.1 in (
        both_dec (part tree r P) (both_all (map (part tree r) ps)) f.dec g.0 (λ y e. not_true (λ k. never (g.1 y k) (a.0 y (f.sub y e)))),
        λ y k. or_e (occurs y (part tree r P)) (occurs y (both_all (map (part tree r) ps))) (both_occurs y (part tree r P) (both_all (map (part tree r) ps)) k)
            (λ e. or_l (any (λ Q. elem y (vars Q)) ps) (f.sub y e))
            (λ e. or_r (elem y (vars P)) (g.1 y e)),
      )

  by_line_fits : (S : Clauses) (L : Line) → Facts S L → Fits (vars S) (by_line tree r S L)
  by_line_fits S has_empty h = record { dec = tt; sub = λ y k. never k refl }
  by_line_fits S no_clause h = record { dec = tt; sub = λ y k. never k refl }
  by_line_fits S (one_literal l) h = side_fits l S h.1
  by_line_fits S split h =
      let g = parts_dec (lits S) (parts S) (parts_within S h) (parts_apart S) in
      record { dec = g.0; sub = λ y k. parts_sub S y (g.1 y k) }

circuit_for_fits : (n : ℕ) (S : Clauses) → Fits (vars S) (build_for tree n S)
circuit_for_fits zero S = record { dec = tt; sub = λ y k. never k refl }
circuit_for_fits (suc n) S = by_line_fits (build_for tree n) (circuit_for_fits n) S (line_of S) (line_facts S)

pub circuit_fits : (S : Clauses) → Fits (vars S) (circuit S)
unfolding build
circuit_fits S = circuit_for_fits (suc (lits S)) S
