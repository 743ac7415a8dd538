-- What the clause maker stored is read back, clause by clause. Assumes nothing.
use mathlib.Core.Path.{◌≡◌, refl, sym, ap, ◌∙◌}
use mathlib.Core.Bool.{Bool, true, false, cond}
use mathlib.Core.List.{List, [], ◌∷◌, ◌++◌, map, append-nil, append_assoc}
use Prim.Native.Nat.{ℕ, zero, suc, ◌+◌, ◌-◌, ◌*◌, ◌/◌, ◌%◌, ◌≤◌, ◌<◌}
use native.Mathlib.Omega.{arith}
use borrow.Author.Tests.{eq-eqb, ne_eqb}
use lib.Dec.{eqb}
use lib.ListN.{length, get_or, take, drop, length-map, take-append-drop}
use lib.Seq.{drop-append-add, take_at}
use Rattle.paper.specs.declared.Lit.{Lit}
use Rattle.paper.specs.Lists.{each, up_from}
use Rattle.paper.specs.Clauses.{Clause, Clauses}
use Rattle.paper.specs.Circuit.{lits}
use Rattle.bits.proofs.Filled.{values_are}
use Rattle.theory.specs.declared.Filled.{Filled}
use Rattle.theory.specs.Flat.{code_of, lit_of, codes, ends_from, Stored, start_of, clause_at}
use Rattle.theory.proofs.Laws.{lits_append}

-- a literal is read back from its number
half_back : (x : ℕ) (b : Bool) → (2 * x + cond b 0 1) / 2 ≡ x
half_back x true = omega arith
half_back x false = omega arith

sign_back : (x : ℕ) (b : Bool) → eqb ((2 * x + cond b 0 1) % 2) 0 ≡ b
sign_back x true = eq-eqb ((2 * x + 0) % 2) 0 (omega arith)
sign_back x false = ne_eqb ((2 * x + 1) % 2) 0 (λ e. omega arith)

pub lit_back : (l : Lit) → lit_of (code_of l) ≡ l
lit_back l = λ i. record { var = half_back l.var l.sign i; sign = sign_back l.var l.sign i }

clause_back : (c : Clause) → map lit_of (map code_of c) ≡ c
clause_back [] = refl
clause_back (l ∷ c) = λ i. lit_back l i ∷ clause_back c i

-- the literals of the clauses ahead of clause k, of clause k, and of those behind it
lits_take : (S : Clauses) (k : ℕ) → k < length S → lits (take (suc k) S) ≡ lits (take k S) + length (get_or S k [])
lits_take [] k h = absurd (omega arith)
lits_take (c ∷ S) zero h = omega arith
lits_take (c ∷ S) (suc k) h = let e = lits_take S k (omega arith) in omega arith

lits_least : (S : Clauses) (k : ℕ) → lits (take k S) ≤ lits S
lits_least S k = let e = ap lits (take-append-drop k S) in let d = lits_append (take k S) (drop k S) in omega arith

codes_drop : (S : Clauses) (k : ℕ) (L : List ℕ) → k < length S
    → drop (lits (take k S)) (codes S ++ L) ≡ map code_of (get_or S k []) ++ (codes (drop (suc k) S) ++ L)
unfolding codes each
codes_drop [] k L h = absurd (omega arith)
codes_drop (c ∷ S) zero L h = append_assoc (map code_of c) (codes S) L
codes_drop (c ∷ S) (suc k) L h =
    let e : length c + lits (take k S) ≡ length (map code_of c) + lits (take k S) = ap (λ (n : ℕ). n + lits (take k S)) (sym (length-map c code_of)) in
    (λ i. drop (e i) (append_assoc (map code_of c) (codes S) L i))
    ∙ drop-append-add (map code_of c) (codes S ++ L) (lits (take k S))
    ∙ codes_drop S k L (omega arith)

-- clause k ends behind its literals
end_at : (i : ℕ) (S : Clauses) (E : List ℕ) (k : ℕ) → k < length S → get_or (ends_from i S ++ E) k 0 ≡ i + lits (take (suc k) S)
unfolding ends_from
end_at i [] E k h = absurd (omega arith)
end_at i (c ∷ S) E zero h = omega arith
end_at i (c ∷ S) E (suc k) h = end_at (i + length c) S E k (omega arith) ∙ omega arith

module _ {literals ends : List ℕ} {m : Filled} {S : Clauses} (h : Stored literals ends m S []) where
  literals_split : literals ≡ codes S ++ drop m.literals literals
  literals_split = sym (take-append-drop m.literals literals) ∙ ap (λ l. l ++ drop m.literals literals) (h.literals_stored ∙ append-nil (codes S))

  ends_split : ends ≡ ends_from 0 S ++ drop m.clauses ends
  ends_split = sym (take-append-drop m.clauses ends) ∙ ap (λ l. l ++ drop m.clauses ends) h.ends_stored

  ends_at : (k : ℕ) → k < length S → get_or ends k 0 ≡ lits (take (suc k) S)
  ends_at k l = ap (λ e. get_or e k 0) ends_split ∙ end_at 0 S (drop m.clauses ends) k l ∙ omega arith

  starts_at_lem : (k : ℕ) → k < length S → start_of ends k ≡ lits (take k S)
  starts_at_lem zero l = refl
  starts_at_lem (suc k) l = ends_at k (omega arith)

  -- a clause is as long as it was stored
  pub length_read : (k : ℕ) → k < length S → get_or ends k 0 - start_of ends k ≡ length (get_or S k [])
  length_read k l = let a = ends_at k l in let b = starts_at_lem k l in let c = lits_take S k l in omega arith

  -- it lies within the literals
  pub ends_rise : (k : ℕ) → k < length S → (start_of ends k ≤ get_or ends k 0) × (get_or ends k 0 ≤ m.literals)
  ends_rise k l =
      let a = ends_at k l in
      let b = starts_at_lem k l in
      let c = lits_take S k l in
      let d = lits_least S (suc k) in
      let e = h.literals_are in
      (omega arith, omega arith)

  -- a clause is read back as it was stored
  pub clause_read : (k : ℕ) → k < length S → clause_at literals ends k ≡ get_or S k []
  unfolding clause_at
  clause_read k l =
      let rest : List ℕ = codes (drop (suc k) S) ++ drop m.literals literals in
      let from : drop (start_of ends k) literals ≡ map code_of (get_or S k []) ++ rest = (λ i. drop (starts_at_lem k l i) (literals_split i)) ∙ codes_drop S k (drop m.literals literals) l in
      (λ i. map lit_of (take (length_read k l i) (from i)))
      ∙ ap (map lit_of) (take_at (map code_of (get_or S k [])) rest (length (get_or S k [])) (length-map (get_or S k []) code_of))
      ∙ clause_back (get_or S k [])

  -- all of them are
  pub clauses_read : map (clause_at literals ends) (up_from 0 m.clauses) ≡ S
  clauses_read =
      let e = h.clauses_are in
      sym (values_are m.clauses (clause_at literals ends) [] S (sym e) (λ k l. sym (clause_read k (omega arith))))
