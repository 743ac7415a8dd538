-- What the clause maker leaves in the arrays is T(P), clause by clause, and it fits. Assumes nothing.
use mathlib.Core.Path.{◌≡◌}
use mathlib.Core.Bool.{true}
use mathlib.Core.List.{List, [], map}
use Prim.Native.Nat.{ℕ, ◌≤◌}
use native.Mathlib.Omega.{arith}
use Rattle.paper.specs.Lists.{up_from, elem}
use Rattle.paper.specs.Sheet.{Sheet, Fine}
use Rattle.paper.specs.Clauses.{every_pair, theory}
use Rattle.paper.specs.Circuit.{vars}
use Rattle.paper.proofs.Size.{theory_size, variables_most}
use Rattle.paper.proofs.Tidy.{theory_vars}
use Rattle.theory.specs.declared.Filled.{Filled}
use Rattle.theory.specs.Flat.{Stored, clause_at}
use Rattle.theory.proofs.Reading.{clauses_read}

module _ (p : Sheet) (n : ℕ) {literals ends : List ℕ} {m : Filled} (h : Stored literals ends m (theory p n) []) where
  -- the clauses that are read from the arrays, in their order
  pub theory_read : map (clause_at literals ends) (up_from 0 m.clauses) ≡ theory p n
  theory_read = clauses_read h

  -- at most 6,896 clauses and 18,720 literals, of the variables 1..396
  pub theory_fits : Fine p → n ≤ 8 → (m.clauses ≤ 6896) × (m.literals ≤ 18720) × ((x : ℕ) → elem x (vars (theory p n)) ≡ true → (1 ≤ x) × (x ≤ 396))
  unfolding theory
  theory_fits fine l =
      let s = theory_size every_pair p fine n l in
      let a = s.0 in
      let b = s.1 in
      let c = h.clauses_are in
      let d = h.literals_are in
      (omega arith, omega arith, λ x e. let v = theory_vars every_pair p fine n x e in let w = v.0 in let y = v.1 in let z = variables_most p fine n l in (omega arith, omega arith))
