-- Demand 3, both halves together: what judge says of compiled T(P). Assumes nothing.
use mathlib.Core.Path.{◌≡◌, sym, ◌∙◌}
use mathlib.Core.Logic.{◌↔◌}
use mathlib.Core.Bool.{Bool, true, ◌&&◌}
use mathlib.Core.List.{List, map}
use Prim.Native.Nat.{ℕ, ◌^◌, ◌<◌}
use lib.Dec.{ltb, leb}
use lib.ListN.{length, length-map}
use Rattle.std.specs.Prelude.{Ok}
use Rattle.paper.specs.Lists.{all}
use Rattle.paper.specs.Sheet.{Sheet, decode, is_start, Fine}
use Rattle.paper.specs.Step.{reaches, is_plan, entries_fit}
use Rattle.paper.specs.Clauses.{Clauses, variables, theory_of, every_pair, theory}
use Rattle.paper.specs.Circuit.{compile}
use Rattle.paper.specs.Operations.{kept, given, lit_value, judge}
use Rattle.paper.specs.Sets.{mask_of, Good, leads}
use Rattle.paper.specs.Meaning.{Extends}
use Rattle.paper.proofs.Basic.{and_i}
use Rattle.paper.proofs.RowTheorem.{row_theorem, Sound, compiled}
use Rattle.paper.proofs.Lists.{bool_same, imp_e, imp_i, below_at, below_i}
use Rattle.paper.proofs.Serial.{reaches_eq, apart_schedule, leads_good}
use Rattle.paper.proofs.Means.{means}
use Rattle.paper.proofs.Tidy.{theory_vars}
use Rattle.paper.proofs.Decoded.{decoded_fine}
use borrow.Author.Tests.{le-leb}

-- the circuit is the projection, of any clauses: judge says yes exactly if state and marks extend to an assignment that satisfies them
pub judge_extends : (p : Sheet) (n : ℕ) (S : Clauses) (s : ℕ) (ms : List ℕ) →
    (judge p n (compile S).table (compile S).root s ms ≡ true) ↔ Extends (kept p n) (given p n s ms) S
unfolding judge lit_value
judge_extends p n S s ms = row_theorem S (kept p n) (given p n s ms)

-- demand 3, for any relation of excluded pairs
pub judged : (ex : ℕ → ℕ → Bool) (p : Sheet) → Fine p → (s : ℕ) (ms : List ℕ) (n : ℕ) → length ms ≡ n →
    (judge p n (compile (theory_of p ex n)).table (compile (theory_of p ex n)).root s ms ≡ true) ↔ Good ex p s ms
judged ex p fine s ms n e =
    let a = judge_extends p n (theory_of p ex n) s ms in
    let b = means ex p fine s ms n e in
    (λ h. b.0 (a.0 h), λ g. a.1 (b.1 g))

-- document 01's mode: every pair of different actions is excluded, and the marks are a schedule
module _ (p : Sheet) (fine : Fine p) (s : ℕ) (l : s < 2 ^ p.F) (ms : List ℕ) (fit : all (λ m. ltb m (2 ^ p.A)) ms ≡ true) (n : ℕ) (e : length ms ≡ n) where
  -- T(P) is the run
  pub theory_leads : Extends (kept p n) (given p n s ms) (theory p n) ↔ (leads p s ms ≡ true)
  unfolding theory
  theory_leads =
      let a = means every_pair p fine s ms n e in
      let b = leads_good p fine s l ms fit in
      (λ x. b.1 (a.0 x), λ h. a.1 (b.0 h))

  -- and the circuit is true exactly if the run ends in the goal
  pub judge_leads : judge p n (compile (theory p n)).table (compile (theory p n)).root s ms ≡ leads p s ms
  judge_leads =
      let a = judge_extends p n (theory p n) s ms in
      let b = theory_leads in
      bool_same (judge p n (compile (theory p n)).table (compile (theory p n)).root s ms) (leads p s ms) (λ h. b.0 (a.0 h)) (λ h. a.1 (b.1 h))

-- of a schedule
pub scheduled : (p : Sheet) → Fine p → (s : ℕ) → s < 2 ^ p.F → (σ : List ℕ) → entries_fit p σ ≡ true →
    (judge p (length σ) (compile (theory p (length σ))).table (compile (theory p (length σ))).root s (map mask_of σ) ≡ true) ↔ ((is_start p s ≡ true) × (reaches p σ s ≡ true))
unfolding theory
scheduled p fine s l σ h =
    let j = judged every_pair p fine s (map mask_of σ) (length σ) (length-map σ mask_of) in (
      λ x. let g = j.0 x in (g.0, reaches_eq p fine σ s h l ∙ g.2),
      λ x. j.1 (x.0, apart_schedule p σ, sym (reaches_eq p fine σ s h l) ∙ x.1),
    )

-- demand 3 over the sheet's bytes, in document 01's words
pub demand3 : (b : List ℕ) (p : Sheet) → decode b ≡ Ok p → (s : ℕ) → s < 2 ^ p.F → (ms : List ℕ) → all (λ m. ltb m (2 ^ p.A)) ms ≡ true → (n : ℕ) → length ms ≡ n →
    judge p n (compile (theory p n)).table (compile (theory p n)).root s ms ≡ leads p s ms
demand3 b p h = judge_leads p (decoded_fine b p h)

-- the compiled table is one that judge takes: rows 0 and 1, children lower, variables 1..V; and its root is a row of it
pub taken : (ex : ℕ → ℕ → Bool) (p : Sheet) → Fine p → (n : ℕ) →
    Sound (λ y. leb 1 y && leb y (variables p n)) (compile (theory_of p ex n)).table × ((compile (theory_of p ex n)).root < length (compile (theory_of p ex n)).table)
taken ex p fine n =
    let c = compiled (λ y. leb 1 y && leb y (variables p n)) (theory_of p ex n) (λ y q.
    let h = theory_vars ex p fine n y q in and_i (le-leb 1 y h.0) (le-leb y (variables p n) h.1)) in
    (c.ok, c.low)

-- a schedule is a plan exactly if judge says yes at every start
pub plan_judged : (p : Sheet) → Fine p → (σ : List ℕ) → entries_fit p σ ≡ true →
    (is_plan p σ ≡ true) ↔ ((s : ℕ) → s < 2 ^ p.F → is_start p s ≡ true → judge p (length σ) (compile (theory p (length σ))).table (compile (theory p (length σ))).root s (map mask_of σ) ≡ true)
unfolding is_plan
plan_judged p fine σ h = (
  λ e s l t. (scheduled p fine s l σ h).1 (t, imp_e (is_start p s) (reaches p σ s) (below_at (2 ^ p.F) _ e s l) t),
  λ f. below_i (2 ^ p.F) _ (λ s l. imp_i (is_start p s) (reaches p σ s) (λ t. ((scheduled p fine s l σ h).0 (f s l t)).1)),
)
