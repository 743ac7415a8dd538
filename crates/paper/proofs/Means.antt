-- What T(P) says of a state and masks: the start, the exclusions, the run and the goal. Assumes nothing.
use mathlib.Core.Path.{◌≡◌, sym, ◌∙◌, subst}
use mathlib.Core.Logic.{◌↔◌}
use mathlib.Core.Bool.{Bool, true, ◌&&◌}
use mathlib.Core.List.{List}
use Prim.Native.Nat.{ℕ}
use native.Mathlib.Omega.{arith}
use lib.ListN.{length, get_or}
use Rattle.paper.specs.Sheet.{Sheet, is_start, Fine}
use Rattle.paper.specs.Clauses.{Assign, sat_all, at_moment, theory_of}
use Rattle.paper.specs.Operations.{kept, given}
use Rattle.paper.specs.Sets.{Good}
use Rattle.paper.specs.Meaning.{Extends}
use Rattle.paper.proofs.Basic.{and_i, and_e}
use Rattle.paper.proofs.Lists.{all_append, all_each}
use Rattle.paper.proofs.OneStep.{Facts, Acts, Zs}
use Rattle.paper.proofs.Ends.{moment_eq}
use Rattle.paper.proofs.Runs.{state_at, steps_hold, goal_holds, forward, backward}
use Rattle.paper.proofs.Model.{model, model_facts, model_acts, model_zs, model_agrees, kept_fact, kept_action}

theory_split : (ex : ℕ → ℕ → Bool) (p : Sheet) (n : ℕ) (fine : Fine p) (v : Assign) →
    sat_all v (theory_of p ex n) ≡ ((sat_all v (at_moment p n (record { 0 = 0 }) p.starts) && goal_holds ex p n fine v) && steps_hold ex p n fine v 0 n)
unfolding theory_of
theory_split ex p n fine v = simp (all_append, all_each)

pub means : (ex : ℕ → ℕ → Bool) (p : Sheet) → Fine p → (s : ℕ) (ms : List ℕ) (n : ℕ) → length ms ≡ n →
    Extends (kept p n) (given p n s ms) (theory_of p ex n) ↔ Good ex p s ms
unfolding is_start
means ex p fine s ms n e = (
  λ x.
      let v : Assign = x.0 in
      let fa : Facts p n v 0 s = λ k l. let w = kept_fact p n s ms k l in x.1 _ w.0 ∙ w.1 in
      let ac : (j : ℕ) → Acts p n v j (get_or ms j 0) = λ j a l. let w = kept_action p n s ms j a l in x.1 _ w.0 ∙ w.1 in
      let h = and_e (sat_all v (at_moment p n (record { 0 = 0 }) p.starts) && goal_holds ex p n fine v) (steps_hold ex p n fine v 0 n) (sym (theory_split ex p n fine v) ∙ x.2) in
      let g = and_e (sat_all v (at_moment p n (record { 0 = 0 }) p.starts)) (goal_holds ex p n fine v) h.0 in
      let r = forward ex p n fine v ms 0 s (omega arith) fa (λ j. subst (λ k. Acts p n v k (get_or ms j 0)) (omega arith) (ac j))
      (subst (λ k. steps_hold ex p n fine v 0 k ≡ true) (sym e) h.1) g.1 in
      (sym (moment_eq p n v 0 s fa p.starts fine.starts_fine) ∙ g.0, r.0, r.1),
  λ x.
      let v : Assign = model p n s ms in
      let r = backward ex p n fine v ms 0 s (omega arith)
      (λ j. subst (λ k. Facts p n v k (state_at p s ms j)) (omega arith) (model_facts p n s ms j))
      (λ j. subst (λ k. Acts p n v k (get_or ms j 0)) (omega arith) (model_acts p n s ms j))
      (λ j. subst (λ k. Zs p n v k (get_or ms j 0) (state_at p s ms j)) (omega arith) (model_zs p n s ms j)) x.1 x.2 in (
        v,
        model_agrees p n s ms,
        theory_split ex p n fine v
            ∙ and_i (and_i (moment_eq p n v 0 s (model_facts p n s ms 0) p.starts fine.starts_fine ∙ x.0) r.1) (subst (λ k. steps_hold ex p n fine v 0 k ≡ true) e r.0),
      ),
)
