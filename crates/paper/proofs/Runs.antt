-- A run and the clauses of its steps, by induction on the steps. Assumes nothing.
use mathlib.Core.Path.{◌≡◌, refl, sym, ◌∙◌, subst}
use mathlib.Core.Bool.{Bool, true, false}
use mathlib.Core.List.{List, [], ◌∷◌}
use Prim.Native.Nat.{ℕ, zero, suc, ◌+◌}
use native.Mathlib.Omega.{arith}
use lib.ListN.{length, get_or}
use Rattle.std.specs.Prelude.{Ok, Err}
use Rattle.paper.specs.declared.Failure.{Failure}
use Rattle.paper.specs.declared.Failure.TheVariants.{NeedUnmet, Clashed}
use Rattle.paper.specs.Lists.{all, up_from}
use Rattle.paper.specs.Sheet.{Sheet, is_goal, Fine}
use Rattle.paper.specs.Step.{clash}
use Rattle.paper.specs.Clauses.{Assign, sat_all, at_moment, step_clauses}
use Rattle.paper.specs.Sets.{needs_met, firing_set, act_set, reaches_sets, apart_set}
use Rattle.paper.proofs.Basic.{never, and_i, and_e, by}
use Rattle.paper.proofs.OneStep.{Facts, Acts, Zs, next, step_e, step_i}
use Rattle.paper.proofs.Ends.{moment_eq}

-- the state after j steps, whether or not a step fails
abbrev pub state_at : Sheet → ℕ → List ℕ → ℕ → ℕ
state_at p s ms zero = s
state_at p s [] (suc j) = s
state_at p s (m ∷ ms) (suc j) = state_at p (next p m s) ms j

act_ran : (p : Sheet) (m s : ℕ) → needs_met p m s ≡ true → clash p.F (firing_set p m s) ≡ false → act_set p m s ≡ Ok (next p m s)
unfolding act_set
act_ran p m s n c = rw (n, c)

act_unmet : (p : Sheet) (m s : ℕ) → needs_met p m s ≡ false → act_set p m s ≡ Err NeedUnmet
unfolding act_set
act_unmet p m s n = rw n

act_clashed : (p : Sheet) (m s : ℕ) → needs_met p m s ≡ true → clash p.F (firing_set p m s) ≡ true → act_set p m s ≡ Err Clashed
unfolding act_set
act_clashed p m s n c = rw (n, c)

module _ (p : Sheet) (m s : ℕ) (ms : List ℕ) where
  reach_ran : (t : ℕ) → act_set p m s ≡ Ok t → reaches_sets p (m ∷ ms) s ≡ reaches_sets p ms t
  unfolding reaches_sets
  reach_ran t e = rw e

  reach_failed : (f : Failure) → act_set p m s ≡ Err f → reaches_sets p (m ∷ ms) s ≡ false
  unfolding reaches_sets
  reach_failed f e = rw e

  pub reach_i : needs_met p m s ≡ true → clash p.F (firing_set p m s) ≡ false → reaches_sets p ms (next p m s) ≡ true → reaches_sets p (m ∷ ms) s ≡ true
  reach_i n c r = reach_ran (next p m s) (act_ran p m s n c) ∙ r

  pub reach_e : reaches_sets p (m ∷ ms) s ≡ true → (needs_met p m s ≡ true) × (clash p.F (firing_set p m s) ≡ false) × (reaches_sets p ms (next p m s) ≡ true)
  reach_e h = by (needs_met p m s)
      (λ n. by (clash p.F (firing_set p m s))
      (λ c. never h (reach_failed Clashed (act_clashed p m s n c)))
      (λ c. (n, c, sym (reach_ran (next p m s) (act_ran p m s n c)) ∙ h)))
      (λ n. never h (reach_failed NeedUnmet (act_unmet p m s n)))

module _ (ex : ℕ → ℕ → Bool) (p : Sheet) (N : ℕ) (fine : Fine p) (v : Assign) where
  -- the clauses of the steps from i on
  abbrev pub steps_hold : ℕ → ℕ → Bool
  steps_hold i n = all (λ j. sat_all v (step_clauses p N ex (record { 0 = j }))) (up_from i n)

  abbrev pub goal_holds : Bool
  goal_holds = sat_all v (at_moment p N (record { 0 = N }) p.goals)

  pub forward : (ms : List ℕ) (i s : ℕ) → i + length ms ≡ N → Facts p N v i s → ((j : ℕ) → Acts p N v (i + j) (get_or ms j 0)) →
      steps_hold i (length ms) ≡ true → goal_holds ≡ true → (all (apart_set ex p) ms ≡ true) × (reaches_sets p ms s ≡ true)
  unfolding up_from reaches_sets is_goal
  forward [] i s e fa ac h g = (refl, sym (moment_eq p N v N s (subst (λ j. Facts p N v j s) (omega arith) fa) p.goals fine.goals_fine) ∙ g)
  forward (m ∷ ms) i s e fa ac h g =
      let x = and_e (sat_all v (step_clauses p N ex (record { 0 = i }))) (steps_hold (i + 1) (length ms)) h in
      let o = step_e p N fine v i m s fa (subst (λ j. Acts p N v j m) (omega arith) (ac 0)) ex x.0 in
      let r = forward ms (i + 1) (next p m s) (omega arith) o.facts (λ j. subst (λ k. Acts p N v k (get_or ms j 0)) (omega arith) (ac (suc j))) x.1 g in
      (and_i o.apart r.0, reach_i p m s ms o.needs o.calm r.1)

  pub backward : (ms : List ℕ) (i s : ℕ) → i + length ms ≡ N → ((j : ℕ) → Facts p N v (i + j) (state_at p s ms j)) → ((j : ℕ) → Acts p N v (i + j) (get_or ms j 0)) →
      ((j : ℕ) → Zs p N v (i + j) (get_or ms j 0) (state_at p s ms j)) → all (apart_set ex p) ms ≡ true → reaches_sets p ms s ≡ true →
      (steps_hold i (length ms) ≡ true) × (goal_holds ≡ true)
  unfolding up_from reaches_sets is_goal
  backward [] i s e fa ac zs h g = (refl, moment_eq p N v N s (subst (λ j. Facts p N v j s) (omega arith) (fa 0)) p.goals fine.goals_fine ∙ g)
  backward (m ∷ ms) i s e fa ac zs h g =
      let x = and_e (apart_set ex p m) (all (apart_set ex p) ms) h in
      let y = reach_e p m s ms g in
      let o = step_i p N fine v i m s (subst (λ j. Facts p N v j s) (omega arith) (fa 0)) (subst (λ j. Acts p N v j m) (omega arith) (ac 0)) ex
      (record { needs = y.0; zs = subst (λ j. Zs p N v j m s) (omega arith) (zs 0); apart = x.0; calm = y.1; facts = fa 1 }) in
      let r = backward ms (i + 1) (next p m s) (omega arith)
      (λ j. subst (λ k. Facts p N v k (state_at p (next p m s) ms j)) (omega arith) (fa (suc j)))
      (λ j. subst (λ k. Acts p N v k (get_or ms j 0)) (omega arith) (ac (suc j)))
      (λ j. subst (λ k. Zs p N v k (get_or ms j 0) (state_at p (next p m s) ms j)) (omega arith) (zs (suc j))) x.1 y.2 in
      (and_i o r.0, r.1)
