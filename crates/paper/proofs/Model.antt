-- Variables by their place, and the assignment of a run. Assumes nothing.
use mathlib.Core.Path.{◌≡◌, ap, ◌∙◌}
use mathlib.Core.Bool.{Bool, true, false, cond}
use mathlib.Core.List.{List}
use Prim.Native.Nat.{ℕ, zero, suc, ◌+◌, ◌-◌, ◌*◌, ◌/◌, ◌%◌, ◌≤◌, ◌<◌}
use native.Mathlib.Nat.{mod-eq_of_lt, div-eq_of_lt, mul-add-mod_self_right, add-mul-div_right, add_comm}
use native.Mathlib.Omega.{arith}
use lib.Dec.{ltb}
use lib.ListN.{get_or}
use borrow.Author.Tests.{lt-ltb, le-ltb}
use Rattle.paper.specs.Counting.{bit}
use Rattle.paper.specs.Sheet.{Sheet}
use Rattle.paper.specs.Clauses.{Assign, stride, fact, action, z}
use Rattle.paper.specs.Operations.{past, kept, given}
use Rattle.paper.specs.Sets.{fires}
use Rattle.paper.specs.Meaning.{Agrees}
use Rattle.paper.proofs.Basic.{by}
use Rattle.paper.proofs.OneStep.{Facts, Acts, Zs}
use Rattle.paper.proofs.Runs.{state_at}

-- the value of a variable of step q at place r: its actions, its z, the facts of the next moment
abbrev pub in_step : Sheet → ℕ → List ℕ → ℕ → ℕ → Bool
in_step p s ms q r =
    cond (ltb r p.A) (bit (get_or ms q 0) r)
    (cond (ltb r (p.A + p.R)) (fires p (get_or ms q 0) (state_at p s ms q) (r - p.A)) (bit (state_at p s ms (suc q)) (r - (p.A + p.R))))

abbrev pub model : Sheet → ℕ → ℕ → List ℕ → Assign
model p N s ms x = cond (ltb (x - 1) p.F) (bit s (x - 1)) (in_step p s ms (past p N x / stride p) (past p N x % stride p))

-- a number by its quotient and remainder
div_at : (d q r : ℕ) → r < d → (q * d + r) / d ≡ q
div_at d q r h = ap (λ (x : ℕ). x / d) (add_comm (q * d) r) ∙ add-mul-div_right r q (omega arith) ∙ ap (λ (x : ℕ). x + q) (div-eq_of_lt h) ∙ omega arith

mod_at : (d q r : ℕ) → r < d → (q * d + r) % d ≡ r
mod_at d q r h = mul-add-mod_self_right q d r ∙ mod-eq_of_lt h

-- where a variable stands
pub record Place (p : Sheet) (N x q r : ℕ) : Type 0 where
  pub late : ltb (x - 1) p.F ≡ false
  pub quot : past p N x / stride p ≡ q
  pub rem : past p N x % stride p ≡ r

place : (p : Sheet) (N x q r : ℕ) → p.F ≤ x - 1 → x - 1 - p.F ≡ q * stride p + r → r < stride p → Place p N x q r
unfolding past
place p N x q r l e h = record {
  late = le-ltb (x - 1) p.F l;
  quot = ap (λ (y : ℕ). y / stride p) e ∙ div_at (stride p) q r h;
  rem = ap (λ (y : ℕ). y % stride p) e ∙ mod_at (stride p) q r h;
}

action_at : (p : Sheet) (N i a : ℕ) → a < p.A → Place p N (action p N (record { 0 = i }) a) i a
unfolding action stride
action_at p N i a h = place p N (action p N (record { 0 = i }) a) i a (omega arith) (omega arith) (omega arith)

z_at : (p : Sheet) (N i r : ℕ) → r < p.R → Place p N (z p N (record { 0 = i }) r) i (p.A + r)
unfolding z stride
z_at p N i r h = place p N (z p N (record { 0 = i }) r) i (p.A + r) (omega arith) (omega arith) (omega arith)

fact_at : (p : Sheet) (N i k : ℕ) → k < p.F → Place p N (fact p N (record { 0 = suc i }) k) i (p.A + p.R + k)
unfolding fact stride
fact_at p N i k h =
    let e : suc i * (p.A + p.R + p.F) ≡ i * (p.A + p.R + p.F) + (p.A + p.R + p.F) = native.Mathlib.Nat.suc-mul i (p.A + p.R + p.F) in
    place p N (fact p N (record { 0 = suc i }) k) i (p.A + p.R + k) (omega arith) (omega arith) (omega arith)

fact_0 : (p : Sheet) (N k : ℕ) → k < p.F → fact p N (record { 0 = 0 }) k - 1 ≡ k
unfolding fact
fact_0 p N k h = omega arith

module _ (p : Sheet) (N s : ℕ) (ms : List ℕ) where
  model_at : (x q r : ℕ) → Place p N x q r → model p N s ms x ≡ in_step p s ms q r
  model_at x q r h = rw (h.late, h.quot, h.rem)

  pub model_facts : (i : ℕ) → Facts p N (model p N s ms) i (state_at p s ms i)
  model_facts zero k h = rw (fact_0 p N k h, lt-ltb k p.F h)
  model_facts (suc i) k h =
      model_at (fact p N (record { 0 = suc i }) k) i (p.A + p.R + k) (fact_at p N i k h)
      ∙ rw (le-ltb (p.A + p.R + k) p.A (omega arith), le-ltb (p.A + p.R + k) (p.A + p.R) (omega arith)) (ap (bit (state_at p s ms (suc i))) (omega arith))

  pub model_acts : (i : ℕ) → Acts p N (model p N s ms) i (get_or ms i 0)
  model_acts i a h = model_at (action p N (record { 0 = i }) a) i a (action_at p N i a h) ∙ rw (lt-ltb a p.A h)

  pub model_zs : (i : ℕ) → Zs p N (model p N s ms) i (get_or ms i 0) (state_at p s ms i)
  model_zs i r h =
      model_at (z p N (record { 0 = i }) r) i (p.A + r) (z_at p N i r h)
      ∙ rw (le-ltb (p.A + r) p.A (omega arith), lt-ltb (p.A + r) (p.A + p.R) (omega arith)) (ap (fires p (get_or ms i 0) (state_at p s ms i)) (omega arith))

  pub model_agrees : Agrees (kept p N) (given p N s ms) (model p N s ms)
  unfolding kept given
  model_agrees x h = by (ltb (x - 1) p.F) (λ e. rw e) (λ e. rw (e, rw e at h))

  -- what is given of the kept variables
  pub kept_fact : (k : ℕ) → k < p.F → (kept p N (fact p N (record { 0 = 0 }) k) ≡ true) × (given p N s ms (fact p N (record { 0 = 0 }) k) ≡ bit s k)
  unfolding kept given
  kept_fact k h = (rw (fact_0 p N k h, lt-ltb k p.F h), rw (fact_0 p N k h, lt-ltb k p.F h))

  pub kept_action : (i a : ℕ) → a < p.A → (kept p N (action p N (record { 0 = i }) a) ≡ true) × (given p N s ms (action p N (record { 0 = i }) a) ≡ bit (get_or ms i 0) a)
  unfolding kept given
  kept_action i a h =
      let w = action_at p N i a h in
      (rw (w.late, w.rem, lt-ltb a p.A h), rw (w.late, w.quot, w.rem))
