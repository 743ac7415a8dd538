-- What the planner's answers are to say: the words of demand 2.
-- Assumes nothing.
use Rattle.std.specs.Prelude.{◌≡◌, ℕ, suc, ◌≤◌, ◌<◌, length, Result, Ok, Err}
use Rattle.std.proofs.Math.Option.{none, some}
use Rattle.paper.specs.declared.Fault.{Fault}
use Rattle.paper.specs.declared.Planned.{Planned}
use Rattle.paper.specs.Sheet.{Sheet}
use Rattle.paper.specs.Step.{is_plan}
use Rattle.paper.specs.Clauses.{Clauses, theory}
use Rattle.paper.specs.Circuit.{Table, compile, effort}
use Rattle.paper.specs.Operations.{Schedule, valid, First, Outcome}

-- a circuit within an effort limit and k rows of room, with these numbers
pub record Answered (limit k : ℕ) (S : Clauses) (e rows root : ℕ) : Type 0 where
  pub effort_is : effort S ≡ e
  pub rows_are : length (compile S).table ≡ rows
  pub root_is : (compile S).root ≡ root
  pub within_effort : effort S ≤ limit
  pub within_room : length (compile S).table ≤ k

-- no schedule of n steps is a plan
abbrev pub NoPlanAt : Sheet → ℕ → Type 0
NoPlanAt p n = First (valid p.A n) (is_plan p) none

module _ (p : Sheet) (limit k : ℕ) where
  -- a horizon that was passed: its counts are within the limits, and it has no plan
  abbrev pub Passed : ℕ → Type 0
  Passed n = (effort (theory p n) ≤ limit) × (length (compile (theory p n)).table ≤ k) × NoPlanAt p n

  abbrev pub AllPassed : ℕ → Type 0
  AllPassed n = (m : ℕ) → m < n → Passed m

  -- what each answer says: 7 and 8 exactly by the counts of the horizon in hand, no smaller horizon with a plan; 9 only if none exists up to H;
  -- 0 with the least horizon, and its first plan
  abbrev pub Says : Planned → Table → Schedule → Type 0
  Says (Planned.TooMuch n) t σ = (n ≤ p.H) × AllPassed n × (limit < effort (theory p n))
  Says (Planned.NoRoom n e) t σ =
      (n ≤ p.H) × AllPassed n × ((effort (theory p n) ≤ limit) × (effort (theory p n) ≡ e)) × (k < length (compile (theory p n)).table)
  Says (Planned.NoPlan n c) t σ =
      (n ≡ p.H) × AllPassed (suc n) × Answered limit k (theory p n) c.effort c.rows c.root × (t ≡ (compile (theory p n)).table)
  Says (Planned.Found n c) t σ =
      (n ≤ p.H) × AllPassed n × Answered limit k (theory p n) c.effort c.rows c.root × (t ≡ (compile (theory p n)).table) × First (valid p.A n) (is_plan p) (some σ)

  -- and that it is no refusal
  abbrev pub SaysOf : Result Outcome Fault → Type 0
  SaysOf (Err f) = ⊥
  SaysOf (Ok o) = Says o.answer o.table o.schedule
