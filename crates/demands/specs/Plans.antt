-- What is demanded of the planner, in the words of `paper`, of the answer that C gets.
-- Assumes nothing.
use Rattle.std.specs.Prelude.{◌≡◌, ◌↔◌, true, false, List, [], ◌∷◌, ℕ, suc, ◌^◌, ◌≤◌, ◌<◌, length, take, Ok}
use Rattle.std.proofs.Math.Option.{some}
use Rattle.paper.specs.Lists.{elem}
use Rattle.paper.specs.Sheet.{Sheet, decode, is_start}
use Rattle.paper.specs.Step.{is_plan}
use Rattle.paper.specs.Clauses.{theory}
use Rattle.paper.specs.Circuit.{compile, effort}
use Rattle.paper.specs.Operations.{Schedule, valid, First}
use Rattle.paper.specs.Answers.{told_at, plan_left}
use Rattle.paper.specs.Planning.{Answered, AllPassed}
use Rattle.demands.specs.declared.Told.{Told}
use Rattle.demands.specs.Demands.{twenty}

-- the code of a call of plan, and the numbers 1 to 4 that it told: horizon, effort, rows, root
unfoldable pub told_of : List ℕ → ℕ → List ℕ → List ℕ → Told
told_of b limit buf sch =
    let o = plan_left b limit buf sch twenty in
    record { code = o.code; horizon = told_at o.answer 1; effort = told_at o.answer 2; rows = told_at o.answer 3; root = told_at o.answer 4 }

module _ (p : Sheet) (limit k : ℕ) where
  -- the horizon in hand: up to H, every smaller one within both limits and without a plan
  abbrev pub InHand : ℕ → Type 0
  InHand n = (n ≤ p.H) × AllPassed p limit k n

  -- the counts at a horizon, against the limits
  abbrev pub OverEffort : ℕ → Type 0
  OverEffort n = limit < effort (theory p n)

  abbrev pub OverRoom : ℕ → Type 0
  OverRoom n = (effort (theory p n) ≤ limit) × (k < length (compile (theory p n)).table)

  abbrev pub Within : ℕ → Type 0
  Within n = (effort (theory p n) ≤ limit) × (length (compile (theory p n)).table ≤ k)

  -- some schedule of n steps reaches the goal from every start
  abbrev pub HasPlan : ℕ → Type 0
  HasPlan n = (σ : Schedule) × (valid p.A n σ ≡ true) × (is_plan p σ ≡ true)

  -- what the answer says of a sheet with a start
  pub record Tells (r : Told) (schedule : List ℕ) : Type 0 where
    pub codes : elem r.code (0 ∷ 7 ∷ 8 ∷ 9 ∷ []) ≡ true
    -- 0: the least horizon up to H at which some schedule reaches the goal from every start, and the first such schedule
    pub least : (n : ℕ) → ((r.code ≡ 0) × (r.horizon ≡ n)) ↔ (InHand n × Within n × HasPlan n)
    pub first : r.code ≡ 0 → First (valid p.A r.horizon) (is_plan p) (some (take r.horizon schedule))
    -- 9: none exists up to H
    pub complete : (n : ℕ) → ((r.code ≡ 9) × (r.horizon ≡ n)) ↔ ((n ≡ p.H) × AllPassed p limit k (suc n))
    -- 7 and 8: the counts at the horizon in hand pass the limits
    pub stops_effort : (n : ℕ) → ((r.code ≡ 7) × (r.horizon ≡ n)) ↔ (InHand n × OverEffort n)
    pub stops_room : (n : ℕ) → ((r.code ≡ 8) × (r.horizon ≡ n)) ↔ (InHand n × OverRoom n)
    -- 0 and 9 tell the circuit of their horizon
    pub circuit : elem r.code (0 ∷ 9 ∷ []) ≡ true → Answered limit k (theory p r.horizon) r.effort r.rows r.root

-- demand 2: of any bytes b, an effort limit, k rows of room and a schedule buffer that had so many bytes and holds these now
pub record Demand2 (b : List ℕ) (limit k bytes : ℕ) (r : Told) (schedule : List ℕ) : Type 0 where
  pub short : (p : Sheet) → decode b ≡ Ok p → bytes < p.H → r.code ≡ 5
  pub no_start : (p : Sheet) → decode b ≡ Ok p → p.H ≤ bytes → ((s : ℕ) → s < 2 ^ p.F → is_start p s ≡ false) → r.code ≡ 6
  pub planned : (p : Sheet) → decode b ≡ Ok p → p.H ≤ bytes → (s : ℕ) → s < 2 ^ p.F → is_start p s ≡ true → Tells p limit k r schedule
