-- One horizon of the planner, and what it leaves. Not in document 01.
-- Assumes nothing.
use Rattle.std.specs.Prelude.{◌≡◌, Bool, true, List, ◌++◌, ℕ, length, take, drop, is_some, Option, Some, None, Result, Ok, Err}
use Rattle.paper.specs.declared.Fault.{Fault}
use Rattle.paper.specs.declared.Whole.{Whole}
use Rattle.paper.specs.declared.Limit.TheVariants.{TooMuch, NoRoom}
use Rattle.paper.specs.declared.Planned.{Planned}
use Rattle.paper.specs.Sheet.{Sheet}
use Rattle.paper.specs.Clauses.{theory}
use Rattle.paper.specs.Circuit.{Built, compile, built_of}
use Rattle.paper.specs.Operations.{room, first_plan, Outcome, answer_of}
use Rattle.paper.specs.Answers.{compile_rows, plan_rows, plan_schedule}
use Rattle.seek.specs.Seeking.{entries_of}
use Rattle.plan.specs.declared.Tried.{Tried}

-- horizon n was tried with a table lent as T, which is U now
pub record Tries (p : Sheet) (limit : ℕ) (T : List ℕ) (n : ℕ) (r : Tried) (U : List ℕ) : Type 0 where
  pub built_is : r.built ≡ built_of limit (room T) (theory p n)
  pub rows_are : U ≡ compile_rows (compile (theory p n)).table T (Ok r.built)
  pub found_is : (c : Whole) → r.built ≡ Ok c → entries_of n r.found ≡ first_plan p n

-- the planner ends with this horizon: a limit was passed, or there is a plan
abbrev pub ends : Built → Option (List ℕ) → Bool
ends (Err l) found = true
ends (Ok c) found = is_some found

-- the answer if it ends with this horizon
abbrev pub plan_or_none : ℕ → Whole → Option (List ℕ) → Planned
plan_or_none n c (Some σ) = Planned.Found n c
plan_or_none n c None = Planned.NoPlan n c

abbrev pub closing : ℕ → Built → Option (List ℕ) → Planned
closing n (Err TooMuch) found = Planned.TooMuch n
closing n (Err (NoRoom e)) found = Planned.NoRoom n e
closing n (Ok c) found = plan_or_none n c found

-- the schedule buffer after it
abbrev pub written : ℕ → Option (List ℕ) → List ℕ → List ℕ
written n (Some σ) buf = take n σ ++ drop (length (take n σ)) buf
written n None buf = buf

abbrev pub scheduled : ℕ → Built → Option (List ℕ) → List ℕ → List ℕ
scheduled n (Err l) found buf = buf
scheduled n (Ok c) found buf = written n found buf

-- what the planner's answer, rows and schedule are to be, of a table lent as T and a schedule buffer lent as S
pub record Plans (T S : List ℕ) (o : Result Outcome Fault) (r : Result Planned Fault) (U Z : List ℕ) : Type 0 where
  pub answer_is : r ≡ answer_of o
  pub rows_are : U ≡ plan_rows T o
  pub schedule_is : Z ≡ plan_schedule S o
