-- What comes back: the code and the numbers of each answer, and what every buffer holds after a call.
-- Assumes nothing.
use Rattle.std.specs.Prelude.{Bool, cond, List, [], ◌∷◌, ◌++◌, ℕ, ◌-◌, ◌*◌, ltb, length, drop, replicate, Result, Ok, Err}
use Rattle.paper.specs.declared.Fault.{Fault}
use Rattle.paper.specs.declared.Ended.{Ended}
use Rattle.paper.specs.declared.Limit.{Limit}
use Rattle.paper.specs.declared.Limit.TheVariants.{TooMuch, NoRoom}
use Rattle.paper.specs.declared.Planned.{Planned}
use Rattle.paper.specs.Lists.{each}
use Rattle.paper.specs.Sheet.{decode}
use Rattle.paper.specs.Clauses.{theory}
use Rattle.paper.specs.Circuit.{Table, compile, Built}
use Rattle.paper.specs.Operations.{on_sheet, long, bytes4, row_size, row_bytes, room, check_of, run_of, compile_of, judge_of, Outcome, plan_of, answer_of}

-- ---- refusals: the number, and the place of 4 and 11
abbrev pub fault_code : Fault → ℕ
fault_code Fault.Unmarked = 1
fault_code Fault.Unbounded = 2
fault_code Fault.Disagrees = 3
fault_code (Fault.BadRow o) = 4
fault_code Fault.ShortSchedule = 5
fault_code Fault.NoStart = 6
fault_code Fault.BadCall = 10
fault_code (Fault.BadTable i) = 11

abbrev pub fault_place : Fault → ℕ
fault_place (Fault.BadRow o) = o
fault_place (Fault.BadTable i) = i
fault_place f = 0

-- ---- the codes
-- check, run and judge: the refusal's number, or 0
abbrev pub code : {T : Type 0} → Result T Fault → ℕ
code (Err f) = fault_code f
code (Ok x) = 0

-- a limit that was passed
abbrev pub limit_code : Limit → ℕ
limit_code TooMuch = 7
limit_code (NoRoom e) = 8

abbrev pub compile_code : Result Built Fault → ℕ
compile_code (Err f) = fault_code f
compile_code (Ok (Err l)) = limit_code l
compile_code (Ok (Ok c)) = 0

abbrev pub plan_code : Result Planned Fault → ℕ
plan_code (Err f) = fault_code f
plan_code (Ok (Planned.TooMuch n)) = 7
plan_code (Ok (Planned.NoRoom n e)) = 8
plan_code (Ok (Planned.NoPlan n c)) = 9
plan_code (Ok (Planned.Found n c)) = 0

-- ---- the numbers: place first, those not named are 0
-- check: place, count
abbrev pub check_numbers : Result ℕ Fault → List ℕ
check_numbers (Err f) = fault_place f ∷ 0 ∷ []
check_numbers (Ok n) = 0 ∷ n ∷ []

-- run: place, done, state, goal as 1 or 0
abbrev pub run_numbers : Result Ended Fault → List ℕ
run_numbers (Err f) = fault_place f ∷ 0 ∷ 0 ∷ 0 ∷ []
run_numbers (Ok e) = 0 ∷ e.done ∷ e.state ∷ cond e.goal 1 0 ∷ []

-- compile at horizon n: place, horizon, effort, rows, root
abbrev pub compile_numbers : ℕ → Result Built Fault → List ℕ
compile_numbers n (Err f) = fault_place f ∷ 0 ∷ 0 ∷ 0 ∷ 0 ∷ []
compile_numbers n (Ok (Err TooMuch)) = 0 ∷ n ∷ 0 ∷ 0 ∷ 0 ∷ []
compile_numbers n (Ok (Err (NoRoom e))) = 0 ∷ n ∷ e ∷ 0 ∷ 0 ∷ []
compile_numbers n (Ok (Ok c)) = 0 ∷ 0 ∷ c.effort ∷ c.rows ∷ c.root ∷ []

-- judge: place, value as 1 or 0
abbrev pub judge_numbers : Result Bool Fault → List ℕ
judge_numbers (Err f) = fault_place f ∷ 0 ∷ []
judge_numbers (Ok v) = 0 ∷ cond v 1 0 ∷ []

-- plan: place, horizon, effort, rows, root
abbrev pub plan_numbers : Result Planned Fault → List ℕ
plan_numbers (Err f) = fault_place f ∷ 0 ∷ 0 ∷ 0 ∷ 0 ∷ []
plan_numbers (Ok (Planned.TooMuch n)) = 0 ∷ n ∷ 0 ∷ 0 ∷ 0 ∷ []
plan_numbers (Ok (Planned.NoRoom n e)) = 0 ∷ n ∷ e ∷ 0 ∷ 0 ∷ []
plan_numbers (Ok (Planned.NoPlan n c)) = 0 ∷ n ∷ c.effort ∷ c.rows ∷ c.root ∷ []
plan_numbers (Ok (Planned.Found n c)) = 0 ∷ n ∷ c.effort ∷ c.rows ∷ c.root ∷ []

-- ---- the answer slice: four bytes each, low byte first, as many as fit whole
unfoldable pub told : List ℕ → List ℕ → List ℕ
told [] slice = slice
told (n ∷ ns) slice = cond (ltb (length slice) 4) slice (bytes4 n ++ told ns (drop 4 slice))

-- number i of an answer slice, counted from 0
abbrev pub told_at : List ℕ → ℕ → ℕ
told_at slice i = long slice (4 * i)

-- ---- the row buffer
-- the table, its further rows within room zero; beyond room, and a byte tail shorter than a row, untouched
unfoldable pub filled : Table → List ℕ → List ℕ
filled t buf =
    let b = each t row_bytes in b ++ replicate (row_size * room buf - length b) 0 ++ drop (row_size * room buf) buf

-- after 7 or 8 all rows within room are zero; after 0 it holds the circuit; after any other number it is untouched
abbrev pub compile_rows : Table → List ℕ → Result Built Fault → List ℕ
compile_rows t buf (Err f) = buf
compile_rows t buf (Ok (Err TooMuch)) = filled [] buf
compile_rows t buf (Ok (Err (NoRoom e))) = filled [] buf
compile_rows t buf (Ok (Ok c)) = filled t buf

abbrev pub rows_after : Table → List ℕ → Planned → List ℕ
rows_after t buf (Planned.TooMuch n) = filled [] buf
rows_after t buf (Planned.NoRoom n e) = filled [] buf
rows_after t buf (Planned.NoPlan n c) = filled t buf
rows_after t buf (Planned.Found n c) = filled t buf

abbrev pub plan_rows : List ℕ → Result Outcome Fault → List ℕ
plan_rows buf (Err f) = buf
plan_rows buf (Ok o) = rows_after o.table buf o.answer

-- of the schedule buffer only the first n bytes are written, and only on 0
abbrev pub schedule_after : List ℕ → List ℕ → Planned → List ℕ
schedule_after σ buf (Planned.TooMuch n) = buf
schedule_after σ buf (Planned.NoRoom n e) = buf
schedule_after σ buf (Planned.NoPlan n c) = buf
schedule_after σ buf (Planned.Found n c) = σ ++ drop (length σ) buf

abbrev pub plan_schedule : List ℕ → Result Outcome Fault → List ℕ
plan_schedule buf (Err f) = buf
plan_schedule buf (Ok o) = schedule_after o.schedule buf o.answer

-- ---- what a call leaves: the code that it returns, and the buffers that it may write
pub record Left : Type 0 where
  pub code : ℕ
  pub answer : List ℕ

pub record LeftRows : Type 0 where
  pub code : ℕ
  pub answer : List ℕ
  pub rows : List ℕ

pub record LeftPlan : Type 0 where
  pub code : ℕ
  pub answer : List ℕ
  pub rows : List ℕ
  pub schedule : List ℕ

unfoldable pub check_left : List ℕ → List ℕ → Left
check_left b slice = let a = check_of b in record { code = code a; answer = told (check_numbers a) slice }

unfoldable pub run_left : List ℕ → ℕ → List ℕ → List ℕ → Left
run_left b s σ slice = let a = run_of b s σ in record { code = code a; answer = told (run_numbers a) slice }

-- the table that compile would make of the sheet at a horizon
unfoldable pub table_for : List ℕ → ℕ → Table
table_for b n = on_sheet (λ f. []) (λ p. (compile (theory p n)).table) (decode b)

unfoldable pub compile_left : List ℕ → ℕ → ℕ → List ℕ → List ℕ → LeftRows
compile_left b n limit buf slice =
    let a = compile_of b n limit (room buf) in
    let t = table_for b n in
    record { code = compile_code a; answer = told (compile_numbers n a) slice; rows = compile_rows t buf a }

unfoldable pub judge_left : List ℕ → ℕ → List ℕ → ℕ → ℕ → ℕ → List ℕ → List ℕ → Left
judge_left b n buf k root s masks slice =
    let a = judge_of b n buf k root s masks in record { code = code a; answer = told (judge_numbers a) slice }

unfoldable pub plan_left : List ℕ → ℕ → List ℕ → List ℕ → List ℕ → LeftPlan
plan_left b limit buf sch slice =
    let o = plan_of b limit (room buf) (length sch) in
    let a = answer_of o in
    record { code = plan_code a; answer = told (plan_numbers a) slice; rows = plan_rows buf o; schedule = plan_schedule sch o }

-- a proof by computation says `unfolding computed_answers`, which opens every definition of this module
unfoldable pub computed_answers : ℕ
unfolding told filled check_left run_left table_for compile_left judge_left plan_left
computed_answers = 0
