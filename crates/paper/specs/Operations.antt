-- The five operations: from the bytes and numbers lent to an answer.
-- Assumes nothing.
use Rattle.std.specs.Prelude.{◌≡◌, Bool, true, false, not, ◌&&◌, ◌||◌, cond, List, [], ◌∷◌, map, ℕ, zero, suc, ◌+◌, ◌-◌, ◌*◌, ◌/◌, ◌%◌, min, eqb, ltb, leb, length, get_or, Result, Ok, Err}
use Rattle.std.proofs.Math.Option.{Option, none, some}
use Rattle.paper.specs.declared.Lit.{Lit}
use Rattle.paper.specs.declared.Row.{Row}
use Rattle.paper.specs.declared.Row.TheVariants.{False, True, Literal, Conjunction, Choice}
use Rattle.paper.specs.declared.Run.{Run}
use Rattle.paper.specs.declared.Fault.{Fault}
use Rattle.paper.specs.declared.Fault.TheVariants.{ShortSchedule, NoStart, BadCall, BadTable}
use Rattle.paper.specs.declared.Ended.{Ended}
use Rattle.paper.specs.declared.Whole.{Whole}
use Rattle.paper.specs.declared.Limit.TheVariants.{TooMuch, NoRoom}
use Rattle.paper.specs.declared.Planned.{Planned}
use Rattle.paper.specs.Lists.{all, filter, each, up_from}
use Rattle.paper.specs.Counting.{bit}
use Rattle.paper.specs.Sheet.{Sheet, word, fits, decode, is_goal, start_count}
use Rattle.paper.specs.Step.{run, entries_fit, is_plan}
use Rattle.paper.specs.Clauses.{Assign, holds, stride, variables, theory}
use Rattle.paper.specs.Circuit.{row_numbers, same_numbers, Table, compile, Built, built_of, value_at}

-- what follows a step, unless that is refused
infixl 10 ◌>>=◌
abbrev pub ◌>>=◌ : {T U : Type 0} → Result T Fault → (T → Result U Fault) → Result U Fault
Ok x >>= f = f x
Err e >>= f = Err e

-- an operation on a sheet: the sheet's own refusals come first
module _ {X : Type 0} where
  abbrev pub on_sheet : (Fault → X) → (Sheet → X) → Result Sheet Fault → X
  on_sheet f g (Err e) = f e
  on_sheet f g (Ok p) = g p

-- ---- check: how many of the 2^F states are starts
abbrev pub counted : ℕ → Result ℕ Fault
counted zero = Err NoStart
counted (suc n) = Ok (suc n)

unfoldable pub check_of : List ℕ → Result ℕ Fault
check_of b = decode b >>= λ p. counted (start_count p)

-- ---- run: a schedule of 0..8 entries from a state
unfoldable pub good_run : Sheet → ℕ → List ℕ → Bool
good_run p s σ = fits p.F s && (leb (length σ) 8 && entries_fit p σ)

abbrev pub ended : Sheet → Run → Ended
ended p r = record { done = r.done; state = r.state; goal = r.whole && is_goal p r.state }

abbrev pub run_sheet : ℕ → List ℕ → Sheet → Result Ended Fault
run_sheet s σ p = cond (good_run p s σ) (Ok (ended p (run p s σ))) (Err BadCall)

unfoldable pub run_of : List ℕ → ℕ → List ℕ → Result Ended Fault
run_of b s σ = decode b >>= run_sheet s σ

-- ---- row tables are passed as bytes, four per number, low byte first
abbrev pub long : List ℕ → ℕ → ℕ
long b at = get_or b at 0 + 256 * (get_or b (at + 1) 0 + 256 * (get_or b (at + 2) 0 + 256 * get_or b (at + 3) 0))

abbrev pub bytes4 : ℕ → List ℕ
bytes4 n = n % 256 ∷ n / 256 % 256 ∷ n / 65536 % 256 ∷ n / 16777216 % 256 ∷ []

-- the bytes of a row
abbrev pub row_size : ℕ
row_size = 16

unfoldable pub row_bytes : Row → List ℕ
row_bytes r = each (row_numbers r) bytes4

-- room is how many rows the buffer holds, at most 65,536
unfoldable pub room : List ℕ → ℕ
room buf = min (length buf / row_size) 65536

-- ---- compile: horizon 0..8, effort limit, k rows of room
abbrev pub compile_sheet : ℕ → ℕ → ℕ → Sheet → Result Built Fault
compile_sheet n limit k p = cond (leb n 8) (Ok (built_of limit k (theory p n))) (Err BadCall)

unfoldable pub compile_of : List ℕ → ℕ → ℕ → ℕ → Result Built Fault
compile_of b n limit k = decode b >>= compile_sheet n limit k

-- ---- judge: the value of a row table at a state and masks of actions
module _ (p : Sheet) (n : ℕ) where
  -- the place of a variable after the facts of moment 0: its step, and its place among the step's actions, z and next facts
  unfoldable pub past : ℕ → ℕ
  past x = x - 1 - p.F

  -- a variable of a fact of moment 0, or of an action
  unfoldable pub kept : ℕ → Bool
  kept x = ltb (x - 1) p.F || ltb (past x % stride p) p.A

  -- their values, from the state and the masks
  unfoldable pub given : ℕ → List ℕ → Assign
  given s masks x = cond (ltb (x - 1) p.F) (bit s (x - 1)) (bit (get_or masks (past x / stride p) 0) (past x % stride p))

  -- a literal of moment 0 takes its value from the state, an action literal from the masks; any other literal, of either sign, is true
  unfoldable pub lit_value : ℕ → List ℕ → Lit → Bool
  lit_value s masks l = not (kept l.var) || holds (given s masks) l

  unfoldable pub judge : Table → ℕ → ℕ → List ℕ → Bool
  judge t root s masks = value_at (lit_value s masks) t root

-- row i of the table: its four numbers, and the row that they name
unfoldable pub numbers_at : List ℕ → ℕ → List ℕ
numbers_at buf i = long buf (row_size * i) ∷ long buf (row_size * i + 4) ∷ long buf (row_size * i + 8) ∷ long buf (row_size * i + 12) ∷ []

abbrev pub row_of : ℕ → ℕ → ℕ → ℕ → Row
row_of zero a b c = False
row_of (suc zero) a b c = True
row_of (suc (suc zero)) a b c = Literal (record { var = a; sign = eqb b 1 })
row_of (suc (suc (suc zero))) a b c = Conjunction b c
row_of (suc (suc (suc (suc k)))) a b c = Choice a b c

abbrev pub row_from : List ℕ → Row
row_from ns = row_of (get_or ns 0 0) (get_or ns 1 0) (get_or ns 2 0) (get_or ns 3 0)

unfoldable pub row_at : List ℕ → ℕ → Row
row_at buf i = row_from (numbers_at buf i)

-- row 0 is False, row 1 is True, and neither kind stands elsewhere; children are lower; variables are 1..top
abbrev pub stands : ℕ → ℕ → Row → Bool
stands top i False = eqb i 0
stands top i True = eqb i 1
stands top i (Literal l) = leb 2 i && (leb 1 l.var && leb l.var top)
stands top i (Conjunction l r) = leb 2 i && (ltb l i && ltb r i)
stands top i (Choice x l r) = leb 2 i && ((leb 1 x && leb x top) && (ltb l i && ltb r i))

unfoldable pub good_row_at : ℕ → List ℕ → ℕ → Bool
good_row_at top buf i = same_numbers (row_numbers (row_at buf i)) (numbers_at buf i) && stands top i (row_at buf i)

unfoldable pub table_of : List ℕ → ℕ → Table
table_of buf k = map (row_at buf) (up_from 0 k)

-- masks take two bytes each
unfoldable pub masks_of : List ℕ → ℕ → List ℕ
masks_of masks n = map (λ i. word masks (2 * i)) (up_from 0 n)

unfoldable pub good_judge : Sheet → ℕ → List ℕ → ℕ → ℕ → ℕ → List ℕ → Bool
good_judge p n buf k root s masks =
    fits p.F s
    && (leb n 8 && (eqb (length masks) (2 * n) && (all (fits p.A) (masks_of masks n) && (leb 2 k && (leb k (room buf) && ltb root k)))))

-- a bad call, the first bad row, or the value
abbrev pub judged_by : Bool → List ℕ → Bool → Result Bool Fault
judged_by false bad v = Err BadCall
judged_by true [] v = Ok v
judged_by true (i ∷ is) v = Err (BadTable i)

abbrev pub judge_sheet : ℕ → List ℕ → ℕ → ℕ → ℕ → List ℕ → Sheet → Result Bool Fault
judge_sheet n buf k root s masks p =
    judged_by (good_judge p n buf k root s masks) (filter (λ i. not (good_row_at (variables p n) buf i)) (up_from 0 k)) (judge p n (table_of buf k) root s (masks_of masks n))

unfoldable pub judge_of : List ℕ → ℕ → List ℕ → ℕ → ℕ → ℕ → List ℕ → Result Bool Fault
judge_of b n buf k root s masks = decode b >>= judge_sheet n buf k root s masks

-- ---- the first schedule
abbrev pub Schedule : Type 0
Schedule = List ℕ

abbrev pub Test : Type 0
Test = Schedule → Bool

-- a step's entries, 0..A
abbrev pub entries : ℕ → List ℕ
entries A = up_from 0 (suc A)

-- the schedules of n entries: compared at their first differing step, smaller number first
unfoldable pub schedules : ℕ → ℕ → List Schedule
schedules A zero = [] ∷ []
schedules A (suc n) = each (entries A) (λ e. map (λ σ. e ∷ σ) (schedules A n))

unfoldable pub first_of : Test → List Schedule → Option Schedule
first_of good [] = none
first_of good (σ ∷ σs) = let r = first_of good σs in cond (good σ) (some σ) r

unfoldable pub first_plan : Sheet → ℕ → Option Schedule
first_plan p n = first_of (is_plan p) (schedules p.A n)

-- the same as a relation: a schedule of n entries 0..A; earlier than another; and the first that passes, or that none does
abbrev pub valid : ℕ → ℕ → Test
valid A zero [] = true
valid A zero (e ∷ σ) = false
valid A (suc n) [] = false
valid A (suc n) (e ∷ σ) = leb e A && valid A n σ

abbrev pub earlier : Schedule → Schedule → Bool
earlier [] τ = false
earlier (x ∷ σ) [] = false
earlier (x ∷ σ) (y ∷ τ) = ltb x y || (eqb x y && earlier σ τ)

abbrev pub First : Test → Test → Option Schedule → Type 0
First v good none = (σ : Schedule) → v σ ≡ true → good σ ≡ false
First v good (some σ) = (v σ ≡ true) × (good σ ≡ true) × ((τ : Schedule) → v τ ≡ true → good τ ≡ true → earlier τ σ ≡ false)

-- ---- plan: horizons 0, 1, .. H, both limits afresh at each; the first that gives 7, 8 or a schedule ends it
pub record Outcome : Type 0 where
  pub answer : Planned
  pub table : Table
  pub schedule : Schedule

abbrev pub stopped : Planned → Outcome
stopped a = record { answer = a; table = []; schedule = [] }

-- the first schedule, or what follows where there is none
abbrev pub searched : Sheet → ℕ → Whole → Outcome → Option Schedule → Outcome
searched p n c next none = next
searched p n c next (some σ) = record { answer = Planned.Found n c; table = (compile (theory p n)).table; schedule = σ }

abbrev pub at_horizon : Sheet → ℕ → (Whole → Outcome) → Built → Outcome
at_horizon p n next (Err TooMuch) = stopped (Planned.TooMuch n)
at_horizon p n next (Err (NoRoom e)) = stopped (Planned.NoRoom n e)
at_horizon p n next (Ok c) = let o = next c in searched p n c o (first_plan p n)

-- no plan up to H, with the circuit of H
abbrev pub no_plan : Sheet → ℕ → Whole → Outcome
no_plan p n c = record { answer = Planned.NoPlan n c; table = (compile (theory p n)).table; schedule = [] }

-- from horizon n on, with h horizons after it; k is room
unfoldable pub plan_from : Sheet → ℕ → ℕ → ℕ → ℕ → Outcome
plan_from p limit k zero n = at_horizon p n (no_plan p n) (built_of limit k (theory p n))
plan_from p limit k (suc h) n = let o = plan_from p limit k h (n + 1) in at_horizon p n (λ c. o) (built_of limit k (theory p n))

-- no start is refused
abbrev pub plan_starts : ℕ → Outcome → Result Outcome Fault
plan_starts zero o = Err NoStart
plan_starts (suc n) o = Ok o

-- a schedule buffer of fewer than H bytes is refused
abbrev pub plan_sheet : ℕ → ℕ → ℕ → Sheet → Result Outcome Fault
plan_sheet limit k bytes p =
    let o = plan_from p limit k p.H 0 in cond (leb p.H bytes) (plan_starts (start_count p) o) (Err ShortSchedule)

-- effort limit, room, bytes of the schedule buffer
unfoldable pub plan_of : List ℕ → ℕ → ℕ → ℕ → Result Outcome Fault
plan_of b limit k bytes = decode b >>= plan_sheet limit k bytes

-- the answer alone, and the schedule, which a refusal has none of
abbrev pub answer_of : Result Outcome Fault → Result Planned Fault
answer_of (Err f) = Err f
answer_of (Ok o) = Ok o.answer

abbrev pub schedule_of : Result Outcome Fault → Schedule
schedule_of (Err f) = []
schedule_of (Ok o) = o.schedule

-- a proof by computation says `unfolding computed_operations`, which opens every definition of this module
unfoldable pub computed_operations : ℕ
unfolding check_of good_run run_of row_bytes room compile_of past kept given lit_value judge numbers_at row_at good_row_at table_of masks_of good_judge judge_of schedules first_of first_plan plan_from plan_of
computed_operations = 0
