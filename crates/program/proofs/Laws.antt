-- An outcome has as many entries as its answer says, and they stand in front in the schedule buffer. Assumes nothing.
use mathlib.Core.Path.{◌≡◌, refl, sym, ap, ◌∙◌}
use mathlib.Core.Bool.{Bool, true, false, cond}
use mathlib.Core.List.{List, [], ◌∷◌, ◌++◌}
use mathlib.Core.Option.{Option, none, some}
use Prim.Native.Nat.{ℕ, zero, suc, ◌+◌, ◌/◌, min, ◌≤◌, ◌<◌}
use native.Mathlib.Omega.{arith}
use lib.Dec.{leb}
use lib.ListN.{length, get_or, take, drop, replicate, length-append, length-replicate}
use lib.Seq.{take_at}
use borrow.Author.Tests.{leb-true, lt-ltb, le-ltb}
use Rattle.paper.specs.declared.Whole.{Whole}
use Rattle.paper.specs.declared.Limit.TheVariants.{TooMuch, NoRoom}
use Rattle.std.specs.Prelude.{Result, Ok, Err}
use Rattle.paper.specs.declared.Fault.{Fault}
use Rattle.paper.specs.declared.Fault.TheVariants.{ShortSchedule, NoStart}
use Rattle.paper.specs.declared.Planned.{Planned}
use Rattle.paper.specs.Sheet.{Sheet, decode, start_count}
use Rattle.paper.specs.Step.{is_plan}
use Rattle.paper.specs.Clauses.{theory}
use Rattle.paper.specs.Circuit.{Table, Built, built_of}
use Rattle.paper.specs.Operations.{◌>>=◌, row_size, room, Schedule, valid, First, first_plan, Outcome, searched, at_horizon, no_plan, plan_from, plan_starts, plan_sheet, plan_of, answer_of, schedule_of}
use Rattle.paper.specs.Answers.{plan_code, plan_numbers, plan_schedule}
use Rattle.paper.specs.Program.{line, plan_line, printed}
use Rattle.paper.proofs.FirstSchedule.{schedules_first}
use Rattle.paper.proofs.Passes.{valid_fits}
use Rattle.line.specs.Written.{Writes}
use Rattle.line.proofs.Laws.{writes_front}
use Rattle.program.specs.Entries.{entries}

-- ---- as many entries as the answer says, and no more than there are horizons
pub record Counted (top : ℕ) (o : Result Outcome Fault) : Type 0 where
  pub count_is : length (schedule_of o) ≡ entries (answer_of o)
  pub most : entries (answer_of o) ≤ top

refusal_counted : {top : ℕ} (f : Fault) → Counted top (Err f)
refusal_counted f = record { count_is = refl; most = omega arith }

none_counted : {top : ℕ} (a : Planned) (t : Table) → entries (Ok a) ≡ 0 → Counted top (Ok (record { answer = a; table = t; schedule = [] }))
none_counted a t e = record { count_is = sym e; most = omega arith }

module _ (p : Sheet) (limit k top : ℕ) where
  at_counted : (n : ℕ) (next : Whole → Outcome) → n ≤ top → ((c : Whole) → Counted top (Ok (next c))) → (b : Built) → Counted top (Ok (at_horizon p n next b))
  unfolding first_plan
  at_counted n next l f (Err TooMuch) = none_counted (Planned.TooMuch n) [] refl
  at_counted n next l f (Err (NoRoom e)) = none_counted (Planned.NoRoom n e) [] refl
  at_counted n next l f (Ok c) = found (first_plan p n) (schedules_first p.A n (is_plan p))
    where
      found : (o : Option Schedule) → First (valid p.A n) (is_plan p) o → Counted top (Ok (searched p n c (next c) o))
      found none g = f c
      found (some σ) g = record { count_is = (valid_fits p n σ g.0).0; most = l }

  from_counted : (h n : ℕ) → n + h ≤ top → Counted top (Ok (plan_from p limit k h n))
  unfolding plan_from
  from_counted zero n l = at_counted n (no_plan p n) (omega arith) (λ c. none_counted (Planned.NoPlan n c) _ refl) (built_of limit k (theory p n))
  from_counted (suc h) n l = at_counted n (λ c. plan_from p limit k h (n + 1)) (omega arith) (λ c. from_counted h (n + 1) (omega arith)) (built_of limit k (theory p n))

  started_counted : (c : ℕ) (o : Outcome) → Counted top (Ok o) → Counted top (plan_starts c o)
  started_counted zero o h = refusal_counted NoStart
  started_counted (suc c) o h = h

sheet_counted : (p : Sheet) (limit k bytes : ℕ) → Counted bytes (plan_sheet limit k bytes p)
sheet_counted p limit k bytes = fits (leb p.H bytes) refl
  where
    fits : (b : Bool) → leb p.H bytes ≡ b → Counted bytes (cond b (plan_starts (start_count p) (plan_from p limit k p.H 0)) (Err ShortSchedule))
    fits true e = started_counted p limit k bytes (start_count p) (plan_from p limit k p.H 0) (from_counted p limit k bytes p.H 0 (let l = leb-true p.H bytes e in omega arith))
    fits false e = refusal_counted ShortSchedule

pub plan_counted : (b : List ℕ) (limit k bytes : ℕ) → Counted bytes (plan_of b limit k bytes)
unfolding plan_of
plan_counted b limit k bytes = read (decode b)
  where
    read : (d : Result Sheet Fault) → Counted bytes (d >>= plan_sheet limit k bytes)
    read (Err f) = refusal_counted f
    read (Ok p) = sheet_counted p limit k bytes

-- ---- the entries in the schedule buffer
no_entry : (σ : List ℕ) → length σ ≡ 0 → [] ≡ σ
no_entry [] h = refl
no_entry (e ∷ σ) h = absurd (omega arith)

taken : (a : Planned) (t : Table) (σ S : List ℕ) → length σ ≡ entries (Ok a) → take (entries (Ok a)) (plan_schedule S (Ok (record { answer = a; table = t; schedule = σ }))) ≡ σ
taken (Planned.TooMuch n) t σ S h = no_entry σ h
taken (Planned.NoRoom n e) t σ S h = no_entry σ h
taken (Planned.NoPlan n c) t σ S h = no_entry σ h
taken (Planned.Found n c) t σ S h = take_at σ (drop (length σ) S) n h

pub entries_taken : (o : Result Outcome Fault) {top : ℕ} → Counted top o → (S : List ℕ) → take (entries (answer_of o)) (plan_schedule S o) ≡ schedule_of o
entries_taken (Err f) h S = refl
entries_taken (Ok o) h S = taken o.answer o.table o.schedule S h.count_is

-- ---- the program's buffers: 64,000 bytes are room for 4,000 rows
pub room_is : room (replicate 64000 0) ≡ 4000
unfolding room
room_is = ap (λ (n : ℕ). min (n / row_size) 65536) (length-replicate {A = ℕ} 64000 0)

-- ---- what is printed
pub printed_long : (b : List ℕ) → 4608 < length b → line 3 (0 ∷ 0 ∷ []) ≡ printed b
unfolding printed
printed_long b h = rw (lt-ltb 4608 (length b) h)

pub printed_plan : (b : List ℕ) → length b ≤ 4608 → plan_line (plan_of b 1000000 4000 8) ≡ printed b
unfolding printed
printed_plan b h = rw (le-ltb 4608 (length b) h)

-- what is printed stands in front, and within the slice
pub printed_in : (xs T U : List ℕ) (r : ℕ) → Writes 0 xs T U r → (U ≡ xs ++ drop (length xs) T) × ((r ≡ length xs) × (r ≤ length U))
printed_in xs T U r w =
    let f = writes_front w in
    let e = w.end_is in
    let a = ap length f ∙ length-append xs (drop (length xs) T) in
    (f, (omega arith, omega arith))

-- a plan's numbers and entries, in the line that they make
module _ (b : List ℕ) (k bytes : ℕ) (a : Result Planned Fault) (count : ℕ) (h : a ≡ answer_of (plan_of b 1000000 k bytes)) (n : count ≡ entries a) where
  pub count_most : count ≤ bytes
  count_most = let m = (plan_counted b 1000000 k bytes).most in let e = n ∙ ap entries h in omega arith

  pub line_planned : (S Z ns : List ℕ) (code : ℕ) → k ≡ 4000 → bytes ≡ 8 → Z ≡ plan_schedule S (plan_of b 1000000 k bytes) → ns ≡ plan_numbers a → code ≡ plan_code a
      → line code (get_or ns 0 0 ∷ get_or ns 1 0 ∷ take count Z) ≡ plan_line (plan_of b 1000000 4000 8)
  line_planned S Z ns code r s z m c =
      let o : Result Outcome Fault = plan_of b 1000000 k bytes in
      let numbers = m ∙ ap plan_numbers h in
      let schedule = (λ i. take ((n ∙ ap entries h) i) (z i)) ∙ entries_taken o (plan_counted b 1000000 k bytes) S in
      (λ i. line ((c ∙ ap plan_code h) i) (get_or (numbers i) 0 0 ∷ get_or (numbers i) 1 0 ∷ schedule i)) ∙ ap plan_line (λ i. plan_of b 1000000 (r i) (s i))
