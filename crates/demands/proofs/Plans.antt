-- Demand 2, from what plan promises. Assumes nothing.
use mathlib.Core.Path.{◌≡◌, refl, sym, ap, ◌∙◌, subst}
use mathlib.Core.Bool.{Bool, true, false}
use mathlib.Core.List.{List, [], ◌∷◌}
use mathlib.Core.Option.{Option, none, some}
use Prim.Native.Nat.{ℕ, zero, suc, ◌^◌, ◌≤◌, ◌<◌}
use native.Mathlib.Omega.{arith}
use lib.ListN.{length, get_or, take, drop}
use lib.Seq.{take_at}
use Rattle.std.specs.Prelude.{Result, Ok, Err}
use Rattle.paper.specs.declared.Fault.{Fault}
use Rattle.paper.specs.declared.Planned.{Planned}
use Rattle.paper.specs.Lists.{elem}
use Rattle.paper.specs.Counting.{worth, count_below}
use Rattle.paper.specs.Sheet.{Sheet, Fine, is_start, start_count}
use Rattle.paper.specs.Step.{is_plan}
use Rattle.paper.specs.Clauses.{theory}
use Rattle.paper.specs.Circuit.{Table, compile, effort}
use Rattle.paper.specs.Operations.{room, long, Schedule, valid, First, first_plan, Outcome, plan_of, answer_of}
use Rattle.paper.specs.Answers.{plan_code, plan_numbers, plan_schedule, schedule_after, told, told_at, plan_left}
use Rattle.paper.specs.Planning.{Answered, AllPassed, Says, SaysOf}
use Rattle.paper.proofs.Basic.{never}
use Rattle.paper.proofs.Decoded.{decoded_fine}
use Rattle.paper.proofs.FirstSchedule.{schedules_first}
use Rattle.paper.proofs.Passes.{valid_fits}
use Rattle.paper.proofs.Buffers.{room_most}
use Rattle.paper.proofs.ReadBack.{told_read}
use Rattle.paper.proofs.Left.{root_low, within_room}
use Rattle.paper.proofs.Demand2 as paper
use Rattle.demands.specs.declared.Told.{Told}
use Rattle.demands.specs.Demands.{twenty}
use Rattle.demands.specs.Plans as spec

-- the code and the four numbers of an answer
abbrev said : Result Planned Fault → Told
said a = record {
  code = plan_code a;
  horizon = get_or (plan_numbers a) 1 0;
  effort = get_or (plan_numbers a) 2 0;
  rows = get_or (plan_numbers a) 3 0;
  root = get_or (plan_numbers a) 4 0;
}

-- ---- an answer that says what it is to say
module _ (p : Sheet) (limit k : ℕ) (t : Table) (σ : Schedule) where
  code_of : (a : Planned) → Says p limit k a t σ → elem (plan_code (Ok a)) (0 ∷ 7 ∷ 8 ∷ 9 ∷ []) ≡ true
  code_of (Planned.TooMuch n) h = refl
  code_of (Planned.NoRoom n e) h = refl
  code_of (Planned.NoPlan n c) h = refl
  code_of (Planned.Found n c) h = refl

  found_at : (a : Planned) → Says p limit k a t σ → plan_code (Ok a) ≡ 0 → (n : ℕ) → (said (Ok a)).horizon ≡ n → spec.InHand p limit k n × spec.Within p limit k n × spec.HasPlan p limit k n
  found_at (Planned.TooMuch m) h c n q = absurd (omega arith)
  found_at (Planned.NoRoom m e) h c n q = absurd (omega arith)
  found_at (Planned.NoPlan m d) h c n q = absurd (omega arith)
  found_at (Planned.Found m d) h c n q =
      subst (λ x. spec.InHand p limit k x × spec.Within p limit k x × spec.HasPlan p limit k x) q
      ((h.0, h.1), (h.2.within_effort, h.2.within_room), (σ, h.4.0, h.4.1))

  none_at : (a : Planned) → Says p limit k a t σ → plan_code (Ok a) ≡ 9 → (n : ℕ) → (said (Ok a)).horizon ≡ n → (n ≡ p.H) × AllPassed p limit k (suc n)
  none_at (Planned.TooMuch m) h c n q = absurd (omega arith)
  none_at (Planned.NoRoom m e) h c n q = absurd (omega arith)
  none_at (Planned.NoPlan m d) h c n q = subst (λ x. (x ≡ p.H) × AllPassed p limit k (suc x)) q (h.0, h.1)
  none_at (Planned.Found m d) h c n q = absurd (omega arith)

  effort_at_lem : (a : Planned) → Says p limit k a t σ → plan_code (Ok a) ≡ 7 → (n : ℕ) → (said (Ok a)).horizon ≡ n → spec.InHand p limit k n × spec.OverEffort p limit k n
  effort_at_lem (Planned.TooMuch m) h c n q = subst (λ x. spec.InHand p limit k x × spec.OverEffort p limit k x) q ((h.0, h.1), h.2)
  effort_at_lem (Planned.NoRoom m e) h c n q = absurd (omega arith)
  effort_at_lem (Planned.NoPlan m d) h c n q = absurd (omega arith)
  effort_at_lem (Planned.Found m d) h c n q = absurd (omega arith)

  room_at : (a : Planned) → Says p limit k a t σ → plan_code (Ok a) ≡ 8 → (n : ℕ) → (said (Ok a)).horizon ≡ n → spec.InHand p limit k n × spec.OverRoom p limit k n
  room_at (Planned.TooMuch m) h c n q = absurd (omega arith)
  room_at (Planned.NoRoom m e) h c n q = subst (λ x. spec.InHand p limit k x × spec.OverRoom p limit k x) q ((h.0, h.1), (h.2.0, h.3))
  room_at (Planned.NoPlan m d) h c n q = absurd (omega arith)
  room_at (Planned.Found m d) h c n q = absurd (omega arith)

  circuit_at : (a : Planned) → Says p limit k a t σ → elem (plan_code (Ok a)) (0 ∷ 9 ∷ []) ≡ true → Answered limit k (theory p (said (Ok a)).horizon) (said (Ok a)).effort (said (Ok a)).rows (said (Ok a)).root
  circuit_at (Planned.TooMuch m) h c = never c refl
  circuit_at (Planned.NoRoom m e) h c = never c refl
  circuit_at (Planned.NoPlan m d) h c = h.2
  circuit_at (Planned.Found m d) h c = h.2

  -- the schedule buffer begins with the schedule
  first_at : (a : Planned) → Says p limit k a t σ → (buf : List ℕ) → plan_code (Ok a) ≡ 0
      → First (valid p.A (said (Ok a)).horizon) (is_plan p) (some (take (said (Ok a)).horizon (schedule_after σ buf a)))
  first_at (Planned.TooMuch m) h buf c = absurd (omega arith)
  first_at (Planned.NoRoom m e) h buf c = absurd (omega arith)
  first_at (Planned.NoPlan m d) h buf c = absurd (omega arith)
  first_at (Planned.Found m d) h buf c =
      subst (λ τ. First (valid p.A m) (is_plan p) (some τ)) (sym (take_at σ (drop (length σ) buf) m (valid_fits p m σ h.4.0).0)) h.4

-- ---- and nothing else is said
module _ (p : Sheet) (limit k : ℕ) where
  the_first : (n : ℕ) → spec.HasPlan p limit k n → (o : Option Schedule) → First (valid p.A n) (is_plan p) o → (σ : Schedule) × First (valid p.A n) (is_plan p) (some σ)
  the_first n h none f = never h.2 (f h.0 h.1)
  the_first n h (some σ) f = (σ, f)

  module _ (a : Planned) (t : Table) (σ : Schedule) (h : Says p limit k a t σ) where
    is_found : (n : ℕ) → spec.InHand p limit k n × spec.Within p limit k n × spec.HasPlan p limit k n → (plan_code (Ok a) ≡ 0) × ((said (Ok a)).horizon ≡ n)
    unfolding first_plan
    is_found n w =
        let f = the_first n w.2 (first_plan p n) (schedules_first p.A n (is_plan p)) in
        let c : Answered limit k (theory p n) (effort (theory p n)) (length (compile (theory p n)).table) (compile (theory p n)).root =
        record { effort_is = refl; rows_are = refl; root_is = refl; within_effort = w.1.0; within_room = w.1.1 } in
        let e = paper.says_one p limit k a (Planned.Found n (record { effort = effort (theory p n); rows = length (compile (theory p n)).table; root = (compile (theory p n)).root })) t (compile (theory p n)).table σ f.0 h
        (w.0.0, w.0.1, c, refl, f.1) in
        (ap (λ x. plan_code (Ok x)) e, ap (λ x. (said (Ok x)).horizon) e)

    is_none : (n : ℕ) → (n ≡ p.H) × AllPassed p limit k (suc n) → (plan_code (Ok a) ≡ 9) × ((said (Ok a)).horizon ≡ n)
    is_none n w =
        let l = w.1 n (omega arith) in
        let c : Answered limit k (theory p n) (effort (theory p n)) (length (compile (theory p n)).table) (compile (theory p n)).root =
        record { effort_is = refl; rows_are = refl; root_is = refl; within_effort = l.0; within_room = l.1 } in
        let e = paper.says_one p limit k a (Planned.NoPlan n (record { effort = effort (theory p n); rows = length (compile (theory p n)).table; root = (compile (theory p n)).root })) t (compile (theory p n)).table σ [] h
        (w.0, w.1, c, refl) in
        (ap (λ x. plan_code (Ok x)) e, ap (λ x. (said (Ok x)).horizon) e)

    is_effort : (n : ℕ) → spec.InHand p limit k n × spec.OverEffort p limit k n → (plan_code (Ok a) ≡ 7) × ((said (Ok a)).horizon ≡ n)
    is_effort n w =
        let e = paper.says_one p limit k a (Planned.TooMuch n) t [] σ [] h (w.0.0, w.0.1, w.1) in
        (ap (λ x. plan_code (Ok x)) e, ap (λ x. (said (Ok x)).horizon) e)

    is_room : (n : ℕ) → spec.InHand p limit k n × spec.OverRoom p limit k n → (plan_code (Ok a) ≡ 8) × ((said (Ok a)).horizon ≡ n)
    is_room n w =
        let e = paper.says_one p limit k a (Planned.NoRoom n (effort (theory p n))) t [] σ [] h (w.0.0, w.0.1, (w.1.0, refl), w.1.1) in
        (ap (λ x. plan_code (Ok x)) e, ap (λ x. (said (Ok x)).horizon) e)

    says_planned : (buf : List ℕ) → spec.Tells p limit k (said (Ok a)) (schedule_after σ buf a)
    says_planned buf = record {
      codes = code_of p limit k t σ a h;
      least = λ n. ((λ w. found_at p limit k t σ a h w.0 n w.1), is_found n);
      first = first_at p limit k t σ a h buf;
      complete = λ n. ((λ w. none_at p limit k t σ a h w.0 n w.1), is_none n);
      stops_effort = λ n. ((λ w. effort_at_lem p limit k t σ a h w.0 n w.1), is_effort n);
      stops_room = λ n. ((λ w. room_at p limit k t σ a h w.0 n w.1), is_room n);
      circuit = circuit_at p limit k t σ a h;
    }

-- ---- the numbers as they are told: each is a 32-bit number
five : (a : Result Planned Fault) → length (plan_numbers a) ≡ 5
five (Err f) = refl
five (Ok (Planned.TooMuch n)) = refl
five (Ok (Planned.NoRoom n e)) = refl
five (Ok (Planned.NoPlan n c)) = refl
five (Ok (Planned.Found n c)) = refl

Small : Told → Type 0
Small r = (r.horizon < 4294967296) × (r.effort < 4294967296) × (r.rows < 4294967296) × (r.root < 4294967296)

module _ (p : Sheet) (fine : Fine p) (limit : ℕ) (word : limit < 4294967296) (buf : List ℕ) (t : Table) (σ : Schedule) where
  whole_small : (n e r i : ℕ) → n ≤ p.H → Answered limit (room buf) (theory p n) e r i → (n < 4294967296) × (e < 4294967296) × (r < 4294967296) × (i < 4294967296)
  whole_small n e r i l a =
      let h : n ≤ 8 = let x = fine.horizon_most in omega arith in
      let low = root_low p fine n h limit buf e r i a in
      let most = within_room p fine n h limit buf e r i a in
      let room_is = room_most buf in
      let y = a.effort_is in
      let z = a.within_effort in
      (omega arith, omega arith, omega arith, omega arith)

  small : (a : Planned) → Says p limit (room buf) a t σ → Small (said (Ok a))
  unfolding Small
  small (Planned.TooMuch n) h = let l = h.0 in let x = fine.horizon_most in (omega arith, omega arith, omega arith, omega arith)
  small (Planned.NoRoom n e) h =
      let l = h.0 in let x = fine.horizon_most in let y = h.2.0 in let z = h.2.1 in (omega arith, omega arith, omega arith, omega arith)
  small (Planned.NoPlan n c) h = whole_small n c.effort c.rows c.root (let x = h.0 in omega arith) h.2
  small (Planned.Found n c) h = whole_small n c.effort c.rows c.root h.0 h.2

told_at_lem : (a : Result Planned Fault) (i : ℕ) → i < 5 → get_or (plan_numbers a) i 0 < 4294967296 → told_at (told (plan_numbers a) twenty) i ≡ get_or (plan_numbers a) i 0
told_at_lem a i l w = let f = five a in told_read (plan_numbers a) twenty i (omega arith) (omega arith) w

told_said : (a : Result Planned Fault) → Small (said a)
    → record {
      code = plan_code a;
      horizon = told_at (told (plan_numbers a) twenty) 1;
      effort = told_at (told (plan_numbers a) twenty) 2;
      rows = told_at (told (plan_numbers a) twenty) 3;
      root = told_at (told (plan_numbers a) twenty) 4;
    } ≡ said a
unfolding Small
told_said a w = λ j. record {
  code = plan_code a;
  horizon = told_at_lem a 1 (omega arith) w.0 j;
  effort = told_at_lem a 2 (omega arith) w.1 j;
  rows = told_at_lem a 3 (omega arith) w.2 j;
  root = told_at_lem a 4 (omega arith) w.3 j;
}

-- ---- starts
count_zero : (n : ℕ) (f : ℕ → Bool) → ((m : ℕ) → m < n → f m ≡ false) → count_below n f ≡ 0
unfolding count_below worth
count_zero zero f h = refl
count_zero (suc n) f h = let e = count_zero n f (λ m l. h m (omega arith)) in rw (h n (omega arith)) (omega arith)

some_start : (p : Sheet) (s : ℕ) → s < 2 ^ p.F → is_start p s ≡ true → 0 < start_count p
unfolding start_count
some_start p s l e = by_count (start_count p) refl
  where
    by_count : (n : ℕ) → start_count p ≡ n → 0 < start_count p
    by_count zero z = never e (paper.count_none (2 ^ p.F) (is_start p) z s l)
    by_count (suc n) z = omega arith

-- demand 2, from the bytes lent to the bytes read
pub told_demand : (b : List ℕ) (limit : ℕ) → limit < 4294967296 → (buf sch : List ℕ)
    → spec.Demand2 b limit (room buf) (length sch) (spec.told_of b limit buf sch) (plan_left b limit buf sch twenty).schedule
unfolding spec.told_of plan_left start_count
told_demand b limit word buf sch =
    let k = room buf in
    let bytes = length sch in
    record {
      short = λ p d l. ap (λ x. plan_code (answer_of x)) (paper.plan_short b p d limit k bytes l);
      no_start = λ p d l z. ap (λ x. plan_code (answer_of x)) (paper.plan_no_start b p d limit k bytes l (count_zero (2 ^ p.F) (is_start p) z)).0;
      planned = λ p d l s hs e. tells p (decoded_fine b p d) (plan_of b limit k bytes) (paper.demand2 b p d limit k bytes l (some_start p s hs e));
    }
  where
    told_from : Result Planned Fault → Told
    told_from a = record {
      code = plan_code a;
      horizon = told_at (told (plan_numbers a) twenty) 1;
      effort = told_at (told (plan_numbers a) twenty) 2;
      rows = told_at (told (plan_numbers a) twenty) 3;
      root = told_at (told (plan_numbers a) twenty) 4;
    }

    tells : (p : Sheet) → Fine p → (o : Result Outcome Fault) → SaysOf p limit (room buf) o → spec.Tells p limit (room buf) (told_from (answer_of o)) (plan_schedule sch o)
    tells p fine (Err f) h = absurd h
    tells p fine (Ok o) h =
        subst (λ r. spec.Tells p limit (room buf) r (plan_schedule sch (Ok o))) (sym (told_said (Ok o.answer) (small p fine limit word buf o.table o.schedule o.answer h)))
        (says_planned p limit (room buf) o.answer o.table o.schedule h sch)

-- the call, and the four numbers read from its answer slice
pub told_is : (b : List ℕ) (limit : ℕ) (buf sch : List ℕ) (code horizon effort rows root : ℕ) (answer : List ℕ)
    → code ≡ (plan_left b limit buf sch twenty).code → answer ≡ (plan_left b limit buf sch twenty).answer
    → horizon ≡ long answer 4 → effort ≡ long answer 8 → rows ≡ long answer 12 → root ≡ long answer 16
    → record { code = code; horizon = horizon; effort = effort; rows = rows; root = root } ≡ spec.told_of b limit buf sch
unfolding spec.told_of
told_is b limit buf sch code horizon effort rows root answer c a h e r i = λ z. record {
  code = c z;
  horizon = (h ∙ ap (λ x. long x 4) a) z;
  effort = (e ∙ ap (λ x. long x 8) a) z;
  rows = (r ∙ ap (λ x. long x 12) a) z;
  root = (i ∙ ap (λ x. long x 16) a) z;
}

pub demand_of : (b : List ℕ) (limit : ℕ) → limit < 4294967296 → (buf sch : List ℕ) (r : Told) (Z : List ℕ)
    → r ≡ spec.told_of b limit buf sch → Z ≡ (plan_left b limit buf sch twenty).schedule → spec.Demand2 b limit (room buf) (length sch) r Z
demand_of b limit word buf sch r Z e s =
    subst (λ x. spec.Demand2 b limit (room buf) (length sch) x Z) (sym e)
    (subst (λ x. spec.Demand2 b limit (room buf) (length sch) (spec.told_of b limit buf sch) x) (sym s) (told_demand b limit word buf sch))
