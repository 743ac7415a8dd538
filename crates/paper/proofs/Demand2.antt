-- Demand 2 over the definitions: the planner is sound, least, first and complete, and stops for effort or room exactly by the counts. Assumes nothing.
use mathlib.Core.Path.{◌≡◌, refl, sym, ap, ◌∙◌, subst}
use mathlib.Core.Bool.{Bool, true, false}
use mathlib.Core.List.{List}
use mathlib.Core.Option.{Option, none, some}
use Prim.Native.Nat.{ℕ, zero, suc, ◌+◌, ◌^◌, ◌≤◌, ◌<◌}
use lib.ListN.{length}
use native.Mathlib.Omega.{arith}
use borrow.Author.Tests.{le-leb, lt-leb}
use Rattle.std.specs.Prelude.{Ok, Err}
use Rattle.paper.specs.declared.Whole.{Whole}
use Rattle.paper.specs.declared.Fault.TheVariants.{ShortSchedule, NoStart}
use Rattle.paper.specs.declared.Planned.{Planned}
use Rattle.paper.specs.Counting.{worth, count_below}
use Rattle.paper.specs.Sheet.{Sheet, decode, is_start, start_count}
use Rattle.paper.specs.Step.{is_plan}
use Rattle.paper.specs.Clauses.{theory}
use Rattle.paper.specs.Circuit.{built_of, effort, Table, compile}
use Rattle.paper.specs.Operations.{◌>>=◌, Schedule, first_plan, valid, First, Outcome, searched, at_horizon, no_plan, plan_from, plan_starts, plan_sheet, plan_of}
use Rattle.paper.specs.Planning.{Says, Answered, NoPlanAt, Passed, AllPassed, SaysOf}
use Rattle.paper.proofs.Basic.{never}
use Rattle.paper.proofs.Lists.{below_suc}
use Rattle.paper.proofs.Limits.{built_cases}
use Rattle.paper.proofs.FirstSchedule.{schedules_first}

module _ (p : Sheet) (limit k : ℕ) where
  first_plan_lem : (n : ℕ) → First (valid p.A n) (is_plan p) (first_plan p n)
  unfolding first_plan
  first_plan_lem n = schedules_first p.A n (is_plan p)

  passed_more : (n : ℕ) → AllPassed p limit k n → Passed p limit k n → AllPassed p limit k (suc n)
  passed_more n h x m l = below_suc (Passed p limit k) n m l (h m) x

  -- one horizon, and what follows where it has no plan
  at_says : (n : ℕ) (next : Whole → Outcome) → n ≤ p.H → AllPassed p limit k n
      → ((c : Whole) → Answered limit k (theory p n) c.effort c.rows c.root → NoPlanAt p n → SaysOf p limit k (Ok (next c)))
      → SaysOf p limit k (Ok (at_horizon p n next (built_of limit k (theory p n))))
  at_says n next l h f = built_cases limit k (theory p n) (λ x. SaysOf p limit k (Ok (at_horizon p n next x)))
      (λ a. (l, h, a))
      (λ a b. (l, h, (a, refl), b))
      (λ c a. found c a (first_plan p n) (first_plan_lem n))
    where
      found : (c : Whole) → Answered limit k (theory p n) c.effort c.rows c.root → (o : Option Schedule) → First (valid p.A n) (is_plan p) o → SaysOf p limit k (Ok (searched p n c (next c) o))
      found c a none g = f c a g
      found c a (some σ) g = (l, h, a, refl, g)

  from_says : (h n : ℕ) → n + h ≡ p.H → AllPassed p limit k n → SaysOf p limit k (Ok (plan_from p limit k h n))
  unfolding plan_from
  from_says zero n e g = at_says n (no_plan p n) (omega arith) g (λ c a b. (omega arith, passed_more n g (a.within_effort, a.within_room, b), a, refl))
  from_says (suc h) n e g = at_says n (λ c. plan_from p limit k h (n + 1)) (omega arith) g (λ c a b.
      from_says h (n + 1) (omega arith) (λ m l. passed_more n g (a.within_effort, a.within_room, b) m (omega arith)))

-- a yes counts
worth_none : (b : Bool) → worth b 1 ≡ 0 → b ≡ false
unfolding worth
worth_none true e = absurd (omega arith)
worth_none false e = refl

-- a count of 0 means that none passes
pub count_none : (n : ℕ) (f : ℕ → Bool) → count_below n f ≡ 0 → (m : ℕ) → m < n → f m ≡ false
unfolding count_below
count_none zero f h m l = absurd (omega arith)
count_none (suc n) f h m l = below_suc (λ i. f i ≡ false) n m l (count_none n f (omega arith) m) (worth_none (f n) (omega arith))

-- a sheet that was accepted: 5, 6, or the horizons from 0 on
module _ (p : Sheet) (limit k bytes : ℕ) where
  pub sheet_short : bytes < p.H → plan_sheet limit k bytes p ≡ Err ShortSchedule
  sheet_short l = rw (lt-leb p.H bytes l)

  pub sheet_no_start : p.H ≤ bytes → start_count p ≡ 0 → plan_sheet limit k bytes p ≡ Err NoStart
  sheet_no_start l z = rw (le-leb p.H bytes l, z)

  pub sheet_started : p.H ≤ bytes → 0 < start_count p → plan_sheet limit k bytes p ≡ Ok (plan_from p limit k p.H 0)
  sheet_started l s = rw (le-leb p.H bytes l) (planned_as (start_count p) (plan_from p limit k p.H 0) s)
    where
      planned_as : (n : ℕ) (o : Outcome) → 0 < n → plan_starts n o ≡ Ok o
      planned_as zero o h = absurd (omega arith)
      planned_as (suc n) o h = refl

pub plan_decoded : (b : List ℕ) (p : Sheet) → decode b ≡ Ok p → (limit k bytes : ℕ) → plan_of b limit k bytes ≡ plan_sheet limit k bytes p
unfolding plan_of
plan_decoded b p d limit k bytes = ap (λ x. x >>= plan_sheet limit k bytes) d

-- 5: the schedule buffer is shorter than H
pub plan_short : (b : List ℕ) (p : Sheet) → decode b ≡ Ok p → (limit k bytes : ℕ) → bytes < p.H → plan_of b limit k bytes ≡ Err ShortSchedule
plan_short b p d limit k bytes l = plan_decoded b p d limit k bytes ∙ sheet_short p limit k bytes l

-- 6: no state is a start
pub plan_no_start : (b : List ℕ) (p : Sheet) → decode b ≡ Ok p → (limit k bytes : ℕ) → p.H ≤ bytes → start_count p ≡ 0
    → (plan_of b limit k bytes ≡ Err NoStart) × ((s : ℕ) → s < 2 ^ p.F → is_start p s ≡ false)
unfolding start_count
plan_no_start b p d limit k bytes l z = (plan_decoded b p d limit k bytes ∙ sheet_no_start p limit k bytes l z, count_none (2 ^ p.F) (is_start p) z)

-- demand 2: with a start, the answer is 7, 8, 9 or 0, and says what it is to say
pub demand2 : (b : List ℕ) (p : Sheet) → decode b ≡ Ok p → (limit k bytes : ℕ) → p.H ≤ bytes → 0 < start_count p → SaysOf p limit k (plan_of b limit k bytes)
demand2 b p d limit k bytes l s =
    subst (SaysOf p limit k) (sym (plan_decoded b p d limit k bytes ∙ sheet_started p limit k bytes l s)) (from_says p limit k p.H 0 (omega arith) (λ m h. absurd (omega arith)))

-- ---- what demand 2 says has one answer
module _ (p : Sheet) (limit k : ℕ) where
  -- two horizons that are the first not passed are one
  same_horizon : (n m : ℕ) → AllPassed p limit k n → (Passed p limit k n → ⊥) → AllPassed p limit k m → (Passed p limit k m → ⊥) → n ≡ m
  same_horizon n m a f b g =
      let x : n < m → ⊥ = λ l. f (b n l) in
      let y : m < n → ⊥ = λ l. g (a m l) in
      omega arith

  much : (n : ℕ) → limit < effort (theory p n) → Passed p limit k n → ⊥
  much n h x = let y = x.0 in omega arith

  full : (n : ℕ) → k < length (compile (theory p n)).table → Passed p limit k n → ⊥
  full n h x = let y = x.1 in omega arith

  planned : (n : ℕ) (σ : Schedule) → First (valid p.A n) (is_plan p) (some σ) → Passed p limit k n → ⊥
  planned n σ h x = let z : ◌≡◌ {A = ℕ} 0 1 = never h.1 (x.2 σ h.0) in omega arith

  same_whole : (n m : ℕ) (c d : Whole) → n ≡ m → Answered limit k (theory p n) c.effort c.rows c.root → Answered limit k (theory p m) d.effort d.rows d.root → c ≡ d
  same_whole n m c d q a b =
      let e = sym a.effort_is ∙ ap (λ x. effort (theory p x)) q ∙ b.effort_is in
      let r = sym a.rows_are ∙ ap (λ x. length (compile (theory p x)).table) q ∙ b.rows_are in
      let i = sym a.root_is ∙ ap (λ x. (compile (theory p x)).root) q ∙ b.root_is in
      λ z. record { effort = e z; rows = r z; root = i z }

  -- two answers of different kinds do not both say what they are to say
  module _ (n m : ℕ) (t u : Table) (σ τ : Schedule) where
    much_room : (d : ℕ) → Says p limit k (Planned.TooMuch n) t σ → Says p limit k (Planned.NoRoom m d) u τ → ⊥
    much_room d h g =
        let q = same_horizon n m h.1 (much n h.2) g.1 (full m g.3) in
        let x = subst (λ z. limit < effort (theory p z)) q h.2 in
        let y = g.2.0 in
        omega arith

    much_none : (d : Whole) → Says p limit k (Planned.TooMuch n) t σ → Says p limit k (Planned.NoPlan m d) u τ → ⊥
    much_none d h g = much n h.2 (g.1 n (let x = h.0 in let y = g.0 in omega arith))

    much_found : (d : Whole) → Says p limit k (Planned.TooMuch n) t σ → Says p limit k (Planned.Found m d) u τ → ⊥
    much_found d h g =
        let q = same_horizon n m h.1 (much n h.2) g.1 (planned m τ g.4) in
        let x = subst (λ z. limit < effort (theory p z)) q h.2 in
        let y = g.2.within_effort in
        omega arith

    room_none : (e : ℕ) (d : Whole) → Says p limit k (Planned.NoRoom n e) t σ → Says p limit k (Planned.NoPlan m d) u τ → ⊥
    room_none e d h g = full n h.3 (g.1 n (let x = h.0 in let y = g.0 in omega arith))

    room_found : (e : ℕ) (d : Whole) → Says p limit k (Planned.NoRoom n e) t σ → Says p limit k (Planned.Found m d) u τ → ⊥
    room_found e d h g =
        let q = same_horizon n m h.1 (full n h.3) g.1 (planned m τ g.4) in
        let x = subst (λ z. k < length (compile (theory p z)).table) q h.3 in
        let y = g.2.within_room in
        omega arith

    none_found : (c d : Whole) → Says p limit k (Planned.NoPlan n c) t σ → Says p limit k (Planned.Found m d) u τ → ⊥
    none_found c d h g = planned m τ g.4 (h.1 m (let x = h.0 in let y = g.0 in omega arith))

  -- any two answers that say what they are to say are equal
  pub says_one : (a b : Planned) (t u : Table) (σ τ : Schedule) → Says p limit k a t σ → Says p limit k b u τ → a ≡ b
  says_one (Planned.TooMuch n) (Planned.TooMuch m) t u σ τ h g = ap Planned.TooMuch (same_horizon n m h.1 (much n h.2) g.1 (much m g.2))
  says_one (Planned.TooMuch n) (Planned.NoRoom m d) t u σ τ h g = absurd (much_room n m t u σ τ d h g)
  says_one (Planned.TooMuch n) (Planned.NoPlan m d) t u σ τ h g = absurd (much_none n m t u σ τ d h g)
  says_one (Planned.TooMuch n) (Planned.Found m d) t u σ τ h g = absurd (much_found n m t u σ τ d h g)
  says_one (Planned.NoRoom n e) (Planned.TooMuch m) t u σ τ h g = absurd (much_room m n u t τ σ e g h)
  says_one (Planned.NoRoom n e) (Planned.NoRoom m d) t u σ τ h g =
      let q = same_horizon n m h.1 (full n h.3) g.1 (full m g.3) in
      let x = h.2.1 in
      let y = g.2.1 in
      cc
  says_one (Planned.NoRoom n e) (Planned.NoPlan m d) t u σ τ h g = absurd (room_none n m t u σ τ e d h g)
  says_one (Planned.NoRoom n e) (Planned.Found m d) t u σ τ h g = absurd (room_found n m t u σ τ e d h g)
  says_one (Planned.NoPlan n c) (Planned.TooMuch m) t u σ τ h g = absurd (much_none m n u t τ σ c g h)
  says_one (Planned.NoPlan n c) (Planned.NoRoom m d) t u σ τ h g = absurd (room_none m n u t τ σ d c g h)
  says_one (Planned.NoPlan n c) (Planned.NoPlan m d) t u σ τ h g = let q = h.0 ∙ sym g.0 in (λ z. Planned.NoPlan (q z) (same_whole n m c d q h.2 g.2 z))
  says_one (Planned.NoPlan n c) (Planned.Found m d) t u σ τ h g = absurd (none_found n m t u σ τ c d h g)
  says_one (Planned.Found n c) (Planned.TooMuch m) t u σ τ h g = absurd (much_found m n u t τ σ c g h)
  says_one (Planned.Found n c) (Planned.NoRoom m d) t u σ τ h g = absurd (room_found m n u t τ σ d c g h)
  says_one (Planned.Found n c) (Planned.NoPlan m d) t u σ τ h g = absurd (none_found m n u t τ σ d c g h)
  says_one (Planned.Found n c) (Planned.Found m d) t u σ τ h g =
      let q = same_horizon n m h.1 (planned n σ h.4) g.1 (planned m τ g.4) in (λ z. Planned.Found (q z) (same_whole n m c d q h.2 g.2 z))
