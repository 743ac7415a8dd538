-- The horizons one after the other, as the planner's loop follows the definition. Assumes nothing.
use mathlib.Core.Path.{◌≡◌, refl, sym, ap, ◌∙◌, subst}
use mathlib.Core.Bool.{true, false}
use mathlib.Core.List.{List}
use Prim.Native.Nat.{ℕ, zero, suc, ◌+◌, ◌-◌, ◌≤◌, ◌<◌}
use native.Mathlib.Omega.{arith}
use lib.ListN.{take}
use Rattle.paper.specs.declared.Whole.{Whole}
use Rattle.paper.specs.declared.Limit.TheVariants.{TooMuch, NoRoom}
use Rattle.std.specs.Prelude.{Ok, Err, Some, None}
use Rattle.std.specs.Prelude as std
use Rattle.paper.specs.declared.Planned.{Planned}
use Rattle.paper.specs.Sheet.{Sheet}
use Rattle.paper.specs.Clauses.{theory}
use Rattle.paper.specs.Circuit.{Built, compile, built_of}
use Rattle.paper.specs.Operations.{room, first_plan, Outcome, stopped, searched, at_horizon, no_plan, plan_from}
use Rattle.paper.specs.Answers.{compile_rows, plan_rows, plan_schedule}
use Rattle.paper.proofs.Basic.{never}
use Rattle.seek.specs.Seeking.{entries_of}
use Rattle.plan.specs.declared.Tried.{Tried}
use Rattle.plan.specs.Horizons.{Tries, ends, closing, scheduled, Plans}
use Rattle.plan.proofs.Tables.{Alike, alike_self, alike_room, rows_alike, left_alike}

-- ---- one horizon
module _ (p : Sheet) (n : ℕ) where
  -- the outcome if the planner ends with it
  abbrev pub planned : Whole → std.Option (List ℕ) → Outcome
  planned c (Some σ) = record { answer = Planned.Found n c; table = (compile (theory p n)).table; schedule = take n σ }
  planned c None = no_plan p n c

  abbrev pub closed : Built → std.Option (List ℕ) → Outcome
  closed (Err TooMuch) o = stopped (Planned.TooMuch n)
  closed (Err (NoRoom e)) o = stopped (Planned.NoRoom n e)
  closed (Ok c) o = planned c o

  abbrev Finds : Built → std.Option (List ℕ) → Type 0
  Finds b o = (c : Whole) → b ≡ Ok c → entries_of n o ≡ first_plan p n

  at_ends : (next : Whole → Outcome) (b : Built) (o : std.Option (List ℕ)) → Finds b o → ends b o ≡ true → at_horizon p n next b ≡ closed b o
  at_ends next (Err TooMuch) o f h = refl
  at_ends next (Err (NoRoom e)) o f h = refl
  at_ends next (Ok c) (Some σ) f h = ap (searched p n c (next c)) (sym (f c refl))
  at_ends next (Ok c) None f h = never h refl

  at_last : (b : Built) (o : std.Option (List ℕ)) → Finds b o → at_horizon p n (no_plan p n) b ≡ closed b o
  at_last (Err TooMuch) o f = refl
  at_last (Err (NoRoom e)) o f = refl
  at_last (Ok c) (Some σ) f = ap (searched p n c (no_plan p n c)) (sym (f c refl))
  at_last (Ok c) None f = ap (searched p n c (no_plan p n c)) (sym (f c refl))

  at_on : (q : Outcome) (b : Built) (o : std.Option (List ℕ)) → Finds b o → ends b o ≡ false → at_horizon p n (λ c. q) b ≡ q
  at_on q (Err l) o f h = never refl h
  at_on q (Ok c) (Some σ) f h = never refl h
  at_on q (Ok c) None f h = ap (searched p n c q) (sym (f c refl))

module _ (p : Sheet) (limit k n : ℕ) (b : Built) (o : std.Option (List ℕ)) (e : b ≡ built_of limit k (theory p n)) (f : (c : Whole) → b ≡ Ok c → entries_of n o ≡ first_plan p n) where
  pub plan_ends : (h : ℕ) → ends b o ≡ true → plan_from p limit k h n ≡ closed p n b o
  unfolding plan_from
  plan_ends zero d = ap (at_horizon p n (no_plan p n)) (sym e) ∙ at_ends p n (no_plan p n) b o f d
  plan_ends (suc h) d = ap (at_horizon p n (λ c. plan_from p limit k h (n + 1))) (sym e) ∙ at_ends p n (λ c. plan_from p limit k h (n + 1)) b o f d

  pub plan_last : plan_from p limit k 0 n ≡ closed p n b o
  unfolding plan_from
  plan_last = ap (at_horizon p n (no_plan p n)) (sym e) ∙ at_last p n b o f

  pub plan_on : (h : ℕ) → ends b o ≡ false → plan_from p limit k (suc h) n ≡ plan_from p limit k h (n + 1)
  unfolding plan_from
  plan_on h d = ap (at_horizon p n (λ c. plan_from p limit k h (n + 1))) (sym e) ∙ at_on p n (plan_from p limit k h (n + 1)) b o f d

-- a horizon tried with a table in the place of T is as if tried with T
tried_as : (p : Sheet) (limit : ℕ) (T U : List ℕ) (n : ℕ) (a : Tried) (U' : List ℕ) → Alike T U → Tries p limit U n a U' → Tries p limit T n a U'
tried_as p limit T U n a U' h t = record {
  built_is = t.built_is ∙ ap (λ m. built_of limit m (theory p n)) (alike_room h);
  rows_are = t.rows_are ∙ rows_alike (compile (theory p n)).table a.built h;
  found_is = t.found_is;
}

-- ---- the loop: the horizons before n were passed, and the table is U
pub record At (p : Sheet) (limit : ℕ) (T : List ℕ) (last n : ℕ) (U : List ℕ) : Type 0 where
  pub most : n ≤ last
  pub same : plan_from p limit (room T) last 0 ≡ plan_from p limit (room T) (last - n) n
  pub alike : Alike T U

pub at_first : (p : Sheet) (limit : ℕ) (T : List ℕ) (last : ℕ) → At p limit T last 0 T
at_first p limit T last = record { most = omega arith; same = ap (λ m. plan_from p limit (room T) m 0) (omega arith); alike = alike_self T }

pub at_next : (p : Sheet) (limit : ℕ) (T : List ℕ) (last n : ℕ) (U : List ℕ) (a : Tried) (U' : List ℕ) → At p limit T last n U → n < last → Tries p limit U n a U'
    → ends a.built a.found ≡ false → At p limit T last (n + 1) U'
at_next p limit T last n U a U' h l t d =
    let w = tried_as p limit T U n a U' h.alike t in
    let one : last - n ≡ suc (last - (n + 1)) = omega arith in
    record {
      most = omega arith;
      same = h.same ∙ ap (λ m. plan_from p limit (room T) m n) one ∙ plan_on p limit (room T) n a.built a.found w.built_is w.found_is (last - (n + 1)) d;
      alike = subst (Alike T) (sym w.rows_are) (left_alike limit (theory p n) T a.built w.built_is);
    }

-- at the end of the loop the horizon in hand is the last
pub at_last_one : {p : Sheet} {limit : ℕ} {T : List ℕ} {last n : ℕ} {U : List ℕ} → At p limit T last n U → last ≤ n → At p limit T last last U
at_last_one {p} {limit} {T} {last} {n} {U} h l = let m = h.most in let e : n ≡ last = omega arith in subst (λ k. At p limit T last k U) e h

-- ---- the end
closing_answer : (p : Sheet) (n : ℕ) (b : Built) (o : std.Option (List ℕ)) → closing n b o ≡ (closed p n b o).answer
closing_answer p n (Err TooMuch) o = refl
closing_answer p n (Err (NoRoom e)) o = refl
closing_answer p n (Ok c) (Some σ) = refl
closing_answer p n (Ok c) None = refl

closing_rows : (p : Sheet) (n : ℕ) (b : Built) (o : std.Option (List ℕ)) (T : List ℕ) → compile_rows (compile (theory p n)).table T (Ok b) ≡ plan_rows T (Ok (closed p n b o))
closing_rows p n (Err TooMuch) o T = refl
closing_rows p n (Err (NoRoom e)) o T = refl
closing_rows p n (Ok c) (Some σ) T = refl
closing_rows p n (Ok c) None T = refl

closing_schedule : (p : Sheet) (n : ℕ) (b : Built) (o : std.Option (List ℕ)) (S : List ℕ) → scheduled n b o S ≡ plan_schedule S (Ok (closed p n b o))
closing_schedule p n (Err TooMuch) o S = refl
closing_schedule p n (Err (NoRoom e)) o S = refl
closing_schedule p n (Ok c) (Some σ) S = refl
closing_schedule p n (Ok c) None S = refl

module _ (p : Sheet) (limit : ℕ) (T S : List ℕ) (last n : ℕ) (U : List ℕ) (a : Tried) (U' : List ℕ) (h : At p limit T last n U) (t : Tries p limit U n a U') (r : Planned) (Z : List ℕ)
    (q : r ≡ closing n a.built a.found) (v : Z ≡ scheduled n a.built a.found S) where
  here : Tries p limit T n a U'
  here = tried_as p limit T U n a U' h.alike t

  finished : plan_from p limit (room T) last 0 ≡ closed p n a.built a.found → Plans T S (Ok (plan_from p limit (room T) last 0)) (Ok r) U' Z
  finished e =
      subst (λ o. Plans T S (Ok o) (Ok r) U' Z) (sym e) (record {
        answer_is = ap Ok (q ∙ closing_answer p n a.built a.found);
        rows_are = here.rows_are ∙ closing_rows p n a.built a.found T;
        schedule_is = v ∙ closing_schedule p n a.built a.found S;
      })

  -- with a horizon that ends it, or with the last one
  pub plan_ended : ends a.built a.found ≡ true → Plans T S (Ok (plan_from p limit (room T) last 0)) (Ok r) U' Z
  plan_ended d = finished (h.same ∙ plan_ends p limit (room T) n a.built a.found here.built_is here.found_is (last - n) d)

  pub plan_done : last ≤ n → Plans T S (Ok (plan_from p limit (room T) last 0)) (Ok r) U' Z
  plan_done l =
      let m = h.most in
      let z : last - n ≡ 0 = omega arith in
      finished (h.same ∙ ap (λ x. plan_from p limit (room T) x n) z ∙ plan_last p limit (room T) n a.built a.found here.built_is here.found_is)
