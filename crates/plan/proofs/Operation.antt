-- The operation plan: refusals, and where the horizons begin. Assumes nothing.
use mathlib.Core.Path.{◌≡◌, refl, sym, subst}
use mathlib.Core.List.{List}
use Prim.Native.Nat.{ℕ, ◌≤◌, ◌<◌}
use Rattle.std.specs.Prelude.{Result, Err}
use Rattle.paper.specs.declared.Fault.{Fault}
use Rattle.paper.specs.declared.Fault.TheVariants.{ShortSchedule, NoStart}
use Rattle.paper.specs.declared.Planned.{Planned}
use Rattle.paper.specs.Sheet.{Sheet, start_count}
use Rattle.paper.specs.Operations.{Outcome, plan_sheet}
use Rattle.paper.proofs.Demand2.{sheet_short, sheet_no_start}
use Rattle.plan.specs.Horizons.{Plans}

-- a refusal leaves both buffers as they were lent
refused_plans : (T S : List ℕ) (f : Fault) (o : Result Outcome Fault) → o ≡ Err f → Plans T S o (Err f) T S
refused_plans T S f o e = subst (λ x. Plans T S x (Err f) T S) (sym e) (record { answer_is = refl; rows_are = refl; schedule_is = refl })

pub plans_as : {T S : List ℕ} {o o' : Result Outcome Fault} {r : Result Planned Fault} {U Z : List ℕ} → o ≡ o' → Plans T S o r U Z → Plans T S o' r U Z
plans_as {T} {S} {o} {o'} {r} {U} {Z} e h = subst (λ x. Plans T S x r U Z) e h

-- a sheet that was accepted
module _ (p : Sheet) (limit k bytes : ℕ) (T S : List ℕ) where
  pub short : bytes < p.H → Plans T S (plan_sheet limit k bytes p) (Err ShortSchedule) T S
  short h = refused_plans T S ShortSchedule (plan_sheet limit k bytes p) (sheet_short p limit k bytes h)

  pub no_start : p.H ≤ bytes → start_count p ≡ 0 → Plans T S (plan_sheet limit k bytes p) (Err NoStart) T S
  no_start h e = refused_plans T S NoStart (plan_sheet limit k bytes p) (sheet_no_start p limit k bytes h e)
