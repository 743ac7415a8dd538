-- The operation run: what its test of the call says, and its answer. Assumes nothing.
use mathlib.Core.Path.{◌≡◌, ap}
use mathlib.Core.Bool.{true, ◌&&◌}
use mathlib.Core.List.{List}
use Prim.Native.Nat.{ℕ, ◌^◌, ◌≤◌, ◌<◌}
use native.Mathlib.Nat.{le_trans}
use native.Mathlib.Omega.{arith}
use lib.Dec.{ltb, leb}
use lib.ListN.{length, get_or}
use lib.Pow.{pow_mono}
use borrow.Author.Tests.{ltb-true, leb-true}
use Rattle.std.specs.Prelude.{Ok}
use Rattle.paper.specs.declared.Run.{Run}
use Rattle.paper.specs.Sheet.{Sheet, Fine, fits, is_goal}
use Rattle.paper.specs.Step.{entries_fit, run}
use Rattle.paper.specs.Operations.{good_run, ended, run_sheet}
use Rattle.paper.proofs.Basic.{and_e}
use Rattle.run.proofs.Laws.{entry_fits}

-- a call that is not refused, of a well-formed sheet
pub record Good (p : Sheet) (s : ℕ) (σ : List ℕ) : Type 0 where
  pub state_fits : s < 2 ^ p.F
  pub small : s < 65536
  pub short : length σ ≤ 8
  pub entries : entries_fit p σ ≡ true
  pub entries_most : (i : ℕ) → i < length σ → get_or σ i 0 ≤ 12

pub good : (p : Sheet) (s : ℕ) (σ : List ℕ) → Fine p → good_run p s σ ≡ true → Good p s σ
unfolding good_run fits
good p s σ fine e =
    let g = and_e (ltb s (2 ^ p.F)) (leb (length σ) 8 && entries_fit p σ) e in
    let h = and_e (leb (length σ) 8) (entries_fit p σ) g.1 in
    let f : s < 2 ^ p.F = ltb-true s (2 ^ p.F) g.0 in
    let m : 2 ^ p.F ≤ 2 ^ 12 = pow_mono fine.facts_most in
    record {
      state_fits = f;
      small = omega arith;
      short = leb-true (length σ) 8 h.0;
      entries = h.1;
      entries_most = λ i l. le_trans (entry_fits p σ h.1 i l) fine.actions_most;
    }

pub run_went : (p : Sheet) (s : ℕ) (σ : List ℕ) (r : Run) → good_run p s σ ≡ true → r ≡ run p s σ
    → Ok (record { done = r.done; state = r.state; goal = r.whole && is_goal p r.state }) ≡ run_sheet s σ p
run_went p s σ r e w = rw e (ap (λ x. Ok (ended p x)) w)
