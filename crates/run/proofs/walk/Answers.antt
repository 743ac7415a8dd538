use mathlib.Core.Path.{ap, ◌≡◌, sym, ◌∙◌}
use Rattle.std.proofs.Common.{refl}
use Rattle.paper.specs.declared.Moment.{Moment}
use Prim.Native.Nat.{◌+◌}
use native.Mathlib.Omega.{arith}
use lib.ListN.{get_or}
use Rattle.paper.specs.Step.{run}
use Rattle.run.proofs.Laws.{step_fits, entry_fits, run_on, run_failed, run_end}
use Rattle.run.proofs.walk.Goals as goal

pub loop-entry-init : goal.loop-entry-init
unfolding run
loop-entry-init c = (c.first-at.ensures, λ p w fit room. (room, refl))

pub loop-entry-preserved : goal.loop-entry-preserved
loop-entry-preserved c = let l = c.loop-entry in
    let a = c.args in
    let e : c.step-now.result.0 ≡ l.at.0 = ap (λ (m : Moment). m.0) c.step-now.ensures in
    let f : c.after-at.result.0 ≡ l.entry-index + 1 = omega (arith, ap (λ (m : Moment). m.0) c.after-at.ensures) in (
      f,
      λ p w fit room.
          let now = l.invariant.1 p w fit room in
          let moved = rw c.from.ensures at (sym (c.step.ensures p w (rw c.from.ensures (entry_fits p a.schedule.now fit l.entry-index (omega arith))) now.0) ∙ c.in-Ok.is) in
          (step_fits p (get_or a.schedule.now l.entry-index 0) l.state c.in-Ok.next now.0 moved, run_on p a.schedule.now l.entry-index l.state _ now.1 c.in-Ok.next (omega arith) moved),
    )

pub returns-in_default : goal.returns-in_default
returns-in_default c = let l = c.loop-entry in
    let a = c.args in
    let e : c.step-now.result.0 ≡ l.entry-index = ap (λ (m : Moment). m.0) c.step-now.ensures ∙ l.invariant.0 in (
      omega arith,
      λ p w fit room.
          let now = l.invariant.1 p w fit room in
          let failed = rw c.from.ensures at (sym (c.step.ensures p w (rw c.from.ensures (entry_fits p a.schedule.now fit l.entry-index (omega arith))) now.0) ∙ c.in_default.is) in
          rw e (run_failed p a.schedule.now l.entry-index l.state _ now.1 c.in_default.field-0 (omega arith) failed),
    )

pub returns : goal.returns
returns c = let l = c.loop-entry in
    let a = c.args in
    (omega arith, λ p w fit room. rw l.invariant.0 (run_end p a.schedule.now l.entry-index l.state _ (l.invariant.1 p w fit room).1 (omega arith)))
