use Rattle.std.specs.Prelude.{Ok}
use mathlib.Core.Path.{◌≡◌, refl, sym, ap, ◌∙◌}
use mathlib.Core.Bool.{true, ◌&&◌}
use Rattle.paper.specs.Sheet.{sheet_of}
use Rattle.sheet.specs.Contents.{contents}
use Rattle.paper.specs.Operations.{good_run}
use Rattle.sheet.specs.Writes.{Writes}
use Rattle.run.proofs.Operation.{good, run_went}
use borrow.Author.Rules.{rules}
use Rattle.run.proofs.run_sheet.Goals as goal

pub overflow_cast-state : goal.overflow_cast-state
overflow_cast-state c = let a = c.args in
    let p = contents a.sheet in
    let g = good p a.state a.schedule.now a.sheet.fine (sym c.good_run.ensures ∙ c.if-not-good_run.false) in
    record { fits = g.small }

pub walk-r-requires : goal.walk-r-requires
walk-r-requires c = let a = c.args in
    let p = contents a.sheet in
    let g = good p a.state a.schedule.now a.sheet.fine (sym c.good_run.ensures ∙ c.if-not-good_run.false) in
    (search rules, g.short, g.entries_most)

pub returns : goal.returns
unfolding sheet_of
returns c = let a = c.args in
    let p = contents a.sheet in
    let fine = a.sheet.fine in
    let ok : good_run p a.state a.schedule.now ≡ true = sym c.good_run.ensures ∙ c.if-not-good_run.false in
    let g = good p a.state a.schedule.now fine ok in
    let writes : Writes p c.needs.result c.rules.result a.sheet.parts.trailer.rules =
    record { fine = fine; needs_are = c.needs.ensures; rules_are = c.rules.ensures; rules_count = refl } in
    ap (λ x. Ok (record { done = c.walk-r.result.done; state = c.walk-r.result.state; goal = c.walk-r.result.whole && x })) c.is_goal-goal.ensures
    ∙ run_went p a.state a.schedule.now c.walk-r.result ok (c.walk-r.ensures.1 p writes g.entries g.state_fits)
