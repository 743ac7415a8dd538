use mathlib.Core.Path.{sym, ◌∙◌}
use native.Mathlib.Omega.{arith}
use lib.ListN.{length}
use Rattle.paper.specs.Sheet.{sheet_of}
use Rattle.sheet.specs.Contents.{contents}
use Rattle.paper.specs.Operations.{room}
use Rattle.paper.proofs.Demand2.{sheet_started}
use Rattle.plan.proofs.Operation.{plans_as, short, no_start}
use Rattle.plan.proofs.plan_sheet.Goals as goal

pub returns-then-schedule-sheet : goal.returns-then-schedule-sheet
unfolding sheet_of
returns-then-schedule-sheet c = let a = c.args in
    short (contents a.sheet) a.limit (room a.table.now) (length a.schedule.now) a.table.now a.schedule.now c.if-schedule-sheet.true

pub returns-then-start_count-eq0 : goal.returns-then-start_count-eq0
unfolding sheet_of
returns-then-start_count-eq0 c = let a = c.args in
    no_start (contents a.sheet) a.limit (room a.table.now) (length a.schedule.now) a.table.now a.schedule.now (omega (arith, c.if-schedule-sheet.false)) (sym c.start_count.ensures ∙ c.if-start_count-eq0.true)

pub returns : goal.returns
unfolding sheet_of
returns c = let a = c.args in
    plans_as
    (sym (sheet_started (contents a.sheet) a.limit (room a.table.now) (length a.schedule.now) (omega (arith, c.if-schedule-sheet.false)) (let e = c.start_count.ensures in let z = c.if-start_count-eq0.false in omega arith))) c.horizons.ensures
