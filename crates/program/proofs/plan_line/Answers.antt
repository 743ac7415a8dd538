use mathlib.Core.Path.{refl, sym}
use native.Mathlib.Omega.{arith}
use lib.Seq.{length-take-le}
use Rattle.line.proofs.Laws.{writes_as}
use Rattle.program.proofs.Laws.{room_is, count_most, line_planned}
use Rattle.program.proofs.plan_line.Goals as goal

pub slice_bounds-schedule-end : goal.slice_bounds-schedule-end
slice_bounds-schedule-end c =
    let p = c.plan-p in
    let m = count_most c.args.input.now _ _ p.result c.entries.result p.ensures.answer c.entries.ensures in
    omega arith

pub slice_bounds-line-end : goal.slice_bounds-line-end
slice_bounds-line-end c =
    let p = c.plan-p in
    let m = count_most c.args.input.now _ _ p.result c.entries.result p.ensures.answer c.entries.ensures in
    sym (length-take-le c.entries.result p.new.schedule (omega arith))

pub returns : goal.returns
returns c = let a = c.args in
    let p = c.plan-p in
    writes_as (line_planned a.input.now _ _ p.result c.entries.result p.ensures.answer c.entries.ensures _ _ _ _ room_is refl p.ensures.schedule c.plan_numbers-numbers.ensures c.plan_code-code.ensures) c.line.ensures
