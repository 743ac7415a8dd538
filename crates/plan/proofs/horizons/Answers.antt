use mathlib.Core.Path.{sym, ap, ◌∙◌}
use native.Mathlib.Omega.{arith}
use Rattle.sheet.specs.Contents.{contents}
use Rattle.plan.specs.Horizons.{scheduled}
use Rattle.plan.proofs.Tables.{filled_starts}
use Rattle.plan.proofs.Loop.{at_next, at_last_one, plan_ended, plan_done}
use borrow.Author.Rules.{rules}
use Rattle.plan.proofs.horizons.Goals as goal

pub try_horizon-tried-requires : goal.try_horizon-tried-requires
try_horizon-tried-requires c = let l = c.loop-n in
    let m = l.invariant.3.most in
    let w = c.args.sheet.parts.whole.bounds.horizon_most in
    (omega arith, filled_starts (contents c.args.sheet) c.start_words-starts.result c.start_words-starts.ensures)

pub returns-then-ends : goal.returns-then-ends
returns-then-ends c = let a = c.args in
    let l = c.loop-n in
    let f = c.finish in
    let t = c.try_horizon-tried in
    plan_ended (contents a.sheet) a.limit a.table.now a.schedule.now a.sheet.parts.trailer.horizon l.n l.table t.result _ l.invariant.3 t.ensures f.result _ f.ensures.answer
    (f.ensures.schedule ∙ ap (scheduled l.n t.result.built t.result.found) l.invariant.1) (sym c.ends.ensures ∙ c.if-ends.true)

pub loop-n-preserved : goal.loop-n-preserved
loop-n-preserved c = let a = c.args in
    let l = c.loop-n in
    let t = c.try_horizon-tried in
    (search rules, l.invariant.1, l.invariant.2, at_next (contents a.sheet) a.limit a.table.now a.sheet.parts.trailer.horizon l.n l.table t.result _ l.invariant.3 (omega (arith, c.loop-n-test.true)) t.ensures (sym c.ends.ensures ∙ c.if-ends.false))

pub try_horizon-tried-requires-2 : goal.try_horizon-tried-requires-2
try_horizon-tried-requires-2 c = let l = c.loop-n in
    let m = l.invariant.3.most in
    let w = c.args.sheet.parts.whole.bounds.horizon_most in
    (omega arith, filled_starts (contents c.args.sheet) c.start_words-starts.result c.start_words-starts.ensures)

pub returns : goal.returns
returns c = let a = c.args in
    let l = c.loop-n in
    let f = c.finish-2 in
    let t = c.try_horizon-tried-2 in
    plan_done (contents a.sheet) a.limit a.table.now a.schedule.now a.sheet.parts.trailer.horizon a.sheet.parts.trailer.horizon l.table t.result _ (at_last_one l.invariant.3 (omega (arith, c.loop-n-test.false))) t.ensures f.result _ f.ensures.answer
    (f.ensures.schedule ∙ ap (scheduled a.sheet.parts.trailer.horizon t.result.built t.result.found) l.invariant.1) (omega arith)
