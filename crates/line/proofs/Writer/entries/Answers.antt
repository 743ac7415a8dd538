use mathlib.Core.Path.{refl, ◌∙◌}
use native.Mathlib.Omega.{arith}
use Rattle.std.proofs.Common.{rules}
use Rattle.line.proofs.Laws.{entries_none, entries_more, entries_fit_lem}
use Rattle.line.proofs.Writer.entries.Goals as goal

pub loop-e-init : goal.loop-e-init
loop-e-init c = let w = c.args.self.now in
    (refl, refl, entries_none w.at c.args.s.now w.out.now)

pub spaced-requires : goal.spaced-requires
spaced-requires c = let l = c.loop-e in
    let f = entries_fit_lem l.e-index c.args.s.now l.invariant.2 in
    let k = c.requires in
    let g = l.invariant.1 in
    let t = c.loop-e-test.true in
    omega arith

pub loop-e-preserved : goal.loop-e-preserved
loop-e-preserved c = let l = c.loop-e in
    let w = rw c.from.ensures at c.spaced.ensures.written in
    let f = entries_fit_lem l.e-index c.args.s.now l.invariant.2 in
    let k = c.requires in
    let g = l.invariant.1 in
    let t = c.loop-e-test.true in (
      search rules,
      c.spaced.ensures.len ∙ g,
      entries_more l.e-index c.args.s.now (omega arith) t l.invariant.2 w,
    )
