use mathlib.Core.Path.{◌≡◌}
use mathlib.Core.List.{[]}
use Prim.Native.Nat.{◌<◌}
use borrow.Author.Rules.{rules}
use native.Mathlib.Omega.{arith}
use lib.ListN.{get_or, take, length}
use Rattle.std.proofs.lemmas.List.{get_or-take, length-take}
use Rattle.paper.specs.Counting.{some_below}
use Rattle.paper.proofs.Bits.{bit_nil}
use Rattle.run.proofs.Laws.{one_set_more}
use Rattle.run.proofs.set_mask.Goals as goal

pub loop-rule-init : goal.loop-rule-init
unfolding some_below
loop-rule-init c = λ F k fit. bit_nil k

pub loop-rule-preserved : goal.loop-rule-preserved
loop-rule-preserved c = let l = c.loop-rule in
    let lt : l.rule-index < c.args.n = omega (arith, length-take c.args.n c.args.rules, c.loop-rule-test.true) in λ F k fit.
    let f = fit l.rule-index (omega arith) in
    let here : get_or (take c.args.n c.args.rules) l.rule-index [] ≡ get_or c.args.rules l.rule-index [] = get_or-take c.args.n c.args.rules l.rule-index [] lt in
    let new = rw here at (c.fired-mask.ensures F k) in
    one_set_more _ _ l.rule-index k _ (l.invariant F k (λ r lt. fit r (omega arith))) (new f.0 f.1)

pub returns : goal.returns
returns c = λ F k fit. let e : c.loop-rule.rule-index ≡ c.args.n = let h : length c.args.rules ≡ 24 = search rules in omega (arith, length-take c.args.n c.args.rules) in rw e at (c.loop-rule.invariant F k (λ r lt. fit r (omega arith)))
