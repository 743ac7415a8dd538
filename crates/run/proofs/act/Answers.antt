use mathlib.Core.Path.{sym, ◌∙◌}
use Prim.Native.Nat.{◌-◌}
use native.Mathlib.Omega.{arith}
use Rattle.run.proofs.Laws.{conds_fit, need_read, unmet, met_clashed, met_ran}
use borrow.Author.Rules.{rules}
use Rattle.run.proofs.act.Goals as goal

pub returns-then-not-meets : goal.returns-then-not-meets
returns-then-not-meets c = λ p w hi fit.
    let a = c.args in
    let met = c.meets in
    let m = need_read p a.needs a.rules a.n w (a.a - 1) a.s met.result (omega arith) met.ensures in
    unmet p (a.a - 1) a.s (sym m ∙ c.if-not-meets.true)

pub returns-then-ones-zeros-ne0 : goal.returns-then-ones-zeros-ne0
returns-then-ones-zeros-ne0 c = λ p w hi fit.
    let a = c.args in
    let o = c.set_mask-ones in
    let z = c.set_mask-zeros in
    let met = c.meets in
    let m = need_read p a.needs a.rules a.n w (a.a - 1) a.s met.result (omega arith) met.ensures in
    let in-facts = conds_fit p a.needs a.rules a.n w in
    met_clashed p a.needs a.rules a.n w a.a a.s o.result z.result (λ k. o.ensures p.F k in-facts) (λ k. z.ensures p.F k in-facts)
    (omega arith) (search rules) (sym m ∙ c.if-not-meets.false) c.if-ones-zeros-ne0.true

pub returns : goal.returns
returns c = λ p w hi fit.
    let a = c.args in
    let o = c.set_mask-ones in
    let z = c.set_mask-zeros in
    let met = c.meets in
    let m = need_read p a.needs a.rules a.n w (a.a - 1) a.s met.result (omega arith) met.ensures in
    let in-facts = conds_fit p a.needs a.rules a.n w in
    met_ran p a.needs a.rules a.n w a.a a.s o.result z.result (λ k. o.ensures p.F k in-facts) (λ k. z.ensures p.F k in-facts)
    (omega arith) (search rules) (sym m ∙ c.if-not-meets.false) c.if-ones-zeros-ne0.false
    fit c.apply.result (search rules) c.apply.ensures
