use mathlib.Core.Path.{sym, ◌∙◌}
use Prim.Native.Nat.{◌+◌}
use native.Mathlib.Omega.{arith}
use Rattle.prefixes.specs.Circuits.{fixed_steps}
use Rattle.seek.proofs.Steps.{done, turn_found, turn_on}
use borrow.Author.Rules.{rules}
use Rattle.seek.proofs.+seek.Goals as goal

pub returns-then-is_some : goal.returns-then-is_some
returns-then-is_some t c = let a = c.args in let l = c.loop-e in
    λ p h. turn_found _ _ a.left l.e (fixed_steps a.prefix) _ (a.prefix.len + a.left) _ c.seek-found.result (search rules) (l.invariant.2 p h) c.then.ensures.last (omega (arith, c.then.ensures.longer)) (c.seek-found.ensures p h)
    (sym c.is_some.ensures ∙ c.if-is_some.true)

pub loop-e-preserved : goal.loop-e-preserved
loop-e-preserved t c = let a = c.args in let l = c.loop-e in (
  search rules,
  l.invariant.1,
  λ p h. turn_on _ _ a.left l.e (fixed_steps a.prefix) _ (a.prefix.len + a.left) _ c.seek-found.result (search rules) (l.invariant.2 p h) c.then.ensures.last (omega (arith, c.then.ensures.longer)) (c.seek-found.ensures p h)
      (sym c.is_some.ensures ∙ c.if-is_some.false),
)

-- the last entry was no better
pub returns-else-is_some : goal.returns-else-is_some
returns-else-is_some t c = let a = c.args in let l = c.loop-e in
    λ p h. done _ _ a.left (fixed_steps a.prefix) (l.e + 1)
    (turn_on _ _ a.left l.e (fixed_steps a.prefix) _ (a.prefix.len + a.left) _ c.seek-found.result (search rules) (l.invariant.2 p h) c.then.ensures.last (omega (arith, c.then.ensures.longer)) (c.seek-found.ensures p h)
    (sym c.is_some.ensures ∙ c.if-is_some.false)) (omega arith)
