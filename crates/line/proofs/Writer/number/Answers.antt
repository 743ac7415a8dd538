use mathlib.Core.Path.{◌∙◌, sym, subst}
use lib.ListN.{length}
use Prim.Native.Nat.{◌+◌, ◌≤◌}
use native.Mathlib.Omega.{arith}
use Rattle.line.proofs.Laws.{decimal_whole, adds_as}
use Rattle.line.proofs.Writer.number.Goals as goal

pub push-requires : goal.push-requires
push-requires c = let l = c.args.self.now in
    let e = c.as_bytes.ensures.value ∙ c.format.ensures.text ∙ decimal_whole c.args.n (omega (arith, c.ranges.n.fits)) in
    subst (λ b. l.at + length b ≤ length l.out.now) (sym e) c.requires

pub returns : goal.returns
returns c = adds_as (c.as_bytes.ensures.value ∙ c.format.ensures.text ∙ decimal_whole c.args.n (omega (arith, c.ranges.n.fits))) c.push.ensures
