use native.Mathlib.Omega.{arith}
use Rattle.line.proofs.Laws.{decimal_length, decimal_same, writes_as}
use Rattle.std.proofs.Common.{rules}
use Rattle.line.proofs.number.Goals as goal

pub number-requires : goal.number-requires
number-requires c = let a = c.args in
    let r = c.requires in
    let e = decimal_same a.k a.n r.0 r.2 (omega (arith, c.ranges.n.fits)) in
    let d = decimal_length a.k a.n in
    rw e (omega arith)

pub returns : goal.returns
returns c = let a = c.args in
    let r = c.requires in
    let w = writes_as (decimal_same a.k a.n r.0 r.2 (omega (arith, c.ranges.n.fits))) c.number.ensures.written in
    search rules
