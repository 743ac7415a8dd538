use native.Mathlib.Omega.{arith}
use Rattle.line.proofs.Laws.{decimal_length, adds_more}
use Rattle.line.proofs.Writer.spaced.Goals as goal

pub number-requires : goal.number-requires
number-requires c = let w = c.push.ensures.written in
    let p = c.requires in
    let d = decimal_length 10 c.args.n in
    let e = w.end_is in
    let l = c.push.ensures.len in
    omega arith

pub returns : goal.returns
returns c = adds_more (let p = c.requires in omega arith) c.push.ensures c.number.ensures
