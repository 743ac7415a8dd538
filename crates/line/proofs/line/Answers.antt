use native.Mathlib.Omega.{arith}
use Rattle.line.proofs.Laws.{decimal_length, decimal_fits, spaced_fits, entries_fit_all, line_done}
use Rattle.std.proofs.Common.{rules}
use Rattle.line.proofs.line.Goals as goal

pub number-requires : goal.number-requires
number-requires c = let d = decimal_length 10 c.args.code in
    let r = c.requires in
    omega arith

pub spaced-requires : goal.spaced-requires
spaced-requires c = let a = c.args in
    let l = c.number.ensures.len in
    let r = c.requires in
    let f = decimal_fits 10 a.code c.number.ensures.written in
    omega arith

pub spaced-requires-2 : goal.spaced-requires-2
spaced-requires-2 c = let a = c.args in
    let l = c.number.ensures.len in
    let m = c.spaced.ensures.len in
    let r = c.requires in
    let f = decimal_fits 10 a.code c.number.ensures.written in
    let g = spaced_fits a.place c.spaced.ensures.written in
    omega arith

pub entries-requires : goal.entries-requires
entries-requires c = let a = c.args in
    let l = c.number.ensures.len in
    let m = c.spaced.ensures.len in
    let n = c.spaced-2.ensures.len in
    let r = c.requires in
    let f = decimal_fits 10 a.code c.number.ensures.written in
    let g = spaced_fits a.place c.spaced.ensures.written in
    let h = spaced_fits a.horizon c.spaced-2.ensures.written in
    (r.0, omega arith)

pub push-requires : goal.push-requires
push-requires c = let a = c.args in
    let l = c.number.ensures.len in
    let m = c.spaced.ensures.len in
    let n = c.spaced-2.ensures.len in
    let o = c.entries.ensures.len in
    let r = c.requires in
    let f = decimal_fits 10 a.code c.number.ensures.written in
    let g = spaced_fits a.place c.spaced.ensures.written in
    let h = spaced_fits a.horizon c.spaced-2.ensures.written in
    let k = entries_fit_all a.s.now c.entries.ensures.written in
    omega arith

pub returns : goal.returns
returns c = let a = c.args in
    let w = line_done a.code a.place a.horizon a.s.now c.number.ensures.written c.spaced.ensures.written c.spaced-2.ensures.written c.entries.ensures.written c.push.ensures.written in
    search rules
