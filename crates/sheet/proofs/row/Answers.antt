use Prim.Native.Nat.{◌+◌, ◌*◌}
use Rattle.paper.specs.Sheet.{word}
use Rattle.std.proofs.Common.{rules, tests}
use Rattle.sheet.specs.Reading.{numbers}
use Rattle.sheet.proofs.Made.{made_is}
use Rattle.sheet.proofs.row.Goals as goal

pub returns : goal.returns
unfolding numbers
returns g c = made_is _ _ (λ i. word c.args.b.now (c.args.at + 2 * i)) (λ i y q k. search (rules, tests)) 0 _ _ c.from_fn.ensures.items
