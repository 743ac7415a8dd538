use mathlib.Core.List.{[]}
use Rattle.std.proofs.Common.{rules, tests}
use Rattle.sheet.specs.Reading.{row_below}
use Rattle.sheet.proofs.Made.{made_is}
use Rattle.sheet.proofs.rows.Goals as goal

pub returns : goal.returns
returns g c = made_is _ _ (row_below c.args.b.now c.args.from g.row.N c.args.n) (λ i y q k. search (rules, tests)) [] _ _ c.from_fn.ensures.items
