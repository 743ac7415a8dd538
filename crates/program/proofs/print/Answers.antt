use Rattle.program.proofs.Laws.{printed_in}
use Rattle.line.proofs.Laws.{writes_as}
use Rattle.program.proofs.Laws.{printed_long, printed_plan}
use borrow.Author.Rules.{rules}
use Rattle.program.proofs.print.Goals as goal

pub returns-then-input-gt-LONGEST : goal.returns-then-input-gt-LONGEST
returns-then-input-gt-LONGEST c = let h = printed_in _ _ _ _ (writes_as (printed_long c.args.input.now c.if-input-gt-LONGEST.true) c.line.ensures) in
    record {
      printed = h.0;
      length = h.1.0;
      fits = h.1.1;
    }

pub returns : goal.returns
returns c = let h = printed_in _ _ _ _ (writes_as (printed_plan c.args.input.now (search rules)) c.plan_line.ensures) in
    record {
      printed = h.0;
      length = h.1.0;
      fits = h.1.1;
    }
