use Rattle.sheet.specs.Contents.{contents}
use Rattle.demands.proofs.Laws.{stored_runs}
use Rattle.demands.proofs.theory_is_the_run.Goals as goal

pub returns : goal.returns
returns c = let h = c.theory in
    record {
      stored = h.ensures.stored;
      behind = h.ensures.behind;
      runs = stored_runs (contents c.args.sheet) c.args.sheet.fine c.args.n h.ensures.stored;
    }
