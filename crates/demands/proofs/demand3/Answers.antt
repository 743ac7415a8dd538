use Rattle.demands.proofs.Laws.{asked_is}
use mathlib.Core.Path.{sym, subst}
use Rattle.demands.specs.Demands.{asked_of, Demand3}
use Rattle.demands.proofs.Laws.{asked_demand}
use Rattle.demands.proofs.demand3.Goals as goal

pub returns : goal.returns
unfolding asked_of
returns c = let h = c.bringup_compile-compiled in
    let j = c.bringup_judge-judged in
    let asked = asked_is c.args.sheet.now c.args.horizon c.args.limit c.args.rows.now c.args.state c.args.masks.now h.result j.result c.long-value.result c.long-count.result c.long-root.result _ _ _ h.ensures.code h.ensures.written h.ensures.filled c.long-count.ensures c.long-root.ensures j.ensures.code j.ensures.written c.long-value.ensures in
    record {
      asked = asked;
      filled = h.ensures.filled;
      demand3 = subst (Demand3 c.args.sheet.now c.args.horizon c.args.state c.args.masks.now) (sym asked) (asked_demand c.args.sheet.now c.args.horizon c.args.limit c.args.rows.now c.args.state c.args.masks.now);
    }
