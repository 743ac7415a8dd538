use Rattle.demands.proofs.Plans.{told_is, demand_of}
use borrow.Author.Rules.{rules}
use Rattle.demands.proofs.demand2.Goals as goal

pub returns : goal.returns
returns c = let a = c.args in
    let h = c.bringup_plan-code in
    let e = told_is a.sheet.now a.limit a.rows.now a.schedule.now h.result c.long.result c.long-2.result c.long-3.result c.long-4.result _ h.ensures.code h.ensures.written c.long.ensures c.long-2.ensures c.long-3.ensures c.long-4.ensures in
    record {
      told = e;
      filled = h.ensures.filled;
      scheduled = h.ensures.scheduled;
      demand2 = demand_of a.sheet.now a.limit (search rules) a.rows.now a.schedule.now _ _ e h.ensures.scheduled;
    }
