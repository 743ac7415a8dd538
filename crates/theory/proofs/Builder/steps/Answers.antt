use Rattle.theory.proofs.Building.{adds_at, adds_start, adds_more, adds_count}
use Rattle.theory.proofs.Builder.steps.Goals as goal

pub loop-i-init : goal.loop-i-init
loop-i-init c = adds_start _

pub loop-i-preserved : goal.loop-i-preserved
loop-i-preserved c = adds_more _ c.loop-i.invariant (adds_at c.args.n c.step_clauses.ensures)

pub returns : goal.returns
returns c = adds_count _ c.loop-i.invariant c.args.n c.loop-i.auto.i-end c.loop-i-test.false
