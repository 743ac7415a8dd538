use mathlib.Core.Path.{◌∙◌}
use native.Mathlib.Omega.{arith}
use Rattle.paper.specs.Step.{step}
use Rattle.run.proofs.Laws.{step_at}
use Rattle.run.proofs.step.Goals as goal

pub returns-then-e-eq0 : goal.returns-then-e-eq0
unfolding step
returns-then-e-eq0 c = λ p w hi fit. rw c.if-e-eq0.true

pub returns : goal.returns
returns c = λ p w hi fit.
    c.act.ensures p w hi fit ∙ step_at p c.args.e c.args.s (omega arith)
