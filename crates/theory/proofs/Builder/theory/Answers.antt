use Rattle.theory.proofs.Building.{adds_at, adds_then, adds_as}
use Rattle.theory.proofs.Parts.{theory_made}
use Rattle.theory.proofs.Builder.theory.Goals as goal

pub returns : goal.returns
returns c = adds_as (λ n. theory_made _ _ c.args.n _ _ c.starts_at.ensures c.goals_at.ensures) (adds_then (adds_then (adds_at c.args.n c.clauses_at.ensures) (adds_at c.args.n c.clauses_at-2.ensures)) c.steps.ensures)
