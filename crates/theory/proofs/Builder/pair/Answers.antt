use Rattle.theory.proofs.Building.{pushes_then, adds_clause}
use Rattle.theory.proofs.Builder.pair.Goals as goal

pub returns : goal.returns
returns c = adds_clause (pushes_then c.push.ensures c.push-2.ensures) c.end.ensures
