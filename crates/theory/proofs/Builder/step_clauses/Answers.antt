use Rattle.paper.specs.Clauses.{step_clauses}
use Rattle.theory.proofs.Building.{adds_then}
use Rattle.theory.proofs.Builder.step_clauses.Goals as goal

pub returns : goal.returns
unfolding step_clauses
returns c = adds_then (adds_then (adds_then (adds_then c.needs_of_step.ensures c.z_of_step.ensures) c.effects_of_step.ensures) c.exclusions_of_step.ensures) c.frames_of_step.ensures
