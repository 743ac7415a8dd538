use Rattle.theory.proofs.Building.{adds_then}
use Rattle.theory.proofs.Builder.frames_of.Goals as goal

pub returns : goal.returns
returns c = adds_then c.frame.ensures c.frame-2.ensures
