use Rattle.paper.specs.Lists.{each, up_from}
use Rattle.theory.specs.Building.{Adds}
use Rattle.theory.specs.Making.{frame_part}
use Rattle.theory.proofs.Builder.frames_of_step.Given as goal

abbrev pub invariant-loop-k : goal.invariant-loop-k
invariant-loop-k l = Adds (λ p n. each (up_from 0 l.k) (frame_part p n l.step)) l.initial.self l.self
