use Rattle.paper.specs.Lists.{only}
use Rattle.paper.specs.Step.{rule_of}
use Rattle.paper.specs.Clauses.{rule_nos}
use Rattle.theory.specs.Making.{set_to}
use Rattle.sheet.specs.Contents.{contents}
use Rattle.theory.proofs.Parts.{setters_are}
use Rattle.theory.proofs.Building.{pushes_as, pushes_start, pushes_more, pushes_rules}
use Rattle.theory.proofs.Builder.push_setters.Goals as goal

pub loop-j-init : goal.loop-j-init
loop-j-init c = pushes_start _

pub loop-j-preserved : goal.loop-j-preserved
loop-j-preserved c = pushes_more _ c.loop-j.invariant (pushes_as (λ n i. only (c.sets-wanted.ensures i) (c.z-z.ensures n i)) c.push_if.ensures)

pub returns : goal.returns
unfolding rule_nos
returns c = pushes_as (λ n. let p = contents c.args.self.now.sheet in setters_are p n _ (λ r. set_to c.args.value (rule_of p r)) _) (pushes_rules _ c.loop-j.invariant c.loop-j.auto.j-end c.loop-j-test.false)
