use Rattle.sheet.specs.Contents.{contents}
use Rattle.theory.proofs.Building.{adds_as, adds_start, adds_more, adds_actions}
use Rattle.theory.proofs.Parts.{exclusions_of_lem}
use Rattle.theory.proofs.Builder.exclusions_of.Goals as goal

pub loop-b-init : goal.loop-b-init
loop-b-init c = adds_start _

pub loop-b-preserved : goal.loop-b-preserved
loop-b-preserved c = adds_more _ c.loop-b.invariant c.exclusion.ensures

pub returns : goal.returns
returns c = adds_as (λ n. exclusions_of_lem (contents c.args.self.now.sheet) n _ _) (adds_actions _ c.loop-b.invariant c.loop-b.auto.b-end c.loop-b-test.false)
