use Rattle.sheet.specs.Contents.{contents}
use Rattle.theory.proofs.Building.{adds_none, adds_then, adds_as}
use Rattle.theory.proofs.Parts.{moment_start, moment_more, moment_all}
use Rattle.theory.proofs.Builder.clauses_at.Goals as goal

pub loop-i-init : goal.loop-i-init
loop-i-init c = adds_as (λ n. moment_start (contents c.args.self.now.sheet) n _ _ _) adds_none

pub loop-i-preserved : goal.loop-i-preserved
loop-i-preserved c = adds_as (λ n. moment_more (contents c.args.self.now.sheet) n _ _ _ c.loop-i.i c.read.ensures) (adds_then c.loop-i.invariant c.clause.ensures)

pub returns : goal.returns
returns c = adds_as (λ n. moment_all (contents c.args.self.now.sheet) n _ _ _ c.loop-i.i _ c.loop-i.auto.i-end c.loop-i-test.false) c.loop-i.invariant
