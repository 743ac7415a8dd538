use mathlib.Core.Path.{sym}
use Rattle.sheet.specs.Contents.{contents}
use Rattle.theory.specs.Building.{as_lit}
use Rattle.theory.proofs.Building.{adds_as, adds_start, adds_more, adds_facts}
use Rattle.theory.proofs.Laws.{besides_each}
use Rattle.theory.proofs.Builder.pair_facts.Goals as goal

pub loop-k-init : goal.loop-k-init
loop-k-init c = adds_start _

pub loop-k-preserved : goal.loop-k-preserved
loop-k-preserved c = adds_more _ c.loop-k.invariant c.pair_fact.ensures

pub returns : goal.returns
returns c = let a = c.args in adds_as (λ n. sym (besides_each (contents a.self.now.sheet) n _ _ _ a.ahead (as_lit a.x))) (adds_facts _ c.loop-k.invariant c.loop-k.auto.k-end c.loop-k-test.false)
