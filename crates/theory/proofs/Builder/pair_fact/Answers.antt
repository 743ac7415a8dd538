use Rattle.sheet.specs.Contents.{contents}
use Rattle.theory.proofs.Building.{adds_then, adds_as}
use Rattle.theory.proofs.Parts.{fact_paired}
use Rattle.theory.proofs.Builder.pair_fact.Goals as goal

pub returns : goal.returns
returns c = adds_as (λ n. fact_paired (contents c.args.self.now.sheet) n _ _ _ _ c.bit.ensures c.bit-2.ensures c.args.ahead _ (c.fact-y.ensures n) c.opposite.ensures) (adds_then c.pair_if.ensures c.pair_if-2.ensures)
