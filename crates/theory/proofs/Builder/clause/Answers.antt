use Rattle.sheet.specs.Contents.{contents}
use Rattle.theory.proofs.Building.{adds_none, adds_as, adds_clause}
use Rattle.theory.proofs.Parts.{moment_left_out, moment_added}
use borrow.Author.Rules.{rules}
use Rattle.theory.proofs.Builder.clause.Goals as goal

pub returns-then-masks-ne0 : goal.returns-then-masks-ne0
returns-then-masks-ne0 c = adds_as (λ n. moment_left_out (contents c.args.self.now.sheet) n _ _ (search rules) c.if-masks-ne0.true) adds_none

pub returns : goal.returns
returns c = adds_as (λ n. moment_added (contents c.args.self.now.sheet) n _ _ (search rules) c.if-masks-ne0.false) (adds_clause c.push_facts.ensures c.end.ensures)
