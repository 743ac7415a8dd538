use borrow.Author.Rules.{rules}
use Rattle.theory.proofs.Parts.{theory_stored, theory_behind}
use Rattle.theory.proofs.theory.Goals as goal

pub returns-clause-stored : goal.returns-clause-stored
returns-clause-stored c = let a = c.args in theory_stored a.n a.sheet.fine c.requires.0 (search rules) (search rules) (search rules) (search rules) (c.theory.ensures.adds a.n)

pub returns-clause-behind : goal.returns-clause-behind
returns-clause-behind c = theory_behind (search rules) (search rules) (c.theory.ensures.adds c.args.n)
