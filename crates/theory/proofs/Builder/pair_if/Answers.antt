use Rattle.theory.proofs.Building.{adds_unwanted, adds_ahead, adds_behind}
use borrow.Author.Rules.{rules}
use Rattle.theory.proofs.Builder.pair_if.Goals as goal

pub returns-then-not-wanted : goal.returns-then-not-wanted
returns-then-not-wanted c = adds_unwanted _ _ (search rules)

pub returns-then-ahead : goal.returns-then-ahead
returns-then-ahead c = adds_ahead c.if-not-wanted.false c.if-ahead.true c.pair.ensures

pub returns : goal.returns
returns c = adds_behind c.if-not-wanted.false c.if-ahead.false c.pair-2.ensures
