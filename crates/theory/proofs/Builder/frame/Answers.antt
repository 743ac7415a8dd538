use mathlib.Core.Path.{ap, ◌∙◌}
use mathlib.Core.Bool.{not}
use mathlib.Core.List.{[], ◌∷◌, ◌++◌}
use Rattle.paper.specs.Clauses.{fact}
use Rattle.sheet.specs.Contents.{contents}
use Rattle.theory.specs.Making.{lit, setters_to}
use Rattle.theory.proofs.Building.{pushes_then, adds_clause, adds_as}
use Rattle.theory.proofs.Builder.frame.Goals as goal

pub returns : goal.returns
returns c = let a = c.args in
    let p = contents a.self.now.sheet in
    adds_as (λ n.
    let x = c.fact-x.ensures n ∙ ap (λ m. lit (fact p n m a.k) a.value) c.before-2.ensures in
    let y = c.fact-y.ensures n ∙ ap (λ m. lit (fact p n m a.k) (not a.value)) c.after.ensures in
    λ i. ((x i ∷ setters_to p n a.step a.value a.k) ++ (y i ∷ [])) ∷ [])
    (adds_clause (pushes_then c.push.ensures (pushes_then c.push_setters.ensures c.push-2.ensures)) c.end.ensures)
