use mathlib.Core.Path.{sym, ◌∙◌}
use mathlib.Core.List.{[], ◌∷◌}
use Rattle.paper.specs.Clauses.{no·, action}
use Rattle.theory.proofs.Building.{adds_as, adds_wanted, adds_unwanted}
use Rattle.theory.proofs.Builder.exclusion.Goals as goal

pub returns-then-excludes : goal.returns-then-excludes
returns-then-excludes c = adds_wanted _ (λ p n. no· (action p n c.args.step c.args.a) ∷ (no· (action p n c.args.step c.args.b) ∷ [])) (sym c.excludes.ensures ∙ c.if-excludes.true) (adds_as (λ n i. (c.action-x.ensures n i ∷ (c.action-y.ensures n i ∷ [])) ∷ []) c.pair.ensures)

pub returns-else-excludes : goal.returns-else-excludes
returns-else-excludes c = adds_unwanted _ (λ p n. no· (action p n c.args.step c.args.a) ∷ (no· (action p n c.args.step c.args.b) ∷ [])) (sym c.excludes.ensures ∙ c.if-excludes.false)
