use mathlib.Core.Path.{refl, ◌∙◌}
use mathlib.Core.Bool.{Bool, ◌&&◌}
use Prim.Native.Nat.{ℕ}
use lib.Dec.{leb}
use Rattle.std.proofs.Common.{rules, tests}
use Rattle.std.proofs.lemmas.Iterator.{YieldsList-from_slice}
use Rattle.std.proofs.lemmas.Iterator.Search.{all_from_yields_List}
use Rattle.std.proofs.lemmas.List.Recursion.{same_from_clauses}
use Rattle.std.specs.List.{list_all}
use Rattle.paper.specs.Lists.{all}
use Rattle.run.proofs.entries_fit.Goals as goal

pub returns : goal.returns
returns c = let s = c.args.schedule.now in
    let fits : ℕ → Bool = λ e. leb e c.args.a in
    all_from_yields_List fits _ _ c.all.result c.all.ensures.ran (YieldsList-from_slice s cc) (λ x b q k. search (rules, tests))
    ∙ same_from_clauses (list_all fits) (all fits) (λ e b. fits e && b) refl (λ _ _. refl) (λ _ _. refl) s
