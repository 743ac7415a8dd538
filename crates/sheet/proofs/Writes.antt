-- What stands in the arrays of a sheet's writes. Assumes nothing.
use mathlib.Core.Path.{◌≡◌, ap, ◌∙◌}
use mathlib.Core.List.{List, []}
use Prim.Native.Nat.{ℕ, ◌<◌}
use native.Mathlib.Omega.{arith}
use lib.ListN.{get_or}
use Rattle.paper.specs.Sheet.{Sheet}
use Rattle.paper.specs.Step.{need_of, rule_of}
use Rattle.bits.proofs.Filled.{value_at_lem}
use Rattle.sheet.specs.Reading.{pair, fives, pairs_of, fives_of}
use Rattle.sheet.specs.Writes.{Writes}

module _ (p : Sheet) (needs rules : List (List ℕ)) (n : ℕ) (w : Writes p needs rules n) where
  pub need_at_lem : (i : ℕ) → i < p.A → get_or needs i [] ≡ pair (need_of p i)
  unfolding pairs_of
  need_at_lem i lt =
      ap (λ (l : List (List ℕ)). get_or l i []) w.needs_are ∙ value_at_lem (λ k. pair (need_of p k)) [] 12 i (omega (arith, w.fine.actions_most))

  pub rule_at_lem : (r : ℕ) → r < n → get_or rules r [] ≡ fives (rule_of p r)
  unfolding fives_of
  rule_at_lem r lt =
      ap (λ (l : List (List ℕ)). get_or l r []) w.rules_are ∙ value_at_lem (λ k. fives (rule_of p k)) [] 24 r (omega (arith, w.fine.rules_most, w.rules_count))
