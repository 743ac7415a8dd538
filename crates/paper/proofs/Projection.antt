-- The theorem: the circuit's value with variables forgotten says whether the kept values extend to a satisfying assignment. Assumes nothing.
use mathlib.Core.Path.{◌≡◌, sym, ◌∙◌}
use mathlib.Core.Logic.{◌↔◌}
use mathlib.Core.Bool.{Bool, true}
use Prim.Native.Nat.{ℕ}
use Rattle.paper.specs.Clauses.{Clauses, Assign}
use Rattle.paper.specs.Circuit.{value, circuit}
use Rattle.paper.specs.Meaning.{shown, Extends}
use Rattle.paper.proofs.Forgetting.{projects}
use Rattle.paper.proofs.CircuitValue.{circuit_value}
use Rattle.paper.proofs.Decomposable.{circuit_fits}

pub theorem : (S : Clauses) (kept : ℕ → Bool) (k : Assign) → (value (shown kept k) (circuit S) ≡ true) ↔ Extends kept k S
theorem S kept k =
    let p = projects kept k (circuit S) (circuit_fits S).dec in (
      λ h. let g = p.0 h in (g.0, g.1, sym (circuit_value g.0 S) ∙ g.2),
      λ g. p.1 (g.0, g.1, circuit_value g.0 S ∙ g.2),
    )
