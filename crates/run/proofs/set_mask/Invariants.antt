use mathlib.Core.Path.{◌≡◌}
use mathlib.Core.Bool.{◌&&◌}
use mathlib.Core.List.{[]}
use Prim.Native.Nat.{ℕ, ◌^◌, ◌<◌}
use lib.ListN.{get_or}
use Rattle.paper.specs.Counting.{bit, some_below}
use Rattle.run.specs.Firing as spec
use Rattle.run.proofs.set_mask.Given as goal

abbrev pub invariant-loop-rule : goal.invariant-loop-rule
invariant-loop-rule l =
    (F k : ℕ) → ((r : ℕ) → r < l.rule-index → (get_or (get_or l.fn.rules r []) 1 0 < 2 ^ F) × (get_or (get_or l.fn.rules r []) 2 0 < 2 ^ F)) → bit l.mask k ≡ some_below l.rule-index (λ r. spec.fires F (get_or l.fn.rules r []) l.a l.s && bit (get_or (get_or l.fn.rules r []) l.i 0) k)
