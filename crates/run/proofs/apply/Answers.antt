use mathlib.Core.Path.{ap, ◌∙◌}
use mathlib.Core.Bool.{Bool, ◌&&◌, ◌||◌}
use Prim.Native.Nat.{◌-◌}
use lib.Bits.{bit_and}
use Rattle.paper.specs.Counting.{bit}
use Rattle.bits.proofs.Machine.{and_bit, or_bit, not_bit}
use borrow.Author.Rules.{rules}
use Rattle.run.proofs.apply.Goals as goal

pub returns : goal.returns
returns c = let a = c.args in
    λ k l. or_bit a.ones (bit_and a.s (65535 - a.zeros)) k
    ∙ ap (λ (t : Bool). bit a.ones k || t)
    (and_bit a.s (65535 - a.zeros) k ∙ ap (λ (t : Bool). bit a.s k && t) (not_bit 16 a.zeros k (search rules) l))
