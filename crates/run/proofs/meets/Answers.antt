use mathlib.Core.Path.{sym, ap₂, ◌∙◌}
use mathlib.Core.Bool.{Bool, not, ◌&&◌, ◌||◌}
use Rattle.paper.specs.Counting.{bit}
use Rattle.paper.specs.Step.{meets}
use Rattle.bits.proofs.Machine.{all_one, all_zero}
use Rattle.bits.proofs.Below.{all_both}
use Rattle.run.proofs.meets.Goals as goal

pub returns : goal.returns
unfolding meets
returns c = let a = c.args in
    λ F h g. ap₂ (λ (x y : Bool). x && y) (all_one F a.one a.s h) (all_zero F a.nil a.s g)
    ∙ sym (all_both F (λ k. not (bit a.one k) || bit a.s k) (λ k. not (bit a.nil k) || not (bit a.s k)))
