-- Lists that agree up to a place, or from a place on. Assumes nothing.
use mathlib.Core.Path.{◌≡◌, sym, ap, ◌∙◌}
use mathlib.Core.List.{List}
use Prim.Native.Nat.{ℕ, ◌+◌, ◌-◌, ◌≤◌}
use native.Mathlib.Omega.{arith}
use lib.ListN.{take, drop}
use lib.Seq.{take-take, drop-drop}

-- lists that agree up to a place agree up to an earlier one, and from a place on from a later one
pub take_earlier : (i j : ℕ) (X Y : List ℕ) → i ≤ j → take j X ≡ take j Y → take i X ≡ take i Y
take_earlier i j X Y l e = sym (take-take i j X l) ∙ ap (take i) e ∙ take-take i j Y l

pub drop_later : (i j : ℕ) (X Y : List ℕ) → i ≤ j → drop i X ≡ drop i Y → drop j X ≡ drop j Y
drop_later i j X Y l e =
    let parts : j ≡ i + (j - i) = omega arith in
    let past : (Z : List ℕ) → drop j Z ≡ drop (j - i) (drop i Z) = λ Z. ap (λ (z : ℕ). drop z Z) parts ∙ sym (drop-drop (j - i) i Z) in
    past X ∙ ap (drop (j - i)) e ∙ sym (past Y)
