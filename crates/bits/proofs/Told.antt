-- The answer slice, a number at a time. Assumes nothing.
use mathlib.Core.Path.{◌≡◌, refl, ap}
use mathlib.Core.List.{List, [], ◌∷◌, ◌++◌, append-nil}
use Prim.Native.Nat.{ℕ, ◌-◌, ◌≤◌, ◌<◌}
use native.Mathlib.Omega.{arith}
use lib.ListN.{length, take, drop, get_or}
use lib.Seq.{take-length, drop-length}
use borrow.Author.Tests.{lt-ltb, le-ltb}
use Rattle.paper.specs.Operations.{bytes4}
use Rattle.paper.specs.Answers.{told}

-- no number, or a slice too short for one: nothing is written
pub told_none : (ns slice : List ℕ) → length ns ≡ 0 → told ns slice ≡ slice
unfolding told
told_none [] slice h = refl
told_none (n ∷ ns) slice h = absurd (omega arith)

pub told_short : (ns slice : List ℕ) → length slice < 4 → told ns slice ≡ slice
unfolding told
told_short [] slice h = refl
told_short (n ∷ ns) slice h = simp (lt-ltb _ _ h)

-- a part that is the whole
rest : (ns r : List ℕ) (i j : ℕ) → i ≡ length ns → j ≡ length r → told (take i ns) (take j r) ++ drop j r ≡ told ns r
rest ns r i j p q = simp (p, q, take-length, drop-length, append-nil)

-- otherwise the first number is put, which leaves x, and the others are told past its four bytes, which leaves y there
pub told_more : (ns slice x y : List ℕ) → 0 < length ns → 4 ≤ length slice
    → x ≡ bytes4 (get_or ns 0 0) ++ drop 4 slice
    → y ≡ told (take (length ns - 1) (drop 1 ns)) (take (length x - 4) (drop 4 x))
    → take 4 x ++ (y ++ drop (length x - 4) (drop 4 x)) ≡ told ns slice
unfolding told
told_more [] slice x y h k e f = absurd (omega arith)
told_more (n ∷ ns) slice x y h k e f =
    let i = length (n ∷ ns) - 1 in
    let j = length (bytes4 n ++ drop 4 slice) - 4 in
    rw (f, e, le-ltb _ _ k) (ap (λ (l : List ℕ). bytes4 n ++ l) (rest ns (drop 4 slice) i j (omega arith) (omega arith)))
