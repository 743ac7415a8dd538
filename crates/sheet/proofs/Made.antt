-- Arrays made by calls of a closure that each call leaves as it was. Assumes nothing.
use mathlib.Core.Path.{◌≡◌, subst}
use mathlib.Core.List.{List, map}
use Prim.Native.Nat.{ℕ, zero, suc, ◌+◌, ◌<◌}
use native.Mathlib.Omega.{arith}
use lib.ListN.{get_or}
use denote.Param.Members.{Mut}
use Rattle.std.specs.Fn.{Called}
use Rattle.std.specs.Array.{IsFromFnResult, IsFromFnResultFrom}
use Rattle.paper.specs.Lists.{up_from}
use Rattle.bits.proofs.Filled.{values_are}

module _ {F B : Type 0} (g : Mut F (ℕ × Unit {0}) B) (f : F) (P : ℕ → B → Type 0) (says : (i : ℕ) (y : B) (q : F) → Called g f (i, tt) y q → P i y × (q ≡ f)) where
  made_at : (ys : List B) (n i : ℕ) (d : B) → IsFromFnResultFrom g f ys i n → (k : ℕ) → k < n → P (i + k) (get_or ys (i + k) d)
  made_at ys zero i d h k lt = absurd (omega arith)
  made_at ys (suc n) i d h zero lt = let e : i + 0 ≡ i = omega arith in rw (e, h.2.1 d) (says i h.1 h.0 h.3).0
  made_at ys (suc n) i d h (suc k) lt =
      let e : i + suc k ≡ i + 1 + k = omega arith in
      rw e (made_at ys n (i + 1) d (subst (λ (p : F). IsFromFnResultFrom g p ys (i + 1) n) (says i h.1 h.0 h.3).1 h.4) k (omega arith))

  -- what each call says of its value holds of the element
  pub made_each : (d : B) (ys : List B) (n : ℕ) → IsFromFnResult g f ys n → (k : ℕ) → k < n → P k (get_or ys k d)
  made_each d ys n h k lt = let e : 0 + k ≡ k = omega arith in rw e at (made_at ys n 0 d h.each k lt)

-- calls that compute v gave the list of its values
pub made_is : {F B : Type 0} (g : Mut F (ℕ × Unit {0}) B) (f : F) (v : ℕ → B) → ((i : ℕ) (y : B) (q : F) → Called g f (i, tt) y q → (y ≡ v i) × (q ≡ f))
    → (d : B) (ys : List B) (n : ℕ) → IsFromFnResult g f ys n → ys ≡ map v (up_from 0 n)
made_is g f v says d ys n h = values_are n v d ys h.long (made_each g f (λ i y. y ≡ v i) says d ys n h)
