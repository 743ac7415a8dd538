-- Bits of masks. Assumes nothing.
use mathlib.Core.Path.{◌≡◌, refl, sym, ap, ◌∙◌}
use mathlib.Core.Bool.{Bool, true, false}
use Prim.Native.Nat.{ℕ, zero, suc, ◌+◌, ◌-◌, ◌*◌, ◌/◌, ◌%◌, ◌^◌, ◌≤◌, ◌<◌}
use native.Mathlib.Nat.{mod-lt, zero-lt-suc, pow-suc, add-mul-div_right, mul-add-mod_self_right, add_comm, div-eq_of_lt, add-div_right, add-zero, div-one, lt_of_lt_of_le}
use native.Mathlib.Omega.{arith}
use lib.Dec.{eqb, ltb}
use lib.Pow.{pow_pos, pow-add, pow_mono, pow-lt, shr-shr}
use borrow.Author.Tests.{eqb-true, eqb-false, ltb-true, ltb-false}
use Rattle.paper.specs.Counting.{bit, worth, mask_below}
use Rattle.paper.proofs.Basic.{by}
use Rattle.paper.proofs.Lists.{below_suc}

two_pos : 0 < 2
two_pos = zero-lt-suc 1

-- a mask of n bits has no bit at n or above
pub bit_high : (n m k : ℕ) → m < 2 ^ n → n ≤ k → bit m k ≡ false
bit_high n m k h l = let q : m < 2 ^ k = lt_of_lt_of_le h (pow_mono l) in ap (λ (x : ℕ). eqb (x % 2) 1) (div-eq_of_lt q)

pub bit_nil : (k : ℕ) → bit 0 k ≡ false
bit_nil k = bit_high 0 0 k (omega arith) (omega arith)

pub bit_suc : (m k : ℕ) → bit m (suc k) ≡ bit (m / 2) k
bit_suc m k = ap (λ (x : ℕ). eqb (x % 2) 1) (ap (λ (x : ℕ). m / 2 ^ x) (omega arith) ∙ sym (shr-shr m 1 k))

-- a higher power of two does not touch bit k
bit_add_high : (m k d : ℕ) → bit (m + 2 ^ (suc d + k)) k ≡ bit m k
bit_add_high m k d =
    ap (λ (x : ℕ). eqb (x % 2) 1)
    (ap (λ (x : ℕ). (m + x) / 2 ^ k) (pow-add 2 (suc d) k) ∙ add-mul-div_right m (2 ^ suc d) (pow_pos k)
    ∙ ap (λ (x : ℕ). m / 2 ^ k + x) (pow-suc 2 d) ∙ add_comm (m / 2 ^ k) (2 ^ d * 2))
    ∙ ap (λ (x : ℕ). eqb x 1) (mul-add-mod_self_right (2 ^ d) 2 (m / 2 ^ k))

bit_worth_high : (m n k : ℕ) (b : Bool) → k < n → bit (m + worth b (2 ^ n)) k ≡ bit m k
unfolding worth
bit_worth_high m n k true h =
    let e : n ≡ suc (n - suc k) + k = omega arith in
    ap (λ (x : ℕ). bit (m + 2 ^ x) k) e ∙ bit_add_high m k (n - suc k)
bit_worth_high m n k false h = ap (λ (x : ℕ). bit x k) (omega arith)

bit_worth_same : (m n : ℕ) (b : Bool) → m < 2 ^ n → bit (m + worth b (2 ^ n)) n ≡ b
unfolding worth
bit_worth_same m n true h =
    ap (λ (x : ℕ). eqb (x % 2) 1) (add-div_right m (pow_pos n) ∙ ap (λ (x : ℕ). x + 1) (div-eq_of_lt h))
bit_worth_same m n false h =
    ap (λ (x : ℕ). eqb (x / 2 ^ n % 2) 1) (add-zero m) ∙ ap (λ (x : ℕ). eqb (x % 2) 1) (div-eq_of_lt h)

worth_le : (b : Bool) (w : ℕ) → worth b w ≤ w
unfolding worth
worth_le true w = omega arith
worth_le false w = omega arith

pub mask_below_lt : (n : ℕ) (f : ℕ → Bool) → mask_below n f < 2 ^ n
unfolding mask_below
mask_below_lt zero f = omega arith
mask_below_lt (suc n) f = omega (arith, mask_below_lt n f, worth_le (f n) (2 ^ n), pow-suc 2 n)

-- bit k of the mask of a test is the test at k
pub bit_mask_below : (n : ℕ) (f : ℕ → Bool) (k : ℕ) → k < n → bit (mask_below n f) k ≡ f k
unfolding mask_below
bit_mask_below zero f k h = absurd (omega arith)
bit_mask_below (suc n) f k h =
    below_suc (λ i. bit (mask_below n f + worth (f n) (2 ^ n)) i ≡ f i) n k h
    (λ l. bit_worth_high (mask_below n f) n k (f n) l ∙ bit_mask_below n f k l)
    (bit_worth_same (mask_below n f) n (f n) (mask_below_lt n f))

-- two masks of n bits with the same bits are equal
odd_eq : (a b : ℕ) → a < 2 → b < 2 → eqb a 1 ≡ eqb b 1 → a ≡ b
odd_eq zero zero h l e = refl
odd_eq zero (suc zero) h l e = cc
odd_eq zero (suc (suc b)) h l e = absurd (omega arith)
odd_eq (suc zero) zero h l e = cc
odd_eq (suc zero) (suc zero) h l e = refl
odd_eq (suc zero) (suc (suc b)) h l e = absurd (omega arith)
odd_eq (suc (suc a)) b h l e = absurd (omega arith)

half_lt : (m n : ℕ) → m < 2 ^ suc n → m / 2 < 2 ^ n
half_lt m n h = let p : 2 ^ suc n ≡ 2 ^ n * 2 = pow-suc 2 n in omega arith

low_bit : (m : ℕ) → bit m 0 ≡ eqb (m % 2) 1
low_bit m = ap (λ (x : ℕ). eqb (x % 2) 1) (div-one m)

pub bit_ext : (n m l : ℕ) → m < 2 ^ n → l < 2 ^ n → ((k : ℕ) → k < n → bit m k ≡ bit l k) → m ≡ l
bit_ext zero m l hm hl e = omega arith
bit_ext (suc n) m l hm hl e =
    let p : m / 2 ≡ l / 2 =
    bit_ext n (m / 2) (l / 2) (half_lt m n hm) (half_lt l n hl) (λ k h. sym (bit_suc m k) ∙ e (suc k) (omega arith) ∙ bit_suc l k) in
    let q : m % 2 ≡ l % 2 =
    odd_eq (m % 2) (l % 2) (mod-lt m two_pos) (mod-lt l two_pos) (sym (low_bit m) ∙ e 0 (omega arith) ∙ low_bit l) in
    omega arith

-- a weight has one bit
pub bit_weight : (a k : ℕ) → bit (2 ^ a) k ≡ eqb k a
unfolding worth
bit_weight a k = by (eqb k a)
    (λ e. ap (bit (2 ^ a)) (eqb-true k a e) ∙ ap (λ (x : ℕ). bit x a) (omega arith) ∙ bit_worth_same 0 a true (pow_pos a) ∙ sym e)
    (λ e. by (ltb k a)
    (λ l. ap (λ (x : ℕ). bit x k) (omega arith) ∙ bit_worth_high 0 a k true (ltb-true k a l) ∙ bit_high 0 0 k (omega arith) (omega arith) ∙ sym e)
    (λ l. bit_high (suc a) (2 ^ a) k (pow-lt (omega arith)) (above e l) ∙ sym e))
  where
    above : eqb k a ≡ false → ltb k a ≡ false → a < k
    above e l = let q : k ≡ a → ⊥ = eqb-false k a e in let g : a ≤ k = ltb-false k a l in omega arith
