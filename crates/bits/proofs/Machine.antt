-- What the machine's `&`, `|`, `!` and tests against 0 say of the bits of masks. Assumes nothing.
use mathlib.Core.Path.{◌≡◌, refl, sym, ap, ◌∙◌}
use mathlib.Core.Bool.{Bool, true, false, not, ◌&&◌, ◌||◌}
use Prim.Native.Nat.{ℕ, zero, suc, ◌+◌, ◌-◌, ◌*◌, ◌/◌, ◌%◌, ◌^◌, ◌<◌, min, max}
use native.Mathlib.Nat.{mod-lt, zero-lt-suc, pow-suc, lt_of_le_of_lt, le_of_suc-le-suc}
use native.Mathlib.Omega.{arith}
use borrow.Author.Tests.{eq-eqb, eqb-true}
use lib.Dec.{eqb}
use lib.Arith.{digits_mod}
use lib.Pow.{pow_pos}
use lib.Bits.{bit_and, bit_or, and_shr, or_shr, and_step, or_step, and_le_l}
use Rattle.paper.specs.Counting.{bit, all_below, some_below}
use Rattle.paper.proofs.Basic.{not_t}
use Rattle.paper.proofs.Bits.{bit_nil, bit_suc, bit_ext}
use Rattle.paper.proofs.Lists.{bool_same, below_at, below_i}
use Rattle.bits.proofs.Below.{some_same, all_same, none_at, none_i}

-- two digits: four cases
digits2 : (P : ℕ → ℕ → Type 0) → P 0 0 → P 0 1 → P 1 0 → P 1 1 → (u v : ℕ) → u < 2 → v < 2 → P u v
digits2 P a b c d zero zero hu hv = a
digits2 P a b c d zero (suc zero) hu hv = b
digits2 P a b c d (suc zero) zero hu hv = c
digits2 P a b c d (suc zero) (suc zero) hu hv = d
digits2 P a b c d (suc (suc u)) v hu hv = absurd (omega arith)
digits2 P a b c d zero (suc (suc v)) hu hv = absurd (omega arith)
digits2 P a b c d (suc zero) (suc (suc v)) hu hv = absurd (omega arith)

digit : (n : ℕ) → n % 2 < 2
digit n = mod-lt n (zero-lt-suc 1)

-- the last digit of q * 2 + d is d
last_digit : (q d : ℕ) → d < 2 → eqb ((q * 2 + d) % 2) 1 ≡ eqb d 1
last_digit q d h = ap (λ (n : ℕ). eqb n 1) (digits_mod q h)

and_digit : (x y : ℕ) → eqb (bit_and x y % 2) 1 ≡ (eqb (x % 2) 1 && eqb (y % 2) 1)
and_digit x y =
    let last = last_digit (bit_and (x / 2) (y / 2)) in
    ap (λ (n : ℕ). eqb (n % 2) 1) (and_step x y)
    ∙ digits2 (λ (u v : ℕ). eqb ((bit_and (x / 2) (y / 2) * 2 + min u v) % 2) 1 ≡ (eqb u 1 && eqb v 1))
    (last 0 (omega arith)) (last 0 (omega arith)) (last 0 (omega arith)) (last 1 (omega arith)) (x % 2) (y % 2) (digit x) (digit y)

or_digit : (x y : ℕ) → eqb (bit_or x y % 2) 1 ≡ (eqb (x % 2) 1 || eqb (y % 2) 1)
or_digit x y =
    let last = last_digit (bit_or (x / 2) (y / 2)) in
    ap (λ (n : ℕ). eqb (n % 2) 1) (or_step x y)
    ∙ digits2 (λ (u v : ℕ). eqb ((bit_or (x / 2) (y / 2) * 2 + max u v) % 2) 1 ≡ (eqb u 1 || eqb v 1))
    (last 0 (omega arith)) (last 1 (omega arith)) (last 1 (omega arith)) (last 1 (omega arith)) (x % 2) (y % 2) (digit x) (digit y)

-- `a & b`, `a | b`
pub and_bit : (a b k : ℕ) → bit (bit_and a b) k ≡ (bit a k && bit b k)
and_bit a b k = ap (λ (n : ℕ). eqb (n % 2) 1) (and_shr a b k) ∙ and_digit (a / 2 ^ k) (b / 2 ^ k)

pub or_bit : (a b k : ℕ) → bit (bit_or a b) k ≡ (bit a k || bit b k)
or_bit a b k = ap (λ (n : ℕ). eqb (n % 2) 1) (or_shr a b k) ∙ or_digit (a / 2 ^ k) (b / 2 ^ k)

low_bit : (x : ℕ) → bit x 0 ≡ eqb (x % 2) 1
low_bit x = let e : x / 2 ^ 0 ≡ x = omega arith in ap (λ (n : ℕ). eqb (n % 2) 1) e

flip_digit : (u v : ℕ) → u < 2 → v < 2 → u + v ≡ 1 → eqb u 1 ≡ not (eqb v 1)
flip_digit u v hu hv =
    digits2 (λ (u v : ℕ). u + v ≡ 1 → eqb u 1 ≡ not (eqb v 1)) (λ e. absurd (omega arith)) (λ e. refl) (λ e. refl) (λ e. absurd (omega arith)) u v hu hv

-- `!x` in n bits, which is 2 ^ n - 1 - x
pub not_bit : (n x k : ℕ) → x < 2 ^ n → k < n → bit (2 ^ n - 1 - x) k ≡ not (bit x k)
not_bit zero x k hx h = absurd (omega arith)
not_bit (suc n) x zero hx h =
    let hx' : x < 2 ^ n * 2 = rw pow-suc at hx in
    rw pow-suc
    (low_bit (2 ^ n * 2 - 1 - x) ∙ flip_digit ((2 ^ n * 2 - 1 - x) % 2) (x % 2) (digit _) (digit x) (omega arith) ∙ ap not (sym (low_bit x)))
not_bit (suc n) x (suc k) hx h =
    let hx' : x < 2 ^ n * 2 = rw pow-suc at hx in
    let half : (2 ^ n * 2 - 1 - x) / 2 ≡ 2 ^ n - 1 - x / 2 = omega arith in
    rw pow-suc
    (bit_suc (2 ^ n * 2 - 1 - x) k ∙ ap (λ (y : ℕ). bit y k) half ∙ not_bit n (x / 2) k (omega arith) (le_of_suc-le-suc h) ∙ ap not (sym (bit_suc x k)))

-- `x == 0`: no bit below n is set
pub none_set : (n x : ℕ) → x < 2 ^ n → eqb x 0 ≡ not (some_below n (bit x))
none_set n x hx = bool_same (eqb x 0) (not (some_below n (bit x)))
    (λ e. ap not (none_i n (bit x) (λ k l. ap (λ (y : ℕ). bit y k) (eqb-true x 0 e) ∙ bit_nil k)))
    (λ e. eq-eqb x 0 (bit_ext n x 0 hx (pow_pos n) (λ k l. none_at n (bit x) (not_t (some_below n (bit x)) e) k l ∙ sym (bit_nil k))))

-- `a & b == 0`: no bit is in both
pub apart : (n a b : ℕ) → a < 2 ^ n → eqb (bit_and a b) 0 ≡ not (some_below n (λ k. bit a k && bit b k))
apart n a b h =
    none_set n (bit_and a b) (lt_of_le_of_lt (and_le_l a b) h)
    ∙ ap not (some_same n (bit (bit_and a b)) (λ k. bit a k && bit b k) (λ k l. and_bit a b k))

imp_and : (a b : Bool) → (not a || b) ≡ true → (a && b) ≡ a
imp_and true b e = e
imp_and false b e = refl

and_imp : (a b : Bool) → (a && b) ≡ a → (not a || b) ≡ true
and_imp true b e = e
and_imp false b e = refl

nand : (a b : Bool) → not (a && b) ≡ (not a || not b)
nand true b = refl
nand false b = refl

-- `m & s == m`: every bit of m is set in s
pub all_one : (n m s : ℕ) → m < 2 ^ n → eqb (bit_and m s) m ≡ all_below n (λ k. not (bit m k) || bit s k)
all_one n m s h = bool_same (eqb (bit_and m s) m) (all_below n (λ k. not (bit m k) || bit s k))
    (λ e. below_i n _ (λ k l. and_imp (bit m k) (bit s k) (sym (and_bit m s k) ∙ ap (λ (x : ℕ). bit x k) (eqb-true (bit_and m s) m e))))
    (λ e. eq-eqb (bit_and m s) m (bit_ext n (bit_and m s) m (lt_of_le_of_lt (and_le_l m s) h) h
    (λ k l. and_bit m s k ∙ imp_and (bit m k) (bit s k) (below_at n _ e k l))))

not_some : (n : ℕ) (f : ℕ → Bool) → not (some_below n f) ≡ all_below n (λ k. not (f k))
unfolding some_below all_below
not_some zero f = refl
not_some (suc n) f = split (some_below n f) (f n) ∙ ap (λ (x : Bool). x && not (f n)) (not_some n f)
  where
    split : (a b : Bool) → not (a || b) ≡ (not a && not b)
    split true b = refl
    split false b = refl

-- `m & s == 0`: every bit of m is clear in s
pub all_zero : (n m s : ℕ) → m < 2 ^ n → eqb (bit_and m s) 0 ≡ all_below n (λ k. not (bit m k) || not (bit s k))
all_zero n m s h =
    apart n m s h ∙ not_some n (λ k. bit m k && bit s k) ∙ all_same n (λ k. not (bit m k && bit s k)) (λ k. not (bit m k) || not (bit s k)) (λ k l. nand (bit m k) (bit s k))
