-- Some, every, how many of the numbers below n: one number more, and where two tests agree. Assumes nothing.
use mathlib.Core.Path.{◌≡◌, refl, ap₂}
use mathlib.Core.Bool.{Bool, true, false, ◌&&◌, ◌||◌}
use Prim.Native.Nat.{ℕ, zero, suc, ◌+◌, ◌≤◌, ◌<◌}
use native.Mathlib.Numerals.{add-one}
use native.Mathlib.Omega.{arith}
use Rattle.paper.specs.Counting.{all_below, some_below, count_below, worth}
use Rattle.paper.proofs.Basic.{never, by}
use Rattle.paper.proofs.Lists.{some_i, below_at}

-- loops that count up
pub some_more : (n : ℕ) (f : ℕ → Bool) → some_below (n + 1) f ≡ (some_below n f || f n)
unfolding some_below
some_more n f = rw add-one

pub all_more : (n : ℕ) (f : ℕ → Bool) → all_below (n + 1) f ≡ (all_below n f && f n)
unfolding all_below
all_more n f = rw add-one

pub count_more : (n : ℕ) (f : ℕ → Bool) → count_below (n + 1) f ≡ count_below n f + worth (f n) 1
unfolding count_below
count_more n f = rw add-one

pub some_same : (n : ℕ) (f g : ℕ → Bool) → ((k : ℕ) → k < n → f k ≡ g k) → some_below n f ≡ some_below n g
unfolding some_below
some_same zero f g h = refl
some_same (suc n) f g h = ap₂ (λ (a b : Bool). a || b) (some_same n f g (λ k l. h k (omega arith))) (h n (omega arith))

pub all_same : (n : ℕ) (f g : ℕ → Bool) → ((k : ℕ) → k < n → f k ≡ g k) → all_below n f ≡ all_below n g
unfolding all_below
all_same zero f g h = refl
all_same (suc n) f g h = ap₂ (λ (a b : Bool). a && b) (all_same n f g (λ k l. h k (omega arith))) (h n (omega arith))

pub count_same : (n : ℕ) (f g : ℕ → Bool) → ((k : ℕ) → k < n → f k ≡ g k) → count_below n f ≡ count_below n g
unfolding count_below
count_same zero f g h = refl
count_same (suc n) f g h = ap₂ (λ (a : ℕ) (b : Bool). a + worth b 1) (count_same n f g (λ k l. h k (omega arith))) (h n (omega arith))

worth_one : (b : Bool) → worth b 1 ≤ 1
unfolding worth
worth_one true = omega arith
worth_one false = omega arith

pub count_most : (n : ℕ) (f : ℕ → Bool) → count_below n f ≤ n
unfolding count_below
count_most zero f = omega arith
count_most (suc n) f = omega (arith, count_most n f, worth_one (f n))

-- none of them
pub none_at : (n : ℕ) (f : ℕ → Bool) → some_below n f ≡ false → (k : ℕ) → k < n → f k ≡ false
none_at n f e k l = by (f k) (λ t. never (some_i n f k l t) e) (λ t. t)

pub none_i : (n : ℕ) (f : ℕ → Bool) → ((k : ℕ) → k < n → f k ≡ false) → some_below n f ≡ false
unfolding some_below
none_i zero f h = refl
none_i (suc n) f h = rw (none_i n f (λ k l. h k (omega arith)), h n (omega arith))

-- one number fails
pub all_stop : (n i : ℕ) (f : ℕ → Bool) → i < n → f i ≡ false → all_below n f ≡ false
all_stop n i f h e = by (all_below n f) (λ t. never (below_at n f t i h) e) (λ t. t)

-- both at every number
pub all_both : (n : ℕ) (f g : ℕ → Bool) → all_below n (λ k. f k && g k) ≡ (all_below n f && all_below n g)
unfolding all_below
all_both zero f g = refl
all_both (suc n) f g = rw (all_both n f g) (mix (all_below n f) (all_below n g) (f n) (g n))
  where
    mix : (a b c d : Bool) → ((a && b) && (c && d)) ≡ ((a && c) && (b && d))
    mix true true c d = refl
    mix true false true d = refl
    mix true false false d = refl
    mix false b c d = refl
