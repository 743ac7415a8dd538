-- What is written into a lent slice, piece by piece; and how long a number's digits are. Assumes nothing.
use mathlib.Core.Path.{◌≡◌, refl, sym, ap, ◌∙◌, subst}
use mathlib.Core.List.{List, [], ◌∷◌, ◌++◌, append_assoc}
use Prim.Native.Nat.{ℕ, zero, suc, ◌+◌, ◌*◌, ◌/◌, ◌%◌, ◌^◌, ◌≤◌, ◌<◌}
use native.Mathlib.Numerals.{add-one}
use native.Mathlib.Omega.{arith}
use borrow.Author.Tests.{lt-ltb, le-ltb}
use lib.Dec.{ltb}
use lib.ListN.{length, get_or, take, drop, length-append}
use lib.Seq.{length-take-le, take-length, take-suc, take_at, drop_at, drop-drop, paste-zero}
use Rattle.std.specs.Fmt.{decimal as std_decimal}
use Rattle.std.proofs.lemmas.Fmt.{AppendsLastDigit, decimal_from_appends, length-decimal-le}
use Rattle.paper.specs.Lists.{each}
use Rattle.paper.specs.Program.{decimal_in, decimal, spaced, line}
use Rattle.paper.proofs.Basic.{by}
use Rattle.bits.proofs.Upward.{each_last}
use Rattle.line.specs.declared.Writer.{Writer}
use Rattle.line.specs.Written.{Writes}
use Rattle.line.specs.Adds.{Adds}

-- ---- what is written
pub writes_nothing : (at : ℕ) (T : List ℕ) → Writes at [] T T at
writes_nothing at T = record { bytes_are = paste-zero T at []; end_is = omega arith }

-- in a slice that reaches to the place, what stands behind the bytes is what stood there
module _ {at m : ℕ} {xs T U : List ℕ} (w : Writes at xs T U m) (h : at ≤ length T) where
  head_length : length (take at T ++ xs) ≡ m
  head_length = length-append (take at T) xs ∙ ap (λ k. k + length xs) (length-take-le at T h) ∙ sym w.end_is

  take_written : take m U ≡ take at T ++ xs
  take_written = ap (take m) w.bytes_are ∙ take_at (take at T ++ xs) (drop (at + length xs) T) m head_length

  drop_written : drop m U ≡ drop (at + length xs) T
  drop_written = ap (drop m) w.bytes_are ∙ drop_at (take at T ++ xs) (drop (at + length xs) T) m head_length

  pub writes_more : {ys Z : List ℕ} {r : ℕ} → Writes m ys U Z r → Writes at (xs ++ ys) T Z r
  writes_more {ys} {Z} {r} v =
      let e : at + length xs + length ys ≡ at + length (xs ++ ys) = simp length-append (omega arith) in
      let d : drop (m + length ys) U ≡ drop (at + length (xs ++ ys)) T =
      sym (drop-drop (length ys) m U) ∙ ap (drop (length ys)) drop_written ∙ drop-drop (length ys) (at + length xs) T ∙ ap (λ k. drop k T) e in
      record {
        bytes_are = v.bytes_are ∙ (λ i. take_written i ++ ys ++ d i) ∙ ap (λ l. l ++ drop (at + length (xs ++ ys)) T) (append_assoc (take at T) xs ys);
        end_is = v.end_is ∙ ap (λ k. k + length ys) w.end_is ∙ e;
      }

-- at the front of a slice
pub writes_front : {xs T U : List ℕ} {r : ℕ} → Writes 0 xs T U r → U ≡ xs ++ drop (length xs) T
writes_front {xs} {T} w = let e : 0 + length xs ≡ length xs = omega arith in w.bytes_are ∙ ap (λ k. xs ++ drop k T) e

-- what was written, by another name
pub writes_as : {at : ℕ} {xs ys T U : List ℕ} {r : ℕ} → xs ≡ ys → Writes at xs T U r → Writes at ys T U r
writes_as {at} {xs} {ys} {T} {U} {r} e w = subst (λ l. Writes at l T U r) e w

-- ---- what a writer adds
pub adds_as : {xs ys : List ℕ} {L M : Writer} → xs ≡ ys → Adds xs L M → Adds ys L M
adds_as {xs} {ys} {L} {M} e a = subst (λ l. Adds l L M) e a

pub adds_more : {xs ys : List ℕ} {L M N : Writer} → L.at ≤ length L.out.now → Adds xs L M → Adds ys M N → Adds (xs ++ ys) L N
adds_more h a b = record {
  same = b.same ∙ a.same;
  len = b.len ∙ a.len;
  written = writes_more a.written h b.written;
}

-- ---- digits
decimal_appends : AppendsLastDigit decimal_in
unfolding decimal_in
decimal_appends = record {
  one = λ k n l. rw (lt-ltb n 10 l) refl;
  more = λ k n l. rw (le-ltb n 10 l) refl;
}

-- a 32-bit number of at most k digits is what std writes
decimal_is : (k n : ℕ) → 1 ≤ k → n < 10 ^ k → n < 2 ^ 32 → decimal_in k n ≡ std_decimal n
decimal_is k n h l m = decimal_from_appends decimal_in decimal_appends k n (omega arith) (length-decimal-le k n h l (omega arith))

pub decimal_whole : (n : ℕ) → n < 2 ^ 32 → std_decimal n ≡ decimal n
decimal_whole n m = sym (decimal_is 10 n (omega arith) (omega arith) m)

-- in ten places it is written as in fewer
pub decimal_same : (k n : ℕ) → 1 ≤ k → n < 10 ^ k → n < 2 ^ 32 → decimal n ≡ decimal_in k n
decimal_same k n h l m = sym (decimal_whole n m) ∙ sym (decimal_is k n h l m)

pub decimal_length : (k n : ℕ) → length (decimal_in k n) ≤ k
unfolding decimal_in
decimal_length zero n = omega arith
decimal_length (suc k) n = by (ltb n 10)
    (λ e. rw e (omega arith))
    (λ e. rw e (let h = decimal_length k (n / 10) in let l = length-append (decimal_in k (n / 10)) ((48 + n % 10) ∷ []) in omega arith))

pub decimal_fits : (k n : ℕ) {at m : ℕ} {T U : List ℕ} → Writes at (decimal_in k n) T U m → m ≤ at + k
decimal_fits k n w = let l = decimal_length k n in let e = w.end_is in omega arith

pub spaced_fits : (n : ℕ) {at m : ℕ} {T U : List ℕ} → Writes at (spaced n) T U m → m ≤ at + 11
spaced_fits n w = let l = decimal_length 10 n in let e = w.end_is in omega arith

-- ---- entries
entries_last : (s : List ℕ) (i : ℕ) → i < length s → each (take (suc i) s) spaced ≡ each (take i s) spaced ++ spaced (get_or s i 0)
entries_last s i h = ap (λ l. each l spaced) (take-suc s i 0 h) ∙ each_last (take i s) (get_or s i 0) spaced

entries_length : (i : ℕ) (s : List ℕ) → length (each (take i s) spaced) ≤ 11 * i
unfolding each
entries_length zero s = omega arith
entries_length (suc i) [] = omega arith
entries_length (suc i) (x ∷ s) =
    let h = entries_length i s in let d = decimal_length 10 x in let l = length-append (spaced x) (each (take i s) spaced) in omega arith

pub entries_none : (at : ℕ) (s T : List ℕ) → Writes at (each (take 0 s) spaced) T T at
unfolding each
entries_none at s T = writes_nothing at T

pub entries_more : (i : ℕ) (s : List ℕ) {at m r : ℕ} {T U Z : List ℕ} → at ≤ length T → i < length s
    → Writes at (each (take i s) spaced) T U m → Writes m (spaced (get_or s i 0)) U Z r → Writes at (each (take (i + 1) s) spaced) T Z r
entries_more i s h l w v = writes_as (sym (entries_last s i l) ∙ sym (ap (λ k. each (take k s) spaced) (add-one i))) (writes_more w h v)

pub entries_fit_lem : (i : ℕ) (s : List ℕ) {at m : ℕ} {T U : List ℕ} → Writes at (each (take i s) spaced) T U m → m ≤ at + 11 * i
entries_fit_lem i s w = let l = entries_length i s in let e = w.end_is in omega arith

pub entries_fit_all : (s : List ℕ) {at m : ℕ} {T U : List ℕ} → Writes at (each s spaced) T U m → m ≤ at + 11 * length s
entries_fit_all s w = entries_fit_lem (length s) s (writes_as (ap (λ l. each l spaced) (sym (take-length s))) w)

-- ---- the line
line_parts : (code place horizon : ℕ) (s : List ℕ)
    → decimal code ++ spaced place ++ spaced horizon ++ each s spaced ++ (10 ∷ []) ≡ line code (place ∷ horizon ∷ s)
unfolding line each
line_parts code place horizon s = simp append_assoc

pub line_done : (code place horizon : ℕ) (s : List ℕ) {m₁ m₂ m₃ m₄ r : ℕ} {T U₁ U₂ U₃ U₄ Z : List ℕ}
    → Writes 0 (decimal code) T U₁ m₁ → Writes m₁ (spaced place) U₁ U₂ m₂ → Writes m₂ (spaced horizon) U₂ U₃ m₃ → Writes m₃ (each s spaced) U₃ U₄ m₄ → Writes m₄ (10 ∷ []) U₄ Z r
    → Writes 0 (line code (place ∷ horizon ∷ s)) T Z r
line_done code place horizon s a b c d e =
    writes_as (line_parts code place horizon s) (writes_more (writes_more (writes_more (writes_more a (omega arith) b) (omega arith) c) (omega arith) d) (omega arith) e)

-- three numbers, two spaces and a newline, and at most eleven bytes for an entry
pub line_length : (code place horizon count : ℕ) (s : List ℕ) → length (line code (place ∷ horizon ∷ take count s)) ≤ 33 + 11 * count
line_length code place horizon count s =
    let a = decimal_length 10 code in
    let b = decimal_length 10 place in
    let c = decimal_length 10 horizon in
    let d = entries_length count s in
    subst (λ l. length l ≤ 33 + 11 * count) (line_parts code place horizon (take count s)) (simp length-append (omega arith))
