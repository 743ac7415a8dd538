-- The clauses of the starts and of the goals at a moment. Assumes nothing.
use mathlib.Core.Path.{◌≡◌, refl, sym, ◌∙◌}
use mathlib.Core.Bool.{Bool, true, false, not, ◌||◌}
use mathlib.Core.List.{List}
use Prim.Native.Nat.{ℕ, ◌^◌}
use lib.Dec.{ltb}
use borrow.Author.Tests.{ltb-true, ltb-false}
use Rattle.paper.specs.Lists.{any, all, filter}
use Rattle.paper.specs.Counting.{bit, overlap}
use Rattle.paper.specs.Sheet.{Masks, Sheet, fits, good_masks, holds_at, holds_in}
use Rattle.paper.specs.Clauses.{Assign, holds, sat, sat_all, literals, at_moment}
use Rattle.paper.proofs.Basic.{never, and_e, by, not_true}
use Rattle.paper.proofs.Lists.{all_map, all_filter, all_when, any_below, some_w, some_i}
use Rattle.paper.proofs.Groups.{lits_any}
use Rattle.paper.proofs.Bits.{bit_high, bit_nil}
use Rattle.paper.proofs.OneStep.{Facts}

or_not : (b : Bool) → (b || not b) ≡ true
or_not true = refl
or_not false = refl

-- both masks zero: it never holds
pub blank_never : (F s : ℕ) → holds_in F s (record { pos = 0; neg = 0 }) ≡ false
unfolding holds_in holds_at
blank_never F s = not_true (λ e. some_w F _ e (λ k l d. never d (rw (bit_nil k))))

-- overlapping: it always holds, so T(P) leaves it out
pub always : (F s : ℕ) (c : Masks) → good_masks F c ≡ true → overlap c.pos c.neg ≡ true → holds_in F s c ≡ true
unfolding overlap holds_in holds_at good_masks fits
always F s c h o = some_w 16 _ o (λ k l d.
    let x = and_e (bit c.pos k) (bit c.neg k) d in
    some_i F _ k
    (by (ltb k F) (λ e. ltb-true k F e)
    (λ e. never x.0 (bit_high F c.pos k (ltb-true c.pos (2 ^ F) (and_e (ltb c.pos (2 ^ F)) (ltb c.neg (2 ^ F)) h).0) (ltb-false k F e))))
    (rw (x.0, x.1) (or_not (bit s k))))

module _ (p : Sheet) (N : ℕ) (v : Assign) (i s : ℕ) (fa : Facts p N v i s) where
  clause_eq : (c : Masks) → any (holds v) (literals p N (record { 0 = i }) c.pos c.neg) ≡ holds_in p.F s c
  unfolding holds_in holds_at
  clause_eq c = lits_any p N v (record { 0 = i }) c.pos c.neg ∙ any_below p.F _ _ (λ k l. rw (fa k l))

  pub moment_eq : (cs : List Masks) → all (good_masks p.F) cs ≡ true → sat_all v (at_moment p N (record { 0 = i }) cs) ≡ all (holds_in p.F s) cs
  unfolding at_moment
  moment_eq cs h =
      all_map (sat v) _ (filter (λ c. not (overlap c.pos c.neg)) cs)
      ∙ all_filter _ (λ c. not (overlap c.pos c.neg)) cs
      ∙ all_when (good_masks p.F) (λ c. not (not (overlap c.pos c.neg)) || any (holds v) (literals p N (record { 0 = i }) c.pos c.neg)) (holds_in p.F s) (λ c n. by (overlap c.pos c.neg)
      (λ o. rw o (sym (always p.F s c n o))) (λ o. rw o (clause_eq c))) cs h
