-- What the arrays say of a sheet's rows, what the masks of the firing rules say of a step, and a run, one entry after the other.
-- Assumes nothing.
use mathlib.Core.Path.{◌≡◌, refl, sym, ap, ap₂, ◌∙◌, subst}
use mathlib.Core.Bool.{Bool, true, false, not, ◌&&◌, ◌||◌}
use mathlib.Core.List.{List, []}
use Prim.Native.Nat.{ℕ, zero, suc, ◌+◌, ◌-◌, ◌^◌, ◌≤◌, ◌<◌}
use native.Mathlib.Nat.{lt_of_lt_of_le}
use native.Mathlib.Numerals.{add-one}
use native.Mathlib.Omega.{arith}
use borrow.Author.Tests.{eq-eqb, ne_eqb, ltb-true, ltb-false, leb-true, not-true, not-false}
use lib.Bits.{bit_and, bit_or}
use lib.Dec.{eqb, ltb, leb}
use lib.Pow.{pow_mono}
use lib.ListN.{length, get_or, drop, drop_of_length-le}
use lib.Seq.{drop-cons}
use Rattle.paper.specs.declared.Run.{Run}
use Rattle.std.specs.Prelude.{Ok, Err}
use Rattle.paper.specs.declared.Failure.{Failure}
use Rattle.paper.specs.declared.Failure.TheVariants.{NeedUnmet, Clashed}
use Rattle.paper.specs.Lists.{any, filter, up_from}
use Rattle.paper.specs.Counting.{bit, some_below, mask_below, overlap}
use Rattle.paper.specs.Sheet.{Rule, Sheet, Fine, fits, good_pair, good_need, good_rule}
use Rattle.paper.specs.Step.{meets, need_of, rule_of, firing, sets1, sets0, clash, applied, stepped, act, step, entries_fit, onward, run_from}
use Rattle.paper.proofs.Basic.{and_e, and_zero, by}
use Rattle.paper.proofs.Lists.{any_map, any_below, all_get_d}
use Rattle.paper.proofs.Any.{any_filter}
use Rattle.paper.proofs.Bits.{bit_high, bit_ext, bit_mask_below, mask_below_lt}
use Rattle.bits.proofs.Machine.{or_bit, apart}
use Rattle.bits.proofs.Below.{some_more, some_same, none_i}
use Rattle.sheet.specs.Reading.{fives}
use Rattle.sheet.specs.Writes.{Writes}
use Rattle.sheet.proofs.Writes.{need_at_lem, rule_at_lem}
use Rattle.run.specs.Firing.{fires}

-- one rule more
pub one_set_more : (m x j k : ℕ) (f : ℕ → Bool) → bit m k ≡ some_below j f → bit x k ≡ f j → bit (bit_or m x) k ≡ some_below (j + 1) f
one_set_more m x j k f old new = or_bit m x k ∙ ap₂ (λ (a b : Bool). a || b) old new ∙ sym (some_more j f)

-- a mask of n bits with none at F or above is the mask of its facts
mask_is : (F n x : ℕ) (f : ℕ → Bool) → F ≤ n → x < 2 ^ n → ((k : ℕ) → k < F → bit x k ≡ f k)
    → ((k : ℕ) → F ≤ k → k < n → bit x k ≡ false) → x ≡ mask_below F f
mask_is F n x f le room low high = bit_ext n x (mask_below F f) room (lt_of_lt_of_le (mask_below_lt F f) (pow_mono le)) (λ k lt. by (ltb k F)
    (λ e. low k (ltb-true k F e) ∙ sym (bit_mask_below F f k (ltb-true k F e)))
    (λ e. high k (ltb-false k F e) lt ∙ sym (bit_high F (mask_below F f) k (mask_below_lt F f) (ltb-false k F e))))

mask_fits : (F n x : ℕ) → F ≤ n → x < 2 ^ n → ((k : ℕ) → F ≤ k → k < n → bit x k ≡ false) → x < 2 ^ F
mask_fits F n x le room high = subst (λ (y : ℕ). y < 2 ^ F) (sym (mask_is F n x (bit x) le room (λ k lt. refl) high)) (mask_below_lt F (bit x))

-- masks of a good row are of F facts
pair_fits : (F one nil : ℕ) → good_pair F one nil ≡ true → (one < 2 ^ F) × (nil < 2 ^ F)
unfolding good_pair fits
pair_fits F one nil e =
    let d = and_e (ltb one (2 ^ F)) (ltb nil (2 ^ F)) (and_e (ltb one (2 ^ F) && ltb nil (2 ^ F)) (not (overlap one nil)) e).0 in
    (ltb-true one (2 ^ F) d.0, ltb-true nil (2 ^ F) d.1)

record Fits (F : ℕ) (r : Rule) : Type 0 where
  conds : (r.cond1 < 2 ^ F) × (r.cond0 < 2 ^ F)
  sets : (r.set1 < 2 ^ F) × (r.set0 < 2 ^ F)

rule_fits : (F A : ℕ) (r : Rule) → good_rule F A r ≡ true → Fits F r
unfolding good_rule
rule_fits F A r e =
    let d = and_e (good_pair F r.cond1 r.cond0) (good_pair F r.set1 r.set0) (and_e (leb 1 r.action && leb r.action A) _ e).1 in
    record { conds = pair_fits F r.cond1 r.cond0 d.0; sets = pair_fits F r.set1 r.set0 d.1 }

module _ (p : Sheet) (fine : Fine p) where
  rule_in : (r : ℕ) → r < p.R → Fits p.F (rule_of p r)
  unfolding rule_of
  rule_in r lt = let l : r < length p.rules = omega (arith, fine.rules_count) in
      rule_fits p.F p.A (rule_of p r) (all_get_d (good_rule p.F p.A) _ p.rules fine.rules_fine r l)

  need_in : (i : ℕ) → i < p.A → ((need_of p i).need1 < 2 ^ p.F) × ((need_of p i).need0 < 2 ^ p.F)
  unfolding need_of good_need
  need_in i lt = let l : i < length p.needs = omega (arith, fine.needs_count) in
      pair_fits p.F (need_of p i).need1 (need_of p i).need0 (all_get_d (good_need p.F) _ p.needs fine.needs_fine i l)

module _ (p : Sheet) (needs rules : List (List ℕ)) (n : ℕ) (w : Writes p needs rules n) where
  in_sheet : (r : ℕ) → r < n → Fits p.F (rule_of p r)
  in_sheet r lt = rule_in p w.fine r (omega (arith, w.rules_count))

  -- what set_mask asks of the rules
  pub conds_fit : (r : ℕ) → r < n → (get_or (get_or rules r []) 1 0 < 2 ^ p.F) × (get_or (get_or rules r []) 2 0 < 2 ^ p.F)
  conds_fit r lt = rw (rule_at_lem p needs rules n w r lt) (in_sheet r lt).conds

  module _ (a s : ℕ) where
    -- number i of the firing rules
    sets_is : (i : ℕ) (g : Rule → ℕ) → ((r : Rule) → get_or (fives r) i 0 ≡ g r) → (k : ℕ)
        → some_below n (λ r. fires p.F (get_or rules r []) a s && bit (get_or (get_or rules r []) i 0) k) ≡ any (λ r. bit (g r) k) (firing p a s)
    unfolding firing
    sets_is i g is k =
        let go : ℕ → Bool = λ r. fires p.F (fives (rule_of p r)) a s in
        let set : ℕ → Bool = λ r. bit (g (rule_of p r)) k in
        some_same n (λ r. fires p.F (get_or rules r []) a s && bit (get_or (get_or rules r []) i 0) k) (λ r. go r && set r) (λ r lt. rw (rule_at_lem p needs rules n w r lt, is (rule_of p r)))
        ∙ ap (λ (m : ℕ). some_below m (λ r. go r && set r)) w.rules_count
        ∙ sym (any_map (λ r. bit (g r) k) (rule_of p) (filter go (up_from 0 p.R)) ∙ any_filter set go (up_from 0 p.R) ∙ any_below p.R (λ r. go r && set r) (λ r. go r && set r) (λ r lt. refl))

    module _ (ones zeros : ℕ) (h1 : (k : ℕ) → bit ones k ≡ some_below n (λ r. fires p.F (get_or rules r []) a s && bit (get_or (get_or rules r []) 3 0) k))
        (h0 : (k : ℕ) → bit zeros k ≡ some_below n (λ r. fires p.F (get_or rules r []) a s && bit (get_or (get_or rules r []) 4 0) k)) where
      ones_are : (k : ℕ) → bit ones k ≡ sets1 (firing p a s) k
      unfolding sets1
      ones_are k = h1 k ∙ sets_is 3 (λ r. r.set1) (λ r. refl) k

      zeros_are : (k : ℕ) → bit zeros k ≡ sets0 (firing p a s) k
      unfolding sets0
      zeros_are k = h0 k ∙ sets_is 4 (λ r. r.set0) (λ r. refl) k

      -- no firing rule sets a fact at F or above
      ones_high : (k : ℕ) → p.F ≤ k → bit ones k ≡ false
      ones_high k le = h1 k ∙ none_i n _ (λ r lt. ap (λ (b : Bool). fires p.F (get_or rules r []) a s && b) (rw (rule_at_lem p needs rules n w r lt) (bit_high p.F _ k (in_sheet r lt).sets.0 le)) ∙ and_zero (fires p.F (get_or rules r []) a s))

      ones_fit : ones < 2 ^ 16 → ones < 2 ^ p.F
      ones_fit room = mask_fits p.F 16 ones (omega (arith, w.fine.facts_most)) room (λ k le lt. ones_high k le)

      -- `ones & zeros == 0`
      clash_is : ones < 2 ^ 16 → eqb (bit_and ones zeros) 0 ≡ not (clash p.F (firing p a s))
      unfolding clash
      clash_is room = apart p.F ones zeros (ones_fit room) ∙ ap not (some_same p.F _ _ (λ k lt. ap₂ (λ (x y : Bool). x && y) (ones_are k) (zeros_are k)))

      next_is : s < 2 ^ p.F → (t : ℕ) → t < 2 ^ 16 → ((k : ℕ) → k < 16 → bit t k ≡ (bit ones k || (bit s k && not (bit zeros k)))) → t ≡ applied p.F (firing p a s) s
      unfolding applied
      next_is in-facts t room e = mask_is p.F 16 t _ (omega (arith, w.fine.facts_most)) room
          (λ k lt. e k (omega (arith, w.fine.facts_most)) ∙ ap₂ (λ (x z : Bool). x || (bit s k && not z)) (ones_are k) (zeros_are k))
          (λ k le lt. e k lt ∙ rw (ones_high k le, bit_high p.F s k in-facts le))

      module _ (lo : 1 ≤ a) where
        -- action a, once its needs are met
        pub met_clashed : ones < 2 ^ 16 → meets p.F s (need_of p (a - 1)).need1 (need_of p (a - 1)).need0 ≡ true → (bit_and ones zeros ≡ 0 → ⊥) → Err Clashed ≡ act p (a - 1) s
        unfolding act
        met_clashed room m e =
            let back : a - 1 + 1 ≡ a = omega arith in
            let x : clash p.F (firing p a s) ≡ true = not-false (clash p.F (firing p a s)) (sym (clash_is room) ∙ ne_eqb (bit_and ones zeros) 0 e) in
            rw (m, back, x)

        pub met_ran : ones < 2 ^ 16 → meets p.F s (need_of p (a - 1)).need1 (need_of p (a - 1)).need0 ≡ true → bit_and ones zeros ≡ 0
            → s < 2 ^ p.F → (t : ℕ) → t < 2 ^ 16 → ((k : ℕ) → k < 16 → bit t k ≡ (bit ones k || (bit s k && not (bit zeros k)))) → Ok t ≡ act p (a - 1) s
        unfolding act
        met_ran room m e in-facts t room2 is =
            let back : a - 1 + 1 ≡ a = omega arith in
            let x : clash p.F (firing p a s) ≡ false = not-true (clash p.F (firing p a s)) (sym (clash_is room) ∙ eq-eqb (bit_and ones zeros) 0 e) in
            rw (m, back, x) (ap Ok (next_is in-facts t room2 is))

  -- the test of the need that the code reads
  pub need_read : (i s : ℕ) (r : Bool) → i < p.A
      → ((F : ℕ) → get_or (get_or needs i []) 0 0 < 2 ^ F → get_or (get_or needs i []) 1 0 < 2 ^ F → r ≡ meets F s (get_or (get_or needs i []) 0 0) (get_or (get_or needs i []) 1 0))
      → r ≡ meets p.F s (need_of p i).need1 (need_of p i).need0
  need_read i s r lt = rw (need_at_lem p needs rules n w i lt) (λ h. let f = need_in p w.fine i lt in h p.F f.0 f.1)

-- an action whose need is not met
pub unmet : (p : Sheet) (i s : ℕ) → meets p.F s (need_of p i).need1 (need_of p i).need0 ≡ false → Err NeedUnmet ≡ act p i s
unfolding act
unmet p i s e = rw e

-- an entry that is not idle
pub step_at : (p : Sheet) (e s : ℕ) → 1 ≤ e → act p (e - 1) s ≡ step p e s
unfolding step
step_at p zero s lo = absurd (omega arith)
step_at p (suc a) s lo = ap (λ (x : ℕ). act p x s) (omega arith)

-- a step leads to a state
stepped_ran : (m c : Bool) (u t : ℕ) → stepped m c u ≡ Ok t → u ≡ t
stepped_ran false c u t e = let z : ◌≡◌ {A = ℕ} 0 1 = cc in absurd (omega arith)
stepped_ran true true u t e = let z : ◌≡◌ {A = ℕ} 0 1 = cc in absurd (omega arith)
stepped_ran true false u t e = cc

pub step_fits : (p : Sheet) (e s t : ℕ) → s < 2 ^ p.F → step p e s ≡ Ok t → t < 2 ^ p.F
unfolding step act applied
step_fits p zero s t fit ran = let same : s ≡ t = cc in rw same at fit
step_fits p (suc a) s t fit ran =
    subst (λ (y : ℕ). y < 2 ^ p.F) (stepped_ran (meets p.F s (need_of p a).need1 (need_of p a).need0) (clash p.F (firing p (a + 1) s)) _ t ran) (mask_below_lt p.F _)

pub entry_fits : (p : Sheet) (σ : List ℕ) → entries_fit p σ ≡ true → (i : ℕ) → i < length σ → get_or σ i 0 ≤ p.A
unfolding entries_fit
entry_fits p σ fit i lt = leb-true (get_or σ i 0) p.A (all_get_d (λ e. leb e p.A) 0 σ fit i lt)

-- a run, one entry after the other: what is left of it gives the answer w
module _ (p : Sheet) (σ : List ℕ) (i s : ℕ) (w : Run) (left : run_from p i s (drop i σ) ≡ w) where
  one_more : i < length σ → onward (step p (get_or σ i 0) s) (record { done = i; state = s; whole = false }) (λ t. run_from p (i + 1) t (drop (i + 1) σ)) ≡ w
  unfolding run_from
  one_more lt =
      subst (λ (m : ℕ). onward (step p (get_or σ i 0) s) (record { done = i; state = s; whole = false }) (λ t. run_from p (i + 1) t (drop m σ)) ≡ w)
      (sym (add-one i)) (rw (drop-cons σ i 0 lt) at left)

  pub run_on : (t : ℕ) → i < length σ → step p (get_or σ i 0) s ≡ Ok t → run_from p (i + 1) t (drop (i + 1) σ) ≡ w
  run_on t lt e = rw e at (one_more lt)

  pub run_failed : (f : Failure) → i < length σ → step p (get_or σ i 0) s ≡ Err f → record { done = i; state = s; whole = false } ≡ w
  run_failed NeedUnmet lt e = rw e at (one_more lt)
  run_failed Clashed lt e = rw e at (one_more lt)

  pub run_unmet : i < length σ → step p (get_or σ i 0) s ≡ Err NeedUnmet → record { done = i; state = s; whole = false } ≡ w
  run_unmet = run_failed NeedUnmet

  pub run_clashed : i < length σ → step p (get_or σ i 0) s ≡ Err Clashed → record { done = i; state = s; whole = false } ≡ w
  run_clashed = run_failed Clashed

  pub run_end : length σ ≤ i → record { done = i; state = s; whole = true } ≡ w
  unfolding run_from
  run_end le = rw (drop_of_length-le σ le) at left
