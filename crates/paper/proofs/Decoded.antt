-- A sheet that decode gives is fine. Assumes nothing.
use mathlib.Core.Path.{◌≡◌, refl, ap, ◌∙◌, subst}
use mathlib.Core.Bool.{Bool, true, false, not, ◌&&◌}
use mathlib.Core.List.{List, [], ◌∷◌, ◌++◌, map}
use Prim.Native.Nat.{ℕ, zero, suc, ◌+◌, ◌*◌, ◌≤◌}
use native.Mathlib.Omega.{arith}
use lib.Dec.{eqb, leb}
use lib.ListN.{length, length-map}
use borrow.Author.Tests.{eqb-true, leb-true}
use Rattle.std.specs.Prelude.{Result, Ok}
use Rattle.paper.specs.declared.Trailer.{Trailer}
use Rattle.paper.specs.declared.Fault.{Fault}
use Rattle.paper.specs.declared.Fault.TheVariants.{Unmarked, Unbounded, Disagrees}
use Rattle.paper.specs.Lists.{all, filter, up_from}
use Rattle.paper.specs.Sheet.{Sheet, trailer, marked, within, Bounded, agrees, good_need, good_rule, good_masks, need_at, rule_at, masks_at, offsets, needs_at, rules_at, starts_at, goals_at, bad_rows, sheet_of, unless, no_row, decode, Fine, body_length, trailer_length, body_at}
use Rattle.paper.proofs.Basic.{and_e, by}
use Rattle.paper.proofs.Lists.{all_map}

unless_e : (ok : Bool) (f : Fault) (d : Result Sheet Fault) (p : Sheet) → unless ok f d ≡ Ok p → (ok ≡ true) × (d ≡ Ok p)
unless_e true f d p h = (refl, h)
unless_e false f d p h = let z : ◌≡◌ {A = ℕ} 0 1 = cc in absurd (omega arith)

row_e : (os : List ℕ) (q p : Sheet) → no_row os q ≡ Ok p → (os ≡ []) × (q ≡ p)
row_e [] q p h = (refl, cc)
row_e (o ∷ os) q p h = let z : ◌≡◌ {A = ℕ} 0 1 = cc in absurd (omega arith)

nil_e : {A : Type 0} (xs ys : List A) → xs ++ ys ≡ [] → (xs ≡ []) × (ys ≡ [])
nil_e [] ys h = (refl, h)
nil_e (x ∷ xs) ys h = let z : ◌≡◌ {A = ℕ} 0 1 = cc in absurd (omega arith)

-- where none fails, all pass
none_fails : {A : Type 0} (f : A → Bool) (xs : List A) → filter (λ x. not (f x)) xs ≡ [] → all f xs ≡ true
none_fails f [] h = refl
none_fails f (x ∷ xs) h = by (f x)
    (λ e. rw e (none_fails f xs (rw e at h)))
    (λ e. let g : x ∷ filter (λ x. not (f x)) xs ≡ [] = rw e at h in let z : ◌≡◌ {A = ℕ} 0 1 = cc in absurd (omega arith))

pub length_count : (n i : ℕ) → length (up_from i n) ≡ n
unfolding up_from
length_count zero i = refl
length_count (suc n) i = ap suc (length_count n (i + 1))

rows_count : {A : Type 0} (f : ℕ → A) (o w n : ℕ) → length (map f (offsets o w n)) ≡ n
unfolding offsets
rows_count f o w n = length-map (map (λ i. o + w * i) (up_from 0 n)) f ∙ length-map (up_from 0 n) (λ i. o + w * i) ∙ length_count n 0

-- the test as facts
pub within_bounded : (t : Trailer) → within t ≡ true → Bounded t
unfolding within
within_bounded t h =
    let w = and_e (leb 1 t.facts && leb t.facts 12) ((leb 1 t.actions && leb t.actions 12) && (leb t.rules 24 && (leb t.starts 16 && (leb t.goals 16 && leb t.horizon 8)))) h in
    let f = and_e (leb 1 t.facts) (leb t.facts 12) w.0 in
    let ga = and_e (leb 1 t.actions && leb t.actions 12) (leb t.rules 24 && (leb t.starts 16 && (leb t.goals 16 && leb t.horizon 8))) w.1 in
    let a = and_e (leb 1 t.actions) (leb t.actions 12) ga.0 in
    let gr = and_e (leb t.rules 24) (leb t.starts 16 && (leb t.goals 16 && leb t.horizon 8)) ga.1 in
    let gi = and_e (leb t.starts 16) (leb t.goals 16 && leb t.horizon 8) gr.1 in
    let gg = and_e (leb t.goals 16) (leb t.horizon 8) gi.1 in
    record {
      facts_least = leb-true 1 t.facts f.0;
      facts_most = leb-true t.facts 12 f.1;
      actions_least = leb-true 1 t.actions a.0;
      actions_most = leb-true t.actions 12 a.1;
      rules_most = leb-true t.rules 24 gr.0;
      starts_most = leb-true t.starts 16 gi.0;
      goals_most = leb-true t.goals 16 gg.0;
      horizon_most = leb-true t.horizon 8 gg.1;
    }

-- what an accepted file is
pub record Accepted (b : List ℕ) (p : Sheet) : Type 0 where
  pub mark : marked b ≡ true
  pub bounds : Bounded (trailer b)
  pub back_is : (trailer b).back ≡ body_length (trailer b)
  pub length_is : length b ≡ (trailer b).back + trailer_length
  pub clear : bad_rows b (trailer b) ≡ []
  pub sheet_is : sheet_of b (trailer b) ≡ p

pub accepted : (b : List ℕ) (p : Sheet) → decode b ≡ Ok p → Accepted b p
unfolding decode agrees
accepted b p h =
    let t : Trailer = trailer b in
    let h1 = unless_e (marked b) Unmarked _ p h in
    let h2 = unless_e (within t) Unbounded _ p h1.1 in
    let h3 = unless_e (agrees b t) Disagrees _ p h2.1 in
    let h4 = row_e (bad_rows b t) (sheet_of b t) p h3.1 in
    let g = and_e (eqb t.back (body_length t)) (eqb (length b) (t.back + trailer_length)) h3.0 in
    record {
      mark = h1.0;
      bounds = within_bounded t h2.0;
      back_is = eqb-true t.back (body_length t) g.0;
      length_is = eqb-true (length b) (t.back + trailer_length) g.1;
      clear = h4.0;
      sheet_is = h4.1;
    }

-- the longest sheet has 432 bytes
pub decoded_length : (b : List ℕ) (p : Sheet) → decode b ≡ Ok p → length b ≤ 432
unfolding body_length
decoded_length b p h =
    let a = accepted b p h in
    let w = a.bounds in
    omega arith

-- the body begins where the file begins
pub decoded_body : (b : List ℕ) (p : Sheet) → decode b ≡ Ok p → body_at b (trailer b) ≡ 0
unfolding body_at
decoded_body b p h = let a = accepted b p h in omega arith

pub decoded_fine : (b : List ℕ) (p : Sheet) → decode b ≡ Ok p → Fine p
unfolding bad_rows sheet_of needs_at rules_at starts_at goals_at
decoded_fine b p h =
    let t : Trailer = trailer b in
    let a = accepted b p h in
    let w = a.bounds in
    let needs : List ℕ = filter (λ o. not (good_need t.facts (need_at b o))) (needs_at b t) in
    let rules : List ℕ = filter (λ o. not (good_rule t.facts t.actions (rule_at b o))) (rules_at b t) in
    let starts : List ℕ = filter (λ o. not (good_masks t.facts (masks_at b o))) (starts_at b t) in
    let g4 = nil_e ((needs ++ rules) ++ starts) _ a.clear in
    let g3 = nil_e (needs ++ rules) starts g4.0 in
    let g2 = nil_e needs rules g3.0 in
    subst Fine a.sheet_is (record {
      facts_least = w.facts_least;
      facts_most = w.facts_most;
      actions_least = w.actions_least;
      actions_most = w.actions_most;
      rules_most = w.rules_most;
      starts_most = rw (rows_count (masks_at b) _ 4 t.starts) w.starts_most;
      goals_most = rw (rows_count (masks_at b) _ 4 t.goals) w.goals_most;
      horizon_most = w.horizon_most;
      needs_count = rows_count (need_at b) _ 4 t.actions;
      rules_count = rows_count (rule_at b) _ 10 t.rules;
      needs_fine = all_map (good_need t.facts) (need_at b) (needs_at b t) ∙ none_fails (λ o. good_need t.facts (need_at b o)) (needs_at b t) g2.0;
      rules_fine = all_map (good_rule t.facts t.actions) (rule_at b) (rules_at b t) ∙ none_fails (λ o. good_rule t.facts t.actions (rule_at b o)) (rules_at b t) g2.1;
      starts_fine = all_map (good_masks t.facts) (masks_at b) (starts_at b t) ∙ none_fails (λ o. good_masks t.facts (masks_at b o)) (starts_at b t) g3.1;
      goals_fine = all_map (good_masks t.facts) (masks_at b) (goals_at b t) ∙ none_fails (λ o. good_masks t.facts (masks_at b o)) (goals_at b t) g4.1;
    })
