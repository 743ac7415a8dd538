-- What each part of the clause maker adds is what the definitions name. Assumes nothing.
use mathlib.Core.Path.{◌≡◌, refl, sym, ap, ◌∙◌}
use mathlib.Core.Bool.{Bool, true, false, not, ◌&&◌, cond}
use mathlib.Core.List.{List, [], ◌∷◌, ◌++◌, map, map-append}
use Prim.Native.Nat.{ℕ, ◌+◌, ◌-◌, ◌*◌, ◌^◌, ◌≤◌, ◌<◌}
use native.Mathlib.Omega.{arith}
use lib.Dec.{eqb, ltb, leb}
use lib.Bits.{bit_and}
use lib.ListN.{drop, length, get_or}
use borrow.Author.Tests.{leb-true, eqb-true}
use Rattle.paper.specs.declared.Lit.{Lit}
use Rattle.paper.specs.declared.Moment.{Moment}
use Rattle.paper.specs.declared.Step.{Step}
use Rattle.paper.specs.declared.Trailer.{Trailer}
use Rattle.paper.specs.Lists.{only, each, up_from, filter}
use Rattle.paper.specs.Counting.{bit, overlap, before}
use Rattle.paper.specs.Sheet.{Sheet, Masks, Fine, masks_at, offsets, good_rule, good_pair, sheet_of, starts_at, goals_at, body_at}
use Rattle.paper.specs.Step.{need_of, rule_of}
use Rattle.paper.specs.Clauses.{Clause, Clauses, yes·, no·, neg, fact, action, z, facts, actions, rule_nos, literals, at_moment, need_clauses, z_clauses, effect_clauses, exclusions, frames, every_pair, theory_of, theory}
use Rattle.std.proofs.lemmas.Bool.{not-false, not-true, false_from_ne_true}
use Rattle.paper.proofs.Basic.{and_e}
use Rattle.paper.proofs.Lists.{all_get_d}
use Rattle.paper.proofs.Size.{theory_size}
use Rattle.bits.proofs.Machine.{apart}
use Rattle.bits.proofs.Upward.{map_more}
use Rattle.bits.proofs.Filled.{value_at_lem}
use Rattle.sheet.specs.Reading.{pair, fives, pairs_of, fives_of}
use Rattle.theory.specs.declared.Filled.{Filled}
use Rattle.theory.specs.Flat.{codes, ends_from, Stored}
use Rattle.theory.specs.Making.{Holds, Adds, lit, fact_as, literals_as, beside, need_part, z_part, effect_part, exclusion_part, exclusions_of, setters, frame_part, steps_of}
use Rattle.theory.proofs.Laws.{map_only, map_filter, as_true}

-- ---- the arrays of needs and rules
pub need_is : (p : Sheet) (needs : List (List ℕ)) (a : ℕ) → needs ≡ pairs_of p → a < 12 → get_or needs a [] ≡ pair (need_of p a)
unfolding pairs_of
need_is p needs a e h = ap (λ (l : List (List ℕ)). get_or l a []) e ∙ value_at_lem (λ k. pair (need_of p k)) [] 12 a h

pub rule_is : (p : Sheet) (rules : List (List ℕ)) (j : ℕ) → rules ≡ fives_of p → j < 24 → get_or rules j [] ≡ fives (rule_of p j)
unfolding fives_of
rule_is p rules j e h = ap (λ (l : List (List ℕ)). get_or l j []) e ∙ value_at_lem (λ k. fives (rule_of p k)) [] 24 j h

-- every rule's action is one of the sheet's
pub rule_acts : (b : List ℕ) (t : Trailer) (j : ℕ) (rules : List (List ℕ)) → Fine (sheet_of b t) → rules ≡ fives_of (sheet_of b t) → j < 24 → j < t.rules
    → (1 ≤ get_or (get_or rules j []) 0 0) × (get_or (get_or rules j []) 0 0 ≤ 12)
unfolding good_rule rule_of sheet_of
rule_acts b t j rules fine e h l =
    let p = sheet_of b t in
    let R = rule_of p j in
    let i : j < length p.rules = omega (arith, fine.rules_count) in
    let g = all_get_d (good_rule p.F p.A) (record { action = 0; cond1 = 0; cond0 = 0; set1 = 0; set0 = 0 }) p.rules fine.rules_fine j i in
    let d = (and_e (leb 1 R.action && leb R.action p.A) (good_pair p.F R.cond1 R.cond0 && good_pair p.F R.set1 R.set0) g).0 in
    let a = and_e (leb 1 R.action) (leb R.action p.A) d in
    let x = leb-true 1 R.action a.0 in
    let y = leb-true R.action p.A a.1 in
    let q = ap (λ (r : List ℕ). get_or r 0 0) (rule_is p rules j e h) in
    (omega arith, omega (arith, fine.actions_most))

-- ---- a fact's literals
module _ (p : Sheet) (n : ℕ) (t : Moment) (one nil k : ℕ) {a b : Bool} {X Y : Lit} (ea : a ≡ bit one k) (eb : b ≡ bit nil k) where
  pub fact_pushed : {sign : Bool} → X ≡ lit (fact p n t k) sign → Y ≡ neg X → only a X ++ only b Y ≡ fact_as p n sign t one nil k
  fact_pushed ex ey = let e = ey ∙ ap neg ex in λ i. only (ea i) (ex i) ++ only (eb i) (e i)

  pub fact_paired : (ahead : Bool) (x : Lit) → X ≡ lit (fact p n t k) true → Y ≡ neg X
      → only a (beside ahead x X) ++ only b (beside ahead x Y) ≡ map (beside ahead x) (fact_as p n true t one nil k)
  fact_paired ahead x ex ey =
      let e = ey ∙ ap neg ex in
      (λ i. only (ea i) (beside ahead x (ex i)) ++ only (eb i) (beside ahead x (e i)))
      ∙ sym (map-append (beside ahead x) (only (bit one k) (lit (fact p n t k) true)) (only (bit nil k) (lit (fact p n t k) false))
      ∙ (λ i. map_only (beside ahead x) (bit one k) (lit (fact p n t k) true) i ++ map_only (beside ahead x) (bit nil k) (lit (fact p n t k) false) i))

-- ---- a rule's z, by its five numbers
pub z_made : (p : Sheet) (n : ℕ) (t : Step) (j : ℕ) (rule : List ℕ) {A Z B Y : Lit} {s u : Moment} → rule ≡ fives (rule_of p j)
    → A ≡ lit (action p n t (get_or rule 0 0 - 1)) true → Z ≡ lit (z p n t j) false → B ≡ neg A → Y ≡ neg Z → s ≡ before t → u ≡ before t
    → ((A ∷ (Z ∷ [])) ∷ [])
    ++ (map (beside false Z) (literals p n s (get_or rule 1 0) (get_or rule 2 0)) ++ ((map neg (literals p n u (get_or rule 1 0) (get_or rule 2 0)) ++ (B ∷ (Y ∷ []))) ∷ []))
    ≡ z_part p n t j
z_made p n t j rule er ea ez eb ey es eu =
    let a = ea ∙ ap (λ (l : List ℕ). lit (action p n t (get_or l 0 0 - 1)) true) er in
    let b = eb ∙ ap neg a in
    let y = ey ∙ ap neg ez in
    λ i. (a i ∷ (ez i ∷ []))
    ∷ (map (beside false (ez i)) (literals p n (es i) (get_or (er i) 1 0) (get_or (er i) 2 0)) ++ ((map neg (literals p n (eu i) (get_or (er i) 1 0) (get_or (er i) 2 0)) ++ (b i ∷ (y i ∷ []))) ∷ []))

-- ---- exclusions, and the rules that set a fact
pub exclusions_of_lem : (p : Sheet) (n : ℕ) (t : Step) (a : ℕ) → each (actions p n) (exclusion_part p n t a) ≡ exclusions_of p n t a
exclusions_of_lem p n t a = sym (map_filter (λ b. no· (action p n t a) ∷ (no· (action p n t b) ∷ [])) (λ b. ltb a b && every_pair a b) (actions p n))

abbrev pub setter_part : Sheet → ℕ → Step → (ℕ → ℕ) → ℕ → ℕ → Clause
setter_part p n t mask k r = only (bit (mask r) k) (yes· (z p n t r))

pub setters_are : (p : Sheet) (n : ℕ) (t : Step) (mask : ℕ → ℕ) (k : ℕ) → each (up_from 0 p.R) (setter_part p n t mask k) ≡ setters p n t mask k
unfolding rule_nos
setters_are p n t mask k = sym (map_filter (λ r. yes· (z p n t r)) (λ r. bit (mask r) k) (up_from 0 p.R))

-- ---- each part of the clause maker adds the definition's clauses
module _ (p : Sheet) (n : ℕ) (t : Step) where
  pub needs_are : each (up_from 0 p.A) (need_part p n t) ≡ need_clauses p n t
  unfolding need_clauses actions
  needs_are = refl

  pub z_are : each (up_from 0 p.R) (z_part p n t) ≡ z_clauses p n t
  unfolding z_clauses rule_nos
  z_are = refl

  pub effects_are : each (up_from 0 p.R) (effect_part p n t) ≡ effect_clauses p n t
  unfolding effect_clauses rule_nos
  effects_are = refl

  pub exclusions_are : each (up_from 0 p.A) (exclusions_of p n t) ≡ exclusions p n every_pair t
  unfolding exclusions actions
  exclusions_are = refl

  pub frames_are : each (up_from 0 p.F) (frame_part p n t) ≡ frames p n t
  unfolding frames facts rule_nos
  frames_are = refl

-- ---- start and goal clauses
module _ (p : Sheet) (n : ℕ) (t : Moment) where
  moment_none : (c : Masks) → overlap c.pos c.neg ≡ true → [] ≡ at_moment p n t (c ∷ [])
  unfolding at_moment
  moment_none c e = rw e

  moment_one : (c : Masks) → overlap c.pos c.neg ≡ false → literals_as p n true t c.pos c.neg ∷ [] ≡ at_moment p n t (c ∷ [])
  unfolding at_moment
  moment_one c e = rw e (ap (λ l. l ∷ []) (as_true p n t c.pos c.neg))

  -- masks whose common bits are tested by the machine
  pub moment_left_out : (c : Masks) → c.pos < 2 ^ 16 → (bit_and c.pos c.neg ≡ 0 → ⊥) → [] ≡ at_moment p n t (c ∷ [])
  unfolding overlap
  moment_left_out c l h = moment_none c (not-false (overlap c.pos c.neg) (sym (apart 16 c.pos c.neg l) ∙ false_from_ne_true _ (λ e. h (eqb-true (bit_and c.pos c.neg) 0 e))))

  pub moment_added : (c : Masks) → c.pos < 2 ^ 16 → bit_and c.pos c.neg ≡ 0 → literals_as p n true t c.pos c.neg ∷ [] ≡ at_moment p n t (c ∷ [])
  unfolding overlap
  moment_added c l h = moment_one c (not-true (overlap c.pos c.neg) (sym (apart 16 c.pos c.neg l) ∙ ap (λ (k : ℕ). eqb k 0) h))

  moment_append : (cs ds : List Masks) → at_moment p n t (cs ++ ds) ≡ at_moment p n t cs ++ at_moment p n t ds
  unfolding at_moment
  moment_append [] ds = refl
  moment_append (c ∷ cs) ds = cases (overlap c.pos c.neg) (moment_append cs ds)
    where
      f : Masks → Clause
      f d = literals p n t d.pos d.neg

      q : Masks → Bool
      q d = not (overlap d.pos d.neg)

      cases : (b : Bool) → map f (filter q (cs ++ ds)) ≡ map f (filter q cs) ++ map f (filter q ds)
          → map f (cond (not b) (c ∷ filter q (cs ++ ds)) (filter q (cs ++ ds))) ≡ map f (cond (not b) (c ∷ filter q cs) (filter q cs)) ++ map f (filter q ds)
      cases true e = e
      cases false e = ap (λ l. f c ∷ l) e

  pub moment_start : (b : List ℕ) (o : ℕ) → [] ≡ at_moment p n t (map (masks_at b) (offsets o 4 0))
  unfolding at_moment offsets up_from
  moment_start b o = refl

  rows_more : (b : List ℕ) (o i : ℕ) → map (masks_at b) (offsets o 4 (i + 1)) ≡ map (masks_at b) (offsets o 4 i) ++ (masks_at b (o + 4 * i) ∷ [])
  unfolding offsets
  rows_more b o i = ap (map (masks_at b)) (map_more (λ j. o + 4 * j) i) ∙ map-append (masks_at b) (map (λ j. o + 4 * j) (up_from 0 i)) ((o + 4 * i) ∷ [])

  pub moment_more : (b : List ℕ) (o i : ℕ) {c : Masks} → c ≡ masks_at b (o + 4 * i)
      → at_moment p n t (map (masks_at b) (offsets o 4 i)) ++ at_moment p n t (c ∷ []) ≡ at_moment p n t (map (masks_at b) (offsets o 4 (i + 1)))
  moment_more b o i e =
      ap (λ c. at_moment p n t (map (masks_at b) (offsets o 4 i)) ++ at_moment p n t (c ∷ [])) e
      ∙ sym (ap (at_moment p n t) (rows_more b o i) ∙ moment_append (map (masks_at b) (offsets o 4 i)) (masks_at b (o + 4 * i) ∷ []))

  pub moment_all : (b : List ℕ) (o i count : ℕ) → i ≤ count → count ≤ i → at_moment p n t (map (masks_at b) (offsets o 4 i)) ≡ at_moment p n t (map (masks_at b) (offsets o 4 count))
  moment_all b o i count h d = let e : i ≡ count = omega arith in ap (λ (x : ℕ). at_moment p n t (map (masks_at b) (offsets o 4 x))) e

-- ---- all of it, by a sheet's bytes: the start clauses from o on, the goal clauses from q on
pub theory_made : (b : List ℕ) (t : Trailer) (n o q : ℕ) → o ≡ body_at b t + 4 * t.actions + 10 * t.rules → q ≡ body_at b t + 4 * t.actions + 10 * t.rules + 4 * t.starts
    → at_moment (sheet_of b t) n (record { 0 = 0 }) (map (masks_at b) (offsets o 4 t.starts)) ++ at_moment (sheet_of b t) n (record { 0 = n }) (map (masks_at b) (offsets q 4 t.goals))
    ++ steps_of (sheet_of b t) n
    ≡ theory (sheet_of b t) n
unfolding theory theory_of sheet_of starts_at goals_at
theory_made b t n o q eo eq =
    λ i. at_moment (sheet_of b t) n (record { 0 = 0 }) (map (masks_at b) (offsets (eo i) 4 t.starts)) ++ at_moment (sheet_of b t) n (record { 0 = n }) (map (masks_at b) (offsets (eq i) 4 t.goals))
    ++ steps_of (sheet_of b t) n

holds_none : (L E : List ℕ) → Holds L E (record { literals = 0; clauses = 0 }) [] []
unfolding codes each ends_from
holds_none L E = record { stored = λ f. record { clauses_are = refl; literals_are = refl; literals_stored = refl; ends_stored = refl } }

-- there is a place for all of it
module _ {L M N E G H : List ℕ} {m : Filled} where
  pub theory_stored : {p : Sheet} (n : ℕ) → Fine p → n ≤ 8 → 18720 ≤ length N → 6896 ≤ length H → M ≡ N → G ≡ H
      → Adds (theory p n) L M E G (record { literals = 0; clauses = 0 }) m → Stored N H m (theory p n) []
  unfolding theory
  theory_stored {p} n fine l a b d e w =
      let s = theory_size every_pair p fine n l in
      let x = s.0 in
      let y = s.1 in
      let r = rw (d, e) at w in
      (r.adds [] (holds_none L E)).stored (record { literals_fit = omega arith; literals_most = omega arith; clauses_fit = omega arith; clauses_most = omega arith })

  pub theory_behind : {C : Clauses} {k : Filled} → M ≡ N → G ≡ H → Adds C L M E G k m → (drop m.literals N ≡ drop m.literals L) × (drop m.clauses H ≡ drop m.clauses E)
  theory_behind d e w = let r = rw (d, e) at w in (r.literals_behind, r.ends_behind)
