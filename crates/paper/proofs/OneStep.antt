-- One step: given the facts before it and its actions, what its clauses say. Assumes nothing.
use mathlib.Core.Path.{◌≡◌, refl, sym, ap, ◌∙◌}
use mathlib.Core.Bool.{Bool, true, false, not, ◌&&◌, ◌||◌, beq}
use Prim.Native.Nat.{ℕ, ◌+◌, ◌-◌, ◌≤◌, ◌<◌}
use native.Mathlib.Omega.{arith}
use lib.Dec.{leb}
use lib.ListN.{length}
use borrow.Author.Tests.{leb-true}
use Rattle.paper.specs.declared.Step.{Step}
use Rattle.paper.specs.Lists.{any, all, up_from, filter}
use Rattle.paper.specs.Counting.{bit, all_below}
use Rattle.paper.specs.Sheet.{Rule, Sheet, good_pair, good_rule, Fine}
use Rattle.paper.specs.Step.{meets, need_of, rule_of, sets1, sets0, clash, applied}
use Rattle.paper.specs.Clauses.{Assign, holds, sat_all, fact, action, z, literals, need_clauses, z_clauses, effect_clauses, exclusions, frames, step_clauses}
use Rattle.paper.specs.Sets.{needs_met, fires, firing_set, apart_set}
use Rattle.paper.proofs.Basic.{never, and_i, and_e, not_true, not_t}
use Rattle.paper.proofs.Any.{any_filter}
use Rattle.paper.proofs.Lists.{beq_eq, beq_same, imp_e, imp_i, all_append, all_at0, all_i0, any_w0, any_i0, below_at, below_i, some_w, some_i, all_below_lem, any_counts, any_map, all_get_d}
use Rattle.paper.proofs.Groups.{lits_all, needs_say, z_say, effects_say, excl_say, frames_say}
use Rattle.paper.proofs.Bits.{bit_mask_below}

-- the facts of moment i are those of state s
abbrev pub Facts : Sheet → ℕ → Assign → ℕ → ℕ → Type 0
Facts p N v i s = (k : ℕ) → k < p.F → v (fact p N (record { 0 = i }) k) ≡ bit s k

-- the actions of step i are those of mask m
abbrev pub Acts : Sheet → ℕ → Assign → ℕ → ℕ → Type 0
Acts p N v i m = (a : ℕ) → a < p.A → v (action p N (record { 0 = i }) a) ≡ bit m a

-- the z of step i say which rules fire
abbrev pub Zs : Sheet → ℕ → Assign → ℕ → ℕ → ℕ → Type 0
Zs p N v i m s = (r : ℕ) → r < p.R → v (z p N (record { 0 = i }) r) ≡ fires p m s r

abbrev pub next : Sheet → ℕ → ℕ → ℕ
next p m s = applied p.F (firing_set p m s) s

-- the step goes well, and its variables have their values
pub record Goes (ex : ℕ → ℕ → Bool) (p : Sheet) (N : ℕ) (v : Assign) (i m s : ℕ) : Type 0 where
  pub needs : needs_met p m s ≡ true
  pub zs : Zs p N v i m s
  pub apart : apart_set ex p m ≡ true
  pub calm : clash p.F (firing_set p m s) ≡ false
  pub facts : Facts p N v (i + 1) (next p m s)

or_swap : (a b : Bool) → (a || b) ≡ (b || a)
or_swap true true = refl
or_swap true false = refl
or_swap false true = refl
or_swap false false = refl

and_turn : (a b : Bool) → (a && b) ≡ (b && a)
and_turn true true = refl
and_turn true false = refl
and_turn false true = refl
and_turn false false = refl

-- one fact: the effects and the frames together
k_logic : (f g a b : Bool) → (((not a || g) && (not b || not g)) && ((not f || (b || g)) && (f || (a || not g)))) ≡ (not (a && b) && beq g (a || (f && not b)))
k_logic true true true true = refl
k_logic true true true false = refl
k_logic true true false true = refl
k_logic true true false false = refl
k_logic true false true true = refl
k_logic true false true false = refl
k_logic true false false true = refl
k_logic true false false false = refl
k_logic false true true true = refl
k_logic false true true false = refl
k_logic false true false true = refl
k_logic false true false false = refl
k_logic false false true true = refl
k_logic false false true false = refl
k_logic false false false true = refl
k_logic false false false false = refl

pub lits_meet : (p : Sheet) (N : ℕ) (v : Assign) (i s : ℕ) → Facts p N v i s → (one nil : ℕ) →
    all (holds v) (literals p N (record { 0 = i }) one nil) ≡ meets p.F s one nil
unfolding meets
lits_meet p N v i s fa one nil = lits_all p N v (record { 0 = i }) one nil ∙ all_below_lem p.F _ _ (λ k l. rw (fa k l))

pub rule_fine : (F A : ℕ) (r : Rule) → good_rule F A r ≡ true → (1 ≤ r.action) × (r.action ≤ A)
unfolding good_rule
rule_fine F A r h =
    let x = and_e (leb 1 r.action && leb r.action A) (good_pair F r.cond1 r.cond0 && good_pair F r.set1 r.set0) h in
    let y = and_e (leb 1 r.action) (leb r.action A) x.0 in
    (leb-true 1 r.action y.0, leb-true r.action A y.1)

-- a rule's action is 1..A
pub rule_acts : (p : Sheet) → Fine p → (r : ℕ) → r < p.R → (1 ≤ (rule_of p r).action) × ((rule_of p r).action ≤ p.A)
unfolding rule_of
rule_acts p fine r l =
    let h : r < length p.rules = omega (arith, fine.rules_count) in
    rule_fine p.F p.A (rule_of p r) (all_get_d (good_rule p.F p.A) (record { action = 0; cond1 = 0; cond0 = 0; set1 = 0; set0 = 0 }) p.rules fine.rules_fine r h)

pub rule_act : (p : Sheet) → Fine p → (r : ℕ) → r < p.R → (rule_of p r).action - 1 < p.A
rule_act p fine r l = let x = rule_acts p fine r l in omega arith

step_split : (p : Sheet) (N : ℕ) (v : Assign) (ex : ℕ → ℕ → Bool) (t : Step) →
    sat_all v (step_clauses p N ex t) ≡ ((((sat_all v (need_clauses p N t) && sat_all v (z_clauses p N t)) && sat_all v (effect_clauses p N t)) && sat_all v (exclusions p N ex t)) && sat_all v (frames p N t))
unfolding step_clauses
step_split p N v ex t = simp all_append

module _ (p : Sheet) (N : ℕ) (fine : Fine p) (v : Assign) (i m s : ℕ) (fa : Facts p N v i s) (ac : Acts p N v i m) where
  needs_eq : sat_all v (need_clauses p N (record { 0 = i })) ≡ needs_met p m s
  unfolding needs_met
  needs_eq = needs_say p N v (record { 0 = i }) ∙ all_below_lem p.A _ _ (λ a l.
      rw (lits_meet p N v i s fa (need_of p a).need1 (need_of p a).need0, ac a l) (or_swap (meets p.F s (need_of p a).need1 (need_of p a).need0) (not (bit m a))))

  apart_eq : (ex : ℕ → ℕ → Bool) → sat_all v (exclusions p N ex (record { 0 = i })) ≡ apart_set ex p m
  unfolding apart_set
  apart_eq ex = excl_say p N v ex (record { 0 = i }) ∙ all_below_lem p.A _ _ (λ a l. all_below_lem p.A _ _ (λ b k. rw (ac a l, ac b k)))

  z_eq : sat_all v (z_clauses p N (record { 0 = i })) ≡ all_below p.R (λ r. beq (v (z p N (record { 0 = i }) r)) (fires p m s r))
  unfolding fires
  z_eq = z_say p N v (record { 0 = i }) ∙ all_below_lem p.R _ _ (λ r l.
      rw (lits_meet p N v i s fa (rule_of p r).cond1 (rule_of p r).cond0, ac ((rule_of p r).action - 1) (rule_act p fine r l)))

  -- with the z in place, a test of some firing rule
  some_eq : Zs p N v i m s → (q : Rule → Bool) → any (λ r. q (rule_of p r) && v (z p N (record { 0 = i }) r)) (up_from 0 p.R) ≡ any q (firing_set p m s)
  unfolding firing_set
  some_eq zs q = sym (any_map q (rule_of p) (filter (fires p m s) (up_from 0 p.R)) ∙ any_filter (λ r. q (rule_of p r)) (fires p m s) (up_from 0 p.R)
      ∙ any_counts p.R _ (λ r. q (rule_of p r) && v (z p N (record { 0 = i }) r)) (λ r l. rw (zs r l) (and_turn (fires p m s r) (q (rule_of p r)))))

  module _ (zs : Zs p N v i m s) where
    -- what the firing rules set is so after the step
    effects_e : sat_all v (effect_clauses p N (record { 0 = i })) ≡ true → (k : ℕ) → k < p.F →
        (sets1 (firing_set p m s) k ≡ true → v (fact p N (record { 0 = i + 1 }) k) ≡ true) × (sets0 (firing_set p m s) k ≡ true → not (v (fact p N (record { 0 = i + 1 }) k)) ≡ true)
    unfolding sets1 sets0
    effects_e h k l = (
      λ e. any_w0 _ p.R (some_eq zs (λ r. bit r.set1 k) ∙ e) (λ r b d.
          let x = and_e (bit (rule_of p r).set1 k) (v (z p N (record { 0 = i }) r)) d in imp_e (bit (rule_of p r).set1 k) (v (fact p N (record { 0 = i + 1 }) k)) (sides r b x.1).0 x.0),
      λ e. any_w0 _ p.R (some_eq zs (λ r. bit r.set0 k) ∙ e) (λ r b d.
          let x = and_e (bit (rule_of p r).set0 k) (v (z p N (record { 0 = i }) r)) d in imp_e (bit (rule_of p r).set0 k) (not (v (fact p N (record { 0 = i + 1 }) k))) (sides r b x.1).1 x.0),
    )
      where
        sides : (r : ℕ) → r < p.R → v (z p N (record { 0 = i }) r) ≡ true →
            ((not (bit (rule_of p r).set1 k) || v (fact p N (record { 0 = i + 1 }) k)) ≡ true) × ((not (bit (rule_of p r).set0 k) || not (v (fact p N (record { 0 = i + 1 }) k))) ≡ true)
        sides r b y =
            let x = imp_e (v (z p N (record { 0 = i }) r)) (all (holds v) (literals p N (record { 0 = i + 1 }) (rule_of p r).set1 (rule_of p r).set0))
            (all_at0 _ p.R (sym (effects_say p N v (record { 0 = i })) ∙ h) r b) y in
            and_e (not (bit (rule_of p r).set1 k) || v (fact p N (record { 0 = i + 1 }) k)) (not (bit (rule_of p r).set0 k) || not (v (fact p N (record { 0 = i + 1 }) k)))
            (all_at0 _ p.F (sym (lits_all p N v (record { 0 = i + 1 }) (rule_of p r).set1 (rule_of p r).set0) ∙ x) k l)

    effects_i : ((k : ℕ) → k < p.F →
        (sets1 (firing_set p m s) k ≡ true → v (fact p N (record { 0 = i + 1 }) k) ≡ true) × (sets0 (firing_set p m s) k ≡ true → not (v (fact p N (record { 0 = i + 1 }) k)) ≡ true)) →
        sat_all v (effect_clauses p N (record { 0 = i })) ≡ true
    unfolding sets1 sets0
    effects_i h = effects_say p N v (record { 0 = i }) ∙ all_i0 _ p.R (λ r b. imp_i (v (z p N (record { 0 = i }) r)) _ (λ y.
        lits_all p N v (record { 0 = i + 1 }) (rule_of p r).set1 (rule_of p r).set0 ∙ all_i0 _ p.F (λ k l. and_i
        (imp_i (bit (rule_of p r).set1 k) _ (λ e. (h k l).0 (sym (some_eq zs (λ r. bit r.set1 k)) ∙ any_i0 _ p.R r b (and_i e y))))
        (imp_i (bit (rule_of p r).set0 k) _ (λ e. (h k l).1 (sym (some_eq zs (λ r. bit r.set0 k)) ∙ any_i0 _ p.R r b (and_i e y)))))))

    frames_eq : sat_all v (frames p N (record { 0 = i })) ≡ all_below p.F (λ k.
        (not (bit s k) || (sets0 (firing_set p m s) k || v (fact p N (record { 0 = i + 1 }) k))) && (bit s k || (sets1 (firing_set p m s) k || not (v (fact p N (record { 0 = i + 1 }) k)))))
    unfolding sets1 sets0
    frames_eq = frames_say p N v (record { 0 = i }) ∙ all_below_lem p.F _ _ (λ k l.
        rw (fa k l, some_eq zs (λ r. bit r.set0 k), some_eq zs (λ r. bit r.set1 k)))

    -- the effects and the frames: no clash, and the next state's facts
    moved_e : sat_all v (effect_clauses p N (record { 0 = i })) ≡ true → sat_all v (frames p N (record { 0 = i })) ≡ true → (k : ℕ) → k < p.F →
        ((sets1 (firing_set p m s) k && sets0 (firing_set p m s) k) ≡ false) × (v (fact p N (record { 0 = i + 1 }) k) ≡ (sets1 (firing_set p m s) k || (bit s k && not (sets0 (firing_set p m s) k))))
    moved_e he hf k l =
        let e = effects_e he k l in
        let a : Bool = sets1 (firing_set p m s) k in
        let b : Bool = sets0 (firing_set p m s) k in
        let g : Bool = v (fact p N (record { 0 = i + 1 }) k) in
        let x = and_e (not (a && b)) (beq g (a || (bit s k && not b)))
        (sym (k_logic (bit s k) g a b) ∙ and_i (and_i (imp_i a g e.0) (imp_i b (not g) e.1)) (below_at p.F _ (sym frames_eq ∙ hf) k l)) in
        (not_t (a && b) x.0, beq_eq g (a || (bit s k && not b)) x.1)

    moved_i : ((k : ℕ) → k < p.F →
        ((sets1 (firing_set p m s) k && sets0 (firing_set p m s) k) ≡ false) × (v (fact p N (record { 0 = i + 1 }) k) ≡ (sets1 (firing_set p m s) k || (bit s k && not (sets0 (firing_set p m s) k))))) →
        (sat_all v (effect_clauses p N (record { 0 = i })) ≡ true) × (sat_all v (frames p N (record { 0 = i })) ≡ true)
    moved_i h = (
      effects_i (λ k l. let y = and_e _ _ (both k l).0 in (imp_e (sets1 (firing_set p m s) k) _ y.0, imp_e (sets0 (firing_set p m s) k) _ y.1)),
      frames_eq ∙ below_i p.F _ (λ k l. (both k l).1),
    )
      where
        both : (k : ℕ) → k < p.F →
            (((not (sets1 (firing_set p m s) k) || v (fact p N (record { 0 = i + 1 }) k)) && (not (sets0 (firing_set p m s) k) || not (v (fact p N (record { 0 = i + 1 }) k)))) ≡ true)
            × (((not (bit s k) || (sets0 (firing_set p m s) k || v (fact p N (record { 0 = i + 1 }) k))) && (bit s k || (sets1 (firing_set p m s) k || not (v (fact p N (record { 0 = i + 1 }) k))))) ≡ true)
        both k l =
            let a : Bool = sets1 (firing_set p m s) k in
            let b : Bool = sets0 (firing_set p m s) k in
            let g : Bool = v (fact p N (record { 0 = i + 1 }) k) in
            and_e ((not a || g) && (not b || not g)) ((not (bit s k) || (b || g)) && (bit s k || (a || not g)))
            (k_logic (bit s k) g a b ∙ and_i (ap not (h k l).0) (beq_same g (a || (bit s k && not b)) (h k l).1))

  pub step_e : (ex : ℕ → ℕ → Bool) → sat_all v (step_clauses p N ex (record { 0 = i })) ≡ true → Goes ex p N v i m s
  unfolding clash applied
  step_e ex h =
      let t : Step = record { 0 = i } in
      let e4 = and_e (((sat_all v (need_clauses p N t) && sat_all v (z_clauses p N t)) && sat_all v (effect_clauses p N t)) && sat_all v (exclusions p N ex t)) (sat_all v (frames p N t)) (sym (step_split p N v ex t) ∙ h) in
      let e3 = and_e ((sat_all v (need_clauses p N t) && sat_all v (z_clauses p N t)) && sat_all v (effect_clauses p N t)) (sat_all v (exclusions p N ex t)) e4.0 in
      let e2 = and_e (sat_all v (need_clauses p N t) && sat_all v (z_clauses p N t)) (sat_all v (effect_clauses p N t)) e3.0 in
      let e1 = and_e (sat_all v (need_clauses p N t)) (sat_all v (z_clauses p N t)) e2.0 in
      let zs : Zs p N v i m s = λ r l. beq_eq (v (z p N t r)) (fires p m s r) (below_at p.R _ (sym z_eq ∙ e1.1) r l) in
      let mv = moved_e zs e2.1 e4.1 in
      record {
        needs = sym needs_eq ∙ e1.0;
        zs = zs;
        apart = sym (apart_eq ex) ∙ e3.1;
        calm = not_true (λ c. some_w p.F _ c (λ k l d. never d (mv k l).0));
        facts = λ k l. (mv k l).1 ∙ sym (bit_mask_below p.F _ k l);
      }

  pub step_i : (ex : ℕ → ℕ → Bool) → Goes ex p N v i m s → sat_all v (step_clauses p N ex (record { 0 = i })) ≡ true
  unfolding clash applied
  step_i ex g =
      let t : Step = record { 0 = i } in
      let mv = moved_i g.zs (λ k l. (
        not_true (λ d. never (some_i p.F (λ k. sets1 (firing_set p m s) k && sets0 (firing_set p m s) k) k l d) g.calm),
        g.facts k l ∙ bit_mask_below p.F _ k l,
      )) in
      step_split p N v ex t
      ∙ and_i (and_i (and_i (and_i (needs_eq ∙ g.needs) (z_eq ∙ below_i p.R _ (λ r l. beq_same (v (z p N t r)) (fires p m s r) (g.zs r l)))) mv.0) (apart_eq ex ∙ g.apart)) mv.1
