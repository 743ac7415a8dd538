-- What each group of T(P)'s clauses says of an assignment. Assumes nothing.
use mathlib.Core.Path.{◌≡◌, refl, ◌∙◌}
use mathlib.Core.Bool.{Bool, true, false, not, ◌&&◌, ◌||◌, beq}
use mathlib.Core.List.{List, [], ◌∷◌, ◌++◌, map}
use Prim.Native.Nat.{ℕ, ◌-◌}
use lib.Dec.{ltb}
use Rattle.paper.specs.declared.Moment.{Moment}
use Rattle.paper.specs.declared.Step.{Step}
use Rattle.paper.specs.declared.Lit.{Lit}
use Rattle.paper.specs.Lists.{any, all, filter, up_from}
use Rattle.paper.specs.Counting.{bit, before, after}
use Rattle.paper.specs.Sheet.{Sheet}
use Rattle.paper.specs.Step.{need_of, rule_of}
use Rattle.paper.specs.Clauses.{yes·, no·, neg, Assign, holds, sat, sat_all, fact, action, z, facts, actions, rule_nos, literals, need_clauses, z_clauses, effect_clauses, exclusions, frames}
use Rattle.paper.proofs.Basic.{any_append}
use Rattle.paper.proofs.Any.{any_filter}
use Rattle.paper.proofs.Lists.{beq_t, beq_f, or_nil, and_nil, all_map, any_map, all_append, all_filter, all_same, all_or, all_or_l, all_only, any_only, all_each, any_each, any_neg}

module _ (p : Sheet) (N : ℕ) (v : Assign) where
  pub lits_all : (t : Moment) (one nil : ℕ) →
      all (holds v) (literals p N t one nil) ≡ all (λ k. (not (bit one k) || v (fact p N t k)) && (not (bit nil k) || not (v (fact p N t k)))) (up_from 0 p.F)
  unfolding literals facts
  lits_all t one nil = simp (all_each, all_append, all_only, beq_t, beq_f)

  pub lits_any : (t : Moment) (one nil : ℕ) →
      any (holds v) (literals p N t one nil) ≡ any (λ k. (bit one k && v (fact p N t k)) || (bit nil k && not (v (fact p N t k)))) (up_from 0 p.F)
  unfolding literals facts
  lits_any t one nil = simp (any_each, any_append, any_only, beq_t, beq_f)

  pub needs_say : (t : Step) →
      sat_all v (need_clauses p N t) ≡ all (λ a. all (holds v) (literals p N (before t) (need_of p a).need1 (need_of p a).need0) || not (v (action p N t a))) (up_from 0 p.A)
  unfolding need_clauses actions
  needs_say t = simp (all_each, all_map, beq_f, or_nil, all_or)

  z_logic : (a m z : Bool) → ((a || not z) && ((m || not z) && (not m || (not a || z)))) ≡ beq z (a && m)
  z_logic true true true = refl
  z_logic true true false = refl
  z_logic true false true = refl
  z_logic true false false = refl
  z_logic false true true = refl
  z_logic false true false = refl
  z_logic false false true = refl
  z_logic false false false = refl

  z_list : (a z : ℕ) (cs : List Lit) →
      all (sat v) ((yes· a ∷ no· z ∷ []) ∷ map (λ l. l ∷ no· z ∷ []) cs ++ ((map neg cs ++ (no· a ∷ yes· z ∷ [])) ∷ [])) ≡ beq (v z) (v a && all (holds v) cs)
  z_list a z cs =
      rw (all_append (sat v) (map (λ l. l ∷ no· z ∷ []) cs) ((map neg cs ++ (no· a ∷ yes· z ∷ [])) ∷ []), any_append (holds v) (map neg cs) (no· a ∷ yes· z ∷ []))
      (simp (all_map, any_neg, beq_f, beq_t, or_nil, and_nil, all_or) (z_logic (v a) (all (holds v) cs) (v z)))

  frame_list : (x y : ℕ) (b c : Bool) (q : ℕ → Bool) (w : ℕ → ℕ) (rs : List ℕ) →
      any (holds v) ((record { var = x; sign = b } ∷ map (λ r. yes· (w r)) (filter q rs)) ++ (record { var = y; sign = c } ∷ []))
      ≡ (beq (v x) b || (any (λ r. q r && v (w r)) rs || beq (v y) c))
  frame_list x y b c q w rs =
      rw (any_append (holds v) (map (λ r. yes· (w r)) (filter q rs)) (record { var = y; sign = c } ∷ []))
      (simp (any_map, any_filter, beq_t, or_nil))

  frame_two : (x y : ℕ) (q0 q1 : ℕ → Bool) (w : ℕ → ℕ) (rs : List ℕ) →
      all (sat v) (((no· x ∷ map (λ r. yes· (w r)) (filter q0 rs)) ++ (yes· y ∷ [])) ∷ ((yes· x ∷ map (λ r. yes· (w r)) (filter q1 rs)) ++ (no· y ∷ [])) ∷ [])
      ≡ ((not (v x) || (any (λ r. q0 r && v (w r)) rs || v y)) && (v x || (any (λ r. q1 r && v (w r)) rs || not (v y))))
  frame_two x y q0 q1 w rs =
      rw (frame_list x y false true q0 w rs, frame_list x y true false q1 w rs) (rw (beq_f (v x), beq_t (v x), beq_f (v y), beq_t (v y), and_nil))

  pub z_say : (t : Step) →
      sat_all v (z_clauses p N t) ≡ all (λ r. beq (v (z p N t r)) (v (action p N t ((rule_of p r).action - 1)) && all (holds v) (literals p N (before t) (rule_of p r).cond1 (rule_of p r).cond0))) (up_from 0 p.R)
  unfolding z_clauses rule_nos
  z_say t = simp (all_each, z_list)

  pub effects_say : (t : Step) →
      sat_all v (effect_clauses p N t) ≡ all (λ r. not (v (z p N t r)) || all (holds v) (literals p N (after t) (rule_of p r).set1 (rule_of p r).set0)) (up_from 0 p.R)
  unfolding effect_clauses rule_nos
  effects_say t = simp (all_each, all_map, beq_f, or_nil, all_or_l)

  pub excl_say : (ex : ℕ → ℕ → Bool) (t : Step) →
      sat_all v (exclusions p N ex t) ≡ all (λ a. all (λ b. not (ltb a b && ex a b) || (not (v (action p N t a)) || not (v (action p N t b)))) (up_from 0 p.A)) (up_from 0 p.A)
  unfolding exclusions actions
  excl_say ex t = simp (all_each, all_map, all_filter, beq_f, or_nil)

  pub frames_say : (t : Step) →
      sat_all v (frames p N t) ≡ all (λ k.
      (not (v (fact p N (before t) k)) || (any (λ r. bit (rule_of p r).set0 k && v (z p N t r)) (up_from 0 p.R) || v (fact p N (after t) k)))
      && (v (fact p N (before t) k) || (any (λ r. bit (rule_of p r).set1 k && v (z p N t r)) (up_from 0 p.R) || not (v (fact p N (after t) k))))) (up_from 0 p.F)
  unfolding frames facts rule_nos
  frames_say t =
      all_each (sat v) _ (up_from 0 p.F)
      ∙ all_same _ _ (λ k. frame_two (fact p N (before t) k) (fact p N (after t) k) (λ r. bit (rule_of p r).set0 k) (λ r. bit (rule_of p r).set1 k) (z p N t) (up_from 0 p.R)) (up_from 0 p.F)
