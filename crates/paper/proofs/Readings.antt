-- Readings that look right and are wrong, each refuted on sheet D. Assumes nothing.
use mathlib.Core.Path.{◌≡◌, refl}
use mathlib.Core.Bool.{Bool, true, false, ◌&&◌, ◌||◌, cond, beq}
use mathlib.Core.List.{List, [], ◌∷◌, map}
use mathlib.Core.Option.{none, some}
use Prim.Native.Nat.{ℕ, zero, suc, ◌-◌, ◌^◌, ◌<◌}
use native.Mathlib.Omega.{arith}
use lib.Dec.{ltb}
use lib.ListN.{get_or}
use Rattle.std.specs.Prelude.{Ok}
use Rattle.paper.specs.declared.Lit.{Lit}
use Rattle.paper.specs.declared.Row.TheVariants.{False, True, Literal, Conjunction}
use Rattle.paper.specs.Lists.{any, all, elem, computed_lists}
use Rattle.paper.specs.Counting.{bit, computed_counting}
use Rattle.paper.specs.Sheet.{Sheet, decode, is_start, computed_sheet}
use Rattle.paper.specs.Step.{reaches, is_plan, computed_step}
use Rattle.paper.specs.Clauses.{Clauses, yes·, no·, Assign, holds, sat, sat_all, fact, action, z, theory, computed_clauses}
use Rattle.paper.specs.Circuit.{Table, compile, value_at, computed_circuit}
use Rattle.paper.specs.Operations.{lit_value, judge, first_plan, computed_operations}
use Rattle.paper.specs.Sets.{leads, computed_sets}
use Rattle.paper.proofs.Basic.{never, and_e}
use Rattle.paper.proofs.Sheets.{D, need, rule, clause}

-- sheet D as document 01 writes it
abbrev pub sheet_d : Sheet
sheet_d =
    record {
      F = 2;
      A = 2;
      R = 2;
      H = 2;
      needs = need 0 0 ∷ need 0 0 ∷ [];
      rules = rule 1 0 0 0 1 ∷ rule 2 0 1 2 0 ∷ [];
      starts = [];
      goals = clause 2 0 ∷ [];
    }

-- its bytes say that sheet
pub d_is : decode D ≡ Ok sheet_d
unfolding computed_lists computed_counting computed_sheet
d_is = refl

-- the facts of moment 0 from the state s, all other variables from v
abbrev pub from : ℕ → Assign → Assign
from s v x = cond (ltb (x - 1) sheet_d.F) (bit s (x - 1)) (v x)

-- every member passes, so the member at i does
all_at : {A : Type 0} (f : A → Bool) (xs : List A) (i : ℕ) → all f xs ≡ true → get_or (map f xs) i true ≡ true
all_at f [] i h = refl
all_at f (x ∷ xs) zero h = (and_e (f x) (all f xs) h).0
all_at f (x ∷ xs) (suc i) h = all_at f xs i (and_e (f x) (all f xs) h).1

-- a rule's z is false, so the fact k that it would set has kept both a 0 and a 1
no_value : (z k : Bool) → (beq z false || false) ≡ true → (beq z true || (beq k false || false)) ≡ true → (beq k true || false) ≡ true → ⊥
no_value true k a b c = never a refl
no_value false true a b c = never b refl
no_value false false a b c = never c refl

-- formula (4) uncorrected, one value of each later fact for all starts, has no model though D has a plan of two steps:
-- starts 1 and 3 differ in fact 1 alone, which rule 2 sets from neither, so fact 1 at moment 1 has no value
pub later_facts_forced : (first_plan sheet_d 2 ≡ some (1 ∷ 2 ∷ []))
    × ((v : Assign) → ((s : ℕ) → s < 2 ^ sheet_d.F → is_start sheet_d s ≡ true → sat_all (from s v) (theory sheet_d 2) ≡ true) → ⊥)
unfolding computed_lists computed_counting computed_sheet computed_step computed_clauses computed_operations
later_facts_forced = (
  refl,
  λ v h.
      let at_1 = h 1 (omega arith) refl in
      let at_3 = h 3 (omega arith) refl in
      let z_false = all_at (sat (from 1 v)) (theory sheet_d 2) 4 at_1 in
      let keeps_0 = all_at (sat (from 1 v)) (theory sheet_d 2) 12 at_1 in
      let keeps_1 = all_at (sat (from 3 v)) (theory sheet_d 2) 11 at_3 in
      no_value (v 6) (v 8) z_false keeps_0 keeps_1,
)

-- action 2 from state 0: true are the action, its rule's z, and fact 1 at moment 1
abbrev pub one_start : Assign
one_start x = elem x (action sheet_d 1 (record { 0 = 0 }) 1 ∷ z sheet_d 1 (record { 0 = 0 }) 1 ∷ fact sheet_d 1 (record { 0 = 1 }) 1 ∷ [])

-- a model of T(P) is no plan: this one at horizon 1 marks action 2 alone, which works from start 0 and fails from start 1, and no schedule of one entry is a plan
pub model_is_no_plan : (v : Assign)
    × (sat_all v (theory sheet_d 1) ≡ true)
    × (v (action sheet_d 1 (record { 0 = 0 }) 0) ≡ false)
    × (v (action sheet_d 1 (record { 0 = 0 }) 1) ≡ true)
    × (reaches sheet_d (2 ∷ []) 0 ≡ true)
    × (reaches sheet_d (2 ∷ []) 1 ≡ false)
    × (is_plan sheet_d (2 ∷ []) ≡ false)
    × (first_plan sheet_d 1 ≡ none)
unfolding computed_lists computed_counting computed_sheet computed_step computed_clauses computed_operations
model_is_no_plan = (one_start, refl, refl, refl, refl, refl, refl, refl)

-- the value of the clauses themselves from the values of the literals
abbrev pub early : (Lit → Bool) → Clauses → Bool
early f S = all (any f) S

-- projecting before the circuit is decomposable: of an idle step from state 1 the clauses, which share variables, say yes once every other literal is true,
-- though it misses the goal, and the circuit says no
pub projected_too_early : (early (lit_value sheet_d 1 1 (0 ∷ [])) (theory sheet_d 1) ≡ true)
    × (leads sheet_d 1 (0 ∷ []) ≡ false)
    × (judge sheet_d 1 (compile (theory sheet_d 1)).table (compile (theory sheet_d 1)).root 1 (0 ∷ []) ≡ false)
unfolding computed_lists computed_counting computed_sheet computed_step computed_clauses computed_circuit computed_operations computed_sets
projected_too_early = (refl, refl, refl)

-- a conjunction of fact 0 at moment 1 and its opposite
abbrev pub mixed : Table
mixed =
    let x : ℕ = fact sheet_d 1 (record { 0 = 1 }) 0 in
    False ∷ True ∷ Literal (yes· x) ∷ Literal (no· x) ∷ Conjunction 2 3 ∷ []

-- the same of a row table: no assignment satisfies it, yet judge, which takes every other literal for true, says yes, for its sides share a variable
pub shared_variable : ((v : Assign) → value_at (holds v) mixed 4 ≡ false) × (judge sheet_d 1 mixed 4 0 (0 ∷ []) ≡ true)
unfolding computed_lists computed_counting computed_clauses computed_circuit computed_operations
shared_variable = (λ v. beside_itself (v 7), refl)
  where
    beside_itself : (b : Bool) → (beq b true && beq b false) ≡ false
    beside_itself true = refl
    beside_itself false = refl
