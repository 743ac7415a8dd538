-- What a part of the clause maker adds to the arrays. What finds no place is left out, and then nothing is said.
-- Assumes nothing.
use Rattle.std.specs.Prelude.{◌≡◌, Bool, true, false, not, ◌&&◌, List, [], ◌∷◌, ◌++◌, map, ℕ, ◌-◌, ◌≤◌, ltb, drop}
use Rattle.paper.specs.declared.Lit.{Lit}
use Rattle.paper.specs.declared.Moment.{Moment}
use Rattle.paper.specs.declared.Step.{Step}
use Rattle.paper.specs.Lists.{filter, only, each, up_from}
use Rattle.paper.specs.Counting.{bit, before, after}
use Rattle.paper.specs.Sheet.{Sheet, Rule}
use Rattle.paper.specs.Step.{need_of, rule_of}
use Rattle.paper.specs.Clauses.{Clause, Clauses, yes·, no·, neg, fact, action, z, facts, actions, rule_nos, literals, step_clauses, every_pair}
use Rattle.theory.specs.declared.Filled.{Filled}
use Rattle.theory.specs.Flat.{Stored, Fit}

-- as far as there is a place
pub record Holds (literals ends : List ℕ) (m : Filled) (S : Clauses) (c : Clause) : Type 0 where
  pub stored : Fit literals ends S c → Stored literals ends m S c

-- the literals ls are added to the clause that is not ended yet; what is behind them is as it was
pub record Pushes (ls : Clause) (literals literals' : List ℕ) (m m' : Filled) : Type 0 where
  pub pushes : (ends : List ℕ) (S : Clauses) (c : Clause) → Holds literals ends m S c → Holds literals' ends m' S (c ++ ls)
  pub clauses_stay : m'.clauses ≡ m.clauses
  pub literals_grow : m.literals ≤ m'.literals
  pub literals_behind : drop m'.literals literals' ≡ drop m'.literals literals

-- the clause is ended
pub record Ends (ends ends' : List ℕ) (m m' : Filled) : Type 0 where
  pub closes : (literals : List ℕ) (S : Clauses) (c : Clause) → Holds literals ends m S c → Holds literals ends' m' (S ++ (c ∷ [])) []
  pub literals_stay : m'.literals ≡ m.literals
  pub clauses_grow : m.clauses ≤ m'.clauses
  pub ends_behind : drop m'.clauses ends' ≡ drop m'.clauses ends

-- the clauses D are added; what is behind them is as it was
pub record Adds (D : Clauses) (literals literals' ends ends' : List ℕ) (m m' : Filled) : Type 0 where
  pub adds : (S : Clauses) → Holds literals ends m S [] → Holds literals' ends' m' (S ++ D) []
  pub literals_grow : m.literals ≤ m'.literals
  pub literals_behind : drop m'.literals literals' ≡ drop m'.literals literals
  pub clauses_grow : m.clauses ≤ m'.clauses
  pub ends_behind : drop m'.clauses ends' ≡ drop m'.clauses ends

-- a literal
abbrev pub lit : ℕ → Bool → Lit
lit x sign = record { var = x; sign = sign }

-- the literals of two masks at a moment, those of the first with this sign, those of the second with the other
abbrev pub fact_as : Sheet → ℕ → Bool → Moment → ℕ → ℕ → ℕ → Clause
fact_as p n sign t one nil k = only (bit one k) (lit (fact p n t k) sign) ++ only (bit nil k) (lit (fact p n t k) (not sign))

unfoldable pub literals_as : Sheet → ℕ → Bool → Moment → ℕ → ℕ → Clause
literals_as p n sign t one nil = each (facts p n) (fact_as p n sign t one nil)

-- a literal and another one, which stands ahead or behind; a literal and the opposite of the variable x, the same way
abbrev pub beside : Bool → Lit → Lit → Clause
beside true x l = x ∷ (l ∷ [])
beside false x l = l ∷ (x ∷ [])

abbrev pub besides : Bool → ℕ → Lit → Clause
besides true x l = no· x ∷ (l ∷ [])
besides false x l = l ∷ (no· x ∷ [])

-- the facts that a rule sets to this value
abbrev pub set_to : Bool → Rule → ℕ
set_to true r = r.set1
set_to false r = r.set0

-- the clauses of one action's needs, of one rule's z and effects, of one action's exclusions, of one fact's frames, of all steps
abbrev pub need_part : Sheet → ℕ → Step → ℕ → Clauses
need_part p n t a = map (besides false (action p n t a)) (literals p n (before t) (need_of p a).need1 (need_of p a).need0)

abbrev pub z_of : Sheet → ℕ → Step → ℕ → ℕ → ℕ → ℕ → Clauses
z_of p n t r a one nil =
    (yes· (action p n t (a - 1)) ∷ (no· (z p n t r) ∷ []))
    ∷ (map (besides false (z p n t r)) (literals p n (before t) one nil)
    ++ ((map neg (literals p n (before t) one nil) ++ (no· (action p n t (a - 1)) ∷ (yes· (z p n t r) ∷ []))) ∷ []))

abbrev pub z_part : Sheet → ℕ → Step → ℕ → Clauses
z_part p n t r = z_of p n t r (rule_of p r).action (rule_of p r).cond1 (rule_of p r).cond0

abbrev pub effect_part : Sheet → ℕ → Step → ℕ → Clauses
effect_part p n t r = map (besides true (z p n t r)) (literals p n (after t) (rule_of p r).set1 (rule_of p r).set0)

abbrev pub exclusion_part : Sheet → ℕ → Step → ℕ → ℕ → Clauses
exclusion_part p n t a b = only (ltb a b && every_pair a b) (no· (action p n t a) ∷ (no· (action p n t b) ∷ []))

abbrev pub exclusions_of : Sheet → ℕ → Step → ℕ → Clauses
exclusions_of p n t a = map (λ b. no· (action p n t a) ∷ (no· (action p n t b) ∷ [])) (filter (λ b. ltb a b && every_pair a b) (actions p n))

abbrev pub setters : Sheet → ℕ → Step → (ℕ → ℕ) → ℕ → Clause
setters p n t mask k = map (λ r. yes· (z p n t r)) (filter (λ r. bit (mask r) k) (rule_nos p n))

abbrev pub frame_of : Sheet → ℕ → Step → (ℕ → ℕ) → Bool → ℕ → Clause
frame_of p n t mask sign k = (lit (fact p n (before t) k) sign ∷ setters p n t mask k) ++ (lit (fact p n (after t) k) (not sign) ∷ [])

abbrev pub setters_to : Sheet → ℕ → Step → Bool → ℕ → Clause
setters_to p n t value k = setters p n t (λ r. set_to value (rule_of p r)) k

abbrev pub frame_to : Sheet → ℕ → Step → Bool → ℕ → Clause
frame_to p n t value k = frame_of p n t (λ r. set_to value (rule_of p r)) value k

abbrev pub frame_part : Sheet → ℕ → Step → ℕ → Clauses
frame_part p n t k = frame_to p n t false k ∷ (frame_to p n t true k ∷ [])

abbrev pub steps_of : Sheet → ℕ → Clauses
steps_of p n = each (up_from 0 n) (λ i. step_clauses p n every_pair (record { 0 = i }))
