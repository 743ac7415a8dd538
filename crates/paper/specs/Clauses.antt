-- The clauses: T(P) at horizon n, its variables and its clauses, in the order of request E2.
-- Assumes nothing.
use Rattle.std.specs.Prelude.{Bool, true, false, not, ◌&&◌, List, [], ◌∷◌, ◌++◌, map, ℕ, ◌+◌, ◌-◌, ◌*◌, ltb}
use Rattle.std.specs.Bool.{beq}
use Rattle.paper.specs.declared.Moment.{Moment}
use Rattle.paper.specs.declared.Step.{Step}
use Rattle.paper.specs.declared.Lit.{Lit}
use Rattle.paper.specs.Lists.{any, all, filter, only, each, up_from}
use Rattle.paper.specs.Counting.{bit, overlap, before, after}
use Rattle.paper.specs.Sheet.{Masks, Sheet}
use Rattle.paper.specs.Step.{need_of, rule_of}

abbrev pub Clause : Type 0
Clause = List Lit

abbrev pub Clauses : Type 0
Clauses = List Clause

abbrev pub yes· : ℕ → Lit
yes· x = record { var = x; sign = true }

abbrev pub no· : ℕ → Lit
no· x = record { var = x; sign = false }

abbrev pub neg : Lit → Lit
neg l = record { var = l.var; sign = not l.sign }

-- an assignment of all variables, and what it is to satisfy a literal, a clause, a set of clauses
abbrev pub Assign : Type 0
Assign = ℕ → Bool

abbrev pub holds : Assign → Lit → Bool
holds v l = beq (v l.var) l.sign

abbrev pub sat : Assign → Clause → Bool
sat v c = any (holds v) c

abbrev pub sat_all : Assign → Clauses → Bool
sat_all v S = all (sat v) S

-- how many variables a step has: its actions, its rules' z, the facts of the next moment
unfoldable pub stride : Sheet → ℕ
stride p = p.A + p.R + p.F

module _ (p : Sheet) (n : ℕ) where
  -- variables count from 1: the facts of moment 0, then for each step its actions, its rules' z, the facts of the next moment
  unfoldable pub fact : Moment → ℕ → ℕ
  fact t k = t.0 * stride p + k + 1

  unfoldable pub action : Step → ℕ → ℕ
  action t a = t.0 * stride p + p.F + a + 1

  unfoldable pub z : Step → ℕ → ℕ
  z t r = t.0 * stride p + p.F + p.A + r + 1

  unfoldable pub variables : ℕ
  variables = p.F + n * stride p

  -- the facts, the actions and the rules, by number from 0
  unfoldable pub facts : List ℕ
  facts = up_from 0 p.F

  unfoldable pub actions : List ℕ
  actions = up_from 0 p.A

  unfoldable pub rule_nos : List ℕ
  rule_nos = up_from 0 p.R

  -- the literals of two masks at a moment, by fact, a fact of both positive first
  unfoldable pub literals : Moment → ℕ → ℕ → List Lit
  literals t one nil = each facts (λ k. only (bit one k) (yes· (fact t k)) ++ only (bit nil k) (no· (fact t k)))

  -- a clause of the sheet at a moment; one that always holds is left out
  unfoldable pub at_moment : Moment → List Masks → Clauses
  at_moment t cs = map (λ c. literals t c.pos c.neg) (filter (λ c. not (overlap c.pos c.neg)) cs)

  -- an action's step needs its precondition
  unfoldable pub need_clauses : Step → Clauses
  need_clauses t =
      each actions (λ a. map (λ l. l ∷ no· (action t a) ∷ []) (literals (before t) (need_of p a).need1 (need_of p a).need0))

  -- z is equivalent to its action and conditions
  unfoldable pub z_clauses : Step → Clauses
  z_clauses t =
      each rule_nos (λ r.
      let conds : List Lit = literals (before t) (rule_of p r).cond1 (rule_of p r).cond0 in
      (yes· (action t ((rule_of p r).action - 1)) ∷ no· (z t r) ∷ [])
      ∷ map (λ l. l ∷ no· (z t r) ∷ []) conds
      ++ ((map neg conds ++ (no· (action t ((rule_of p r).action - 1)) ∷ yes· (z t r) ∷ [])) ∷ []))

  unfoldable pub effect_clauses : Step → Clauses
  effect_clauses t =
      each rule_nos (λ r. map (λ l. no· (z t r) ∷ l ∷ []) (literals (after t) (rule_of p r).set1 (rule_of p r).set0))

  -- the pairs of different actions that ex names are excluded
  unfoldable pub exclusions : (ℕ → ℕ → Bool) → Step → Clauses
  exclusions ex t =
      each actions (λ a. map (λ b. no· (action t a) ∷ no· (action t b) ∷ []) (filter (λ b. ltb a b && ex a b) actions))

  -- a fact keeps its value unless a rule that sets the other value fires
  unfoldable pub frames : Step → Clauses
  frames t =
      each facts (λ k.
      ((no· (fact (before t) k) ∷ map (λ r. yes· (z t r)) (filter (λ r. bit (rule_of p r).set0 k) rule_nos)) ++ (yes· (fact (after t) k) ∷ []))
      ∷ ((yes· (fact (before t) k) ∷ map (λ r. yes· (z t r)) (filter (λ r. bit (rule_of p r).set1 k) rule_nos)) ++ (no· (fact (after t) k) ∷ []))
      ∷ [])

  unfoldable pub step_clauses : (ℕ → ℕ → Bool) → Step → Clauses
  step_clauses ex t = need_clauses t ++ z_clauses t ++ effect_clauses t ++ exclusions ex t ++ frames t

-- T(P) with a relation of excluded pairs: the start clauses at moment 0, the goal clauses at moment n, the clauses of each step
unfoldable pub theory_of : Sheet → (ℕ → ℕ → Bool) → ℕ → Clauses
theory_of p ex n =
    at_moment p n (record { 0 = 0 }) p.starts ++ at_moment p n (record { 0 = n }) p.goals ++ each (up_from 0 n) (λ i. step_clauses p n ex (record { 0 = i }))

-- every pair of different actions excluded
abbrev pub every_pair : ℕ → ℕ → Bool
every_pair a b = true

unfoldable pub theory : Sheet → ℕ → Clauses
theory p n = theory_of p every_pair n

-- a proof by computation says `unfolding computed_clauses`, which opens every definition of this module
unfoldable pub computed_clauses : ℕ
unfolding stride fact action z variables facts actions rule_nos literals at_moment need_clauses z_clauses effect_clauses exclusions frames step_clauses theory_of theory
computed_clauses = 0
