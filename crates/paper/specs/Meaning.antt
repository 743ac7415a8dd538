-- What a circuit is to say once variables are forgotten: the words of the projection theorem.
-- Assumes nothing.
use Rattle.std.specs.Prelude.{◌≡◌, Bool, true, not, ◌||◌, ℕ}
use Rattle.paper.specs.declared.Lit.{Lit}
use Rattle.paper.specs.Clauses.{Clauses, Assign, holds, sat_all}

-- a kept variable's literal has its value, a forgotten one's is true
abbrev pub shown : (ℕ → Bool) → Assign → Lit → Bool
shown kept k l = not (kept l.var) || holds k l

-- v has the values of k on the kept variables
abbrev pub Agrees : (ℕ → Bool) → Assign → Assign → Type 0
Agrees kept k v = (x : ℕ) → kept x ≡ true → v x ≡ k x

-- the kept values extend to an assignment of all variables that satisfies every clause
abbrev pub Extends : (ℕ → Bool) → Assign → Clauses → Type 0
Extends kept k S = (v : Assign) × Agrees kept k v × (sat_all v S ≡ true)
