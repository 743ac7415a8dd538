-- What is demanded of the circuit, in the words of `paper`: of the clauses that stand in arrays, of the rows that compile leaves, of the answers that C gets.
-- Assumes nothing.
use Rattle.std.specs.Prelude.{◌≡◌, ◌↔◌, Bool, true, cond, List, map, ℕ, ◌*◌, ◌^◌, ◌≤◌, ◌<◌, length, replicate, Ok}
use Rattle.paper.specs.declared.Whole.{Whole}
use Rattle.paper.specs.Lists.{all, up_from}
use Rattle.paper.specs.Sheet.{Sheet, fits, decode}
use Rattle.paper.specs.Clauses.{Clauses, Assign}
use Rattle.paper.specs.Circuit.{Built, value_at}
use Rattle.paper.specs.Operations.{kept, given, table_of, masks_of}
use Rattle.paper.specs.Answers.{told_at, compile_left, judge_left}
use Rattle.paper.specs.Sets.{leads}
use Rattle.paper.specs.Meaning.{shown, Extends}
use Rattle.theory.specs.declared.Filled.{Filled}
use Rattle.theory.specs.Flat.{clause_at}
use Rattle.demands.specs.declared.Asked.{Asked}

-- a state of F facts, and n masks of A actions
pub record Marked (p : Sheet) (n s : ℕ) (ms : List ℕ) : Type 0 where
  pub state_fits : s < 2 ^ p.F
  pub one_a_step : length ms ≡ n
  pub masks_fit : all (fits p.A) ms ≡ true

-- T(P) is the run: state and marks extend to an assignment that satisfies the clauses read from the arrays exactly if they lead from a start to the goal
abbrev pub Runs : Sheet → ℕ → List ℕ → List ℕ → Filled → Type 0
Runs p n literals ends m = (s : ℕ) (ms : List ℕ) → Marked p n s ms
    → Extends (kept p n) (given p n s ms) (map (clause_at literals ends) (up_from 0 m.clauses)) ↔ (leads p s ms ≡ true)

-- the circuit is the projection: for any variables that are kept, and values of theirs
abbrev pub Projects : Clauses → List ℕ → Built → Type 0
Projects S table r = (c : Whole) → r ≡ Ok c → (keeps : ℕ → Bool) (k : Assign)
    → (value_at (shown keeps k) (table_of table c.rows) c.root ≡ true) ↔ Extends keeps k S

-- answer slices for the five numbers of compile and for the two of judge
abbrev pub twenty : List ℕ
twenty = replicate 20 0

abbrev pub eight : List ℕ
eight = replicate 8 0

-- compile, then judge on the rows that it left, with the count and the root that it told: numbers 3 and 4
unfoldable pub asked_of : List ℕ → ℕ → ℕ → List ℕ → ℕ → List ℕ → Asked
asked_of b n limit buf s masks =
    let c = compile_left b n limit buf twenty in
    let j = judge_left b n c.rows (told_at c.answer 3) (told_at c.answer 4) s masks eight in
    record { compiled = c.code; judged = j.code; value = told_at j.answer 1 }

-- demand 3: a compile that answered 0 had a well-formed sheet and a horizon up to 8; judge then answers 0 in any state with any marks, and its value is 1
-- if the state is a start, no step has two actions and the run ends in the goal, else 0
pub record Demand3 (b : List ℕ) (n s : ℕ) (masks : List ℕ) (r : Asked) : Type 0 where
  pub well_formed : r.compiled ≡ 0 → (p : Sheet) × (decode b ≡ Ok p) × (n ≤ 8)
  pub answers : r.compiled ≡ 0 → (p : Sheet) → decode b ≡ Ok p → s < 2 ^ p.F → length masks ≡ 2 * n → all (fits p.A) (masks_of masks n) ≡ true
      → (r.judged ≡ 0) × (r.value ≡ cond (leads p s (masks_of masks n)) 1 0)
