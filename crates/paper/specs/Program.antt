-- The program: the line that it prints for the bytes that it reads.
-- Assumes nothing.
use Rattle.std.specs.Prelude.{cond, List, [], ◌∷◌, ◌++◌, ℕ, zero, suc, ◌+◌, ◌/◌, ◌%◌, ltb, length, get_or, Result}
use Rattle.paper.specs.declared.Fault.{Fault}
use Rattle.paper.specs.Lists.{each}
use Rattle.paper.specs.Operations.{Outcome, plan_of, answer_of, schedule_of}
use Rattle.paper.specs.Answers.{plan_code, plan_numbers}

-- a number of at most k digits in decimal: the last digit behind those of the tenth part
unfoldable pub decimal_in : ℕ → ℕ → List ℕ
decimal_in zero n = []
decimal_in (suc k) n = let front = decimal_in k (n / 10) in cond (ltb n 10) ((48 + n) ∷ []) (front ++ ((48 + n % 10) ∷ []))

-- a 32-bit number has at most ten
abbrev pub decimal : ℕ → List ℕ
decimal n = decimal_in 10 n

-- numbers in decimal, one space between, one newline
abbrev pub spaced : ℕ → List ℕ
spaced n = 32 ∷ decimal n

unfoldable pub line : ℕ → List ℕ → List ℕ
line n ns = decimal n ++ each ns spaced ++ (10 ∷ [])

-- code, place, horizon and the schedule's entries
abbrev pub plan_line : Result Outcome Fault → List ℕ
plan_line o = let a = answer_of o in line (plan_code a) (get_or (plan_numbers a) 0 0 ∷ get_or (plan_numbers a) 1 0 ∷ schedule_of o)

-- effort limit 1,000,000 and 4,000 rows; input over 4,608 bytes prints 3 0 0
unfoldable pub printed : List ℕ → List ℕ
printed b = let o = plan_of b 1000000 4000 8 in cond (ltb 4608 (length b)) (line 3 (0 ∷ 0 ∷ [])) (plan_line o)

-- a proof by computation says `unfolding computed_program`, which opens every definition of this module
unfoldable pub computed_program : ℕ
unfolding decimal_in line printed
computed_program = 0
