-- The table of cases: what is asked, and the whole answer. Assumes nothing.
use mathlib.Core.Path.{◌≡◌, refl}
use mathlib.Core.Bool.{cond}
use mathlib.Core.List.{List, [], ◌∷◌, ◌++◌}
use Prim.Native.Nat.{ℕ, ◌+◌, ◌*◌}
use lib.ListN.{set, drop, replicate}
use Rattle.paper.specs.declared.Lit.{Lit}
use Rattle.paper.specs.Lists.{each, computed_lists}
use Rattle.paper.specs.Counting.{computed_counting}
use Rattle.paper.specs.Sheet.{decode, computed_sheet}
use Rattle.paper.specs.Step.{computed_step}
use Rattle.paper.specs.Clauses.{Clause, theory, computed_clauses}
use Rattle.paper.specs.Circuit.{computed_circuit}
use Rattle.paper.specs.Operations.{on_sheet, bytes4, check_of, run_of, compile_of, judge_of, plan_of, answer_of, schedule_of, computed_operations}
use Rattle.paper.specs.Answers.{code, check_numbers, run_numbers, compile_code, compile_numbers, judge_numbers, plan_code, plan_numbers, check_left, compile_left, plan_left, computed_answers}
use Rattle.paper.specs.Program.{decimal, printed, computed_program}
use Rattle.paper.proofs.Sheets.{D, need, rule, clause, sheet, largest, like_d, one_action, goals}

-- what is asked: bytes as they are; the clauses of T(P); the five operations; what buffers hold after a call; a number in decimal; what the program prints
pub data Ask : Type 0 where
  bytes : List ℕ → Ask
  clauses : List ℕ → ℕ → Ask
  check : List ℕ → Ask
  run : List ℕ → ℕ → List ℕ → Ask
  compile : List ℕ → ℕ → ℕ → ℕ → Ask
  judge : List ℕ → ℕ → List ℕ → ℕ → ℕ → ℕ → List ℕ → Ask
  plan : List ℕ → ℕ → ℕ → ℕ → Ask
  slice_after : List ℕ → List ℕ → Ask
  rows_after : List ℕ → ℕ → ℕ → List ℕ → Ask
  plan_after : List ℕ → ℕ → List ℕ → List ℕ → Ask
  schedule_after : List ℕ → ℕ → List ℕ → List ℕ → Ask
  number : ℕ → Ask
  print : List ℕ → Ask

-- a literal as 2 * variable, 1 more where it is negative; 0 ends a clause
abbrev of_lit : Lit → ℕ
of_lit l = 2 * l.var + cond l.sign 0 1

abbrev of_clause : Clause → List ℕ
of_clause c = each c (λ l. of_lit l ∷ []) ++ (0 ∷ [])

-- code, then the numbers; of a plan also the schedule
abbrev pub reply : Ask → List ℕ
reply (bytes b) = b
reply (clauses b n) = on_sheet (λ f. []) (λ p. each (theory p n) of_clause) (decode b)
reply (check b) = let a = check_of b in code a ∷ check_numbers a
reply (run b s σ) = let a = run_of b s σ in code a ∷ run_numbers a
reply (compile b n limit room) = let a = compile_of b n limit room in compile_code a ∷ compile_numbers n a
reply (judge b n ns k root s masks) = let a = judge_of b n (each ns bytes4) k root s masks in code a ∷ judge_numbers a
reply (plan b limit room n) = let o = plan_of b limit room n in plan_code (answer_of o) ∷ plan_numbers (answer_of o) ++ schedule_of o
reply (slice_after b slice) = (check_left b slice).answer
reply (rows_after b n limit buf) = (compile_left b n limit buf []).rows
reply (plan_after b limit buf sch) = let o = plan_left b limit buf sch [] in o.rows ++ o.schedule
reply (schedule_after b limit buf sch) = (plan_left b limit buf sch []).schedule
reply (number n) = decimal n
reply (print b) = printed b

pub record Case : Type 0 where
  pub ask : Ask
  pub want : List ℕ

infix 5 ◌gives◌
abbrev ◌gives◌ : Ask → List ℕ → Case
a gives l = record { ask = a; want = l }

-- each case's answer is the one wanted
abbrev pub Right : List Case → Type 0
Right [] = Unit {0}
Right (c ∷ cs) = (reply c.ask ≡ c.want) × Right cs

-- the program's limits: effort 1,000,000 and 4,000 rows
abbrev plan· : List ℕ → Ask
plan· b = plan b 1000000 4000 8

-- plans of sheet D: those marked (p), and its printed bytes
abbrev pub plans : List Case
plans =
    (bytes (like_d [] 2) gives D)
    ∷ (plan· D gives 0 ∷ 0 ∷ 2 ∷ 15 ∷ 104 ∷ 103 ∷ 1 ∷ 2 ∷ [])
    ∷ (plan· (like_d [] 1) gives 9 ∷ 0 ∷ 1 ∷ 5 ∷ 45 ∷ 44 ∷ [])
    ∷ (plan· (like_d (clause 0 1 ∷ []) 2) gives 0 ∷ 0 ∷ 1 ∷ 3 ∷ 33 ∷ 32 ∷ 2 ∷ [])
    ∷ (plan· (like_d (clause 2 0 ∷ []) 2) gives 0 ∷ 0 ∷ 0 ∷ 0 ∷ 3 ∷ 2 ∷ [])
    ∷ (plan· (set D 16 4) gives 4 ∷ 8 ∷ 0 ∷ 0 ∷ 0 ∷ 0 ∷ [])
    ∷ (plan· (like_d [] 0) gives 9 ∷ 0 ∷ 0 ∷ 0 ∷ 3 ∷ 2 ∷ [])
    ∷ []

right_plans : Right plans
unfolding sheet largest like_d one_action goals computed_lists computed_counting computed_sheet computed_step computed_clauses computed_circuit computed_operations computed_answers
right_plans = (refl, (refl, (refl, (refl, (refl, (refl, (refl, tt)))))))

-- runs: those marked (p), then a clash of unions, the empty schedule, and what 10 refuses
abbrev pub runs : List Case
runs =
    (run D 1 (2 ∷ 1 ∷ 2 ∷ []) gives 0 ∷ 0 ∷ 3 ∷ 2 ∷ 1 ∷ [])
    ∷ (run (sheet 2 (need 0 0 ∷ need 0 1 ∷ []) (rule 1 0 0 0 1 ∷ rule 2 0 0 2 0 ∷ []) [] (clause 2 0 ∷ []) 2) 1 (2 ∷ 1 ∷ 2 ∷ []) gives 0 ∷ 0 ∷ 0 ∷ 1 ∷ 0 ∷ [])
    ∷ (run (one_action 2 (rule 1 1 0 2 0 ∷ rule 1 0 0 0 2 ∷ []) [] []) 1 (1 ∷ []) gives 0 ∷ 0 ∷ 0 ∷ 1 ∷ 0 ∷ [])
    ∷ (run (one_action 2 (rule 1 1 0 2 0 ∷ rule 1 0 0 0 2 ∷ []) [] []) 2 (1 ∷ []) gives 0 ∷ 0 ∷ 1 ∷ 0 ∷ 1 ∷ [])
    ∷ (run (one_action 2 (rule 1 1 0 2 0 ∷ rule 1 0 1 0 2 ∷ rule 1 2 0 1 0 ∷ rule 1 0 2 0 1 ∷ []) [] []) 1 (1 ∷ []) gives 0 ∷ 0 ∷ 1 ∷ 2 ∷ 1 ∷ [])
    ∷ (run (one_action 2 (rule 1 1 0 2 0 ∷ rule 1 0 1 0 2 ∷ rule 1 2 0 1 0 ∷ rule 1 0 2 0 1 ∷ []) [] []) 2 (1 ∷ []) gives 0 ∷ 0 ∷ 1 ∷ 1 ∷ 1 ∷ [])
    ∷ (run (one_action 3 (rule 1 0 0 1 0 ∷ rule 1 0 0 2 4 ∷ rule 1 2 0 0 1 ∷ []) [] (clause 1 0 ∷ [])) 4 (1 ∷ []) gives 0 ∷ 0 ∷ 1 ∷ 3 ∷ 1 ∷ [])
    ∷ (run (one_action 3 (rule 1 0 0 1 0 ∷ rule 1 0 0 2 4 ∷ rule 1 2 0 0 1 ∷ []) [] (clause 1 0 ∷ [])) 4 (0 ∷ 1 ∷ 1 ∷ []) gives 0 ∷ 0 ∷ 2 ∷ 3 ∷ 0 ∷ [])
    ∷ (run D 0 [] gives 0 ∷ 0 ∷ 0 ∷ 0 ∷ 0 ∷ [])
    ∷ (run D 2 [] gives 0 ∷ 0 ∷ 0 ∷ 2 ∷ 1 ∷ [])
    ∷ (run (like_d (clause 0 0 ∷ []) 2) 0 (2 ∷ []) gives 0 ∷ 0 ∷ 1 ∷ 2 ∷ 1 ∷ [])
    ∷ (run D 4 [] gives 10 ∷ 0 ∷ 0 ∷ 0 ∷ 0 ∷ [])
    ∷ (run D 65536 [] gives 10 ∷ 0 ∷ 0 ∷ 0 ∷ 0 ∷ [])
    ∷ (run D 3 (0 ∷ 0 ∷ 0 ∷ 0 ∷ 0 ∷ 0 ∷ 0 ∷ 0 ∷ []) gives 0 ∷ 0 ∷ 8 ∷ 3 ∷ 1 ∷ [])
    ∷ (run D 3 (0 ∷ 0 ∷ 0 ∷ 0 ∷ 0 ∷ 0 ∷ 0 ∷ 0 ∷ 0 ∷ []) gives 10 ∷ 0 ∷ 0 ∷ 0 ∷ 0 ∷ [])
    ∷ (run (sheet 2 (need 0 0 ∷ need 0 1 ∷ []) (rule 1 0 0 0 1 ∷ rule 2 0 0 2 0 ∷ []) [] (clause 2 0 ∷ []) 2) 1 (2 ∷ 3 ∷ []) gives 10 ∷ 0 ∷ 0 ∷ 0 ∷ 0 ∷ [])
    ∷ (run largest 0 (12 ∷ []) gives 0 ∷ 0 ∷ 1 ∷ 0 ∷ 1 ∷ [])
    ∷ (run largest 4095 (0 ∷ 0 ∷ 0 ∷ 0 ∷ 0 ∷ 0 ∷ 0 ∷ 0 ∷ []) gives 0 ∷ 0 ∷ 8 ∷ 4095 ∷ 0 ∷ [])
    ∷ []

right_runs : Right runs
unfolding sheet largest like_d one_action goals computed_lists computed_counting computed_sheet computed_step computed_clauses computed_circuit computed_operations computed_answers
right_runs = (refl, (refl, (refl, (refl, (refl, (refl, (refl, (refl, (refl, (refl, (refl, (refl, (refl, (refl, (refl, (refl, (refl, (refl, tt))))))))))))))))))

-- circuits: those marked (p), then clauses that always hold, blank clauses, parts, signs and D at horizons 0 to 3
abbrev pub circuits : List Case
circuits =
    (compile (goals 1 (clause 1 0 ∷ [])) 0 0 100 gives 0 ∷ 0 ∷ 0 ∷ 0 ∷ 3 ∷ 2 ∷ [])
    ∷ (compile (goals 1 (clause 1 0 ∷ clause 0 1 ∷ [])) 0 0 100 gives 0 ∷ 0 ∷ 0 ∷ 0 ∷ 3 ∷ 0 ∷ [])
    ∷ (compile (goals 2 (clause 3 0 ∷ [])) 0 1 100 gives 0 ∷ 0 ∷ 0 ∷ 1 ∷ 7 ∷ 6 ∷ [])
    ∷ (compile (goals 4 (clause 3 0 ∷ clause 12 0 ∷ [])) 0 2 100 gives 0 ∷ 0 ∷ 0 ∷ 2 ∷ 13 ∷ 12 ∷ [])
    ∷ (compile (goals 4 (clause 3 0 ∷ clause 12 0 ∷ [])) 0 2 12 gives 8 ∷ 0 ∷ 0 ∷ 2 ∷ 0 ∷ 0 ∷ [])
    ∷ (compile (goals 4 (clause 3 0 ∷ clause 12 0 ∷ [])) 0 1 12 gives 7 ∷ 0 ∷ 0 ∷ 0 ∷ 0 ∷ 0 ∷ [])
    ∷ (compile (goals 2 (clause 1 1 ∷ clause 3 0 ∷ [])) 0 9 100 gives 0 ∷ 0 ∷ 0 ∷ 1 ∷ 7 ∷ 6 ∷ [])
    ∷ (compile (goals 2 (clause 3 1 ∷ [])) 0 9 100 gives 0 ∷ 0 ∷ 0 ∷ 0 ∷ 2 ∷ 1 ∷ [])
    ∷ (compile (goals 1 (clause 1 0 ∷ clause 0 0 ∷ [])) 0 9 100 gives 0 ∷ 0 ∷ 0 ∷ 0 ∷ 2 ∷ 0 ∷ [])
    ∷ (compile (goals 1 []) 1 9 100 gives 0 ∷ 0 ∷ 0 ∷ 1 ∷ 9 ∷ 8 ∷ [])
    ∷ (compile (one_action 1 (rule 1 0 0 0 0 ∷ []) [] []) 1 9 100 gives 0 ∷ 0 ∷ 0 ∷ 2 ∷ 17 ∷ 16 ∷ [])
    ∷ (compile (one_action 1 [] (clause 1 0 ∷ []) (clause 0 1 ∷ [])) 0 9 100 gives 0 ∷ 0 ∷ 0 ∷ 0 ∷ 3 ∷ 0 ∷ [])
    ∷ (compile (goals 2 (clause 3 0 ∷ clause 1 2 ∷ clause 2 1 ∷ clause 0 3 ∷ [])) 0 9 100 gives 0 ∷ 0 ∷ 0 ∷ 1 ∷ 5 ∷ 0 ∷ [])
    ∷ (compile (goals 4 (clause 3 0 ∷ clause 1 2 ∷ clause 2 1 ∷ clause 0 3 ∷ clause 12 0 ∷ [])) 0 9 100 gives 0 ∷ 0 ∷ 0 ∷ 2 ∷ 10 ∷ 0 ∷ [])
    ∷ (compile (goals 6 (clause 3 0 ∷ clause 12 0 ∷ clause 48 0 ∷ [])) 0 9 100 gives 0 ∷ 0 ∷ 0 ∷ 3 ∷ 19 ∷ 18 ∷ [])
    ∷ (compile (like_d (clause 0 0 ∷ []) 2) 2 9 100 gives 0 ∷ 0 ∷ 0 ∷ 0 ∷ 2 ∷ 0 ∷ [])
    ∷ (compile D 0 99 400 gives 0 ∷ 0 ∷ 0 ∷ 0 ∷ 3 ∷ 2 ∷ [])
    ∷ (compile D 1 99 400 gives 0 ∷ 0 ∷ 0 ∷ 5 ∷ 45 ∷ 44 ∷ [])
    ∷ (compile D 2 99 400 gives 0 ∷ 0 ∷ 0 ∷ 15 ∷ 104 ∷ 103 ∷ [])
    ∷ (compile D 3 99 400 gives 0 ∷ 0 ∷ 0 ∷ 37 ∷ 166 ∷ 165 ∷ [])
    ∷ (compile (goals 1 []) 8 99 400 gives 0 ∷ 0 ∷ 0 ∷ 1 ∷ 37 ∷ 36 ∷ [])
    ∷ []

right_circuits : Right circuits
unfolding sheet largest like_d one_action goals computed_lists computed_counting computed_sheet computed_step computed_clauses computed_circuit computed_operations computed_answers
right_circuits = (refl, (refl, (refl, (refl, (refl, (refl, (refl, (refl, (refl, (refl, (refl, (refl, (refl, (refl, (refl, (refl, (refl, (refl, (refl, (refl, (refl, tt)))))))))))))))))))))

-- both limits against the whole circuit, and the order of the refusals
abbrev pub limits : List Case
limits =
    (compile (goals 4 (clause 3 0 ∷ clause 12 0 ∷ [])) 0 1 6 gives 7 ∷ 0 ∷ 0 ∷ 0 ∷ 0 ∷ 0 ∷ [])
    ∷ (compile (goals 4 (clause 3 0 ∷ clause 12 0 ∷ [])) 0 2 6 gives 8 ∷ 0 ∷ 0 ∷ 2 ∷ 0 ∷ 0 ∷ [])
    ∷ (compile (goals 2 (clause 3 0 ∷ [])) 0 0 0 gives 7 ∷ 0 ∷ 0 ∷ 0 ∷ 0 ∷ 0 ∷ [])
    ∷ (compile (goals 1 (clause 1 0 ∷ [])) 0 0 0 gives 8 ∷ 0 ∷ 0 ∷ 0 ∷ 0 ∷ 0 ∷ [])
    ∷ (compile (goals 1 []) 0 0 1 gives 8 ∷ 0 ∷ 0 ∷ 0 ∷ 0 ∷ 0 ∷ [])
    ∷ (compile (goals 1 []) 0 0 2 gives 0 ∷ 0 ∷ 0 ∷ 0 ∷ 2 ∷ 1 ∷ [])
    ∷ (compile D 2 15 103 gives 8 ∷ 0 ∷ 2 ∷ 15 ∷ 0 ∷ 0 ∷ [])
    ∷ (compile D 2 14 4000 gives 7 ∷ 0 ∷ 2 ∷ 0 ∷ 0 ∷ 0 ∷ [])
    ∷ (compile D 9 0 0 gives 10 ∷ 0 ∷ 0 ∷ 0 ∷ 0 ∷ 0 ∷ [])
    ∷ (compile D 65537 0 0 gives 10 ∷ 0 ∷ 0 ∷ 0 ∷ 0 ∷ 0 ∷ [])
    ∷ (compile (set D 16 4) 9 0 0 gives 4 ∷ 8 ∷ 0 ∷ 0 ∷ 0 ∷ 0 ∷ [])
    ∷ (plan D 14 4000 2 gives 7 ∷ 0 ∷ 2 ∷ 0 ∷ 0 ∷ 0 ∷ [])
    ∷ (plan D 4 4000 2 gives 7 ∷ 0 ∷ 1 ∷ 0 ∷ 0 ∷ 0 ∷ [])
    ∷ (plan D 99 103 2 gives 8 ∷ 0 ∷ 2 ∷ 15 ∷ 0 ∷ 0 ∷ [])
    ∷ (plan D 99 44 2 gives 8 ∷ 0 ∷ 1 ∷ 5 ∷ 0 ∷ 0 ∷ [])
    ∷ (plan D 99 4000 1 gives 5 ∷ 0 ∷ 0 ∷ 0 ∷ 0 ∷ 0 ∷ [])
    ∷ (plan (like_d (clause 2 0 ∷ []) 2) 99 4000 1 gives 5 ∷ 0 ∷ 0 ∷ 0 ∷ 0 ∷ 0 ∷ [])
    ∷ (plan (like_d (clause 0 0 ∷ []) 2) 0 0 1 gives 5 ∷ 0 ∷ 0 ∷ 0 ∷ 0 ∷ 0 ∷ [])
    ∷ (plan (like_d (clause 0 0 ∷ []) 2) 0 0 2 gives 6 ∷ 0 ∷ 0 ∷ 0 ∷ 0 ∷ 0 ∷ [])
    ∷ []

right_limits : Right limits
unfolding sheet largest like_d one_action goals computed_lists computed_counting computed_sheet computed_step computed_clauses computed_circuit computed_operations computed_answers
right_limits = (refl, (refl, (refl, (refl, (refl, (refl, (refl, (refl, (refl, (refl, (refl, (refl, (refl, (refl, (refl, (refl, (refl, (refl, (refl, tt)))))))))))))))))))

-- starts counted, and what 1, 2, 3 and 4 refuse, with place
abbrev pub sheets : List Case
sheets =
    (check D gives 0 ∷ 0 ∷ 4 ∷ [])
    ∷ (check (like_d (clause 0 1 ∷ []) 2) gives 0 ∷ 0 ∷ 2 ∷ [])
    ∷ (check (like_d (clause 1 1 ∷ []) 2) gives 0 ∷ 0 ∷ 4 ∷ [])
    ∷ (check (like_d (clause 1 0 ∷ clause 0 1 ∷ []) 2) gives 6 ∷ 0 ∷ 0 ∷ [])
    ∷ (check [] gives 1 ∷ 0 ∷ 0 ∷ [])
    ∷ (check (drop 33 D) gives 1 ∷ 0 ∷ 0 ∷ [])
    ∷ (check (set D 47 84) gives 1 ∷ 0 ∷ 0 ∷ [])
    ∷ (check (D ++ (0 ∷ [])) gives 1 ∷ 0 ∷ 0 ∷ [])
    ∷ (check (set D 32 0) gives 2 ∷ 0 ∷ 0 ∷ [])
    ∷ (check (set D 32 13) gives 2 ∷ 0 ∷ 0 ∷ [])
    ∷ (check (set (set D 42 9) 44 0) gives 2 ∷ 0 ∷ 0 ∷ [])
    ∷ (check (set D 44 31) gives 3 ∷ 0 ∷ 0 ∷ [])
    ∷ (check (0 ∷ D) gives 3 ∷ 0 ∷ 0 ∷ [])
    ∷ (check (drop 32 D) gives 3 ∷ 0 ∷ 0 ∷ [])
    ∷ (check (set D 9 1) gives 4 ∷ 8 ∷ 0 ∷ [])
    ∷ (check (set D 18 3) gives 4 ∷ 18 ∷ 0 ∷ [])
    ∷ (check (set D 4 4) gives 4 ∷ 4 ∷ 0 ∷ [])
    ∷ (check (set (set D 4 1) 6 1) gives 4 ∷ 4 ∷ 0 ∷ [])
    ∷ (check (set D 26 2) gives 4 ∷ 18 ∷ 0 ∷ [])
    ∷ (check (like_d (clause 3 3 ∷ clause 0 4 ∷ []) 2) gives 4 ∷ 32 ∷ 0 ∷ [])
    ∷ (check (set (set D 28 4) 6 4) gives 4 ∷ 4 ∷ 0 ∷ [])
    ∷ (check (set D 34 13) gives 2 ∷ 0 ∷ 0 ∷ [])
    ∷ (check (set D 34 0) gives 2 ∷ 0 ∷ 0 ∷ [])
    ∷ (check (set D 36 25) gives 2 ∷ 0 ∷ 0 ∷ [])
    ∷ (check (set D 38 17) gives 2 ∷ 0 ∷ 0 ∷ [])
    ∷ (check (set D 40 17) gives 2 ∷ 0 ∷ 0 ∷ [])
    ∷ (check (set D 42 9) gives 2 ∷ 0 ∷ 0 ∷ [])
    ∷ []

right_sheets : Right sheets
unfolding sheet largest like_d one_action goals computed_lists computed_counting computed_sheet computed_step computed_clauses computed_circuit computed_operations computed_answers
right_sheets = (refl, (refl, (refl, (refl, (refl, (refl, (refl, (refl, (refl, (refl, (refl, (refl, (refl, (refl, (refl, (refl, (refl, (refl, (refl, (refl, (refl, (refl, (refl, (refl, (refl, (refl, (refl, tt)))))))))))))))))))))))))))

-- the clauses of T(P), in their order: a rule that sets nothing, and D at horizon 1
abbrev pub theories : List Case
theories =
    (clauses (goals 1 []) 1 gives 3 ∷ 6 ∷ 0 ∷ 2 ∷ 7 ∷ 0 ∷ [])
    ∷ (clauses (one_action 1 (rule 1 0 0 0 0 ∷ []) [] []) 1 gives 4 ∷ 7 ∷ 0 ∷ 5 ∷ 6 ∷ 0 ∷ 3 ∷ 8 ∷ 0 ∷ 2 ∷ 9 ∷ 0 ∷ [])
    ∷ (clauses D 0 gives 4 ∷ 0 ∷ [])
    ∷ (clauses D 1 gives 16 ∷ 0 ∷ 6 ∷ 11 ∷ 0 ∷ 7 ∷ 10 ∷ 0 ∷ 8 ∷ 13 ∷ 0 ∷ 3 ∷ 13 ∷ 0 ∷ 2 ∷ 9 ∷ 12 ∷ 0 ∷ 11 ∷ 15 ∷ 0 ∷ 13 ∷ 16 ∷ 0 ∷ 7 ∷ 9 ∷ 0 ∷ 3 ∷ 10 ∷ 14 ∷ 0 ∷ 2 ∷ 15 ∷ 0 ∷ 5 ∷ 16 ∷ 0 ∷ 4 ∷ 12 ∷ 17 ∷ 0 ∷ [])
    ∷ []

right_theories : Right theories
unfolding sheet largest like_d one_action goals computed_lists computed_counting computed_sheet computed_step computed_clauses computed_circuit computed_operations computed_answers
right_theories = (refl, (refl, (refl, (refl, tt))))

-- judge: literals of moment 0, of actions and of z, a choice, then 10 and 11
abbrev pub judged : List Case
judged =
    (judge D 0 (0 ∷ 0 ∷ 0 ∷ 0 ∷ 1 ∷ 0 ∷ 0 ∷ 0 ∷ 2 ∷ 2 ∷ 1 ∷ 0 ∷ []) 3 2 2 [] gives 0 ∷ 0 ∷ 1 ∷ [])
    ∷ (judge D 0 (0 ∷ 0 ∷ 0 ∷ 0 ∷ 1 ∷ 0 ∷ 0 ∷ 0 ∷ 2 ∷ 2 ∷ 0 ∷ 0 ∷ []) 3 2 2 [] gives 0 ∷ 0 ∷ 0 ∷ [])
    ∷ (judge D 1 (0 ∷ 0 ∷ 0 ∷ 0 ∷ 1 ∷ 0 ∷ 0 ∷ 0 ∷ 2 ∷ 3 ∷ 1 ∷ 0 ∷ []) 3 2 0 (1 ∷ 0 ∷ []) gives 0 ∷ 0 ∷ 1 ∷ [])
    ∷ (judge D 1 (0 ∷ 0 ∷ 0 ∷ 0 ∷ 1 ∷ 0 ∷ 0 ∷ 0 ∷ 2 ∷ 4 ∷ 1 ∷ 0 ∷ []) 3 2 0 (1 ∷ 0 ∷ []) gives 0 ∷ 0 ∷ 0 ∷ [])
    ∷ (judge D 1 (0 ∷ 0 ∷ 0 ∷ 0 ∷ 1 ∷ 0 ∷ 0 ∷ 0 ∷ 2 ∷ 5 ∷ 0 ∷ 0 ∷ 2 ∷ 8 ∷ 1 ∷ 0 ∷ 3 ∷ 0 ∷ 2 ∷ 3 ∷ []) 5 4 0 (1 ∷ 0 ∷ []) gives 0 ∷ 0 ∷ 1 ∷ [])
    ∷ (judge D 0 (0 ∷ 0 ∷ 0 ∷ 0 ∷ 1 ∷ 0 ∷ 0 ∷ 0 ∷ 4 ∷ 1 ∷ 1 ∷ 0 ∷ []) 3 2 0 [] gives 0 ∷ 0 ∷ 1 ∷ [])
    ∷ (judge D 0 (0 ∷ 0 ∷ 0 ∷ 0 ∷ 1 ∷ 0 ∷ 0 ∷ 0 ∷ 3 ∷ 0 ∷ 1 ∷ 0 ∷ []) 3 2 0 [] gives 0 ∷ 0 ∷ 0 ∷ [])
    ∷ (judge (like_d (clause 2 0 ∷ []) 2) 0 (0 ∷ 0 ∷ 0 ∷ 0 ∷ 1 ∷ 0 ∷ 0 ∷ 0 ∷ []) 2 1 0 [] gives 0 ∷ 0 ∷ 1 ∷ [])
    ∷ (judge D 0 (0 ∷ 0 ∷ 0 ∷ 0 ∷ 1 ∷ 0 ∷ 0 ∷ 0 ∷ []) 2 0 0 [] gives 0 ∷ 0 ∷ 0 ∷ [])
    ∷ (judge D 0 (0 ∷ 0 ∷ 0 ∷ 0 ∷ 1 ∷ 0 ∷ 0 ∷ 0 ∷ []) 2 2 0 [] gives 10 ∷ 0 ∷ 0 ∷ [])
    ∷ (judge D 0 (0 ∷ 0 ∷ 0 ∷ 0 ∷ 1 ∷ 0 ∷ 0 ∷ 0 ∷ []) 3 1 0 [] gives 10 ∷ 0 ∷ 0 ∷ [])
    ∷ (judge D 0 (0 ∷ 0 ∷ 0 ∷ 0 ∷ 1 ∷ 0 ∷ 0 ∷ 0 ∷ []) 1 0 0 [] gives 10 ∷ 0 ∷ 0 ∷ [])
    ∷ (judge D 0 (0 ∷ 0 ∷ 0 ∷ 0 ∷ 1 ∷ 0 ∷ 0 ∷ 0 ∷ []) 2 1 4 [] gives 10 ∷ 0 ∷ 0 ∷ [])
    ∷ (judge D 1 (0 ∷ 0 ∷ 0 ∷ 0 ∷ 1 ∷ 0 ∷ 0 ∷ 0 ∷ []) 2 1 0 [] gives 10 ∷ 0 ∷ 0 ∷ [])
    ∷ (judge D 1 (0 ∷ 0 ∷ 0 ∷ 0 ∷ 1 ∷ 0 ∷ 0 ∷ 0 ∷ []) 2 1 0 (1 ∷ []) gives 10 ∷ 0 ∷ 0 ∷ [])
    ∷ (judge D 1 (0 ∷ 0 ∷ 0 ∷ 0 ∷ 1 ∷ 0 ∷ 0 ∷ 0 ∷ []) 2 1 0 (4 ∷ 0 ∷ []) gives 10 ∷ 0 ∷ 0 ∷ [])
    ∷ (judge D 0 (0 ∷ 0 ∷ 0 ∷ 0 ∷ 1 ∷ 0 ∷ 0 ∷ 0 ∷ 2 ∷ 3 ∷ 1 ∷ 0 ∷ []) 3 1 0 [] gives 11 ∷ 2 ∷ 0 ∷ [])
    ∷ (judge D 1 (0 ∷ 0 ∷ 0 ∷ 0 ∷ 1 ∷ 0 ∷ 0 ∷ 0 ∷ 2 ∷ 9 ∷ 1 ∷ 0 ∷ []) 3 1 0 (1 ∷ 0 ∷ []) gives 11 ∷ 2 ∷ 0 ∷ [])
    ∷ (judge D 0 (0 ∷ 0 ∷ 0 ∷ 0 ∷ 1 ∷ 0 ∷ 0 ∷ 0 ∷ 2 ∷ 0 ∷ 1 ∷ 0 ∷ []) 3 1 0 [] gives 11 ∷ 2 ∷ 0 ∷ [])
    ∷ (judge D 0 (0 ∷ 0 ∷ 0 ∷ 0 ∷ 1 ∷ 0 ∷ 0 ∷ 0 ∷ 2 ∷ 1 ∷ 2 ∷ 0 ∷ []) 3 1 0 [] gives 11 ∷ 2 ∷ 0 ∷ [])
    ∷ (judge D 0 (0 ∷ 0 ∷ 0 ∷ 0 ∷ 1 ∷ 0 ∷ 0 ∷ 0 ∷ 2 ∷ 1 ∷ 1 ∷ 1 ∷ []) 3 1 0 [] gives 11 ∷ 2 ∷ 0 ∷ [])
    ∷ (judge D 0 (0 ∷ 0 ∷ 0 ∷ 0 ∷ 1 ∷ 0 ∷ 0 ∷ 0 ∷ 3 ∷ 0 ∷ 2 ∷ 1 ∷ []) 3 1 0 [] gives 11 ∷ 2 ∷ 0 ∷ [])
    ∷ (judge D 0 (0 ∷ 0 ∷ 0 ∷ 0 ∷ 1 ∷ 0 ∷ 0 ∷ 0 ∷ 3 ∷ 1 ∷ 0 ∷ 1 ∷ []) 3 1 0 [] gives 11 ∷ 2 ∷ 0 ∷ [])
    ∷ (judge D 0 (0 ∷ 0 ∷ 0 ∷ 0 ∷ 1 ∷ 0 ∷ 0 ∷ 0 ∷ 5 ∷ 0 ∷ 0 ∷ 1 ∷ []) 3 1 0 [] gives 11 ∷ 2 ∷ 0 ∷ [])
    ∷ (judge D 0 (0 ∷ 0 ∷ 0 ∷ 0 ∷ 1 ∷ 0 ∷ 0 ∷ 0 ∷ 0 ∷ 0 ∷ 0 ∷ 0 ∷ []) 3 1 0 [] gives 11 ∷ 2 ∷ 0 ∷ [])
    ∷ (judge D 0 (0 ∷ 0 ∷ 0 ∷ 0 ∷ 0 ∷ 0 ∷ 0 ∷ 0 ∷ []) 2 1 0 [] gives 11 ∷ 1 ∷ 0 ∷ [])
    ∷ (judge D 0 (1 ∷ 0 ∷ 0 ∷ 0 ∷ 1 ∷ 0 ∷ 0 ∷ 0 ∷ []) 2 1 0 [] gives 11 ∷ 0 ∷ 0 ∷ [])
    ∷ (judge D 0 (0 ∷ 0 ∷ 0 ∷ 0 ∷ 1 ∷ 0 ∷ 0 ∷ 0 ∷ 2 ∷ 1 ∷ 1 ∷ 0 ∷ 3 ∷ 0 ∷ 3 ∷ 2 ∷ 9 ∷ 9 ∷ 9 ∷ 9 ∷ []) 5 1 0 [] gives 11 ∷ 3 ∷ 0 ∷ [])
    ∷ (judge D 0 (0 ∷ 0 ∷ 0 ∷ 0 ∷ 1 ∷ 0 ∷ 0 ∷ 0 ∷ 3 ∷ 0 ∷ 1 ∷ 2 ∷ []) 3 1 0 [] gives 11 ∷ 2 ∷ 0 ∷ [])
    ∷ (judge D 0 (0 ∷ 0 ∷ 0 ∷ 0 ∷ 1 ∷ 0 ∷ 0 ∷ 0 ∷ 4 ∷ 1 ∷ 2 ∷ 1 ∷ []) 3 1 0 [] gives 11 ∷ 2 ∷ 0 ∷ [])
    ∷ (judge D 0 (0 ∷ 0 ∷ 0 ∷ 0 ∷ 1 ∷ 0 ∷ 0 ∷ 0 ∷ 4 ∷ 1 ∷ 1 ∷ 2 ∷ []) 3 1 0 [] gives 11 ∷ 2 ∷ 0 ∷ [])
    ∷ (judge D 0 (0 ∷ 0 ∷ 0 ∷ 0 ∷ 1 ∷ 0 ∷ 0 ∷ 0 ∷ 4 ∷ 0 ∷ 0 ∷ 1 ∷ []) 3 1 0 [] gives 11 ∷ 2 ∷ 0 ∷ [])
    ∷ (judge D 0 (0 ∷ 0 ∷ 0 ∷ 0 ∷ 1 ∷ 0 ∷ 0 ∷ 0 ∷ 4 ∷ 3 ∷ 0 ∷ 1 ∷ []) 3 1 0 [] gives 11 ∷ 2 ∷ 0 ∷ [])
    ∷ (judge D 0 (0 ∷ 0 ∷ 0 ∷ 0 ∷ 1 ∷ 0 ∷ 0 ∷ 0 ∷ 4 ∷ 2 ∷ 1 ∷ 0 ∷ []) 3 2 0 [] gives 0 ∷ 0 ∷ 1 ∷ [])
    ∷ (judge D 0 (0 ∷ 0 ∷ 0 ∷ 0 ∷ 4 ∷ 1 ∷ 0 ∷ 0 ∷ []) 2 1 0 [] gives 11 ∷ 1 ∷ 0 ∷ [])
    ∷ (judge D 1 (0 ∷ 0 ∷ 0 ∷ 0 ∷ 1 ∷ 0 ∷ 0 ∷ 0 ∷ 2 ∷ 5 ∷ 1 ∷ 0 ∷ []) 3 2 0 (1 ∷ 0 ∷ []) gives 0 ∷ 0 ∷ 1 ∷ [])
    ∷ (judge D 2 (0 ∷ 0 ∷ 0 ∷ 0 ∷ 1 ∷ 0 ∷ 0 ∷ 0 ∷ 2 ∷ 9 ∷ 1 ∷ 0 ∷ []) 3 2 0 (0 ∷ 0 ∷ 1 ∷ 0 ∷ []) gives 0 ∷ 0 ∷ 1 ∷ [])
    ∷ (judge D 2 (0 ∷ 0 ∷ 0 ∷ 0 ∷ 1 ∷ 0 ∷ 0 ∷ 0 ∷ 2 ∷ 9 ∷ 1 ∷ 0 ∷ []) 3 2 0 (1 ∷ 0 ∷ 0 ∷ 0 ∷ []) gives 0 ∷ 0 ∷ 0 ∷ [])
    ∷ (judge D 2 (0 ∷ 0 ∷ 0 ∷ 0 ∷ 1 ∷ 0 ∷ 0 ∷ 0 ∷ []) 2 1 0 (0 ∷ 0 ∷ 0 ∷ 4 ∷ []) gives 10 ∷ 0 ∷ 0 ∷ [])
    ∷ (judge D 8 (0 ∷ 0 ∷ 0 ∷ 0 ∷ 1 ∷ 0 ∷ 0 ∷ 0 ∷ []) 2 1 0 (0 ∷ 0 ∷ 0 ∷ 0 ∷ 0 ∷ 0 ∷ 0 ∷ 0 ∷ 0 ∷ 0 ∷ 0 ∷ 0 ∷ 0 ∷ 0 ∷ 0 ∷ 0 ∷ []) gives 0 ∷ 0 ∷ 1 ∷ [])
    ∷ (judge D 9 (0 ∷ 0 ∷ 0 ∷ 0 ∷ 1 ∷ 0 ∷ 0 ∷ 0 ∷ []) 2 1 0 (0 ∷ 0 ∷ 0 ∷ 0 ∷ 0 ∷ 0 ∷ 0 ∷ 0 ∷ 0 ∷ 0 ∷ 0 ∷ 0 ∷ 0 ∷ 0 ∷ 0 ∷ 0 ∷ 0 ∷ 0 ∷ []) gives 10 ∷ 0 ∷ 0 ∷ [])
    ∷ []

right_judged : Right judged
unfolding sheet largest like_d one_action goals computed_lists computed_counting computed_sheet computed_step computed_clauses computed_circuit computed_operations computed_answers
right_judged = (refl, (refl, (refl, (refl, (refl, (refl, (refl, (refl, (refl, (refl, (refl, (refl, (refl, (refl, (refl, (refl, (refl, (refl, (refl, (refl, (refl, (refl, (refl, (refl, (refl, (refl, (refl, (refl, (refl, (refl, (refl, (refl, (refl, (refl, (refl, (refl, (refl, (refl, (refl, (refl, (refl, tt)))))))))))))))))))))))))))))))))))))))))

-- what the buffers hold after 0, 7, 8, 9 and a refusal: the answer slice, the rows, the schedule
abbrev pub buffers : List Case
buffers =
    (slice_after D (9 ∷ 9 ∷ 9 ∷ []) gives (9 ∷ 9 ∷ 9 ∷ []))
    ∷ (slice_after D (9 ∷ 9 ∷ 9 ∷ 9 ∷ 9 ∷ 9 ∷ []) gives 0 ∷ 0 ∷ 0 ∷ 0 ∷ 9 ∷ 9 ∷ [])
    ∷ (slice_after D (9 ∷ 9 ∷ 9 ∷ 9 ∷ 9 ∷ 9 ∷ 9 ∷ 9 ∷ 9 ∷ []) gives 0 ∷ 0 ∷ 0 ∷ 0 ∷ 4 ∷ 0 ∷ 0 ∷ 0 ∷ 9 ∷ [])
    ∷ (slice_after (set D 9 1) (9 ∷ 9 ∷ 9 ∷ 9 ∷ 9 ∷ 9 ∷ 9 ∷ 9 ∷ []) gives 8 ∷ 0 ∷ 0 ∷ 0 ∷ 0 ∷ 0 ∷ 0 ∷ 0 ∷ [])
    ∷ (rows_after (goals 2 (clause 3 0 ∷ [])) 0 1 (replicate 130 9) gives (each (0 ∷ 0 ∷ 0 ∷ 0 ∷ 1 ∷ 0 ∷ 0 ∷ 0 ∷ 2 ∷ 1 ∷ 1 ∷ 0 ∷ 2 ∷ 1 ∷ 0 ∷ 0 ∷ 2 ∷ 2 ∷ 1 ∷ 0 ∷ 3 ∷ 0 ∷ 3 ∷ 4 ∷ 4 ∷ 1 ∷ 2 ∷ 5 ∷ []) bytes4) ++ replicate 16 0 ++ (9 ∷ 9 ∷ []))
    ∷ (rows_after (goals 3 (clause 3 0 ∷ clause 4 1 ∷ [])) 0 9 (replicate 144 9) gives (each (0 ∷ 0 ∷ 0 ∷ 0 ∷ 1 ∷ 0 ∷ 0 ∷ 0 ∷ 2 ∷ 1 ∷ 1 ∷ 0 ∷ 2 ∷ 3 ∷ 1 ∷ 0 ∷ 3 ∷ 0 ∷ 2 ∷ 3 ∷ 2 ∷ 1 ∷ 0 ∷ 0 ∷ 2 ∷ 2 ∷ 1 ∷ 0 ∷ 3 ∷ 0 ∷ 5 ∷ 6 ∷ 4 ∷ 1 ∷ 4 ∷ 7 ∷ []) bytes4))
    ∷ (rows_after (goals 2 (clause 2 0 ∷ clause 0 2 ∷ clause 0 1 ∷ [])) 0 9 (replicate 64 9) gives (each (0 ∷ 0 ∷ 0 ∷ 0 ∷ 1 ∷ 0 ∷ 0 ∷ 0 ∷ 2 ∷ 1 ∷ 0 ∷ 0 ∷ 2 ∷ 2 ∷ 1 ∷ 0 ∷ []) bytes4))
    ∷ (rows_after (goals 2 (clause 3 0 ∷ [])) 0 0 (replicate 33 9) gives replicate 32 0 ++ (9 ∷ []))
    ∷ (rows_after (goals 2 (clause 3 0 ∷ [])) 0 1 (replicate 111 9) gives replicate 96 0 ++ replicate 15 9)
    ∷ (rows_after (goals 2 (clause 3 0 ∷ [])) 9 1 (replicate 20 9) gives replicate 20 9)
    ∷ (plan_after (like_d (clause 2 0 ∷ []) 2) 9 (replicate 49 9) (8 ∷ 8 ∷ []) gives (each (0 ∷ 0 ∷ 0 ∷ 0 ∷ 1 ∷ 0 ∷ 0 ∷ 0 ∷ 2 ∷ 2 ∷ 1 ∷ 0 ∷ []) bytes4) ++ (9 ∷ 8 ∷ 8 ∷ []))
    ∷ (plan_after (like_d (clause 0 1 ∷ []) 2) 9 (replicate 16 9) (8 ∷ 8 ∷ []) gives replicate 16 0 ++ (8 ∷ 8 ∷ []))
    ∷ (plan_after (like_d (clause 0 0 ∷ []) 2) 9 (replicate 16 9) (8 ∷ 8 ∷ []) gives replicate 16 9 ++ (8 ∷ 8 ∷ []))
    ∷ (plan_after (like_d (clause 2 0 ∷ []) 2) 9 (replicate 16 9) (8 ∷ []) gives replicate 16 9 ++ (8 ∷ []))
    ∷ (plan_after (one_action 3 (rule 1 0 0 0 1 ∷ []) (clause 1 0 ∷ []) (clause 0 3 ∷ clause 4 0 ∷ clause 0 4 ∷ [])) 9 (replicate 96 9) (8 ∷ 8 ∷ []) gives (each (0 ∷ 0 ∷ 0 ∷ 0 ∷ 1 ∷ 0 ∷ 0 ∷ 0 ∷ 2 ∷ 1 ∷ 1 ∷ 0 ∷ 2 ∷ 8 ∷ 1 ∷ 0 ∷ []) bytes4) ++ replicate 32 0 ++ (8 ∷ 8 ∷ []))
    ∷ (schedule_after D 99 (replicate 1664 9) (9 ∷ 9 ∷ 9 ∷ []) gives 1 ∷ 2 ∷ 9 ∷ [])
    ∷ (schedule_after (like_d [] 1) 99 (replicate 720 9) (9 ∷ 9 ∷ []) gives 9 ∷ 9 ∷ [])
    ∷ (schedule_after D 99 (replicate 1663 9) (9 ∷ 9 ∷ []) gives 9 ∷ 9 ∷ [])
    ∷ (schedule_after D 99 (replicate 1664 9) (9 ∷ []) gives 9 ∷ [])
    ∷ (slice_after (goals 9 []) (9 ∷ 9 ∷ 9 ∷ 9 ∷ 9 ∷ 9 ∷ 9 ∷ 9 ∷ []) gives 0 ∷ 0 ∷ 0 ∷ 0 ∷ 0 ∷ 2 ∷ 0 ∷ 0 ∷ [])
    ∷ (plan_after (goals 2 (clause 3 0 ∷ [])) 0 (replicate 33 9) (8 ∷ 8 ∷ []) gives replicate 32 0 ++ (9 ∷ 8 ∷ 8 ∷ []))
    ∷ []

right_buffers : Right buffers
unfolding sheet largest like_d one_action goals computed_lists computed_counting computed_sheet computed_step computed_clauses computed_circuit computed_operations computed_answers
right_buffers = (refl, (refl, (refl, (refl, (refl, (refl, (refl, (refl, (refl, (refl, (refl, (refl, (refl, (refl, (refl, (refl, (refl, (refl, (refl, (refl, (refl, tt)))))))))))))))))))))

-- what the program prints, in bytes, and numbers in decimal
abbrev pub lines : List Case
lines =
    (print D gives 48 ∷ 32 ∷ 48 ∷ 32 ∷ 50 ∷ 32 ∷ 49 ∷ 32 ∷ 50 ∷ 10 ∷ [])
    ∷ (print (set D 16 4) gives 52 ∷ 32 ∷ 56 ∷ 32 ∷ 48 ∷ 10 ∷ [])
    ∷ (print (like_d [] 1) gives 57 ∷ 32 ∷ 48 ∷ 32 ∷ 49 ∷ 10 ∷ [])
    ∷ (print (like_d (clause 2 0 ∷ []) 2) gives 48 ∷ 32 ∷ 48 ∷ 32 ∷ 48 ∷ 10 ∷ [])
    ∷ (print [] gives 49 ∷ 32 ∷ 48 ∷ 32 ∷ 48 ∷ 10 ∷ [])
    ∷ (print (replicate 4608 0) gives 49 ∷ 32 ∷ 48 ∷ 32 ∷ 48 ∷ 10 ∷ [])
    ∷ (print (replicate 4609 0) gives 51 ∷ 32 ∷ 48 ∷ 32 ∷ 48 ∷ 10 ∷ [])
    ∷ (number 0 gives 48 ∷ [])
    ∷ (number 9 gives 57 ∷ [])
    ∷ (number 10 gives 49 ∷ 48 ∷ [])
    ∷ (number 100 gives 49 ∷ 48 ∷ 48 ∷ [])
    ∷ (number 4294967295 gives 52 ∷ 50 ∷ 57 ∷ 52 ∷ 57 ∷ 54 ∷ 55 ∷ 50 ∷ 57 ∷ 53 ∷ [])
    ∷ []

right_lines : Right lines
unfolding sheet largest like_d one_action goals computed_lists computed_counting computed_sheet computed_step computed_clauses computed_circuit computed_operations computed_answers computed_program
right_lines = (refl, (refl, (refl, (refl, (refl, (refl, (refl, (refl, (refl, (refl, (refl, (refl, tt))))))))))))

-- the whole table
abbrev pub table : List (List Case)
table = plans ∷ runs ∷ circuits ∷ limits ∷ sheets ∷ theories ∷ judged ∷ buffers ∷ lines ∷ []

abbrev pub RightAll : List (List Case) → Type 0
RightAll [] = Unit {0}
RightAll (g ∷ gs) = Right g × RightAll gs

-- THE CASES
pub cases : RightAll table
cases = (right_plans, (right_runs, (right_circuits, (right_limits, (right_sheets, (right_theories, (right_judged, (right_buffers, (right_lines, tt)))))))))
