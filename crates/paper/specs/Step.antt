-- One step, a run, and what a plan is.
-- Assumes nothing.
use Rattle.std.specs.Prelude.{Bool, true, false, not, ◌&&◌, ◌||◌, List, [], ◌∷◌, map, ℕ, zero, suc, ◌+◌, ◌^◌, eqb, leb, get_or, Result, Ok, Err}
use Rattle.paper.specs.declared.Run.{Run}
use Rattle.paper.specs.declared.Failure.{Failure}
use Rattle.paper.specs.declared.Failure.TheVariants.{NeedUnmet, Clashed}
use Rattle.paper.specs.Lists.{any, all, filter, up_from}
use Rattle.paper.specs.Counting.{bit, all_below, some_below, mask_below}
use Rattle.paper.specs.Sheet.{Need, Rule, Sheet, is_start, is_goal}

-- every fact in one is 1 and every fact in nil is 0
unfoldable pub meets : ℕ → ℕ → ℕ → ℕ → Bool
meets F s one nil = all_below F (λ k. (not (bit one k) || bit s k) && (not (bit nil k) || not (bit s k)))

-- the need of action a + 1, and rule r, counted from 0
unfoldable pub need_of : Sheet → ℕ → Need
need_of p a = get_or p.needs a (record { need1 = 0; need0 = 0 })

unfoldable pub rule_of : Sheet → ℕ → Rule
rule_of p r = get_or p.rules r (record { action = 0; cond1 = 0; cond0 = 0; set1 = 0; set0 = 0 })

-- the rules of action a that fire: all conditions are read at the moment before
unfoldable pub firing : Sheet → ℕ → ℕ → List Rule
firing p a s =
    map (rule_of p) (filter (λ r. eqb (rule_of p r).action a && meets p.F s (rule_of p r).cond1 (rule_of p r).cond0) (up_from 0 p.R))

unfoldable pub sets1 : List Rule → ℕ → Bool
sets1 rs k = any (λ r. bit r.set1 k) rs

unfoldable pub sets0 : List Rule → ℕ → Bool
sets0 rs k = any (λ r. bit r.set0 k) rs

-- one fact is in both
unfoldable pub clash : ℕ → List Rule → Bool
clash F rs = some_below F (λ k. sets1 rs k && sets0 rs k)

-- what a fact is that no firing rule sets: it keeps its value
abbrev pub untouched : ℕ → ℕ → Bool
untouched s k = bit s k

-- facts in set1 of firing rules become 1, in set0 become 0, every other fact keeps its value
unfoldable pub applied : ℕ → List Rule → ℕ → ℕ
applied F rs s = mask_below F (λ k. sets1 rs k || (untouched s k && not (sets0 rs k)))

-- a step's answer: are the needs met, is there a clash, and the state if all is well
abbrev pub stepped : Bool → Bool → ℕ → Result ℕ Failure
stepped false c t = Err NeedUnmet
stepped true true t = Err Clashed
stepped true false t = Ok t

-- action a + 1 in state s
unfoldable pub act : Sheet → ℕ → ℕ → Result ℕ Failure
act p a s =
    stepped (meets p.F s (need_of p a).need1 (need_of p a).need0) (clash p.F (firing p (a + 1) s)) (applied p.F (firing p (a + 1) s) s)

-- an entry of a schedule: actions are numbered from 1, and 0 is idle
unfoldable pub step : Sheet → ℕ → ℕ → Result ℕ Failure
step p zero s = Ok s
step p (suc a) s = act p a s

-- every entry of a schedule is 0..A
unfoldable pub entries_fit : Sheet → List ℕ → Bool
entries_fit p σ = all (λ e. leb e p.A) σ

-- a run goes on from the state that a step leads to; a step that fails ends it
abbrev pub onward : Result ℕ Failure → Run → (ℕ → Run) → Run
onward (Ok t) f g = g t
onward (Err NeedUnmet) f g = f
onward (Err Clashed) f g = f

unfoldable pub run_from : Sheet → ℕ → ℕ → List ℕ → Run
run_from p d s [] = record { done = d; state = s; whole = true }
run_from p d s (a ∷ σ) = onward (step p a s) (record { done = d; state = s; whole = false }) (λ t. run_from p (d + 1) t σ)

unfoldable pub run : Sheet → ℕ → List ℕ → Run
run p s σ = run_from p 0 s σ

-- no step fails, and the end is a goal
unfoldable pub reaches : Sheet → List ℕ → ℕ → Bool
reaches p σ s = (run p s σ).whole && is_goal p (run p s σ).state

-- a plan reaches the goal from every start
unfoldable pub is_plan : Sheet → List ℕ → Bool
is_plan p σ = all_below (2 ^ p.F) (λ s. not (is_start p s) || reaches p σ s)

-- a proof by computation says `unfolding computed_step`, which opens every definition of this module
unfoldable pub computed_step : ℕ
unfolding meets need_of rule_of firing sets1 sets0 clash applied act step entries_fit run_from run reaches is_plan
computed_step = 0
