-- Steps that hold a set of actions, as a mask (bit a is action a + 1), under a relation of excluded pairs: what T(P) speaks of.
-- Document 01's schedule is the case with at most one action a step.
-- Assumes nothing.
use Rattle.std.specs.Prelude.{◌≡◌, Bool, true, false, not, ◌&&◌, ◌||◌, cond, List, [], ◌∷◌, map, ℕ, zero, suc, ◌-◌, ◌^◌, eqb, ltb, Result, Ok, Err}
use Rattle.paper.specs.declared.Failure.{Failure}
use Rattle.paper.specs.Lists.{all, filter, up_from}
use Rattle.paper.specs.Counting.{bit, all_below}
use Rattle.paper.specs.Sheet.{Rule, Sheet, is_start, is_goal}
use Rattle.paper.specs.Step.{meets, need_of, rule_of, clash, applied, stepped, reaches}

-- every action of the set may run
unfoldable pub needs_met : Sheet → ℕ → ℕ → Bool
needs_met p m s = all_below p.A (λ a. not (bit m a) || meets p.F s (need_of p a).need1 (need_of p a).need0)

-- rule r fires if its action is in the set and its conditions hold
unfoldable pub fires : Sheet → ℕ → ℕ → ℕ → Bool
fires p m s r = bit m ((rule_of p r).action - 1) && meets p.F s (rule_of p r).cond1 (rule_of p r).cond0

unfoldable pub firing_set : Sheet → ℕ → ℕ → List Rule
firing_set p m s = map (rule_of p) (filter (fires p m s) (up_from 0 p.R))

-- the set of actions m in state s
unfoldable pub act_set : Sheet → ℕ → ℕ → Result ℕ Failure
act_set p m s = stepped (needs_met p m s) (clash p.F (firing_set p m s)) (applied p.F (firing_set p m s) s)

-- a test of the state that a step leads to; a step that fails does not pass
abbrev pub then_pass : Result ℕ Failure → (ℕ → Bool) → Bool
then_pass (Ok t) f = f t
then_pass (Err e) f = false

-- no step fails, and the end is a goal
unfoldable pub reaches_sets : Sheet → List ℕ → ℕ → Bool
reaches_sets p [] s = is_goal p s
reaches_sets p (m ∷ ms) s = then_pass (act_set p m s) (reaches_sets p ms)

-- the set holds no excluded pair
unfoldable pub apart_set : (ℕ → ℕ → Bool) → Sheet → ℕ → Bool
apart_set ex p m = all_below p.A (λ a. all_below p.A (λ b. not (ltb a b && ex a b) || (not (bit m a) || not (bit m b))))

-- the state is a start, no step holds an excluded pair, and the run ends in the goal
abbrev pub Good : (ℕ → ℕ → Bool) → Sheet → ℕ → List ℕ → Type 0
Good ex p s ms = (is_start p s ≡ true) × (all (apart_set ex p) ms ≡ true) × (reaches_sets p ms s ≡ true)

-- an entry of a schedule as a set
unfoldable pub mask_of : ℕ → ℕ
mask_of zero = 0
mask_of (suc a) = 2 ^ a

-- ---- document 01's mode: the actions of a step are an entry of a schedule
-- no two actions are marked
unfoldable pub at_most_one : Sheet → ℕ → Bool
at_most_one p m = all_below p.A (λ a. all_below p.A (λ b. not (bit m a && bit m b) || eqb a b))

-- the entry that a mask marks: the number of its highest action, 0 where it has none
unfoldable pub entry_below : ℕ → ℕ → ℕ
entry_below zero m = 0
entry_below (suc a) m = cond (bit m a) (suc a) (entry_below a m)

abbrev pub schedule_of : Sheet → List ℕ → List ℕ
schedule_of p ms = map (entry_below p.A) ms

-- demand 3's sentence: the state is a start, no step has two actions, and running the schedule ends in the goal
unfoldable pub leads : Sheet → ℕ → List ℕ → Bool
leads p s ms = is_start p s && (all (at_most_one p) ms && reaches p (schedule_of p ms) s)

-- a proof by computation says `unfolding computed_sets`, which opens every definition of this module
unfoldable pub computed_sets : ℕ
unfolding needs_met fires firing_set act_set reaches_sets apart_set mask_of at_most_one entry_below leads
computed_sets = 0
