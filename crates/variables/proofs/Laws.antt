-- The numbers by a trailer's counts are the definitions', and so is what a variable stands for. Assumes nothing.
use mathlib.Core.Path.{◌≡◌, refl, sym}
use mathlib.Core.Bool.{Bool, true, false, not, cond, ◌||◌, beq}
use mathlib.Core.List.{List}
use Prim.Native.Nat.{ℕ, ◌+◌, ◌-◌, ◌*◌, ◌/◌, ◌%◌, ◌≤◌, ◌<◌}
use native.Mathlib.Nat.{mul-le-mul_right}
use native.Mathlib.Omega.{arith}
use lib.Dec.{ltb}
use lib.ListN.{get_or}
use borrow.Author.Tests.{lt-ltb, le-ltb}
use Rattle.paper.specs.declared.Moment.{Moment}
use Rattle.paper.specs.declared.Step.{Step}
use Rattle.paper.specs.declared.Trailer.{Trailer}
use Rattle.paper.specs.declared.Lit.{Lit}
use Rattle.paper.specs.Counting.{bit}
use Rattle.paper.specs.Sheet.{Sheet, sheet_of}
use Rattle.paper.specs.Clauses.{stride, fact, action, z, variables}
use Rattle.paper.specs.Operations.{past, kept, given, lit_value}
use Rattle.variables.specs.declared.Meaning.{Meaning}
use Rattle.variables.specs.declared.Meaning.TheVariants.{Start, Action, Other}
use Rattle.variables.specs.Numbering.{Counts, stride_of, name_of}

pub base_most : (i s : ℕ) → i ≤ 8 → s ≤ 48 → i * s ≤ 384
base_most i s h k = let e : i * s ≤ 8 * s = mul-le-mul_right s h in omega arith

module _ (p : Sheet) (n : ℕ) (t : Trailer) (h : Counts p t) where
  pub fact_is : (m : Moment) (k : ℕ) → m.0 * stride_of t + k + 1 ≡ fact p n m k
  unfolding fact stride
  fact_is m k = rw (h.facts_are, h.actions_are, h.rules_are)

  pub action_is : (i : Step) (a : ℕ) → i.0 * stride_of t + t.facts + a + 1 ≡ action p n i a
  unfolding action stride
  action_is i a = rw (h.facts_are, h.actions_are, h.rules_are)

  pub z_is : (i : Step) (j : ℕ) → i.0 * stride_of t + t.facts + t.actions + j + 1 ≡ z p n i j
  unfolding z stride
  z_is i j = rw (h.facts_are, h.actions_are, h.rules_are)

  pub total_is : t.facts + n * stride_of t ≡ variables p n
  unfolding variables stride
  total_is = rw (h.facts_are, h.actions_are, h.rules_are)

-- ---- what a variable stands for
module _ (t : Trailer) (x : ℕ) where
  pub is_start_lem : x < t.facts → Start x ≡ name_of t x
  unfolding name_of
  is_start_lem h = rw (lt-ltb x t.facts h)

  module _ (s : ℕ) (e : s ≡ stride_of t) (h : t.facts ≤ x) where
    pub is_action : (x - t.facts) % s < t.actions → Action (record { 0 = (x - t.facts) / s }) ((x - t.facts) % s) ≡ name_of t x
    unfolding name_of
    is_action k = rw (sym e, le-ltb x t.facts h, lt-ltb ((x - t.facts) % s) t.actions k)

    pub is_other : t.actions ≤ (x - t.facts) % s → Other ≡ name_of t x
    unfolding name_of
    is_other k = rw (sym e, le-ltb x t.facts h, le-ltb ((x - t.facts) % s) t.actions k)

pub ruleset naming = (is_start_lem, is_action, is_other)

-- the value of a literal by what its variable stands for
abbrev pub value_by : ℕ → List ℕ → Bool → Meaning → Bool
value_by s masks sign (Start k) = beq (bit s k) sign
value_by s masks sign (Action i k) = beq (bit (get_or masks i.0 0) k) sign
value_by s masks sign Other = true

pub value_by_lem : (p : Sheet) (n : ℕ) (t : Trailer) → Counts p t → (s : ℕ) (masks : List ℕ) (l : Lit) → lit_value p n s masks l ≡ value_by s masks l.sign (name_of t (l.var - 1))
unfolding lit_value kept given past stride name_of
value_by_lem p n t h s masks l = rw (h.facts_are, h.actions_are, h.rules_are) (cases (ltb (l.var - 1) t.facts) (ltb ((l.var - 1 - t.facts) % stride_of t) t.actions))
  where
    cases : (a b : Bool) →
        (not (a || b) || beq (cond a (bit s (l.var - 1)) (bit (get_or masks ((l.var - 1 - t.facts) / stride_of t) 0) ((l.var - 1 - t.facts) % stride_of t))) l.sign)
        ≡ value_by s masks l.sign (cond a (Start (l.var - 1)) (cond b (Action (record { 0 = (l.var - 1 - t.facts) / stride_of t }) ((l.var - 1 - t.facts) % stride_of t)) Other))
    cases true b = refl
    cases false true = refl
    cases false false = refl

-- a sheet's counts are its trailer's
pub sheet_counts : (b : List ℕ) (t : Trailer) → Counts (sheet_of b t) t
unfolding sheet_of
sheet_counts b t = record { facts_are = refl; actions_are = refl; rules_are = refl }
