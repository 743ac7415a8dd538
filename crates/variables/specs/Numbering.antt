-- The numbering of variables by a trailer's counts, and what a variable stands for.
-- Assumes nothing.
use Rattle.std.specs.Prelude.{◌≡◌, cond, ℕ, ◌+◌, ◌-◌, ◌/◌, ◌%◌, ltb}
use Rattle.paper.specs.declared.Trailer.{Trailer}
use Rattle.paper.specs.Sheet.{Sheet}
use Rattle.variables.specs.declared.Meaning.{Meaning}
use Rattle.variables.specs.declared.Meaning.TheVariants.{Start, Action, Other}

-- the counts of a sheet are those of a trailer
pub record Counts (p : Sheet) (t : Trailer) : Type 0 where
  pub facts_are : p.F ≡ t.facts
  pub actions_are : p.A ≡ t.actions
  pub rules_are : p.R ≡ t.rules

abbrev pub stride_of : Trailer → ℕ
stride_of t = t.actions + t.rules + t.facts

-- the variable x + 1: a fact of moment 0, else by its place among the step's actions, z and next facts
unfoldable pub name_of : Trailer → ℕ → Meaning
name_of t x =
    cond (ltb x t.facts) (Start x)
    (cond (ltb ((x - t.facts) % stride_of t) t.actions) (Action (record { 0 = (x - t.facts) / stride_of t }) ((x - t.facts) % stride_of t)) Other)
