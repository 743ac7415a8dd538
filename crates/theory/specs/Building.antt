-- What a part of the clause maker does to what it works on, by the sheet and the horizon.
-- Assumes nothing.
use Rattle.std.specs.Prelude.{◌≡◌, ℕ}
use Rattle.paper.specs.declared.Lit.{Lit}
use Rattle.paper.specs.Sheet as paper
use Rattle.paper.specs.Clauses.{Clause, Clauses}
use Rattle.sheet.specs.Contents.{contents}
use Rattle.theory.specs.declared.Literal.{Literal}
use Rattle.theory.specs.declared.Masks.{Masks}
use Rattle.theory.specs.declared.Builder.{Builder}
use Rattle.theory.specs.Making as making

abbrev pub as_lit : Literal → Lit
as_lit l = making.lit l.var l.sign

abbrev pub as_masks : Masks → paper.Masks
as_masks m = record { pos = m.one; neg = m.nil }

-- it works on what was lent to it, for the same sheet
pub record Still (old new : Builder) : Type 0 where
  pub literals : new.literals.ghost_name ≡ old.literals.ghost_name
  pub ends : new.ends.ghost_name ≡ old.ends.ghost_name
  pub sheet : new.sheet ≡ old.sheet

-- the literals of c are added to the clause that is not ended yet
pub record Pushes (c : paper.Sheet → ℕ → Clause) (old new : Builder) : Type 0 where
  pub still : Still old new
  pub pushes : (n : ℕ) → making.Pushes (c (contents old.sheet) n) old.literals.now new.literals.now old.made new.made
  pub ends_stay : new.ends.now ≡ old.ends.now

-- the clause is ended
pub record Ends (old new : Builder) : Type 0 where
  pub still : Still old new
  pub closes : making.Ends old.ends.now new.ends.now old.made new.made
  pub literals_stay : new.literals.now ≡ old.literals.now

-- the clauses of C are added
pub record Adds (C : paper.Sheet → ℕ → Clauses) (old new : Builder) : Type 0 where
  pub still : Still old new
  pub adds : (n : ℕ) → making.Adds (C (contents old.sheet) n) old.literals.now new.literals.now old.ends.now new.ends.now old.made new.made
