-- What a writer has added to what it had written.
-- Assumes nothing.
use Rattle.std.specs.Prelude.{◌≡◌, List, ℕ, length}
use Rattle.line.specs.declared.Writer.{Writer}
use Rattle.line.specs.Written.{Writes}

-- xs stand in M's slice, which is L's, behind what stood there
pub record Adds (xs : List ℕ) (L M : Writer) : Type 0 where
  pub same : M.out.ghost_name ≡ L.out.ghost_name
  pub len : length M.out.now ≡ length L.out.now
  pub written : Writes L.at xs L.out.now M.out.now M.at
