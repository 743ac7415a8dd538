-- What a call leaves in lent buffers: their lengths stay, and what lies past the numbers or past room is untouched. Assumes nothing.
use mathlib.Core.Path.{◌≡◌, refl}
use mathlib.Core.List.{List, [], ◌∷◌, ◌++◌}
use Prim.Native.Nat.{ℕ, ◌-◌, ◌*◌, ◌≤◌}
use native.Mathlib.Omega.{arith}
use lib.Dec.{ltb}
use lib.ListN.{length, drop, replicate, length-append, length-drop, length-replicate}
use lib.Seq.{drop_at}
use borrow.Author.Tests.{ltb-false}
use Rattle.paper.specs.declared.Row.{Row}
use Rattle.paper.specs.declared.Row.TheVariants.{False, True, Literal, Conjunction, Choice}
use Rattle.paper.specs.Lists.{each}
use Rattle.paper.specs.Circuit.{Table}
use Rattle.paper.specs.Operations.{row_size, row_bytes, room}
use Rattle.paper.specs.Answers.{told, filled}
use Rattle.paper.proofs.Basic.{by}

-- the answer slice keeps its length
pub told_length : (ns slice : List ℕ) → length (told ns slice) ≡ length slice
unfolding told
told_length [] slice = refl
told_length (n ∷ ns) slice = by (ltb (length slice) 4)
    (λ e. rw e)
    (λ e.
    let h = ltb-false (length slice) 4 e in
    let r = told_length ns (drop 4 slice) in
    let d = length-drop 4 slice in
    rw e (omega arith))

-- a row has sixteen bytes
pub row_length : (r : Row) → length (row_bytes r) ≡ 16
unfolding row_bytes each
row_length False = refl
row_length True = refl
row_length (Literal l) = refl
row_length (Conjunction i j) = refl
row_length (Choice x i j) = refl

pub table_length : (t : Table) → length (each t row_bytes) ≡ row_size * length t
unfolding each
table_length [] = refl
table_length (r ∷ t) =
    let a = length-append (row_bytes r) (each t row_bytes) in
    let b = row_length r in
    let c = table_length t in
    omega arith

-- room is at most 65,536
pub room_most : (buf : List ℕ) → room buf ≤ 65536
unfolding room
room_most buf = omega arith

-- a table of at most room rows
module _ (t : Table) (buf : List ℕ) (fits : length t ≤ room buf) where
  -- room counts whole rows
  pub room_fits : row_size * room buf ≤ length buf
  unfolding room
  room_fits = omega arith

  -- the row buffer keeps its length
  pub filled_length : length (filled t buf) ≡ length buf
  unfolding filled
  filled_length =
      let a = table_length t in
      let b = room_fits in
      simp (length-append, length-replicate, length-drop) (omega arith)

  -- what lies past room is untouched
  pub filled_rest : drop (row_size * room buf) (filled t buf) ≡ drop (row_size * room buf) buf
  unfolding filled
  filled_rest =
      let a = table_length t in
      let b = room_fits in
      drop_at (each t row_bytes ++ replicate (row_size * room buf - length (each t row_bytes)) 0) (drop (row_size * room buf) buf) (row_size * room buf)
      (simp (length-append, length-replicate) (omega arith))
