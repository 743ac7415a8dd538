-- The circuit of T(P) in a buffer: what an answered compile leaves there, of any well-formed sheet. Assumes nothing.
use mathlib.Core.Path.{◌≡◌, sym, ap, ◌∙◌}
use mathlib.Core.Bool.{true, not, ◌&&◌}
use mathlib.Core.List.{List, []}
use Prim.Native.Nat.{ℕ, ◌/◌, min, ◌≤◌, ◌<◌}
use native.Mathlib.Omega.{arith}
use lib.Dec.{leb}
use lib.ListN.{length}
use borrow.Author.Tests.{leb-true}
use Rattle.paper.specs.Lists.{filter, up_from}
use Rattle.paper.specs.Sheet.{Sheet, Fine}
use Rattle.paper.specs.Clauses.{variables, theory, every_pair}
use Rattle.paper.specs.Circuit.{Table, compile}
use Rattle.paper.specs.Operations.{row_size, room, good_row_at, table_of}
use Rattle.paper.specs.Answers.{filled}
use Rattle.paper.specs.Planning.{Answered}
use Rattle.paper.proofs.Basic.{Every, and_e}
use Rattle.paper.proofs.RowTheorem.{Sound}
use Rattle.paper.proofs.Size.{variables_most}
use Rattle.paper.proofs.Demand3.{taken}
use Rattle.paper.proofs.Buffers.{filled_length}
use Rattle.paper.proofs.ReadBack.{Fits, sound_fits, behind, filled_as, filled_read, good_row_lem, no_bad_row}

module _ (p : Sheet) (fine : Fine p) (n : ℕ) (horizon : n ≤ 8) (limit : ℕ) (buf : List ℕ) (e rows root : ℕ) (whole : Answered limit (room buf) (theory p n) e rows root) where
  abbrev table : Table
  table = (compile (theory p n)).table

  pub same_room : room (filled table buf) ≡ room buf
  unfolding room
  same_room = ap (λ l. min (l / row_size) 65536) (filled_length table buf whole.within_room)

  sound : Sound (λ y. leb 1 y && leb y (variables p n)) table
  unfolding theory
  sound = (taken every_pair p fine n).0

  pub root_low : root < rows
  unfolding theory
  root_low = let l = (taken every_pair p fine n).1 in let a = whole.rows_are in let r = whole.root_is in omega arith

  pub two_rows : 2 ≤ rows
  two_rows = let k = ap length sound.start.1 in let a = whole.rows_are in omega arith

  pub within_room : rows ≤ room buf
  within_room = let a = whole.rows_are in let k = whole.within_room in omega arith

  all_fit : Every Fits table
  unfolding room
  all_fit =
      let v = variables_most p fine n horizon in
      let r = whole.within_room in
      sound_fits (λ y. leb 1 y && leb y (variables p n)) (λ y h. let k = leb-true y (variables p n) (and_e (leb 1 y) (leb y (variables p n)) h).1 in omega arith) table (omega arith) sound

  -- the table is read back, every row of it good
  pub table_is : table_of (filled table buf) rows ≡ table
  table_is = ap (table_of (filled table buf)) (sym whole.rows_are) ∙ filled_read table all_fit buf

  pub rows_good : (i : ℕ) → i < rows → good_row_at (variables p n) (filled table buf) i ≡ true
  rows_good i l = ap (λ x. good_row_at (variables p n) x i) (filled_as table buf) ∙ good_row_lem (variables p n) table all_fit sound (behind table buf) i (let a = whole.rows_are in omega arith)

  pub none_bad : filter (λ i. not (good_row_at (variables p n) (filled table buf) i)) (up_from 0 rows) ≡ []
  none_bad =
      ap (λ k. filter (λ i. not (good_row_at (variables p n) (filled table buf) i)) (up_from 0 k)) (sym whole.rows_are)
      ∙ ap (λ x. filter (λ i. not (good_row_at (variables p n) x i)) (up_from 0 (length table))) (filled_as table buf)
      ∙ no_bad_row (variables p n) table all_fit sound (behind table buf)
