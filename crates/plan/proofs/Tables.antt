-- A table after one horizon and before the next: as long as it was lent, and untouched beyond room. Assumes nothing.
use mathlib.Core.Path.{◌≡◌, refl, sym, ap, ◌∙◌, subst}
use mathlib.Core.Bool.{◌&&◌}
use mathlib.Core.List.{List, [], ◌++◌}
use mathlib.Core.Option.{Option}
use Prim.Native.Nat.{ℕ, ◌+◌, ◌-◌, ◌*◌, ◌/◌, ◌^◌, min, ◌≤◌, ◌<◌}
use native.Mathlib.Omega.{arith}
use lib.Dec.{ltb}
use lib.ListN.{length, get_or, drop, replicate}
use Rattle.paper.specs.declared.Trailer.{Trailer}
use Rattle.paper.specs.declared.Whole.{Whole}
use Rattle.paper.specs.declared.Limit.TheVariants.{TooMuch, NoRoom}
use Rattle.std.specs.Prelude.{Ok, Err}
use Rattle.paper.specs.Lists.{each}
use Rattle.paper.specs.Counting.{bit}
use Rattle.paper.specs.Sheet.{Sheet, Fine, Bounded, is_start}
use Rattle.paper.specs.Clauses.{Clauses, theory}
use Rattle.paper.specs.Circuit.{Table, Built, compile, built_of}
use Rattle.paper.specs.Operations.{row_size, row_bytes, room, good_row_at, table_of, Schedule, first_plan}
use Rattle.paper.specs.Answers.{filled, compile_rows}
use Rattle.paper.proofs.Buffers.{filled_length, filled_rest, room_fits, room_most}
use Rattle.paper.proofs.Limits.{answered}
use Rattle.paper.specs.Search.{search, passes}
use Rattle.paper.proofs.Passes.{search_plan}
use Rattle.paper.proofs.Left.{root_low, within_room, rows_good, table_is}
use Rattle.variables.specs.Numbering.{Counts}
use Rattle.variables.proofs.Laws.{total_is}
use Rattle.prefixes.specs.Words.{Rows, Starts}

-- U stands in the place of T
pub record Alike (T U : List ℕ) : Type 0 where
  pub same_length : length U ≡ length T
  pub beyond : drop (row_size * room T) U ≡ drop (row_size * room T) T

pub alike_self : (T : List ℕ) → Alike T T
alike_self T = record { same_length = refl; beyond = refl }

pub alike_room : {T U : List ℕ} → Alike T U → room U ≡ room T
unfolding room
alike_room h = ap (λ l. min (l / row_size) 65536) h.same_length

pub filled_alike : (t : Table) {T U : List ℕ} → Alike T U → filled t U ≡ filled t T
unfolding filled
filled_alike t {T} {U} h =
    let r = alike_room h in
    ap (λ k. each t row_bytes ++ replicate (row_size * k - length (each t row_bytes)) 0 ++ drop (row_size * k) U) r
    ∙ ap (λ x. each t row_bytes ++ replicate (row_size * room T - length (each t row_bytes)) 0 ++ x) h.beyond

-- what compile leaves does not depend on the rows that were there
pub rows_alike : (t : Table) {T U : List ℕ} (r : Built) → Alike T U → compile_rows t U (Ok r) ≡ compile_rows t T (Ok r)
rows_alike t (Err TooMuch) h = filled_alike [] h
rows_alike t (Err (NoRoom e)) h = filled_alike [] h
rows_alike t (Ok c) h = filled_alike t h

filled_is_alike : (t : Table) (T : List ℕ) → length t ≤ room T → Alike T (filled t T)
filled_is_alike t T l = record { same_length = filled_length t T l; beyond = filled_rest t T l }

-- and it stands in the place of what was lent
pub left_alike : (limit : ℕ) (S : Clauses) (T : List ℕ) (r : Built) → r ≡ built_of limit (room T) S → Alike T (compile_rows (compile S).table T (Ok r))
left_alike limit S T (Err TooMuch) e = filled_is_alike [] T (omega arith)
left_alike limit S T (Err (NoRoom x)) e = filled_is_alike [] T (omega arith)
left_alike limit S T (Ok c) e = filled_is_alike (compile S).table T (answered limit (room T) S c (sym e)).within_room

-- a whole circuit of T(P) is a table of good rows
pub whole_rows : (p : Sheet) → Fine p → (n : ℕ) → n ≤ 8 → (limit : ℕ) (T : List ℕ) (w : Whole) → built_of limit (room T) (theory p n) ≡ Ok w → (t : Trailer) → Counts p t → Bounded t
    → Rows t n (filled (compile (theory p n)).table T) w.rows w.root
whole_rows p fine n h limit T x q t c b =
    let w = answered limit (room T) (theory p n) x q in
    let l = within_room p fine n h limit T x.effort x.rows x.root w in
    let m = room_most T in
    let f = room_fits (compile (theory p n)).table T w.within_room in
    let s = filled_length (compile (theory p n)).table T w.within_room in
    record {
      bounds = b;
      horizon = h;
      inside = omega arith;
      most = omega arith;
      root_low = root_low p fine n h limit T x.effort x.rows x.root w;
      good = λ j g. ap (λ v. good_row_at v (filled (compile (theory p n)).table T) j) (total_is p n t c) ∙ rows_good p fine n h limit T x.effort x.rows x.root w j g;
    }

-- what compile promised of a horizon whose circuit is whole
module _ (p : Sheet) (fine : Fine p) (n : ℕ) (h : n ≤ 8) (limit : ℕ) (T U : List ℕ) (r : Built) (x : Whole) (b : r ≡ built_of limit (room T) (theory p n))
    (u : U ≡ compile_rows (compile (theory p n)).table T (Ok r)) (q : r ≡ Ok x) where
  left_filled : U ≡ filled (compile (theory p n)).table T
  left_filled = u ∙ ap (λ y. compile_rows (compile (theory p n)).table T (Ok y)) q

  pub left_rows : (t : Trailer) → Counts p t → Bounded t → Rows t n U x.rows x.root
  left_rows t c w = subst (λ X. Rows t n X x.rows x.root) (sym left_filled) (whole_rows p fine n h limit T x (sym b ∙ q) t c w)

  -- the search in it finds the first plan
  pub left_first : (A : ℕ) → p.A ≡ A → (o : Option Schedule) (σ : Schedule) → σ ≡ [] → o ≡ search (passes p n (table_of U x.rows) x.root) (passes p n (table_of U x.rows) x.root) A n σ → o ≡ first_plan p n
  left_first A a o σ z s =
      let w = answered limit (room T) (theory p n) x (sym b ∙ q) in
      let t : table_of U x.rows ≡ (compile (theory p n)).table = ap (λ X. table_of X x.rows) left_filled ∙ table_is p fine n h limit T x.effort x.rows x.root w in
      s ∙ (λ j. search (passes p n (t j) (sym w.root_is j)) (passes p n (t j) (sym w.root_is j)) (sym a j) n (z j)) ∙ search_plan p fine n

-- ---- the starts, from the words that were filled
pub filled_starts : (p : Sheet) (ms : List ℕ)
    → ((w : ℕ) → w < 64 → (j : ℕ) → j < 64 → bit (get_or ms w 0) j ≡ (ltb (64 * w + j) (2 ^ p.F) && is_start p (64 * w + j)))
    → Starts p ms
filled_starts p ms h = record { starts = λ w l. record { says = h w l } }
