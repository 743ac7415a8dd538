-- Demand 3 over what the calls leave: judge, asked about the rows, count and root that an answered compile left, says yes exactly if the state is a start,
-- no step has two actions, and the run ends in the goal. Assumes nothing.
use mathlib.Core.Path.{◌≡◌, refl, sym, ap, ◌∙◌}
use mathlib.Core.Bool.{true, cond}
use mathlib.Core.List.{List, [], ◌∷◌}
use Prim.Native.Nat.{ℕ, ◌*◌, ◌^◌, ◌≤◌, ◌<◌}
use native.Mathlib.Omega.{arith}
use lib.Dec.{leb}
use lib.ListN.{length, length-map}
use borrow.Author.Tests.{leb-true, le-leb, lt-ltb, eq-eqb}
use Rattle.paper.specs.declared.Whole.{Whole}
use Rattle.std.specs.Prelude.{Ok, Err, Result}
use Rattle.paper.specs.declared.Limit.TheVariants.{TooMuch, NoRoom}
use Rattle.paper.specs.declared.Fault.{Fault}
use Rattle.paper.specs.declared.Fault.TheVariants.{BadCall}
use Rattle.paper.specs.Lists.{all, up_from}
use Rattle.paper.specs.Sheet.{Sheet, word, fits, decode, Fine}
use Rattle.paper.specs.Step.{entries_fit, run, reaches}
use Rattle.paper.specs.Clauses.{theory}
use Rattle.paper.specs.Circuit.{Table, compile, Built, built_of}
use Rattle.paper.specs.Operations.{◌>>=◌, on_sheet, good_run, run_sheet, run_of, room, compile_sheet, compile_of, judge, masks_of, good_judge, judged_by, judge_sheet, judge_of}
use Rattle.paper.specs.Answers.{fault_code, code, compile_code, run_numbers, compile_numbers, judge_numbers, told, told_at, filled, compile_rows, Left, LeftRows, table_for, run_left, compile_left, judge_left}
use Rattle.paper.specs.Sets.{leads}
use Rattle.paper.specs.Planning.{Answered}
use Rattle.paper.proofs.Basic.{and_i, by}
use Rattle.paper.proofs.Decoded.{decoded_fine, length_count}
use Rattle.paper.proofs.Limits.{answered}
use Rattle.paper.proofs.Demand3.{judge_leads}
use Rattle.paper.proofs.Buffers.{room_most}
use Rattle.paper.proofs.ReadBack.{sign_small, told_read}
use Rattle.paper.proofs.Left.{same_room, root_low, two_rows, within_room, table_is, none_bad}

compiled_whole : (n limit k : ℕ) (p : Sheet) (c : Whole) → compile_sheet n limit k p ≡ Ok (Ok c) → (n ≤ 8) × (built_of limit k (theory p n) ≡ Ok c)
compiled_whole n limit k p c h = by (leb n 8)
    (λ x. let g : Ok (built_of limit k (theory p n)) ≡ Ok (Ok c) = rw x at h in (leb-true n 8 x, cc))
    (λ x. let g : Err BadCall ≡ Ok (Ok c) = rw x at h in let z : ◌≡◌ {A = ℕ} 0 1 = cc in absurd (omega arith))

module _ (b : List ℕ) (p : Sheet) (d : decode b ≡ Ok p) (n limit : ℕ) (buf slice : List ℕ) (w : Whole)
    (c : compile_of b n limit (room buf) ≡ Ok (Ok w)) where
  on_sheet_lem : compile_sheet n limit (room buf) p ≡ Ok (Ok w)
  unfolding compile_of
  on_sheet_lem = sym (ap (λ x. x >>= compile_sheet n limit (room buf)) d) ∙ c

  horizon : n ≤ 8
  horizon = (compiled_whole n limit (room buf) p w on_sheet_lem).0

  whole : Answered limit (room buf) (theory p n) w.effort w.rows w.root
  whole = answered limit (room buf) (theory p n) w (compiled_whole n limit (room buf) p w on_sheet_lem).1

  -- the row buffer holds the circuit
  pub left_rows : (compile_left b n limit buf slice).rows ≡ filled (compile (theory p n)).table buf
  unfolding compile_left table_for
  left_rows = ap (compile_rows (table_for b n) buf) c ∙ ap (λ x. filled (on_sheet (λ f. []) (λ q. (compile (theory q n)).table) x) buf) d

  sheet_fine : Fine p
  sheet_fine = decoded_fine b p d

  abbrev table : Table
  table = (compile (theory p n)).table

  -- a call of judge that its checks let through
  module _ (s : ℕ) (hs : s < 2 ^ p.F) (masks : List ℕ) (hm : length masks ≡ 2 * n) (ha : all (fits p.A) (masks_of masks n) ≡ true) where
    good : good_judge p n (filled table buf) w.rows w.root s masks ≡ true
    unfolding good_judge fits
    good =
        let l = root_low p sheet_fine n horizon limit buf w.effort w.rows w.root whole in
        let t = two_rows p sheet_fine n horizon limit buf w.effort w.rows w.root whole in
        let k = within_room p sheet_fine n horizon limit buf w.effort w.rows w.root whole in
        let q = same_room p sheet_fine n horizon limit buf w.effort w.rows w.root whole in
        and_i (lt-ltb s (2 ^ p.F) hs) (and_i (le-leb n 8 horizon) (and_i (eq-eqb (length masks) (2 * n) hm) (and_i ha (and_i (le-leb 2 w.rows t) (and_i (le-leb w.rows (room (filled table buf)) (omega arith)) (lt-ltb w.root w.rows l))))))

    -- it is answered by the circuit's value
    pub judged_value : judge_of b n (compile_left b n limit buf slice).rows w.rows w.root s masks ≡ Ok (judge p n (compile (theory p n)).table (compile (theory p n)).root s (masks_of masks n))
    unfolding judge_of
    judged_value =
        ap (λ x. x >>= judge_sheet n (compile_left b n limit buf slice).rows w.rows w.root s masks) d
        ∙ ap (λ x. judge_sheet n x w.rows w.root s masks p) left_rows
        ∙ (λ i. judged_by (good i) (none_bad p sheet_fine n horizon limit buf w.effort w.rows w.root whole i) (judge p n (table_is p sheet_fine n horizon limit buf w.effort w.rows w.root whole i) (sym whole.root_is i) s (masks_of masks n)))

    -- demand 3, from the bytes lent to the bytes read
    pub demand3_called : judge_of b n (compile_left b n limit buf slice).rows w.rows w.root s masks ≡ Ok (leads p s (masks_of masks n))
    unfolding masks_of fits
    demand3_called = judged_value ∙ ap Ok (judge_leads p sheet_fine s hs (masks_of masks n) ha n (length-map (up_from 0 n) (λ i. word masks (2 * i)) ∙ length_count n 0))

-- only a whole circuit has code 0
fault_not_0 : (f : Fault) → fault_code f ≡ 0 → ⊥
fault_not_0 Fault.Unmarked h = omega arith
fault_not_0 Fault.Unbounded h = omega arith
fault_not_0 Fault.Disagrees h = omega arith
fault_not_0 (Fault.BadRow o) h = omega arith
fault_not_0 Fault.ShortSchedule h = omega arith
fault_not_0 Fault.NoStart h = omega arith
fault_not_0 Fault.BadCall h = omega arith
fault_not_0 (Fault.BadTable i) h = omega arith

code_0 : (a : Result Built Fault) → compile_code a ≡ 0 → (w : Whole) × (a ≡ Ok (Ok w))
code_0 (Err f) h = absurd (fault_not_0 f h)
code_0 (Ok (Err TooMuch)) h = absurd (omega arith)
code_0 (Ok (Err (NoRoom e))) h = absurd (omega arith)
code_0 (Ok (Ok w)) h = (w, refl)

-- a call of compile that returned 0, with an answer slice for its five numbers
module _ (b : List ℕ) (n limit : ℕ) (buf slice : List ℕ) (wide : 20 ≤ length slice) (zero : (compile_left b n limit buf slice).code ≡ 0) where
  whole_0 : (w : Whole) × (compile_of b n limit (room buf) ≡ Ok (Ok w))
  unfolding compile_left
  whole_0 = code_0 (compile_of b n limit (room buf)) zero

  -- had a well-formed sheet and a horizon up to 8
  pub accepted_0 : (p : Sheet) × (decode b ≡ Ok p) × (n ≤ 8)
  unfolding compile_of
  accepted_0 = by_decoded (decode b) refl
    where
      by_decoded : (x : Result Sheet Fault) → decode b ≡ x → (p : Sheet) × (decode b ≡ Ok p) × (n ≤ 8)
      by_decoded (Err f) d =
          let g : Err f ≡ Ok (Ok whole_0.0) = sym (ap (λ x. x >>= compile_sheet n limit (room buf)) d) ∙ whole_0.1 in
          let z : ◌≡◌ {A = ℕ} 0 1 = cc in absurd (omega arith)
      by_decoded (Ok p) d = (p, d, horizon b p d n limit buf slice whole_0.0 whole_0.1)

  -- and judge, called with the rows that it left and the count and root that it told, answers 0 and demand 3's sentence
  module _ (p : Sheet) (d : decode b ≡ Ok p) (s : ℕ) (hs : s < 2 ^ p.F) (masks : List ℕ) (hm : length masks ≡ 2 * n) (ha : all (fits p.A) (masks_of masks n) ≡ true)
      (answer : List ℕ) (room_for_2 : 8 ≤ length answer) where
    abbrev compiled_left : LeftRows
    compiled_left = compile_left b n limit buf slice

    abbrev judged_left : Left
    judged_left = judge_left b n compiled_left.rows (told_at compiled_left.answer 3) (told_at compiled_left.answer 4) s masks answer

    answer_is : compiled_left.answer ≡ told (0 ∷ 0 ∷ whole_0.0.effort ∷ whole_0.0.rows ∷ whole_0.0.root ∷ []) slice
    unfolding compile_left
    answer_is = ap (λ a. told (compile_numbers n a) slice) whole_0.1

    small : (whole_0.0.rows ≤ 65536) × (whole_0.0.root < 65536)
    small =
        let w = whole b p d n limit buf slice whole_0.0 whole_0.1 in
        let h = horizon b p d n limit buf slice whole_0.0 whole_0.1 in
        let l = root_low p (decoded_fine b p d) n h limit buf whole_0.0.effort whole_0.0.rows whole_0.0.root w in
        let k = within_room p (decoded_fine b p d) n h limit buf whole_0.0.effort whole_0.0.rows whole_0.0.root w in
        let m = room_most buf in
        (omega arith, omega arith)

    count_told : told_at compiled_left.answer 3 ≡ whole_0.0.rows
    count_told = let h = small.0 in ap (λ x. told_at x 3) answer_is ∙ told_read (0 ∷ 0 ∷ whole_0.0.effort ∷ whole_0.0.rows ∷ whole_0.0.root ∷ []) slice 3 (omega arith) wide (omega arith)

    root_told : told_at compiled_left.answer 4 ≡ whole_0.0.root
    root_told = let h = small.1 in ap (λ x. told_at x 4) answer_is ∙ told_read (0 ∷ 0 ∷ whole_0.0.effort ∷ whole_0.0.rows ∷ whole_0.0.root ∷ []) slice 4 (omega arith) wide (omega arith)

    called : judge_of b n compiled_left.rows (told_at compiled_left.answer 3) (told_at compiled_left.answer 4) s masks ≡ Ok (leads p s (masks_of masks n))
    called = (λ i. judge_of b n compiled_left.rows (count_told i) (root_told i) s masks) ∙ demand3_called b p d n limit buf slice whole_0.0 whole_0.1 s hs masks hm ha

    pub demand3_left : (judged_left.code ≡ 0) × (told_at judged_left.answer 1 ≡ cond (leads p s (masks_of masks n)) 1 0)
    unfolding judge_left
    demand3_left = (
      ap code called,
      ap (λ a. told_at (told (judge_numbers a) answer) 1) called ∙ told_read (0 ∷ cond (leads p s (masks_of masks n)) 1 0 ∷ []) answer 1 (omega arith) room_for_2 (sign_small (leads p s (masks_of masks n))),
    )

-- the run in demand 3's sentence is the one that run answers: its last number is the goal as 1 or 0
module _ (b : List ℕ) (p : Sheet) (d : decode b ≡ Ok p) (s : ℕ) (hs : s < 2 ^ p.F) (σ : List ℕ) (most : length σ ≤ 8) (fit : entries_fit p σ ≡ true) where
  run_went : run_of b s σ ≡ Ok (record { done = (run p s σ).done; state = (run p s σ).state; goal = reaches p σ s })
  unfolding run_of good_run fits reaches
  run_went = ap (λ x. x >>= run_sheet s σ) d ∙ rw (lt-ltb s (2 ^ p.F) hs, le-leb (length σ) 8 most, fit)

  pub run_goal : (answer : List ℕ) → 16 ≤ length answer → ((run_left b s σ answer).code ≡ 0) × (told_at (run_left b s σ answer).answer 3 ≡ cond (reaches p σ s) 1 0)
  unfolding run_left
  run_goal answer wide = (
    ap code run_went,
    ap (λ a. told_at (told (run_numbers a) answer) 3) run_went
        ∙ told_read (0 ∷ (run p s σ).done ∷ (run p s σ).state ∷ cond (reaches p σ s) 1 0 ∷ []) answer 3 (omega arith) wide (sign_small (reaches p σ s)),
  )
