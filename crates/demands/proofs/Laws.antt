-- From what each function promises to what is demanded. Assumes nothing.
use mathlib.Core.Path.{◌≡◌, sym, ap, ◌∙◌, subst}
use mathlib.Core.Logic.{◌↔◌}
use mathlib.Core.Bool.{true}
use mathlib.Core.List.{List, []}
use Prim.Native.Nat.{ℕ}
use native.Mathlib.Omega.{arith}
use Rattle.std.specs.Prelude.{Ok}
use Rattle.paper.specs.Lists.{elem}
use Rattle.paper.specs.Sheet.{Sheet, Fine, fits}
use Rattle.paper.specs.Clauses.{Clauses, theory}
use Rattle.paper.specs.Circuit.{vars, compile, Built, built_of, value_at}
use Rattle.paper.specs.Operations.{room, long, kept, given, table_of}
use Rattle.paper.specs.Answers.{told_at, compile_rows, compile_left, judge_left}
use Rattle.paper.specs.Meaning.{shown, Extends}
use Rattle.paper.specs.Sets.{leads}
use Rattle.paper.proofs.Demand3.{theory_leads}
use Rattle.paper.proofs.Called.{accepted_0, demand3_left}
use Rattle.paper.proofs.RowTheorem.{row_theorem, table_fine}
use Rattle.paper.proofs.Limits.{answered}
use Rattle.paper.proofs.Buffers.{room_most}
use Rattle.paper.proofs.ReadBack.{sound_fits, filled_read}
use Rattle.theory.specs.declared.Filled.{Filled}
use Rattle.theory.specs.Flat.{Stored}
use Rattle.theory.proofs.Theorem.{theory_read}
use Rattle.sets.specs.State.{Sound, clauses_of}
use Rattle.sets.proofs.Sets.{vars_below}
use Rattle.demands.specs.Demands.{Runs, Projects, twenty, eight, asked_of, Demand3}

-- the arrays hold T(P), so what is said of T(P) is said of them
pub stored_runs : (p : Sheet) → Fine p → (n : ℕ) {literals ends : List ℕ} {m : Filled} → Stored literals ends m (theory p n) [] → Runs p n literals ends m
unfolding fits
stored_runs p fine n h s ms w =
    subst (λ S. Extends (kept p n) (given p n s ms) S ↔ (leads p s ms ≡ true)) (sym (theory_read p n h)) (theory_leads p fine s w.state_fits ms w.masks_fit n w.one_a_step)

-- a whole circuit is read back from the table, and it is the projection
pub built_projects : (literals ends T U : List ℕ) (limit : ℕ) (r : Built) → Sound literals ends
    → r ≡ built_of limit (room T) (clauses_of literals ends)
    → U ≡ compile_rows (compile (clauses_of literals ends)).table T (Ok r)
    → Projects (clauses_of literals ends) U r
built_projects literals ends T U limit r sound built filled c whole keeps k =
    let S : Clauses = clauses_of literals ends in
    let a = answered limit (room T) S c (sym built ∙ whole) in
    let fit = sound_fits (λ y. elem y (vars S)) (λ y h. let l = vars_below literals ends sound y h in omega arith) (compile S).table (let l = a.within_room in let m = room_most T in omega arith) (table_fine S) in
    let left = filled ∙ ap (λ x. compile_rows (compile S).table T (Ok x)) whole in
    let table_is : table_of U c.rows ≡ (compile S).table = (λ i. table_of (left i) (sym a.rows_are i)) ∙ filled_read (compile S).table fit T in
    subst (λ t. (value_at (shown keeps k) t c.root ≡ true) ↔ Extends keeps k S) (sym table_is)
    (subst (λ i. (value_at (shown keeps k) (compile S).table i ≡ true) ↔ Extends keeps k S) a.root_is (row_theorem S keeps k))

-- the two calls, one after the other
pub asked_is : (b : List ℕ) (n limit : ℕ) (buf : List ℕ) (s : ℕ) (masks : List ℕ) (compiled judged value count root : ℕ) (told rows answer : List ℕ)
    → compiled ≡ (compile_left b n limit buf twenty).code → told ≡ (compile_left b n limit buf twenty).answer → rows ≡ (compile_left b n limit buf twenty).rows
    → count ≡ long told 12 → root ≡ long told 16
    → judged ≡ (judge_left b n rows count root s masks eight).code → answer ≡ (judge_left b n rows count root s masks eight).answer
    → value ≡ long answer 4
    → record { compiled = compiled; judged = judged; value = value } ≡ asked_of b n limit buf s masks
unfolding asked_of
asked_is b n limit buf s masks compiled judged value count root told rows answer c t r k i j a v =
    let C = compile_left b n limit buf twenty in
    let count_is : count ≡ told_at C.answer 3 = k ∙ ap (λ x. long x 12) t in
    let root_is : root ≡ told_at C.answer 4 = i ∙ ap (λ x. long x 16) t in
    let left : judge_left b n rows count root s masks eight ≡ judge_left b n C.rows (told_at C.answer 3) (told_at C.answer 4) s masks eight = λ z. judge_left b n (r z) (count_is z) (root_is z) s masks eight in
    λ z. record { compiled = c z; judged = (j ∙ ap (λ x. x.code) left) z; value = (v ∙ ap (λ x. long x 4) (a ∙ ap (λ x. x.answer) left)) z }

pub asked_demand : (b : List ℕ) (n limit : ℕ) (buf : List ℕ) (s : ℕ) (masks : List ℕ) → Demand3 b n s masks (asked_of b n limit buf s masks)
unfolding asked_of
asked_demand b n limit buf s masks = record {
  well_formed = λ h. accepted_0 b n limit buf twenty (omega arith) h;
  answers = λ h p d hs hm ha. demand3_left b n limit buf twenty (omega arith) h p d s hs masks hm ha eight (omega arith);
}
