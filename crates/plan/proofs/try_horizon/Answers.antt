use Prim.Native.Nat.{◌+◌}
use mathlib.Core.Path.{◌≡◌, sym, ap, ◌∙◌}
use native.Mathlib.Omega.{arith}
use Rattle.std.specs.Prelude.{Ok}
use Rattle.paper.specs.Clauses.{theory}
use Rattle.paper.specs.Circuit.{compile}
use Rattle.paper.specs.Answers.{compile_rows}
use Rattle.sheet.specs.Contents.{contents}
use Rattle.variables.proofs.Laws.{sheet_counts}
use Rattle.seek.specs.Seeking.{entries_of}
use Rattle.plan.proofs.Tables.{left_rows, left_first}
use Rattle.plan.proofs.try_horizon.Goals as goal

pub invariant_of-circuit : goal.invariant_of-circuit
invariant_of-circuit c = let s = c.args.sheet in
    let h = c.compile_theory-built in
    record {
      rows = left_rows (contents s) s.fine c.args.n c.requires.0 c.args.limit c.args.table.now _ h.result _ h.ensures.built h.ensures.rows c.in-Ok.is s.parts.trailer (sheet_counts s.parts.bytes.now s.parts.trailer) s.parts.whole.bounds;
    }

pub returns-in-Ok : goal.returns-in-Ok
returns-in-Ok c = let a = c.args in
    let p = contents a.sheet in
    let h = c.compile_theory-built in
    let g = c.in-Ok.is in
    let counts = sheet_counts a.sheet.parts.bytes.now a.sheet.parts.trailer in
    record {
      built_is = sym g ∙ h.ensures.built;
      rows_are = h.ensures.rows ∙ ap (λ x. compile_rows (compile (theory p a.n)).table a.table.now (Ok x)) g;
      found_is = λ w q. let z : a.n ≡ c.none.result.len + a.n = omega (arith, c.none.ensures.empty) in
          ap (λ m. entries_of m c.seek-found.result) z
          ∙ left_first p a.sheet.fine a.n c.requires.0 a.limit a.table.now _ h.result _ h.ensures.built h.ensures.rows g _ counts.actions_are _ _ c.none.ensures.none
          (c.seek-found.ensures p (record { counts = counts; starts = c.requires.1 })).says;
    }
