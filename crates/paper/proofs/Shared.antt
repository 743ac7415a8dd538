-- Equal rows are made once: no two rows of a compiled table are the same. Assumes nothing.
use mathlib.Core.Path.{◌≡◌, refl, sym, subst}
use mathlib.Core.Bool.{true, false}
use mathlib.Core.List.{[], ◌∷◌}
use Rattle.paper.specs.declared.Row.{Row}
use Rattle.paper.specs.declared.Row.TheVariants.{False, True}
use Rattle.paper.specs.Lists.{any}
use Rattle.paper.specs.Clauses.{Clauses}
use Rattle.paper.specs.Circuit.{same_row, Table, put, Maker, compile}
use Rattle.paper.proofs.Basic.{never, not_true, by, or_f}
use Rattle.paper.proofs.RowLaws.{same_row_lem, row_same}
use Rattle.paper.proofs.Makers.{p_build}

-- no row stands again behind itself
abbrev pub Different : Table → Type 0
Different [] = Unit {0}
Different (r ∷ t) = (any (same_row r) t ≡ false) × Different t

-- r is put only where no equal row stands
put_any : (s r : Row) (t : Table) → same_row s r ≡ false → any (same_row s) t ≡ false → any (same_row s) (put r t) ≡ false
put_any s r [] e h = rw e
put_any s r (q ∷ t) e h =
    let f = or_f (same_row s q) (any (same_row s) t) h in
    by (same_row r q) (λ d. rw (d, f.0) f.1) (λ d. rw (d, f.0) (put_any s r t e f.1))

turn : (r s : Row) → same_row r s ≡ false → same_row s r ≡ false
turn r s e = not_true (λ h. never (subst (λ q. same_row r q ≡ true) (sym (same_row_lem s r h)) (row_same r)) e)

put_different : (r : Row) (t : Table) → Different t → Different (put r t)
put_different r [] h = (refl, tt)
put_different r (s ∷ t) h = by (same_row r s)
    (λ e. rw e h)
    (λ e. rw e (put_any s r t (turn r s e) h.0, put_different r t h.1))

-- a maker that keeps the rows different
abbrev Keeps : Maker → Type 0
Keeps m = (t : Table) → Different t → Different (m t).table

pub rows_different : (S : Clauses) → Different (compile S).table
unfolding compile same_row
rows_different S =
    p_build Keeps (λ i t h. h) put_different (λ m k f g t h. g (m t).root (m t).table (f t h)) S (False ∷ True ∷ []) (refl, (refl, tt))
