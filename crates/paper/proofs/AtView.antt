-- What code that keeps values and open variables is to follow: the lines at a view, with no fuel and no list of clauses to copy. Assumes nothing.
use mathlib.Core.Path.{◌≡◌, sym, ap, ◌∙◌, subst}
use mathlib.Core.Bool.{Bool, true, false}
use mathlib.Core.List.{◌∷◌, map}
use Prim.Native.Nat.{ℕ}
use Rattle.paper.specs.declared.Lit.{Lit}
use Rattle.paper.specs.Lists.{any, elem}
use Rattle.paper.specs.Clauses.{Clause, Clauses}
use Rattle.paper.specs.Circuit.{vars, reached, front, rest, parts, is_empty, one_literal, split, line_of, Way, side, part, by_line, build}
use Rattle.paper.specs.View.{Partial, setting, reduce, view, Closes}
use Rattle.paper.proofs.PartLaws.{parts_cons, some_var}
use Rattle.paper.proofs.Lines.{lines}
use Rattle.paper.proofs.ViewParts.{view_make, front_view, rest_view, without}

module _ {X : Type 0} (w : Way X) (B : Clauses) (a : Partial) (m : ℕ → Bool) (cl : Closes m (reduce a B)) where
  pub side_view : (l : Lit) → elem l.var (vars (view B a m)) ≡ true → side w (build w) l (view B a m) ≡ w.under l (build w (view B (setting a l) m))
  side_view l h = ap (λ S. w.under l (build w S)) (view_make B a m l cl h).0

  pub unit_view : (l : Lit) → line_of (view B a m) ≡ one_literal l → elem l.var (vars (view B a m)) ≡ true → build w (view B a m) ≡ w.under l (build w (view B (setting a l) m))
  unit_view l e h = lines w (view B a m) ∙ ap (by_line w (build w) (view B a m)) e ∙ side_view l h

  pub split_view : line_of (view B a m) ≡ split → build w (view B a m) ≡ w.together (map (part w (build w)) (parts (view B a m)))
  split_view e = lines w (view B a m) ∙ ap (by_line w (build w) (view B a m)) e

module _ (B : Clauses) (a : Partial) (m : ℕ → Bool) (cl : Closes m (reduce a B)) where
  -- the parts, one after the other: the marked variables' part, and what is left open
  pub parts_view : (c : Clause) (S : Clauses) → view B a m ≡ c ∷ S → any is_empty (view B a m) ≡ false
      → parts (view B a m) ≡ view B a (λ x. elem x (reached (view B a m))) ∷ parts (view B a (without m (λ x. elem x (reached (view B a m)))))
  parts_view c S e full =
      let y = some_var c S (subst (λ Z. any is_empty Z ≡ false) e full) in
      let h = subst (λ Z. elem y.0 (vars Z) ≡ true) (sym e) y.1 in
      subst (λ Z. any is_empty Z ≡ false → parts Z ≡ front Z ∷ parts (rest Z)) (sym e) (parts_cons c S) full ∙
      (λ i. front_view B a m full cl y.0 h i ∷ parts (rest_view B a m full cl y.0 h i))
