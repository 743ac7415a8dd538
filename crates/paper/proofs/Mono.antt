-- A row's value is monotone in the values of the literals, of any table. Assumes nothing.
use mathlib.Core.Path.{◌≡◌}
use mathlib.Core.Bool.{Bool, true, false}
use mathlib.Core.List.{List, [], ◌∷◌, ◌++◌}
use Prim.Native.Nat.{ℕ, zero, suc}
use lib.ListN.{get_or}
use Rattle.paper.specs.declared.Lit.{Lit}
use Rattle.paper.specs.declared.Row.{Row}
use Rattle.paper.specs.declared.Row.TheVariants.{False, True, Literal, Conjunction, Choice}
use Rattle.paper.specs.Circuit.{Table, row_value, values_on, values, value_at}
use Rattle.paper.proofs.Basic.{or_r, or_l, or_e, and_e, and_i}

-- each value that is true in the first list is true in the second
abbrev Le : List Bool → List Bool → Type 0
Le [] [] = Unit {0}
Le [] (w ∷ ws) = ⊥
Le (v ∷ vs) [] = ⊥
Le (v ∷ vs) (w ∷ ws) = (v ≡ true → w ≡ true) × Le vs ws

le_get : (vs ws : List Bool) → Le vs ws → (i : ℕ) → get_or vs i false ≡ true → get_or ws i false ≡ true
le_get [] [] h i k = k
le_get [] (w ∷ ws) h i k = absurd h
le_get (v ∷ vs) [] h i k = absurd h
le_get (v ∷ vs) (w ∷ ws) h zero k = h.0 k
le_get (v ∷ vs) (w ∷ ws) h (suc i) k = le_get vs ws h.1 i k

le_snoc : (vs ws : List Bool) (v w : Bool) → Le vs ws → (v ≡ true → w ≡ true) → Le (vs ++ (v ∷ [])) (ws ++ (w ∷ []))
le_snoc [] [] v w h k = (k, tt)
le_snoc [] (x ∷ ws) v w h k = absurd h
le_snoc (x ∷ vs) [] v w h k = absurd h
le_snoc (x ∷ vs) (y ∷ ws) v w h k = (h.0, le_snoc vs ws v w h.1 k)

module _ (f g : Lit → Bool) (le : (l : Lit) → f l ≡ true → g l ≡ true) where
  row_mono : (vs ws : List Bool) → Le vs ws → (r : Row) → row_value f vs r ≡ true → row_value g ws r ≡ true
  row_mono vs ws h False k = k
  row_mono vs ws h True k = k
  row_mono vs ws h (Literal l) k = le l k
  row_mono vs ws h (Conjunction i j) k = let e = and_e (get_or vs i false) (get_or vs j false) k in and_i (le_get vs ws h i e.0) (le_get vs ws h j e.1)
  row_mono vs ws h (Choice x i j) k = or_e (get_or vs i false) (get_or vs j false) k
      (λ e. or_l (get_or ws j false) (le_get vs ws h i e))
      (λ e. or_r (get_or ws i false) (le_get vs ws h j e))

  on_mono : (t : Table) (vs ws : List Bool) → Le vs ws → Le (values_on f vs t) (values_on g ws t)
  on_mono [] vs ws h = h
  on_mono (r ∷ t) vs ws h = on_mono t (vs ++ (row_value f vs r ∷ [])) (ws ++ (row_value g ws r ∷ [])) (le_snoc vs ws (row_value f vs r) (row_value g ws r) h (row_mono vs ws h r))

  -- more literals true, more rows true
  pub at_mono : (t : Table) (i : ℕ) → value_at f t i ≡ true → value_at g t i ≡ true
  unfolding value_at values
  at_mono t i k = le_get (values_on f [] t) (values_on g [] t) (on_mono t [] [] tt) i k
