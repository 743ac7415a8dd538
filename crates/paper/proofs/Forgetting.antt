-- A circuit whose conjunctions share no variable: its value with variables forgotten says whether the kept values extend. Assumes nothing.
use mathlib.Core.Path.{◌≡◌, refl, sym, ap, ◌∙◌, subst}
use mathlib.Core.Logic.{◌↔◌}
use mathlib.Core.Bool.{Bool, true, false, not, ◌||◌, cond, beq}
use Prim.Native.Nat.{ℕ}
use lib.Dec.{eqb}
use borrow.Author.Tests.{eqb-true}
use Rattle.paper.specs.declared.Lit.{Lit}
use Rattle.paper.specs.Clauses.{Assign, holds}
use Rattle.paper.specs.Circuit.{Circuit, no_way, any_way, leaf, conj, choice, value}
use Rattle.paper.specs.Meaning.{shown, Agrees}
use Rattle.paper.proofs.Basic.{never, or_r, or_l, or_e, and_e, and_i, not_t, by, eqb_same}
use Rattle.paper.proofs.Make.{beq_t, beq_same}

abbrev pub occurs : ℕ → Circuit → Bool
occurs y no_way = false
occurs y any_way = false
occurs y (leaf l) = eqb y l.var
occurs y (conj a b) = occurs y a || occurs y b
occurs y (choice x a b) = occurs y a || occurs y b

abbrev pub Strange : Circuit → Circuit → Type 0
Strange a b = (y : ℕ) → occurs y a ≡ true → occurs y b ≡ false

abbrev pub Decomposable : Circuit → Type 0
Decomposable no_way = Unit {0}
Decomposable any_way = Unit {0}
Decomposable (leaf l) = Unit {0}
Decomposable (conj a b) = Decomposable a × Decomposable b × Strange a b
Decomposable (choice x a b) = Decomposable a × Decomposable b

-- only the variables that occur matter
same_value : (v w : Assign) (c : Circuit) → ((y : ℕ) → occurs y c ≡ true → v y ≡ w y) → value (holds v) c ≡ value (holds w) c
same_value v w no_way h = refl
same_value v w any_way h = refl
same_value v w (leaf l) h = ap (λ z. beq z l.sign) (h l.var (eqb_same l.var))
same_value v w (conj a b) h = rw (same_value v w a (λ y k. h y (or_l (occurs y b) k)), same_value v w b (λ y k. h y (or_r (occurs y a) k)))
same_value v w (choice x a b) h = rw (same_value v w a (λ y k. h y (or_l (occurs y b) k)), same_value v w b (λ y k. h y (or_r (occurs y a) k)))

module _ (kept : ℕ → Bool) (k : Assign) where
  Good : Circuit → Type 0
  Good c = (v : Assign) × Agrees kept k v × (value (holds v) c ≡ true)

  -- v with the literal made true
  with_lit : Lit → Assign
  with_lit l y = cond (eqb y l.var) l.sign (k y)

  good_leaf : (l : Lit) → shown kept k l ≡ true → Good (leaf l)
  unfolding Good with_lit
  good_leaf l h = (with_lit l, agrees, rw (eqb_same l.var) (beq_same l.sign))
    where
      agrees : Agrees kept k (with_lit l)
      agrees x on = by (eqb x l.var)
          (λ e. rw e (sym (ap k (eqb-true x l.var e) ∙ beq_t (k l.var) l.sign
          (or_e (not (kept l.var)) (holds k l) h (λ q. never on (subst (λ z. kept z ≡ false) (sym (eqb-true x l.var e)) (not_t (kept l.var) q))) (λ q. q)))))
          (λ e. rw e)

  -- two assignments joined: the first on the variables of a
  join : Circuit → Assign → Assign → Assign
  join a v w y = cond (occurs y a) (v y) (w y)

  good_conj : (a b : Circuit) → Strange a b → Good a → Good b → Good (conj a b)
  unfolding Good join
  good_conj a b d g h = (u, agrees, and_i (left ∙ g.2) (right ∙ h.2))
    where
      u : Assign
      u = join a g.0 h.0

      agrees : Agrees kept k u
      agrees x on = by (occurs x a) (λ e. rw e (g.1 x on)) (λ e. rw e (h.1 x on))

      left : value (holds u) a ≡ value (holds g.0) a
      left = same_value u g.0 a (λ y e. rw e)

      right : value (holds u) b ≡ value (holds h.0) b
      right = same_value u h.0 b (λ y e. by (occurs y a) (λ q. never e (d y q)) (λ q. rw q))

  extends : (c : Circuit) → Decomposable c → value (shown kept k) c ≡ true → Good c
  unfolding Good
  extends no_way d h = never h refl
  extends any_way d h = (k, λ x on. refl, refl)
  extends (leaf l) d h = good_leaf l h
  extends (conj a b) d h =
      let e = and_e (value (shown kept k) a) (value (shown kept k) b) h in
      good_conj a b d.2 (extends a d.0 e.0) (extends b d.1 e.1)
  extends (choice x a b) d h = or_e (value (shown kept k) a) (value (shown kept k) b) h
      (λ p. let g = extends a d.0 p in (g.0, g.1, or_l (value (holds g.0) b) g.2))
      (λ p. let g = extends b d.1 p in (g.0, g.1, or_r (value (holds g.0) a) g.2))

  restricts : (v : Assign) → Agrees kept k v → (c : Circuit) → value (holds v) c ≡ true → value (shown kept k) c ≡ true
  restricts v g no_way h = h
  restricts v g any_way h = h
  restricts v g (leaf l) h = by (kept l.var) (λ e. rw (e, ← g l.var e) h) (λ e. rw e)
  restricts v g (conj a b) h =
      let e = and_e (value (holds v) a) (value (holds v) b) h in
      and_i (restricts v g a e.0) (restricts v g b e.1)
  restricts v g (choice x a b) h = or_e (value (holds v) a) (value (holds v) b) h
      (λ p. or_l (value (shown kept k) b) (restricts v g a p))
      (λ p. or_r (value (shown kept k) a) (restricts v g b p))

  pub projects : (c : Circuit) → Decomposable c → (value (shown kept k) c ≡ true) ↔ ((v : Assign) × Agrees kept k v × (value (holds v) c ≡ true))
  unfolding Good
  projects c d = (extends c d, λ g. restricts g.0 g.1 c g.2)
