-- The one-literal clause that is taken is the lowest, positive first: no other has a lower rank. Assumes nothing.
use mathlib.Core.Path.{◌≡◌, refl, sym, ap, ◌∙◌, subst}
use mathlib.Core.Logic.{◌≢◌}
use mathlib.Core.Bool.{Bool, true, false, cond, ◌&&◌}
use mathlib.Core.List.{[], ◌∷◌}
use mathlib.Core.Option.{Option, none, some}
use Prim.Native.Nat.{ℕ, ◌+◌, ◌*◌, ◌≤◌}
use native.Mathlib.Omega.{arith}
use lib.Dec.{eqb, ltb}
use borrow.Author.Tests.{eqb-true, ltb-true, ltb-false}
use Rattle.paper.specs.declared.Lit.{Lit}
use Rattle.paper.specs.Clauses.{Clause, Clauses}
use Rattle.paper.specs.Circuit.{ahead, first, unit, same}
use Rattle.paper.specs.Lists.{any}
use Rattle.paper.proofs.Basic.{never, or_e, or_f, or_l, or_r, and_e, and_i, by, eqb_same}
use Rattle.paper.proofs.Lists.{beq_same}

abbrev pub low : Bool → ℕ
low true = 0
low false = 1

abbrev pub rank : Lit → ℕ
rank l = 2 * l.var + low l.sign

low_le : (s : Bool) → low s ≤ 1
low_le true = omega arith
low_le false = omega arith

ahead_t : (l m : Lit) → ahead l m ≡ true → rank l ≤ rank m
ahead_t l m h =
    let a = low_le l.sign in
    let b = low_le m.sign in
    or_e (ltb l.var m.var) (eqb l.var m.var && l.sign) h
    (λ e. let k = ltb-true l.var m.var e in omega arith)
    (λ e. let d = and_e (eqb l.var m.var) l.sign e in let k = eqb-true l.var m.var d.0 in let z = ap low d.1 in omega arith)

ahead_f : (l m : Lit) → ahead l m ≡ false → rank m ≤ rank l
ahead_f l m h =
    let a = low_le l.sign in
    let b = low_le m.sign in
    let f = or_f (ltb l.var m.var) (eqb l.var m.var && l.sign) h in
    let k = ltb-false l.var m.var f.0 in
    by (eqb l.var m.var)
    (λ e. let s : l.sign ≡ false = sym (ap (λ b. b && l.sign) e) ∙ f.1 in let z = ap low s in let v = eqb-true l.var m.var e in omega arith)
    (λ e. let d : l.var ≢ m.var = λ q. never (subst (λ x. eqb l.var x ≡ true) q (eqb_same l.var)) e in omega arith)

-- no one-literal clause of S ranks below l
abbrev pub Lowest : Lit → Clauses → Type 0
Lowest l [] = Unit {0}
Lowest l ([] ∷ S) = Lowest l S
Lowest l ((k ∷ []) ∷ S) = (rank l ≤ rank k) × Lowest l S
Lowest l ((k ∷ (j ∷ c)) ∷ S) = Lowest l S

-- S has no one-literal clause
abbrev pub NoUnit : Clauses → Type 0
NoUnit [] = Unit {0}
NoUnit ([] ∷ S) = NoUnit S
NoUnit ((k ∷ []) ∷ S) = ⊥
NoUnit ((k ∷ (j ∷ c)) ∷ S) = NoUnit S

-- the literal stands alone in a clause of S
abbrev pub is_alone : Lit → Clause → Bool
is_alone l [] = false
is_alone l (k ∷ []) = same l k
is_alone l (k ∷ (j ∷ c)) = false

abbrev pub Chosen : Clauses → Option Lit → Type 0
Chosen S none = NoUnit S
Chosen S (some l) = (any (is_alone l) S ≡ true) × Lowest l S

lower : (l k : Lit) → rank l ≤ rank k → (S : Clauses) → Lowest k S → Lowest l S
lower l k b [] h = tt
lower l k b ([] ∷ S) h = lower l k b S h
lower l k b ((j ∷ []) ∷ S) h = let d = h.0 in (omega arith, lower l k b S h.1)
lower l k b ((j ∷ (i ∷ c)) ∷ S) h = lower l k b S h

alone : (l : Lit) (S : Clauses) → NoUnit S → Lowest l S
alone l [] h = tt
alone l ([] ∷ S) h = alone l S h
alone l ((j ∷ []) ∷ S) h = absurd h
alone l ((j ∷ (i ∷ c)) ∷ S) h = alone l S h

stands : (l : Lit) (S : Clauses) → any (is_alone l) ((l ∷ []) ∷ S) ≡ true
stands l S = or_l (any (is_alone l) S) (and_i (eqb_same l.var) (beq_same l.sign l.sign refl))

take_first : (l : Lit) (S : Clauses) (o : Option Lit) → Chosen S o → Chosen ((l ∷ []) ∷ S) (first l o)
take_first l S none h = (stands l S, (omega arith, alone l S h))
take_first l S (some m) h = by (ahead l m)
    (λ e. subst (λ b. Chosen ((l ∷ []) ∷ S) (some (cond b l m))) (sym e) (stands l S, (omega arith, lower l m (ahead_t l m e) S h.1)))
    (λ e. subst (λ b. Chosen ((l ∷ []) ∷ S) (some (cond b l m))) (sym e) (or_r (same m l) h.0, (ahead_f l m e, h.1)))

skip : (S : Clauses) (o : Option Lit) → Chosen S o → Chosen ([] ∷ S) o
skip S none h = h
skip S (some l) h = h

skip_long : (k j : Lit) (c : Clause) (S : Clauses) (o : Option Lit) → Chosen S o → Chosen ((k ∷ (j ∷ c)) ∷ S) o
skip_long k j c S none h = h
skip_long k j c S (some l) h = h

-- what is taken stands alone in a clause, and no one-literal clause ranks below it; nothing is taken only where there is none
pub chosen : (S : Clauses) → Chosen S (unit S)
chosen [] = tt
chosen ([] ∷ S) = skip S (unit S) (chosen S)
chosen ((l ∷ []) ∷ S) = take_first l S (unit S) (chosen S)
chosen ((l ∷ (m ∷ c)) ∷ S) = skip_long l m c S (unit S) (chosen S)
