-- Laws of the clause maker at work: one part after the other, a part said by other words, the turns of a loop. Assumes nothing.
use mathlib.Core.Path.{◌≡◌, refl, sym, ap, ◌∙◌, subst}
use mathlib.Core.Bool.{Bool, true, false}
use mathlib.Core.List.{List, [], ◌∷◌, ◌++◌}
use Prim.Native.Nat.{ℕ, ◌+◌, ◌≤◌}
use native.Mathlib.Omega.{arith}
use Rattle.paper.specs.declared.Lit.{Lit}
use Rattle.paper.specs.Lists.{only, each, up_from}
use Rattle.paper.specs.Sheet.{Sheet, sheet_of}
use Rattle.paper.specs.Clauses.{Clause, Clauses, facts, actions, rule_nos}
use Rattle.sheet.specs.Contents.{contents}
use Rattle.bits.proofs.Upward.{each_more}
use Rattle.variables.specs.Numbering.{Counts}
use Rattle.variables.proofs.Laws.{sheet_counts}
use Rattle.theory.specs.declared.Builder.{Builder}
use Rattle.theory.specs.Making as making
use Rattle.theory.specs.Making.{beside}
use Rattle.theory.specs.Building.{Still, Pushes, Ends, Adds}
use Rattle.theory.proofs.Laws as laws

-- its numbers are those of its sheet
pub counts_of : (a : Builder) → Counts (contents a.sheet) a.numbers.trailer
counts_of a = subst (Counts (contents a.sheet)) (sym a.numbers_are) (sheet_counts a.sheet.parts.bytes.now a.sheet.parts.trailer)

still : {a : Builder} → Still a a
still = record { literals = refl; ends = refl; sheet = refl }

still_then : {a b c : Builder} → Still a b → Still b c → Still a c
still_then x y = record { literals = y.literals ∙ x.literals; ends = y.ends ∙ x.ends; sheet = y.sheet ∙ x.sheet }

-- ---- literals
pub pushes_none : {a : Builder} → Pushes (λ p n. []) a a
pushes_none = record { still = still; pushes = λ n. laws.pushes_none; ends_stay = refl }

pub pushes_then : {f g : Sheet → ℕ → Clause} {a b c : Builder} → Pushes f a b → Pushes g b c → Pushes (λ p n. f p n ++ g p n) a c
pushes_then {g = g} {b = b} {c} x y = record {
  still = still_then x.still y.still;
  pushes = λ n. laws.pushes_then (x.pushes n) (subst (λ s. making.Pushes (g (contents s) n) b.literals.now c.literals.now b.made c.made) x.still.sheet (y.pushes n));
  ends_stay = y.ends_stay ∙ x.ends_stay;
}

pub pushes_as : {f g : Sheet → ℕ → Clause} {a b : Builder} → ((n : ℕ) → f (contents a.sheet) n ≡ g (contents a.sheet) n) → Pushes f a b → Pushes g a b
pushes_as {a = a} {b} e x = record {
  still = x.still;
  pushes = λ n. subst (λ c. making.Pushes c a.literals.now b.literals.now a.made b.made) (e n) (x.pushes n);
  ends_stay = x.ends_stay;
}

pub pushes_wanted : {a b : Builder} (w : Bool) (l : Lit) → w ≡ true → Pushes (λ p n. l ∷ []) a b → Pushes (λ p n. only w l) a b
unfolding only
pushes_wanted w l e x = rw e x

pub pushes_unwanted : {a : Builder} (w : Bool) (l : Lit) → w ≡ false → Pushes (λ p n. only w l) a a
unfolding only
pushes_unwanted w l e = rw e pushes_none

-- ---- clauses
pub adds_none : {a : Builder} → Adds (λ p n. []) a a
adds_none = record { still = still; adds = λ n. laws.adds_none }

-- a later part, for the sheet of the first
later : {D : Sheet → ℕ → Clauses} {a b c : Builder} → Still a b → Adds D b c → (n : ℕ) → making.Adds (D (contents a.sheet) n) b.literals.now c.literals.now b.ends.now c.ends.now b.made c.made
later {D} {b = b} {c} s y n = subst (λ t. making.Adds (D (contents t) n) b.literals.now c.literals.now b.ends.now c.ends.now b.made c.made) s.sheet (y.adds n)

pub adds_then : {C D : Sheet → ℕ → Clauses} {a b c : Builder} → Adds C a b → Adds D b c → Adds (λ p n. C p n ++ D p n) a c
adds_then x y = record { still = still_then x.still y.still; adds = λ n. laws.adds_then (x.adds n) (later x.still y n) }

pub adds_as : {C D : Sheet → ℕ → Clauses} {a b : Builder} → ((n : ℕ) → C (contents a.sheet) n ≡ D (contents a.sheet) n) → Adds C a b → Adds D a b
adds_as {a = a} {b} e x = record {
  still = x.still;
  adds = λ n. subst (λ S. making.Adds S a.literals.now b.literals.now a.ends.now b.ends.now a.made b.made) (e n) (x.adds n);
}

-- a clause of the literals that were pushed
pub adds_clause : {f : Sheet → ℕ → Clause} {a b c : Builder} → Pushes f a b → Ends b c → Adds (λ p n. f p n ∷ []) a c
adds_clause {f} {a} {b} {c} x y = record {
  still = still_then x.still y.still;
  adds = λ n. laws.adds_clause
      (subst (λ (L : List ℕ). making.Pushes (f (contents a.sheet) n) a.literals.now L a.made b.made) (sym y.literals_stay) (x.pushes n))
      (subst (λ (E : List ℕ). making.Ends E c.ends.now b.made c.made) x.ends_stay y.closes);
}

pub adds_wanted : {a b : Builder} (w : Bool) (c : Sheet → ℕ → Clause) → w ≡ true → Adds (λ p n. c p n ∷ []) a b → Adds (λ p n. only w (c p n)) a b
unfolding only
adds_wanted w c e x = rw e x

pub adds_unwanted : {a : Builder} (w : Bool) (c : Sheet → ℕ → Clause) → w ≡ false → Adds (λ p n. only w (c p n)) a a
unfolding only
adds_unwanted w c e = rw e adds_none

pub adds_ahead : {a b : Builder} {w ahead : Bool} {x l : Lit} → w ≡ true → ahead ≡ true → Adds (λ p n. (x ∷ (l ∷ [])) ∷ []) a b → Adds (λ p n. only w (beside ahead x l)) a b
unfolding only
adds_ahead e f y = rw (e, f) y

pub adds_behind : {a b : Builder} {w ahead : Bool} {x l : Lit} → w ≡ true → ahead ≡ false → Adds (λ p n. (l ∷ (x ∷ [])) ∷ []) a b → Adds (λ p n. only w (beside ahead x l)) a b
unfolding only
adds_behind e f y = rw (e, f) y

-- at a horizon of its own
pub adds_at : {C : Sheet → ℕ → Clauses} {a b : Builder} (k : ℕ) → Adds C a b → Adds (λ p n. C p k) a b
adds_at k x = record { still = x.still; adds = λ n. x.adds k }

-- ---- a loop's start, its next turn, its end after all facts, actions or rules
pub pushes_start : (f : Sheet → ℕ → ℕ → Clause) {a : Builder} → Pushes (λ p n. each (up_from 0 0) (f p n)) a a
unfolding each up_from
pushes_start f = pushes_none

pub pushes_more : {k : ℕ} (f : Sheet → ℕ → ℕ → Clause) {a b c : Builder} → Pushes (λ p n. each (up_from 0 k) (f p n)) a b → Pushes (λ p n. f p n k) b c
    → Pushes (λ p n. each (up_from 0 (k + 1)) (f p n)) a c
pushes_more {k} f {a} x y = pushes_as (λ n. sym (each_more (f (contents a.sheet) n) k)) (pushes_then x y)

pub adds_start : (f : Sheet → ℕ → ℕ → Clauses) {a : Builder} → Adds (λ p n. each (up_from 0 0) (f p n)) a a
unfolding each up_from
adds_start f = adds_none

pub adds_more : {k : ℕ} (f : Sheet → ℕ → ℕ → Clauses) {a b c : Builder} → Adds (λ p n. each (up_from 0 k) (f p n)) a b → Adds (λ p n. f p n k) b c
    → Adds (λ p n. each (up_from 0 (k + 1)) (f p n)) a c
adds_more {k} f {a} x y = record { still = still_then x.still y.still; adds = λ n. laws.adds_more k (f (contents a.sheet) n) (x.adds n) (later x.still y n) }

module _ {k : ℕ} (f : Sheet → ℕ → ℕ → Clause) {a b : Builder} (x : Pushes (λ p n. each (up_from 0 k) (f p n)) a b) where
  pub pushes_facts : k ≤ a.sheet.parts.trailer.facts → a.sheet.parts.trailer.facts ≤ k → Pushes (λ p n. each (facts p n) (f p n)) a b
  unfolding facts sheet_of
  pushes_facts h d = let e : k ≡ a.sheet.parts.trailer.facts = omega arith in pushes_as (λ n. ap (λ (i : ℕ). each (up_from 0 i) (f (contents a.sheet) n)) e) x

  pub pushes_rules : k ≤ a.sheet.parts.trailer.rules → a.sheet.parts.trailer.rules ≤ k → Pushes (λ p n. each (rule_nos p n) (f p n)) a b
  unfolding rule_nos sheet_of
  pushes_rules h d = let e : k ≡ a.sheet.parts.trailer.rules = omega arith in pushes_as (λ n. ap (λ (i : ℕ). each (up_from 0 i) (f (contents a.sheet) n)) e) x

module _ {k : ℕ} (f : Sheet → ℕ → ℕ → Clauses) {a b : Builder} (x : Adds (λ p n. each (up_from 0 k) (f p n)) a b) where
  pub adds_count : (i : ℕ) → k ≤ i → i ≤ k → Adds (λ p n. each (up_from 0 i) (f p n)) a b
  adds_count i h d = let e : k ≡ i = omega arith in adds_as (λ n. ap (λ (j : ℕ). each (up_from 0 j) (f (contents a.sheet) n)) e) x

  pub adds_facts : k ≤ a.sheet.parts.trailer.facts → a.sheet.parts.trailer.facts ≤ k → Adds (λ p n. each (facts p n) (f p n)) a b
  unfolding facts sheet_of
  adds_facts h d = adds_as (λ n. refl) (adds_count a.sheet.parts.trailer.facts h d)

  pub adds_actions : k ≤ a.sheet.parts.trailer.actions → a.sheet.parts.trailer.actions ≤ k → Adds (λ p n. each (actions p n) (f p n)) a b
  unfolding actions sheet_of
  adds_actions h d = adds_as (λ n. refl) (adds_count a.sheet.parts.trailer.actions h d)

  pub adds_rules : k ≤ a.sheet.parts.trailer.rules → a.sheet.parts.trailer.rules ≤ k → Adds (λ p n. each (rule_nos p n) (f p n)) a b
  unfolding rule_nos sheet_of
  adds_rules h d = adds_as (λ n. refl) (adds_count a.sheet.parts.trailer.rules h d)
