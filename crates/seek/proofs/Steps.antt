-- The search's code, step by step: what is left to try, and how a turn of the loop changes it. Assumes nothing.
use mathlib.Core.Path.{◌≡◌, refl, sym, ap, ◌∙◌}
use mathlib.Core.Bool.{Bool, true, false, not}
use mathlib.Core.List.{List, [], ◌∷◌, ◌++◌}
use mathlib.Core.Option.{Option, none, some}
use Prim.Native.Nat.{ℕ, suc, ◌+◌, ◌-◌, ◌<◌, ◌≤◌}
use native.Mathlib.Omega.{arith}
use lib.ListN.{take}
use borrow.Author.Tests.{not-false}
use Rattle.std.specs.Prelude.{Some, None, is_some}
use Rattle.std.specs.Prelude as std
use Rattle.paper.specs.Lists.{up_from}
use Rattle.paper.specs.Operations.{Schedule, Test}
use Rattle.paper.specs.Search.{tries, search}
use Rattle.paper.proofs.Basic.{never, not_t}
use Rattle.paper.proofs.SearchLoop.{search_shut, search_end, search_open, tries_on, tries_found}
use Rattle.prefixes.specs.declared.Prefix.{Prefix}
use Rattle.prefixes.specs.Circuits.{fixed_steps}
use Rattle.seek.specs.Seeking.{entries_of, Says}

abbrev pub next : Test → ℕ → ℕ → Schedule → ℕ → Option Schedule
next test A left σ x = search test test A (left - 1) (σ ++ (x ∷ []))

-- the entries from e up are left to try
pub record Remains (test : Test) (A left : ℕ) (σ : Schedule) (e : ℕ) : Type 0 where
  pub is : search test test A left σ ≡ tries (next test A left σ) (up_from e (A + 1 - e))

module _ (test : Test) (A left : ℕ) (σ : Schedule) where
  pub begin : 1 ≤ left → test σ ≡ true → Remains test A left σ 0
  begin h k =
      let x : left ≡ suc (left - 1) = omega arith in
      let y : suc A ≡ A + 1 - 0 = omega arith in
      record { is = ap (λ n. search test test A n σ) x ∙ search_open test A (left - 1) σ k ∙ ap (λ n. tries (next test A left σ) (up_from 0 n)) y }

  module _ (e : ℕ) (r : Remains test A left σ e) where
    more : e ≤ A → search test test A left σ ≡ tries (next test A left σ) (up_from e (suc (A - e)))
    more h = let x : A + 1 - e ≡ suc (A - e) = omega arith in r.is ∙ ap (λ n. tries (next test A left σ) (up_from e n)) x

    found : e ≤ A → (s : Schedule) → some s ≡ next test A left σ e → some s ≡ search test test A left σ
    found h s k = sym (more h ∙ tries_found (next test A left σ) e (A - e) s (sym k))

    on : e ≤ A → none ≡ next test A left σ e → Remains test A left σ (e + 1)
    on h k =
        let le : A - e ≡ A + 1 - (e + 1) = omega arith in
        record { is = more h ∙ tries_on (next test A left σ) e (A - e) (sym k) ∙ ap (λ n. tries (next test A left σ) (up_from (e + 1) n)) le }

    pub done : A < e → Says test A left σ none
    unfolding up_from
    done h = let x : A + 1 - e ≡ 0 = omega arith in record { says = sym (r.is ∙ ap (λ n. tries (next test A left σ) (up_from e n)) x) }

  -- a prefix that does not pass, and one with no step left
  pub shut : (r : Bool) → r ≡ test σ → not r ≡ true → Says test A left σ none
  shut r h k = record { says = sym (search_shut test A left σ (sym h ∙ not_t r k)) }

  pub passed : (r : Bool) → r ≡ test σ → not r ≡ false → test σ ≡ true
  passed r h k = sym h ∙ not-false r k

-- no step is left
pub ended : (test : Test) (A left : ℕ) (x : Prefix) → test (fixed_steps x) ≡ true → left ≡ 0 → Says test A left (fixed_steps x) (entries_of (x.len + left) (Some x.entries))
ended test A left x h k =
    let y : x.len + left ≡ x.len = omega arith in
    record { says = ap (λ n. some (take n x.entries)) y ∙ sym (search_end test A (fixed_steps x) h) ∙ ap (λ n. search test test A n (fixed_steps x)) (sym k) }

-- what the call for the entry e said, of the prefix with e behind it
module _ (test : Test) (A left e : ℕ) (σ τ : Schedule) (n m : ℕ) (r : std.Option (List ℕ)) (l : e ≤ A) (z : Remains test A left σ e)
    (h : τ ≡ σ ++ (e ∷ [])) (k : m ≡ n) (q : Says test A (left - 1) τ (entries_of m r)) where
  said : entries_of n r ≡ next test A left σ e
  said = ap (λ i. entries_of i r) (sym k) ∙ q.says ∙ ap (search test test A (left - 1)) h

  pub turn_found : is_some r ≡ true → Says test A left σ (entries_of n r)
  turn_found y = by_cases r refl
    where
      by_cases : (x : std.Option (List ℕ)) → r ≡ x → Says test A left σ (entries_of n r)
      by_cases (Some s) z' = record { says = ap (entries_of n) z' ∙ found test A left σ e z l (take n s) (ap (entries_of n) (sym z') ∙ said) }
      by_cases None z' = never y (ap is_some z')

  pub turn_on : is_some r ≡ false → Remains test A left σ (e + 1)
  turn_on y = by_cases r refl
    where
      by_cases : (x : std.Option (List ℕ)) → r ≡ x → Remains test A left σ (e + 1)
      by_cases (Some s) z' = never (ap is_some z') y
      by_cases None z' = on test A left σ e z l (ap (entries_of n) (sym z') ∙ said)
