-- What the code of the search follows: one test, then the entries in order. Assumes nothing.
use mathlib.Core.Path.{◌≡◌, ap}
use mathlib.Core.Bool.{true, false}
use mathlib.Core.List.{[], ◌∷◌, ◌++◌}
use mathlib.Core.Option.{Option, none, some}
use Prim.Native.Nat.{ℕ, zero, suc, ◌+◌}
use Rattle.paper.specs.Lists.{up_from}
use Rattle.paper.specs.Operations.{Schedule, Test}
use Rattle.paper.specs.Search.{or_else, tries, search}

module _ (test : Test) (A : ℕ) where
  pub search_shut : (n : ℕ) (p : Schedule) → test p ≡ false → search test test A n p ≡ none
  search_shut zero p h = rw h
  search_shut (suc n) p h = rw h

  pub search_end : (p : Schedule) → test p ≡ true → search test test A 0 p ≡ some p
  search_end p h = rw h

  pub search_open : (n : ℕ) (p : Schedule) → test p ≡ true → search test test A (suc n) p ≡ tries (λ e. search test test A n (p ++ (e ∷ []))) (up_from 0 (suc A))
  search_open n p h = rw h

-- the loop over the entries: k are left, from e up
module _ (f : ℕ → Option Schedule) (e k : ℕ) where
  pub tries_on : f e ≡ none → tries f (up_from e (suc k)) ≡ tries f (up_from (e + 1) k)
  unfolding up_from
  tries_on h = ap (λ o. or_else o (tries f (up_from (e + 1) k))) h

  pub tries_found : (s : Schedule) → f e ≡ some s → tries f (up_from e (suc k)) ≡ some s
  unfolding up_from
  tries_found s h = ap (λ o. or_else o (tries f (up_from (e + 1) k))) h
