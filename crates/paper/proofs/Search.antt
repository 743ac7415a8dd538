-- The search finds the first schedule of the list that passes, and that is the first in the order. Assumes nothing.
use mathlib.Core.Path.{◌≡◌, refl, sym, ap, ◌∙◌}
use mathlib.Core.Bool.{false, cond}
use mathlib.Core.List.{List, [], ◌∷◌, ◌++◌, map, append_assoc}
use mathlib.Core.Option.{Option, none, some}
use Prim.Native.Nat.{ℕ, zero, suc}
use Rattle.paper.specs.Operations.{Schedule, Test, entries, schedules, first_of}
use Rattle.paper.specs.Search.{or_else, tries, search, Safe}
use Rattle.paper.specs.Lists.{each}
use Rattle.paper.proofs.Basic.{never, not_true, by}

-- the first of the list
pub first_append : (g : Test) (ss ts : List Schedule) → first_of g (ss ++ ts) ≡ or_else (first_of g ss) (first_of g ts)
unfolding first_of
first_append g [] ts = refl
first_append g (s ∷ ss) ts = by (g s) (λ e. rw e) (λ e. rw e (first_append g ss ts))

-- behind the prefix p, the schedules that begin with e are those behind p and e
behind : (p : Schedule) (e : ℕ) (ss : List Schedule) → map (λ s. p ++ s) (map (λ s. e ∷ s) ss) ≡ map (λ s. (p ++ (e ∷ [])) ++ s) ss
behind p e [] = refl
behind p e (s ∷ ss) = λ i. sym (append_assoc p (e ∷ []) s) i ∷ behind p e ss i

map_append : (f : Schedule → Schedule) (ss ts : List Schedule) → map f (ss ++ ts) ≡ map f ss ++ map f ts
map_append f [] ts = refl
map_append f (s ∷ ss) ts = ap (λ z. f s ∷ z) (map_append f ss ts)

-- each entry in front of each schedule
abbrev pub spread : List ℕ → List Schedule → List Schedule
spread es ss = each es (λ e. map (λ s. e ∷ s) ss)

first_spread : (g : Test) (p : Schedule) (es : List ℕ) (ss : List Schedule) → first_of g (map (λ s. p ++ s) (spread es ss)) ≡ tries (λ e. first_of g (map (λ s. (p ++ (e ∷ [])) ++ s) ss)) es
unfolding first_of each
first_spread g p [] ss = refl
first_spread g p (e ∷ es) ss =
    ap (first_of g) (map_append (λ s. p ++ s) (map (λ s. e ∷ s) ss) (spread es ss)) ∙
    first_append g (map (λ s. p ++ s) (map (λ s. e ∷ s) ss)) (map (λ s. p ++ s) (spread es ss)) ∙
    (λ i. or_else (first_of g (behind p e ss i)) (first_spread g p es ss i))

tries_same : (f h : ℕ → Option Schedule) → ((e : ℕ) → f e ≡ h e) → (es : List ℕ) → tries f es ≡ tries h es
tries_same f h k [] = refl
tries_same f h k (e ∷ es) = λ i. or_else (k e i) (tries_same f h k es i)

-- a prefix that is rejected has nothing behind it
pruned : (good may : Test) → Safe good may → (p : Schedule) → may p ≡ false → (ss : List Schedule) → first_of good (map (λ s. p ++ s) ss) ≡ none
unfolding first_of
pruned good may safe p h [] = refl
pruned good may safe p h (s ∷ ss) =
    let e : good (p ++ s) ≡ false = not_true (λ k. never (safe p s k) h) in
    rw e (pruned good may safe p h ss)

map_same : (ss : List Schedule) → map (λ s. s) ss ≡ ss
map_same [] = refl
map_same (s ∷ ss) = ap (λ z. s ∷ z) (map_same ss)

append_end : (p : Schedule) → p ++ [] ≡ p
append_end [] = refl
append_end (e ∷ p) = ap (λ z. e ∷ z) (append_end p)

module _ (good may : Test) (safe : Safe good may) (A : ℕ) where
  pub search_behind : (n : ℕ) (p : Schedule) → search good may A n p ≡ first_of good (map (λ s. p ++ s) (schedules A n))
  unfolding first_of schedules
  search_behind zero p = ap (λ z. cond (good z) (some z) none) (sym (append_end p))
  search_behind (suc n) p = by (may p)
      (λ e. rw e (tries_same (λ e. search good may A n (p ++ (e ∷ []))) (λ e. first_of good (map (λ s. (p ++ (e ∷ [])) ++ s) (schedules A n))) (λ e. search_behind n (p ++ (e ∷ []))) (entries A) ∙ sym (first_spread good p (entries A) (schedules A n))))
      (λ e. rw e (sym (pruned good may safe p e (schedules A (suc n)))))

  -- the search is the first of the list, pruning or not
  pub search_first : (n : ℕ) → search good may A n [] ≡ first_of good (schedules A n)
  search_first n = search_behind n [] ∙ ap (first_of good) (map_same (schedules A n))
