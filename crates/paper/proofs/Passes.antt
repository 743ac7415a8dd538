-- The planner over a circuit: one test serves as the goal of its search and as the pruning, and the search finds the first plan. Assumes nothing.
use mathlib.Core.Path.{◌≡◌, refl, sym, ap, ◌∙◌, subst}
use mathlib.Core.Logic.{◌↔◌}
use mathlib.Core.Bool.{Bool, true, false, ◌&&◌}
use mathlib.Core.List.{List, [], ◌∷◌, ◌++◌, map}
use mathlib.Core.Option.{Option, none, some}
use Prim.Native.Nat.{ℕ, zero, suc, ◌+◌, ◌-◌, ◌*◌, ◌/◌, ◌^◌, ◌≤◌, ◌<◌}
use native.Mathlib.Nat.{div-lt_iff_lt-mul}
use native.Mathlib.Omega.{arith}
use lib.Dec.{ltb, leb}
use lib.ListN.{length, get_or, length-append, length-map, get_or-append}
use borrow.Author.Tests.{ltb-true, ltb-false, lt-ltb, leb-true}
use Rattle.paper.specs.declared.Lit.{Lit}
use Rattle.paper.specs.declared.Row.TheVariants.{False, True, Literal, Conjunction, Choice}
use Rattle.paper.specs.Counting.{all_below}
use Rattle.paper.specs.Sheet.{Sheet, Fine, is_start}
use Rattle.paper.specs.Step.{entries_fit, is_plan}
use Rattle.paper.specs.Clauses.{stride, variables, theory, every_pair, theory_of}
use Rattle.paper.specs.Circuit.{Table, compile, row_value, values_on, values, value_at}
use Rattle.paper.specs.Operations.{past, lit_value, judge, Schedule, Test, first_plan, valid, First, given}
use Rattle.paper.specs.Sets.{mask_of}
use Rattle.paper.specs.Search.{search, Safe, fixed, open_value, passes}
use Rattle.paper.proofs.Basic.{never, or_e, or_l, or_r, and_e, and_i, by}
use Rattle.paper.proofs.Lists.{bool_same, imp_e, imp_i, below_at, below_i}
use Rattle.paper.proofs.Mono.{at_mono}
use Rattle.paper.proofs.RowLaws.{FineAll}
use Rattle.paper.proofs.RowTheorem.{Sound}
use Rattle.paper.proofs.Demand3.{taken, plan_judged}
use Rattle.paper.proofs.FirstSchedule.{schedules_first, search_finds, one_first}

map_append : (f : ℕ → ℕ) (xs ys : List ℕ) → map f (xs ++ ys) ≡ map f xs ++ map f ys
map_append f [] ys = refl
map_append f (x ∷ xs) ys = ap (λ z. f x ∷ z) (map_append f xs ys)

-- the masks of a longer schedule begin with those of the prefix
mask_prefix : (σ τ : Schedule) (i : ℕ) → i < length σ → get_or (map mask_of (σ ++ τ)) i 0 ≡ get_or (map mask_of σ) i 0
mask_prefix σ τ i h =
    let e = length-map σ mask_of in
    ap (λ z. get_or z i 0) (map_append mask_of σ τ) ∙ get_or-append (map mask_of σ) (map mask_of τ) 0 i (omega arith)

module _ (p : Sheet) (n : ℕ) where
  -- a literal of the steps that are fixed has its value already
  lit_prefix : (s : ℕ) (σ τ : Schedule) (l : Lit) → fixed p n (length σ) l.var ≡ true → lit_value p n s (map mask_of (σ ++ τ)) l ≡ lit_value p n s (map mask_of σ) l
  unfolding fixed lit_value given
  lit_prefix s σ τ l h = by (ltb (l.var - 1) p.F)
      (λ e. rw e)
      (λ e. let q : ltb (past p n l.var / stride p) (length σ) ≡ true = rw e at h in
      rw (e, mask_prefix σ τ (past p n l.var / stride p) (ltb-true _ _ q)))

  fixed_more : (σ τ : Schedule) (x : ℕ) → fixed p n (length σ) x ≡ true → fixed p n (length (σ ++ τ)) x ≡ true
  unfolding fixed
  fixed_more σ τ x h = or_e (ltb (x - 1) p.F) (ltb (past p n x / stride p) (length σ)) h
      (λ e. or_l (ltb (past p n x / stride p) (length (σ ++ τ))) e)
      (λ e. let k = ltb-true (past p n x / stride p) (length σ) e in let z = length-append σ τ in or_r (ltb (x - 1) p.F) (lt-ltb (past p n x / stride p) (length (σ ++ τ)) (omega arith)))

  -- fewer entries fixed, more literals true
  open_less : (s : ℕ) (σ τ : Schedule) (l : Lit) → open_value p n s (σ ++ τ) l ≡ true → open_value p n s σ l ≡ true
  unfolding open_value
  open_less s σ τ l h = imp_i (fixed p n (length σ) l.var) _ (λ e.
      sym (lit_prefix s σ τ l e) ∙ imp_e (fixed p n (length (σ ++ τ)) l.var) _ h (fixed_more σ τ l.var e))

  -- a prefix that the test rejects has nothing behind it
  pub passes_safe : (t : Table) (root : ℕ) → Safe (passes p n t root) (passes p n t root)
  unfolding passes
  passes_safe t root σ τ h = below_i (2 ^ p.F) _ (λ s l. imp_i (is_start p s) _ (λ e.
      at_mono (open_value p n s (σ ++ τ)) (open_value p n s σ) (open_less s σ τ) t root (imp_e (is_start p s) _ (below_at (2 ^ p.F) _ h s l) e)))

  -- with all n steps fixed, every variable of T(P) is
  all_fixed : 1 ≤ p.F → (x : ℕ) → (leb 1 x && leb x (variables p n)) ≡ true → fixed p n n x ≡ true
  unfolding fixed variables past stride
  all_fixed f x h = by (ltb (x - 1) p.F)
      (λ e. rw e)
      (λ e.
      let a = ltb-false (x - 1) p.F e in
      let d = and_e (leb 1 x) (leb x (p.F + n * stride p)) h in
      let b = leb-true x (p.F + n * stride p) d.1 in
      let c = leb-true 1 x d.0 in
      or_r (ltb (x - 1) p.F) (lt-ltb ((x - 1 - p.F) / stride p) n ((div-lt_iff_lt-mul {k = stride p} {x = x - 1 - p.F} {y = n} (omega arith)).1 (omega arith))))

-- two values of the literals that agree on the variables of a table give its rows the same values
module _ (f g : Lit → Bool) (u : ℕ → Bool) (e : (l : Lit) → u l.var ≡ true → f l ≡ g l) where
  fine_same : (t : Table) → FineAll u t → (vs : List Bool) → values_on f vs t ≡ values_on g vs t
  fine_same [] h vs = refl
  fine_same (False ∷ t) h vs = absurd h.0
  fine_same (True ∷ t) h vs = absurd h.0
  fine_same (Literal l ∷ t) h vs = ap (λ b. values_on f (vs ++ (b ∷ [])) t) (e l h.0) ∙ fine_same t h.1 (vs ++ (g l ∷ []))
  fine_same (Conjunction i j ∷ t) h vs = fine_same t h.1 (vs ++ (row_value g vs (Conjunction i j) ∷ []))
  fine_same (Choice x i j ∷ t) h vs = fine_same t h.1 (vs ++ (row_value g vs (Choice x i j) ∷ []))

  pub at_same : (t : Table) → Sound u t → (i : ℕ) → value_at f t i ≡ value_at g t i
  unfolding value_at values
  at_same t s i =
      ap (λ z. get_or (values_on f [] z) i false) s.start.1 ∙ ap (λ vs. get_or vs i false) (fine_same s.start.0 s.start.2 (false ∷ true ∷ []))
      ∙ ap (λ z. get_or (values_on g [] z) i false) (sym s.start.1)

-- a schedule of n entries 0..A
pub valid_fits : (p : Sheet) (n : ℕ) (σ : Schedule) → valid p.A n σ ≡ true → (length σ ≡ n) × (entries_fit p σ ≡ true)
unfolding entries_fit
valid_fits p zero [] h = (refl, refl)
valid_fits p zero (e ∷ σ) h = never h refl
valid_fits p (suc n) [] h = never h refl
valid_fits p (suc n) (e ∷ σ) h =
    let d = and_e (leb e p.A) (valid p.A n σ) h in
    let r = valid_fits p n σ d.1 in
    (ap suc r.0, and_i d.0 r.1)

module _ (p : Sheet) (fine : Fine p) (n : ℕ) where
  -- with all steps fixed the test is judge's value
  full_judged : (s : ℕ) (σ : Schedule) → length σ ≡ n →
      value_at (open_value p n s σ) (compile (theory p n)).table (compile (theory p n)).root ≡ judge p n (compile (theory p n)).table (compile (theory p n)).root s (map mask_of σ)
  unfolding open_value judge theory
  full_judged s σ h = at_same (open_value p n s σ) (lit_value p n s (map mask_of σ)) (λ y. leb 1 y && leb y (variables p n))
      (λ l q. rw (h, all_fixed p n fine.facts_least l.var q)) (compile (theory_of p every_pair n)).table (taken every_pair p fine n).0 (compile (theory_of p every_pair n)).root

  -- at full length the test says which schedules are plans
  pub passes_plan : (σ : Schedule) → valid p.A n σ ≡ true → passes p n (compile (theory p n)).table (compile (theory p n)).root σ ≡ is_plan p σ
  unfolding passes
  passes_plan σ v =
      let w = valid_fits p n σ v in
      let j = subst (λ k. (is_plan p σ ≡ true) ↔ ((s : ℕ) → s < 2 ^ p.F → is_start p s ≡ true → judge p k (compile (theory p k)).table (compile (theory p k)).root s (map mask_of σ) ≡ true)) w.0 (plan_judged p fine σ w.1) in
      bool_same (all_below (2 ^ p.F) _) (is_plan p σ)
      (λ h. j.1 (λ s l e. sym (full_judged s σ w.0) ∙ imp_e (is_start p s) _ (below_at (2 ^ p.F) _ h s l) e))
      (λ h. below_i (2 ^ p.F) _ (λ s l. imp_i (is_start p s) _ (λ e. full_judged s σ w.0 ∙ j.0 h s l e)))

first_as_good : (v good may : Test) → ((σ : Schedule) → v σ ≡ true → good σ ≡ may σ) → (o : Option Schedule) → First v good o → First v may o
first_as_good v good may e none h = λ σ k. sym (e σ k) ∙ h σ k
first_as_good v good may e (some σ) h = (h.0, sym (e σ h.0) ∙ h.1, λ τ k g. h.2 τ k (e τ k ∙ g))

-- the planner's search finds the first plan
pub search_plan : (p : Sheet) → Fine p → (n : ℕ) →
    search (passes p n (compile (theory p n)).table (compile (theory p n)).root) (passes p n (compile (theory p n)).table (compile (theory p n)).root) p.A n [] ≡ first_plan p n
unfolding first_plan
search_plan p fine n =
    let test : Test = passes p n (compile (theory p n)).table (compile (theory p n)).root in
    one_first p.A n (is_plan p) _ _
    (first_as_good (valid p.A n) test (is_plan p) (passes_plan p fine n) (search test test p.A n []) (search_finds test test (passes_safe p n (compile (theory p n)).table (compile (theory p n)).root) p.A n))
    (schedules_first p.A n (is_plan p))
