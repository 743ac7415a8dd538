-- The serial mode: every pair of different actions is excluded, so a set is an entry of a schedule, and the run is document 01's. Assumes nothing.
use mathlib.Core.Path.{◌≡◌, refl, sym, ap, ◌∙◌, subst}
use mathlib.Core.Logic.{◌↔◌}
use mathlib.Core.Bool.{Bool, true, false, not, ◌&&◌, ◌||◌}
use mathlib.Core.List.{List, [], ◌∷◌, map}
use Prim.Native.Nat.{ℕ, zero, suc, ◌+◌, ◌-◌, ◌^◌, ◌≤◌, ◌<◌}
use native.Mathlib.Omega.{arith}
use lib.Dec.{eqb, ltb, leb}
use lib.Pow.{pow_pos, pow-lt}
use borrow.Author.Tests.{eqb-true, eqb-false, eq-eqb, ne_eqb, lt-ltb, ltb-true, ltb-false, le-leb, leb-true, leb-false}
use Rattle.std.specs.Prelude.{Result, Ok, Err}
use Rattle.paper.specs.declared.Failure.{Failure}
use Rattle.paper.specs.declared.Failure.TheVariants.{NeedUnmet, Clashed}
use Rattle.paper.specs.Lists.{all, up_from}
use Rattle.paper.specs.Counting.{bit, all_below, some_below}
use Rattle.paper.specs.Sheet.{Rule, Sheet, is_start, is_goal, Fine}
use Rattle.paper.specs.Step.{meets, need_of, firing, sets1, sets0, clash, applied, stepped, act, step, onward, run_from, run, reaches, rule_of, entries_fit}
use Rattle.paper.specs.Clauses.{every_pair}
use Rattle.paper.specs.Sets.{needs_met, fires, firing_set, act_set, then_pass, reaches_sets, apart_set, Good, mask_of, at_most_one, entry_below, schedule_of, leads}
use Rattle.paper.proofs.Basic.{never, and_i, and_e, by, not_true, eqb_same}
use Rattle.paper.proofs.Lists.{filter_below, filter_none, bool_same, imp_e, imp_i, below_at, below_i, some_w, some_i, and_nil}
use Rattle.paper.proofs.OneStep.{rule_acts}
use Rattle.paper.proofs.Bits.{bit_nil, bit_mask_below, mask_below_lt, bit_ext, bit_weight}

-- ---- one action as a set
needs_one : (p : Sheet) (a s : ℕ) → a < p.A → needs_met p (2 ^ a) s ≡ meets p.F s (need_of p a).need1 (need_of p a).need0
unfolding needs_met
needs_one p a s h = bool_same (all_below p.A _) (meets p.F s (need_of p a).need1 (need_of p a).need0)
    (λ e. imp_e (bit (2 ^ a) a) _ (below_at p.A _ e a h) (bit_weight a a ∙ eqb_same a))
    (λ e. below_i p.A _ (λ b l. imp_i (bit (2 ^ a) b) _ (λ d.
    subst (λ c. meets p.F s (need_of p c).need1 (need_of p c).need0 ≡ true) (sym (eqb-true b a (sym (bit_weight a b) ∙ d))) e)))

less_one : (x a : ℕ) → 1 ≤ x → eqb (x - 1) a ≡ eqb x (a + 1)
less_one x a h = by (eqb x (a + 1))
    (λ e. let q : x ≡ a + 1 = eqb-true x (a + 1) e in let r : x - 1 ≡ a = omega arith in eq-eqb (x - 1) a r ∙ sym e)
    (λ e. let q : x ≡ a + 1 → ⊥ = eqb-false x (a + 1) e in ne_eqb (x - 1) a (λ (r : x - 1 ≡ a). q (omega arith)) ∙ sym e)

firing_one : (p : Sheet) → Fine p → (a s : ℕ) → firing_set p (2 ^ a) s ≡ firing p (a + 1) s
unfolding firing_set firing fires
firing_one p fine a s = ap (map (rule_of p)) (filter_below _ _ p.R 0 (λ r l.
    let x = rule_acts p fine r (omega arith) in
    rw (bit_weight a ((rule_of p r).action - 1), less_one (rule_of p r).action a x.0)))

act_one : (p : Sheet) → Fine p → (a s : ℕ) → a < p.A → act_set p (2 ^ a) s ≡ act p a s
unfolding act_set act
act_one p fine a s h = rw (needs_one p a s h, firing_one p fine a s)

-- ---- the empty set
needs_none : (p : Sheet) (s : ℕ) → needs_met p 0 s ≡ true
unfolding needs_met
needs_none p s = below_i p.A _ (λ a l. rw (bit_nil a))

firing_none : (p : Sheet) (s : ℕ) → firing_set p 0 s ≡ []
unfolding firing_set fires
firing_none p s = ap (map (rule_of p)) (filter_none (fires p 0 s) (λ r. rw (bit_nil ((rule_of p r).action - 1))) (up_from 0 p.R))

clash_none : (F : ℕ) → clash F [] ≡ false
unfolding clash sets1 sets0
clash_none F = not_true (λ e. some_w F _ e (λ k l d. never d refl))

applied_none : (F s : ℕ) → s < 2 ^ F → applied F [] s ≡ s
unfolding applied sets1 sets0
applied_none F s h = bit_ext F _ s (mask_below_lt F _) h (λ k l. bit_mask_below F _ k l ∙ and_nil (bit s k))

act_none : (p : Sheet) (s : ℕ) → s < 2 ^ p.F → act_set p 0 s ≡ Ok s
unfolding act_set
act_none p s h = rw (needs_none p s, firing_none p s, clash_none p.F, applied_none p.F s h)

-- ---- an entry of a schedule
pub entry_eq : (p : Sheet) → Fine p → (e s : ℕ) → e ≤ p.A → s < 2 ^ p.F → act_set p (mask_of e) s ≡ step p e s
unfolding mask_of step
entry_eq p fine zero s h l = act_none p s l
entry_eq p fine (suc a) s h l = act_one p fine a s h

-- a state that a step leads to has F bits
abbrev Bounded : ℕ → Result ℕ Failure → Type 0
Bounded F (Ok t) = t < 2 ^ F
Bounded F (Err e) = Unit {0}

stepped_bounded : (F : ℕ) (b c : Bool) (t : ℕ) → t < 2 ^ F → Bounded F (stepped b c t)
stepped_bounded F false c t h = tt
stepped_bounded F true true t h = tt
stepped_bounded F true false t h = h

pub applied_lt : (F : ℕ) (fs : List Rule) (s : ℕ) → applied F fs s < 2 ^ F
unfolding applied
applied_lt F fs s = mask_below_lt F _

step_bounded : (p : Sheet) (e s : ℕ) → s < 2 ^ p.F → Bounded p.F (step p e s)
unfolding step act
step_bounded p zero s h = h
step_bounded p (suc a) s h =
    stepped_bounded p.F (meets p.F s (need_of p a).need1 (need_of p a).need0) (clash p.F (firing p (a + 1) s)) (applied p.F (firing p (a + 1) s) s) (applied_lt p.F (firing p (a + 1) s) s)

pub run_eq : (p : Sheet) → Fine p → (σ : List ℕ) (d s : ℕ) → entries_fit p σ ≡ true → s < 2 ^ p.F →
    ((run_from p d s σ).whole && is_goal p (run_from p d s σ).state) ≡ reaches_sets p (map mask_of σ) s
unfolding run_from reaches_sets entries_fit
run_eq p fine [] d s h l = refl
run_eq p fine (e ∷ σ) d s h l =
    let x = and_e (leb e p.A) (entries_fit p σ) h in
    rw (entry_eq p fine e s (leb-true e p.A x.0) l)
    (cases (step p e s) (step_bounded p e s l) (λ t b. run_eq p fine σ (d + 1) t x.1 b))
  where
    cases : (st : Result ℕ Failure) → Bounded p.F st →
        ((t : ℕ) → t < 2 ^ p.F → ((run_from p (d + 1) t σ).whole && is_goal p (run_from p (d + 1) t σ).state) ≡ reaches_sets p (map mask_of σ) t) →
        ((onward st (record { done = d; state = s; whole = false }) (λ t. run_from p (d + 1) t σ)).whole
        && is_goal p (onward st (record { done = d; state = s; whole = false }) (λ t. run_from p (d + 1) t σ)).state) ≡ then_pass st (reaches_sets p (map mask_of σ))
    cases (Ok t) b f = f t b
    cases (Err NeedUnmet) b f = refl
    cases (Err Clashed) b f = refl

pub reaches_eq : (p : Sheet) → Fine p → (σ : List ℕ) (s : ℕ) → entries_fit p σ ≡ true → s < 2 ^ p.F → reaches p σ s ≡ reaches_sets p (map mask_of σ) s
unfolding reaches run
reaches_eq p fine σ s h l = run_eq p fine σ 0 s h l

-- ---- a set with no pair of different actions
pub apart_entry : (p : Sheet) (e : ℕ) → apart_set every_pair p (mask_of e) ≡ true
unfolding apart_set mask_of
apart_entry p zero = below_i p.A _ (λ a l. below_i p.A _ (λ b k. imp_i (ltb a b && true) _ (λ d. rw (bit_nil a))))
apart_entry p (suc c) = below_i p.A _ (λ a l. below_i p.A _ (λ b k. imp_i (ltb a b && true) _ (λ d.
    let q : a < b = ltb-true a b (and_e (ltb a b) true d).0 in
    rw (bit_weight c a, bit_weight c b) (one_off a b c q))))
  where
    one_off : (a b c : ℕ) → a < b → (not (eqb a c) || not (eqb b c)) ≡ true
    one_off a b c q = imp_i (eqb a c) (not (eqb b c)) (λ e. let r : a ≡ c = eqb-true a c e in rw (ne_eqb b c (λ (h : b ≡ c). omega arith)))

two_marked : (p : Sheet) (m : ℕ) → apart_set every_pair p m ≡ true → (a b : ℕ) → a < p.A → b < p.A → a < b → bit m a ≡ true → bit m b ≡ true → ⊥
unfolding apart_set
two_marked p m w a b l k h x y =
    never y (not_true (λ _. never (imp_e (bit m a) (not (bit m b)) (imp_e (ltb a b && true) _ (below_at p.A _ (below_at p.A _ w a l) b k) (and_i (lt-ltb a b h) refl)) x) (ap not y)))

-- two marked actions are the same
one_marked : (p : Sheet) (m : ℕ) → apart_set every_pair p m ≡ true → (a b : ℕ) → a < p.A → b < p.A → bit m a ≡ true → bit m b ≡ true → (b ≡ a → ⊥) → ⊥
one_marked p m w a b l k x y n = by (ltb a b)
    (λ e. two_marked p m w a b l k (ltb-true a b e) x y)
    (λ e. two_marked p m w b a k l (let g : b ≤ a = ltb-false a b e in omega arith) y x)

pub entry_of : (p : Sheet) (m : ℕ) → m < 2 ^ p.A → apart_set every_pair p m ≡ true → (e : ℕ) × (leb e p.A ≡ true) × (m ≡ mask_of e)
unfolding apart_set mask_of
entry_of p m h w = by (some_below p.A (bit m))
    (λ q. some_w p.A (bit m) q (λ a l d. (
      suc a,
      le-leb (suc a) p.A l,
      bit_ext p.A m (2 ^ a) h (pow-lt l) (λ k b.
          by (eqb k a)
          (λ e. ap (bit m) (eqb-true k a e) ∙ d ∙ sym (bit_weight a k ∙ e))
          (λ e. not_true (λ x. one_marked p m w a k l b d x (eqb-false k a e)) ∙ sym (bit_weight a k ∙ e))),
    )))
    (λ q. (0, le-leb 0 p.A (omega arith), bit_ext p.A m 0 h (pow_pos p.A) (λ k b. not_true (λ x. never (some_i p.A (bit m) k b x) q) ∙ sym (bit_nil k))))

-- a list of such sets is a schedule
pub schedule_of_lem : (p : Sheet) (ms : List ℕ) → all (λ m. ltb m (2 ^ p.A)) ms ≡ true → all (apart_set every_pair p) ms ≡ true →
    (σ : List ℕ) × (entries_fit p σ ≡ true) × (ms ≡ map mask_of σ)
unfolding entries_fit
schedule_of_lem p [] h w = ([], refl, refl)
schedule_of_lem p (m ∷ ms) h w =
    let x = and_e (ltb m (2 ^ p.A)) (all (λ m. ltb m (2 ^ p.A)) ms) h in
    let y = and_e (apart_set every_pair p m) (all (apart_set every_pair p) ms) w in
    let e = entry_of p m (ltb-true m (2 ^ p.A) x.0) y.0 in
    let r = schedule_of_lem p ms x.1 y.1 in
    (e.0 ∷ r.0, and_i e.1 r.1, λ i. e.2 i ∷ r.2 i)

pub apart_schedule : (p : Sheet) (σ : List ℕ) → all (apart_set every_pair p) (map mask_of σ) ≡ true
apart_schedule p [] = refl
apart_schedule p (e ∷ σ) = and_i (apart_entry p e) (apart_schedule p σ)

-- ---- demand 3's own words
pub at_most_one_lem : (p : Sheet) (m : ℕ) → at_most_one p m ≡ apart_set every_pair p m
unfolding at_most_one apart_set
at_most_one_lem p m = bool_same (at_most_one p m) (apart_set every_pair p m)
    (λ e. below_i p.A _ (λ a l. below_i p.A _ (λ b k. imp_i (ltb a b && true) _ (λ d.
    let q : a < b = ltb-true a b (and_e (ltb a b) true d).0 in
    not_both (bit m a) (bit m b) (λ x. let r : a ≡ b = eqb-true a b (imp_e (bit m a && bit m b) (eqb a b) (below_at p.A _ (below_at p.A _ e a l) b k) x) in omega arith)))))
    (λ e. below_i p.A _ (λ a l. below_i p.A _ (λ b k. imp_i (bit m a && bit m b) (eqb a b) (λ d.
    let x = and_e (bit m a) (bit m b) d in
    by (eqb a b) (λ y. y) (λ y. absurd (one_marked p m e a b l k x.0 x.1 (λ r. eqb-false a b y (sym r))))))))
  where
    not_both : (x y : Bool) → ((x && y) ≡ true → ⊥) → (not x || not y) ≡ true
    not_both true true f = absurd (f refl)
    not_both true false f = refl
    not_both false y f = refl

pub entry_back : (A e : ℕ) → e ≤ A → entry_below A (mask_of e) ≡ e
unfolding entry_below mask_of
entry_back zero zero h = refl
entry_back zero (suc c) h = absurd (omega arith)
entry_back (suc a) zero h = rw (bit_nil a) (entry_back a zero (omega arith))
entry_back (suc a) (suc c) h = by (eqb a c)
    (λ e. rw (bit_weight c a, e) (ap suc (eqb-true a c e)))
    (λ e. let w = eqb-false a c e in rw (bit_weight c a, e) (entry_back a (suc c) (less a c h w)))
  where
    less : (a c : ℕ) → suc c ≤ suc a → (a ≡ c → ⊥) → suc c ≤ a
    less a c h w = by (leb (suc c) a) (λ e. leb-true (suc c) a e) (λ e. let g = leb-false (suc c) a e in absurd (w (omega arith)))

schedule_back : (p : Sheet) (σ : List ℕ) → entries_fit p σ ≡ true → schedule_of p (map mask_of σ) ≡ σ
unfolding entries_fit
schedule_back p [] h = refl
schedule_back p (e ∷ σ) h =
    let x = and_e (leb e p.A) (entries_fit p σ) h in λ i. entry_back p.A e (leb-true e p.A x.0) i ∷ schedule_back p σ x.1 i

all_at_most_one : (p : Sheet) (ms : List ℕ) → all (at_most_one p) ms ≡ all (apart_set every_pair p) ms
all_at_most_one p [] = refl
all_at_most_one p (m ∷ ms) = λ i. at_most_one_lem p m i && all_at_most_one p ms i

-- the masks of a start that leads to the goal, in document 01's words and as sets of actions
pub leads_good : (p : Sheet) → Fine p → (s : ℕ) → s < 2 ^ p.F → (ms : List ℕ) → all (λ m. ltb m (2 ^ p.A)) ms ≡ true → (leads p s ms ≡ true) ↔ Good every_pair p s ms
unfolding leads
leads_good p fine s l ms fit =
    let same : all (apart_set every_pair p) ms ≡ true → reaches p (schedule_of p ms) s ≡ reaches_sets p ms s = λ a.
    let o = schedule_of_lem p ms fit a in
    let σ : List ℕ = o.0 in
    ap (λ x. reaches p (schedule_of p x) s) o.2 ∙ ap (λ x. reaches p x s) (schedule_back p σ o.1) ∙ reaches_eq p fine σ s o.1 l ∙ ap (λ x. reaches_sets p x s) (sym o.2) in (
      λ h.
          let x = and_e (is_start p s) _ h in
          let y = and_e (all (at_most_one p) ms) _ x.1 in
          let a = sym (all_at_most_one p ms) ∙ y.0 in
          (x.0, a, sym (same a) ∙ y.1),
      λ g. and_i g.0 (and_i (all_at_most_one p ms ∙ g.1) (same g.1 ∙ g.2)),
    )
