-- The sheet: its bytes, what refuses them, what they say; clauses, starts and goals.
-- Assumes nothing.
use Rattle.std.specs.Prelude.{◌≡◌, Bool, true, false, not, ◌&&◌, ◌||◌, List, [], ◌∷◌, ◌++◌, map, ℕ, ◌+◌, ◌-◌, ◌*◌, ◌^◌, ◌≤◌, eqb, ltb, leb, length, get_or, Result, Ok, Err}
use Rattle.paper.specs.declared.Trailer.{Trailer}
use Rattle.paper.specs.declared.Fault.{Fault}
use Rattle.paper.specs.declared.Fault.TheVariants.{Unmarked, Unbounded, Disagrees, BadRow}
use Rattle.paper.specs.Lists.{all, filter, up_from}
use Rattle.paper.specs.Counting.{bit, some_below, count_below, overlap}

-- an action's row
pub record Need : Type 0 where
  pub need1 : ℕ
  pub need0 : ℕ

pub record Rule : Type 0 where
  pub action : ℕ
  pub cond1 : ℕ
  pub cond0 : ℕ
  pub set1 : ℕ
  pub set0 : ℕ

-- a start or goal clause
pub record Masks : Type 0 where
  pub pos : ℕ
  pub neg : ℕ

pub record Sheet : Type 0 where
  pub F : ℕ
  pub A : ℕ
  pub R : ℕ
  pub H : ℕ
  pub needs : List Need
  pub rules : List Rule
  pub starts : List Masks
  pub goals : List Masks

-- all numbers are 16-bit, low byte first
abbrev pub word : List ℕ → ℕ → ℕ
word b at = get_or b at 0 + 256 * get_or b (at + 1) 0

-- the trailer is the file's last 16 bytes
abbrev pub trailer_length : ℕ
trailer_length = 16

unfoldable pub trailer : List ℕ → Trailer
trailer b =
    let t : ℕ = length b - trailer_length in
    record { facts = word b t; actions = word b (t + 2); rules = word b (t + 4); starts = word b (t + 6); goals = word b (t + 8); horizon = word b (t + 10); back = word b (t + 12) }

-- back is the number of bytes from the trailer back to the body's first byte
unfoldable pub body_at : List ℕ → Trailer → ℕ
body_at b t = length b - trailer_length - t.back

-- the bytes of the body: actions, rules, start clauses, goal clauses
unfoldable pub body_length : Trailer → ℕ
body_length t = 4 * t.actions + 10 * t.rules + 4 * t.starts + 4 * t.goals

-- 1: under 16 bytes, or the mark is not the bytes 52 53
unfoldable pub marked : List ℕ → Bool
marked b = leb trailer_length (length b) && eqb (get_or b (length b - 2) 0) 0x52 && eqb (get_or b (length b - 1) 0) 0x53

-- 2: a count outside its bounds
unfoldable pub within : Trailer → Bool
within t =
    (leb 1 t.facts && leb t.facts 12) && ((leb 1 t.actions && leb t.actions 12) && (leb t.rules 24 && (leb t.starts 16 && (leb t.goals 16 && leb t.horizon 8))))

-- the same as facts, for what reads on
pub record Bounded (t : Trailer) : Type 0 where
  pub facts_least : 1 ≤ t.facts
  pub facts_most : t.facts ≤ 12
  pub actions_least : 1 ≤ t.actions
  pub actions_most : t.actions ≤ 12
  pub rules_most : t.rules ≤ 24
  pub starts_most : t.starts ≤ 16
  pub goals_most : t.goals ≤ 16
  pub horizon_most : t.horizon ≤ 8

-- 3: back or length disagrees
unfoldable pub agrees : List ℕ → Trailer → Bool
agrees b t = eqb t.back (body_length t) && eqb (length b) (t.back + trailer_length)

-- 4: a mask bit at F or above; need, cond or set pair overlaps; rule's action not 1..A
unfoldable pub fits : ℕ → ℕ → Bool
fits F m = ltb m (2 ^ F)

unfoldable pub good_pair : ℕ → ℕ → ℕ → Bool
good_pair F one nil = fits F one && fits F nil && not (overlap one nil)

unfoldable pub good_need : ℕ → Need → Bool
good_need F r = good_pair F r.need1 r.need0

unfoldable pub good_rule : ℕ → ℕ → Rule → Bool
good_rule F A r = (leb 1 r.action && leb r.action A) && (good_pair F r.cond1 r.cond0 && good_pair F r.set1 r.set0)

unfoldable pub good_masks : ℕ → Masks → Bool
good_masks F r = fits F r.pos && fits F r.neg

unfoldable pub need_at : List ℕ → ℕ → Need
need_at b at = record { need1 = word b at; need0 = word b (at + 2) }

unfoldable pub rule_at : List ℕ → ℕ → Rule
rule_at b at = record { action = word b at; cond1 = word b (at + 2); cond0 = word b (at + 4); set1 = word b (at + 6); set0 = word b (at + 8) }

unfoldable pub masks_at : List ℕ → ℕ → Masks
masks_at b at = record { pos = word b at; neg = word b (at + 2) }

-- the offsets of n rows of w bytes, the first at o
unfoldable pub offsets : ℕ → ℕ → ℕ → List ℕ
offsets o w n = map (λ i. o + w * i) (up_from 0 n)

-- the parts in order, without gaps: actions, rules, start clauses, goal clauses
unfoldable pub needs_at : List ℕ → Trailer → List ℕ
needs_at b t = offsets (body_at b t) 4 t.actions

unfoldable pub rules_at : List ℕ → Trailer → List ℕ
rules_at b t = offsets (body_at b t + 4 * t.actions) 10 t.rules

unfoldable pub starts_at : List ℕ → Trailer → List ℕ
starts_at b t = offsets (body_at b t + 4 * t.actions + 10 * t.rules) 4 t.starts

unfoldable pub goals_at : List ℕ → Trailer → List ℕ
goals_at b t = offsets (body_at b t + 4 * t.actions + 10 * t.rules + 4 * t.starts) 4 t.goals

-- the offsets of the rows that break 4, in the order of the file
unfoldable pub bad_rows : List ℕ → Trailer → List ℕ
bad_rows b t =
    filter (λ o. not (good_need t.facts (need_at b o))) (needs_at b t)
    ++ filter (λ o. not (good_rule t.facts t.actions (rule_at b o))) (rules_at b t)
    ++ filter (λ o. not (good_masks t.facts (masks_at b o))) (starts_at b t)
    ++ filter (λ o. not (good_masks t.facts (masks_at b o))) (goals_at b t)

unfoldable pub sheet_of : List ℕ → Trailer → Sheet
sheet_of b t =
    record {
      F = t.facts;
      A = t.actions;
      R = t.rules;
      H = t.horizon;
      needs = map (need_at b) (needs_at b t);
      rules = map (rule_at b) (rules_at b t);
      starts = map (masks_at b) (starts_at b t);
      goals = map (masks_at b) (goals_at b t);
    }

-- refused unless it passes
abbrev pub unless : Bool → Fault → Result Sheet Fault → Result Sheet Fault
unless true f d = d
unless false f d = Err f

-- the first bad row, or the sheet
abbrev pub no_row : List ℕ → Sheet → Result Sheet Fault
no_row [] p = Ok p
no_row (o ∷ os) p = Err (BadRow o)

-- the first refusal that applies, else the sheet
unfoldable pub decode : List ℕ → Result Sheet Fault
decode b =
    unless (marked b) Unmarked (unless (within (trailer b)) Unbounded (unless (agrees b (trailer b)) Disagrees (no_row (bad_rows b (trailer b)) (sheet_of b (trailer b)))))

-- fact k makes the clause hold: it is in pos and 1, or in neg and 0
unfoldable pub holds_at : ℕ → Masks → ℕ → Bool
holds_at s c k = (bit c.pos k && bit s k) || (bit c.neg k && not (bit s k))

-- a clause holds if some fact in pos is 1 or some fact in neg is 0
unfoldable pub holds_in : ℕ → ℕ → Masks → Bool
holds_in F s c = some_below F (holds_at s c)

-- a start is a state in which all start clauses hold
unfoldable pub is_start : Sheet → ℕ → Bool
is_start p s = all (holds_in p.F s) p.starts

unfoldable pub is_goal : Sheet → ℕ → Bool
is_goal p s = all (holds_in p.F s) p.goals

-- how many of the 2^F states are starts
unfoldable pub start_count : Sheet → ℕ
start_count p = count_below (2 ^ p.F) (is_start p)

-- what decode ensures of a sheet: a well-formed one
pub record Fine (p : Sheet) : Type 0 where
  pub facts_least : 1 ≤ p.F
  pub facts_most : p.F ≤ 12
  pub actions_least : 1 ≤ p.A
  pub actions_most : p.A ≤ 12
  pub rules_most : p.R ≤ 24
  pub starts_most : length p.starts ≤ 16
  pub goals_most : length p.goals ≤ 16
  pub horizon_most : p.H ≤ 8
  pub needs_count : length p.needs ≡ p.A
  pub rules_count : length p.rules ≡ p.R
  pub needs_fine : all (good_need p.F) p.needs ≡ true
  pub rules_fine : all (good_rule p.F p.A) p.rules ≡ true
  pub starts_fine : all (good_masks p.F) p.starts ≡ true
  pub goals_fine : all (good_masks p.F) p.goals ≡ true

-- a proof by computation says `unfolding computed_sheet`, which opens every definition of this module
unfoldable pub computed_sheet : ℕ
unfolding trailer body_at body_length marked within agrees fits good_pair good_need good_rule good_masks need_at rule_at masks_at offsets needs_at rules_at starts_at goals_at bad_rows sheet_of decode holds_at holds_in is_start is_goal start_count
computed_sheet = 0
