-- Laws of reading: the parts of the body, the first row that is refused, rows by number, what an accepted sheet is. Assumes nothing.
use mathlib.Core.Path.{◌≡◌, refl, sym, ap, ◌∙◌, subst}
use mathlib.Core.Bool.{Bool, true, false, ◌&&◌}
use mathlib.Core.List.{List, [], ◌∷◌, ◌++◌, map}
use Prim.Native.Nat.{ℕ, zero, suc, ◌+◌, ◌-◌, ◌*◌, ◌≤◌, ◌<◌}
use native.Mathlib.Omega.{arith}
use lib.Dec.{eqb, leb, ltb}
use lib.ListN.{length, length-map, replicate, get_or, get_or-eq_default}
use borrow.Author.Tests.{leb-true, eqb-true, ltb-true, ltb-false}
use Rattle.paper.specs.declared.Trailer.{Trailer}
use Rattle.paper.specs.declared.Fault.{Fault}
use Rattle.paper.specs.declared.Fault.TheVariants.{Unmarked, Unbounded, Disagrees, BadRow}
use Rattle.paper.specs.Lists.{filter, up_from}
use Rattle.paper.specs.Sheet.{Sheet, trailer, trailer_length, body_at, body_length, marked, within, Bounded, agrees, need_at, rule_at, offsets, needs_at, rules_at, starts_at, goals_at, bad_rows, sheet_of, no_row, decode}
use Rattle.paper.specs.Step.{need_of, rule_of}
use Rattle.paper.proofs.Basic.{and_e, by}
use Rattle.paper.proofs.Decoded.{within_bounded, length_count}
use Rattle.paper.proofs.Decoded as decoded
use Rattle.bits.proofs.Filled.{value_at_lem, rows_of, map_below}
use Rattle.sheet.specs.declared.Part.TheVariants.{Needs, Rules, Clauses}
use Rattle.std.specs.Prelude.{Some, None, Ok, Err}
use Rattle.std.specs.List.{find, range_with_len}
use Rattle.std.specs.Option.{option_or}
use Rattle.sheet.specs.declared.Part.{Part}
use Rattle.sheet.specs.declared.Sheet as accepted
use Rattle.sheet.specs.Contents.{read_as}
use Rattle.sheet.specs.Reading.{Whole, width, bad_row, first_bad, first_in, numbers, row_below, pair, fives, pairs_of, fives_of}

-- bytes whose counts are within their bounds and agree with the file's length
whole_of : (b : List ℕ) → Bounded (trailer b) → (trailer b).back ≡ body_length (trailer b) → length b ≡ (trailer b).back + trailer_length → Whole b (trailer b)
unfolding body_at body_length
whole_of b h e l = record { trailer_is = refl; bounds = h; back_fits = omega arith; parts = omega arith; short = omega arith }

pub whole : (b : List ℕ) → within (trailer b) ≡ true → agrees b (trailer b) ≡ true → Whole b (trailer b)
unfolding agrees
whole b w a =
    let t : Trailer = trailer b in
    let g = and_e (eqb t.back (body_length t)) (eqb (length b) (t.back + trailer_length)) a in
    whole_of b (within_bounded t w) (eqb-true t.back (body_length t) g.0) (eqb-true (length b) (t.back + trailer_length) g.1)

-- the length may be compared with the sum instead of back
pub agrees_is : (b : List ℕ) (t : Trailer) → (eqb t.back (body_length t) && eqb (length b) (body_length t + 16)) ≡ agrees b t
unfolding agrees
agrees_is b t = by (eqb t.back (body_length t))
    (λ e. rw e (ap (λ (n : ℕ). eqb (length b) (n + 16)) (sym (eqb-true t.back (body_length t) e))))
    (λ e. rw e)

-- ---- the first bad row
find_first : (f : ℕ → Bool) (v : ℕ → ℕ) (n i : ℕ) → find f (map v (range_with_len i n)) ≡ first_in (filter f (map v (up_from i n)))
unfolding up_from
find_first f v zero i = refl
find_first f v (suc n) i = by (f (v i)) (λ e. rw e) (λ e. rw e (find_first f v n (i + 1)))

row_found : (b : List ℕ) (t : Trailer) (p : Part) (o n : ℕ) → first_in (filter (bad_row b t p) (offsets o (width p) n)) ≡ first_bad b t p o n
unfolding offsets first_bad
row_found b t p o n = sym (find_first (bad_row b t p) (λ k. o + width p * k) n 0)

first_append : (xs ys : List ℕ) → first_in (xs ++ ys) ≡ option_or (first_in xs) (first_in ys)
first_append [] ys = refl
first_append (x ∷ xs) ys = refl

-- the first bad row of the body is that of the first part that has one
pub first_rows : (b : List ℕ) (t : Trailer) →
    first_in (bad_rows b t)
    ≡ option_or (option_or (option_or
    (first_bad b t Needs (body_at b t) t.actions)
    (first_bad b t Rules (body_at b t + 4 * t.actions) t.rules))
    (first_bad b t Clauses (body_at b t + 4 * t.actions + 10 * t.rules) t.starts))
    (first_bad b t Clauses (body_at b t + 4 * t.actions + 10 * t.rules + 4 * t.starts) t.goals)
unfolding bad_rows needs_at rules_at starts_at goals_at
first_rows b t =
    rw (first_append, first_append, first_append, ← row_found b t Needs, ← row_found b t Rules, ← row_found b t Clauses (body_at b t + 4 * t.actions + 10 * t.rules), ← row_found b t Clauses)

-- ---- rows by number
pub words_2 : (b : List ℕ) (o : ℕ) → numbers b o 2 ≡ pair (need_at b o)
unfolding numbers need_at up_from
words_2 b o = let e : o + 2 * 0 ≡ o = omega arith in rw e

pub words_5 : (b : List ℕ) (o : ℕ) → numbers b o 5 ≡ fives (rule_at b o)
unfolding numbers rule_at up_from
words_5 b o = let e : o + 2 * 0 ≡ o = omega arith in rw e

past_rows : {A : Type 0} (f : ℕ → A) (d : A) (o w c j : ℕ) → c ≤ j → get_or (map f (offsets o w c)) j d ≡ d
unfolding offsets
past_rows f d o w c j h = get_or-eq_default (map f (offsets o w c)) d (simp (length-map, length_count) (omega arith))

-- m rows of n numbers, of which the first c stand in the bytes, are the listed rows with zeros after them
rows_are : {A : Type 0} (b : List ℕ) (f : ℕ → A) (d : A) (row : A → List ℕ) (n o c m : ℕ) → ((p : ℕ) → numbers b p n ≡ row (f p)) → replicate n 0 ≡ row d
    → map (row_below b o n c) (up_from 0 m) ≡ map (λ j. row (get_or (map f (offsets o (2 * n) c)) j d)) (up_from 0 m)
rows_are b f d row n o c m is none = map_below _ _ m (λ j h. by (ltb j c)
    (λ e. rw e (is (o + 2 * n * j) ∙ ap row (sym (ap (λ xs. get_or xs j d) (rows_of f o (2 * n) c) ∙ value_at_lem (λ k. f (o + 2 * n * k)) d c j (ltb-true j c e)))))
    (λ e. rw e (none ∙ ap row (sym (past_rows f d o (2 * n) c j (ltb-false j c e))))))

module _ (b : List ℕ) (t : Trailer) where
  pub need_is : (a : ℕ) → a < t.actions → need_of (sheet_of b t) a ≡ need_at b (body_at b t + 4 * a)
  unfolding need_of sheet_of needs_at
  need_is a h = ap (λ xs. get_or xs a (record { need1 = 0; need0 = 0 })) (rows_of (need_at b) (body_at b t) 4 t.actions) ∙ value_at_lem (λ k. need_at b (body_at b t + 4 * k)) _ t.actions a h

  pub rule_is : (j : ℕ) → j < t.rules → rule_of (sheet_of b t) j ≡ rule_at b (body_at b t + 4 * t.actions + 10 * j)
  unfolding rule_of sheet_of rules_at
  rule_is j h =
      ap (λ xs. get_or xs j (record { action = 0; cond1 = 0; cond0 = 0; set1 = 0; set0 = 0 })) (rows_of (rule_at b) (body_at b t + 4 * t.actions) 10 t.rules)
      ∙ value_at_lem (λ k. rule_at b (body_at b t + 4 * t.actions + 10 * k)) _ t.rules j h

  pub needs_are : map (row_below b (body_at b t) 2 t.actions) (up_from 0 12) ≡ pairs_of (sheet_of b t)
  unfolding pairs_of need_of sheet_of needs_at
  needs_are = rows_are b (need_at b) (record { need1 = 0; need0 = 0 }) pair 2 (body_at b t) t.actions 12 (words_2 b) refl

  pub rules_are : map (row_below b (body_at b t + 4 * t.actions) 5 t.rules) (up_from 0 24) ≡ fives_of (sheet_of b t)
  unfolding fives_of rule_of sheet_of rules_at
  rules_are = rows_are b (rule_at b) (record { action = 0; cond1 = 0; cond0 = 0; set1 = 0; set0 = 0 }) fives 5 (body_at b t + 4 * t.actions) t.rules 24 (words_5 b) refl

-- ---- what decode says, test by test
row_bad : (os : List ℕ) (p : Sheet) (o : ℕ) → first_in os ≡ Some o → Err (BadRow o) ≡ no_row os p
row_bad [] p o e = cc
row_bad (q ∷ os) p o e = cc

row_good : (os : List ℕ) (p : Sheet) → first_in os ≡ None → Ok p ≡ no_row os p
row_good [] p e = refl
row_good (q ∷ os) p e = cc

module _ (b : List ℕ) where
  pub read_unmarked : marked b ≡ false → Err Unmarked ≡ decode b
  unfolding decode
  read_unmarked m = rw m

  module _ (t : Trailer) (is : t ≡ trailer b) where
    pub whole_read : within t ≡ true → agrees b t ≡ true → Whole b t
    whole_read w a = subst (Whole b) (sym is) (whole b (ap within (sym is) ∙ w) (ap (agrees b) (sym is) ∙ a))

    module _ (m : marked b ≡ true) where
      pub read_unbounded : within t ≡ false → Err Unbounded ≡ decode b
      unfolding decode
      read_unbounded w = rw (← is, m, w)

      module _ (w : within t ≡ true) where
        pub read_disagrees : agrees b t ≡ false → Err Disagrees ≡ decode b
        unfolding decode
        read_disagrees a = rw (← is, m, w, a)

        module _ (a : agrees b t ≡ true) where
          pub read_bad : (o : ℕ) → first_in (bad_rows b t) ≡ Some o → Err (BadRow o) ≡ decode b
          unfolding decode
          read_bad o e = rw (← is, m, w, a) (row_bad (bad_rows b t) (sheet_of b t) o e)

          pub read_good : first_in (bad_rows b t) ≡ None → Ok (sheet_of b t) ≡ decode b
          unfolding decode
          read_good e = rw (← is, m, w, a) (row_good (bad_rows b t) (sheet_of b t) e)

  pub marked_long : marked b ≡ true → 16 ≤ length b
  unfolding marked
  marked_long m =
      let g = and_e (leb trailer_length (length b) && eqb (get_or b (length b - 2) 0) 0x52) (eqb (get_or b (length b - 1) 0) 0x53) m in
      let h = and_e (leb trailer_length (length b)) (eqb (get_or b (length b - 2) 0) 0x52) g.0 in
      leb-true 16 (length b) h.0

-- ---- what read's answer says of decode
pub record Taken (b : List ℕ) (t : Trailer) : Type 0 where
  pub sheet : decode b ≡ Ok (sheet_of b t)
  pub holds : Whole b t

-- of bytes that decode accepts
pub taken : (b : List ℕ) (p : Sheet) → decode b ≡ Ok p → Taken b (trailer b)
taken b p q = let a = decoded.accepted b p q in record {
  sheet = q ∙ ap Ok (sym a.sheet_is);
  holds = whole_of b a.bounds a.back_is a.length_is;
}

-- of an accepted sheet that read gave
pub taken_read : (b : List ℕ) (s : accepted.Sheet) → read_as (Ok s) ≡ decode b → s.parts.bytes.now ≡ b → Taken b s.parts.trailer
taken_read b s e is = record {
  sheet = sym e ∙ ap (λ x. Ok (sheet_of x s.parts.trailer)) is;
  holds = subst (λ x. Whole x s.parts.trailer) is s.parts.whole;
}

pub not_taken : (b : List ℕ) (f : Fault) → read_as (Err f) ≡ decode b → decode b ≡ Err f
not_taken b f e = sym e

-- what the code's proofs use
pub ruleset reading = (within_bounded, marked_long, whole_read, read_unmarked, read_unbounded, read_disagrees, read_bad, read_good)
