-- Sheets as document 01 writes them, and their bytes.
-- Assumes nothing.
use mathlib.Core.List.{List, [], ◌∷◌, ◌++◌}
use Prim.Native.Nat.{ℕ, ◌+◌, ◌*◌, ◌/◌, ◌%◌}
use lib.ListN.{length, replicate}
use Rattle.paper.specs.Lists.{each}
use Rattle.paper.specs.Sheet.{Need, Rule, Masks}

-- the bytes of sheet D as document 01 prints them
abbrev pub D : List ℕ
D =
    0x00 ∷ 0x00 ∷ 0x00 ∷ 0x00 ∷ 0x00 ∷ 0x00 ∷ 0x00 ∷ 0x00 ∷ 0x01 ∷ 0x00 ∷ 0x00 ∷ 0x00 ∷ 0x00 ∷ 0x00 ∷ 0x00 ∷ 0x00
    ∷ 0x01 ∷ 0x00 ∷ 0x02 ∷ 0x00 ∷ 0x00 ∷ 0x00 ∷ 0x01 ∷ 0x00 ∷ 0x02 ∷ 0x00 ∷ 0x00 ∷ 0x00 ∷ 0x02 ∷ 0x00 ∷ 0x00 ∷ 0x00
    ∷ 0x02 ∷ 0x00 ∷ 0x02 ∷ 0x00 ∷ 0x02 ∷ 0x00 ∷ 0x00 ∷ 0x00 ∷ 0x01 ∷ 0x00 ∷ 0x02 ∷ 0x00 ∷ 0x20 ∷ 0x00 ∷ 0x52 ∷ 0x53
    ∷ []

abbrev low : ℕ → List ℕ
low n = n % 256 ∷ n / 256 ∷ []

-- rows as document 01 writes them
abbrev pub need : ℕ → ℕ → Need
need a b = record { need1 = a; need0 = b }

abbrev pub rule : ℕ → ℕ → ℕ → ℕ → ℕ → Rule
rule a b c d e = record { action = a; cond1 = b; cond0 = c; set1 = d; set0 = e }

abbrev pub clause : ℕ → ℕ → Masks
clause a b = record { pos = a; neg = b }

abbrev of_need : Need → List ℕ
of_need r = low r.need1 ++ low r.need0

abbrev of_rule : Rule → List ℕ
of_rule r = low r.action ++ low r.cond1 ++ low r.cond0 ++ low r.set1 ++ low r.set0

abbrev of_masks : Masks → List ℕ
of_masks r = low r.pos ++ low r.neg

-- F, needs, rules, starts, goals, H
unfoldable pub sheet : ℕ → List Need → List Rule → List Masks → List Masks → ℕ → List ℕ
sheet f ns rs is gs h =
    each ns of_need ++ each rs of_rule ++ each is of_masks ++ each gs of_masks
    ++ low f ++ low (length ns) ++ low (length rs) ++ low (length is) ++ low (length gs) ++ low h
    ++ low (4 * length ns + 10 * length rs + 4 * length is + 4 * length gs)
    ++ (0x52 ∷ 0x53 ∷ [])

-- every count at its bound: 432 bytes
unfoldable pub largest : List ℕ
unfolding sheet
largest = sheet 12 (replicate 12 (need 0 0)) (replicate 24 (rule 12 0 0 0 0)) (replicate 16 (clause 4095 0)) (replicate 16 (clause 0 4095)) 8

-- sheet D with other start clauses and another H
unfoldable pub like_d : List Masks → ℕ → List ℕ
unfolding sheet
like_d is h = sheet 2 (need 0 0 ∷ need 0 0 ∷ []) (rule 1 0 0 0 1 ∷ rule 2 0 1 2 0 ∷ []) is (clause 2 0 ∷ []) h

-- F facts, one action of no need, these rules, starts and goals, H 1
unfoldable pub one_action : ℕ → List Rule → List Masks → List Masks → List ℕ
unfolding sheet
one_action f rs is gs = sheet f (need 0 0 ∷ []) rs is gs 1

-- F facts and these goals, no rule and no start clause
unfoldable pub goals : ℕ → List Masks → List ℕ
unfolding one_action
goals f gs = one_action f [] [] gs
