-- Each input of each operation has one permitted answer and one permitted content of the buffers. Assumes nothing.
use mathlib.Core.Path.{◌≡◌, sym, ◌∙◌}
use mathlib.Core.List.{List}
use Prim.Native.Nat.{ℕ}
use Rattle.paper.specs.Answers.{Left, LeftRows, LeftPlan, check_left, run_left, compile_left, judge_left, plan_left}

-- what a call may leave is what the definition gives, and nothing else
abbrev pub Permits : {What : Type 0} → What → What → Type 0
Permits left a = a ≡ left

one_permitted : {What : Type 0} (left a b : What) → Permits left a → Permits left b → a ≡ b
one_permitted left a b h k = h ∙ sym k

pub check_one : (sheet answer : List ℕ) (a b : Left) → Permits (check_left sheet answer) a → Permits (check_left sheet answer) b → a ≡ b
check_one sheet answer = one_permitted (check_left sheet answer)

pub run_one : (sheet : List ℕ) (state : ℕ) (schedule answer : List ℕ) (a b : Left)
    → Permits (run_left sheet state schedule answer) a → Permits (run_left sheet state schedule answer) b → a ≡ b
run_one sheet state schedule answer = one_permitted (run_left sheet state schedule answer)

pub compile_one : (sheet : List ℕ) (horizon limit : ℕ) (rows answer : List ℕ) (a b : LeftRows)
    → Permits (compile_left sheet horizon limit rows answer) a → Permits (compile_left sheet horizon limit rows answer) b → a ≡ b
compile_one sheet horizon limit rows answer = one_permitted (compile_left sheet horizon limit rows answer)

pub judge_one : (sheet : List ℕ) (horizon : ℕ) (rows : List ℕ) (count root state : ℕ) (masks answer : List ℕ) (a b : Left)
    → Permits (judge_left sheet horizon rows count root state masks answer) a → Permits (judge_left sheet horizon rows count root state masks answer) b → a ≡ b
judge_one sheet horizon rows count root state masks answer = one_permitted (judge_left sheet horizon rows count root state masks answer)

pub plan_one : (sheet : List ℕ) (limit : ℕ) (rows schedule answer : List ℕ) (a b : LeftPlan)
    → Permits (plan_left sheet limit rows schedule answer) a → Permits (plan_left sheet limit rows schedule answer) b → a ≡ b
plan_one sheet limit rows schedule answer = one_permitted (plan_left sheet limit rows schedule answer)
