-- What digits tell. Assumes nothing.
use Rattle.std.specs.Prelude.{List, ℕ, ◌+◌, ◌*◌, ◌%◌, ◌^◌, cond, ltb}
use Rattle.std.specs.List.{fold}

-- a digit more, while the number is below 2^32
abbrev pub more : ℕ → ℕ → ℕ
more n digit = cond (ltb n (2 ^ 32)) (10 * n + digit % 16) n

-- the digits in order, and of the number its low 32 bits
abbrev pub number : List ℕ → ℕ
number digits = fold more 0 digits % 2 ^ 32
