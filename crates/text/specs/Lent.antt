-- Bytes added behind those that are lent. Assumes nothing.
use Rattle.std.specs.Prelude.{List, [], ◌∷◌, ◌++◌, ℕ, ◌/◌, ◌%◌, take}

-- as many as fit
abbrev pub added : ℕ → List ℕ → List ℕ → List ℕ
added most xs ys = take most (xs ++ ys)

-- a number's two low bytes, the lowest first
abbrev pub two : ℕ → List ℕ
two n = n % 256 ∷ n / 256 % 256 ∷ []
