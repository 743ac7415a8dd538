-- Bytes added twice. Assumes nothing.
use Rattle.std.proofs.Common.{◌≡◌, refl, ap, ◌∙◌, List, [], ◌∷◌, ◌++◌, ℕ, zero, suc, take, append_assoc}
use Rattle.text.specs.Lent.{added}

take_taken : (n : ℕ) (xs ys : List ℕ) → take n (take n xs ++ ys) ≡ take n (xs ++ ys)
take_taken zero xs ys = refl
take_taken (suc n) [] ys = refl
take_taken (suc n) (x ∷ xs) ys = ap (λ l. x ∷ l) (take_taken n xs ys)

pub added_twice : (n : ℕ) (xs ys zs : List ℕ) → added n (added n xs ys) zs ≡ added n xs (ys ++ zs)
added_twice n xs ys zs = take_taken n (xs ++ ys) zs ∙ ap (take n) (append_assoc xs ys zs)
