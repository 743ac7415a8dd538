use mathlib.Core.Path.{refl}
use native.Mathlib.Omega.{arith}
use Rattle.theory.proofs.Laws.{ended, end_full}
use Rattle.theory.proofs.Builder.end.Goals as goal

pub returns-then-self-at : goal.returns-then-self-at
returns-then-self-at c = record { still = record { literals = refl; ends = refl; sheet = refl }; closes = end_full _ _ (λ a b. omega arith); literals_stay = refl }

pub returns-then-self : goal.returns-then-self
returns-then-self c = record { still = record { literals = refl; ends = refl; sheet = refl }; closes = end_full _ _ (λ a b. omega arith); literals_stay = refl }

pub returns : goal.returns
returns c = record { still = record { literals = refl; ends = refl; sheet = refl }; closes = ended _ _ (omega arith); literals_stay = refl }
