-- A number of 32 bits is the number itself.
use Rattle.std.proofs.Common.{ℤ, w32, to_z, of_z, SFits, subst}
use Rattle.std.proofs.lemmas.Int.{to_z-of_z}

pub of_one : (P : ℤ → Type 0) (x : ℤ) → SFits w32 x → P (to_z w32 (of_z w32 x)) → P x
of_one P x fits h = subst P (to_z-of_z w32 x fits) h

pub of_two : (P : ℤ → ℤ → Type 0) (x y : ℤ) → SFits w32 x → SFits w32 y → P (to_z w32 (of_z w32 x)) (to_z w32 (of_z w32 y)) → P x y
of_two P x y fits fits' h = of_one (P x) y fits' (of_one (λ n. P n (to_z w32 (of_z w32 y))) x fits h)

pub of_three : (P : ℤ → ℤ → ℤ → Type 0) (x y z : ℤ) → SFits w32 x → SFits w32 y → SFits w32 z → P (to_z w32 (of_z w32 x)) (to_z w32 (of_z w32 y)) (to_z w32 (of_z w32 z)) → P x y z
of_three P x y z fits fits' fits'' h = of_two (P x) y z fits' fits'' (of_one (λ n. P n (to_z w32 (of_z w32 y)) (to_z w32 (of_z w32 z))) x fits h)
