-- The product of a signed number of 32 bits and an unsigned one of 16, in 64 bits.
use Rattle.std.proofs.Common.{◌≡◌, ℕ, suc, ◌*◌, ◌^◌, ◌<◌, ◌≤◌, ℤ, pos, negsuc, ◌*ℤ◌, mul-le-mul, arith, w32, w64, SFits, to_z, of_z}
use Rattle.std.proofs.lemmas.Int.{ints, to_z-of_z}
use Rattle.delay.specs.Entries.{Within}

times_within : (m n : ℕ) (a : ℤ) (b : ℕ) → Within m a → b ≤ n → Within (m * n) (a *ℤ pos b)
times_within m n (pos a) b h k =
    let p : a ≤ m = omega (arith, ints) in
    let q : a * b ≤ m * n = mul-le-mul p k in
    omega (arith, ints)
times_within m n (negsuc a) b h k =
    let p : suc a ≤ m = omega (arith, ints) in
    let q : suc a * b ≤ m * n = mul-le-mul p k in
    omega (arith, ints)

-- x and y are a and b, widened: as `i64::from` gives them
module _ (a : ℤ) (b : ℕ) (x y : ℤ) (f : SFits w32 a) (h : b < 2 ^ 16) (x-is : x ≡ to_z w32 (of_z w32 a)) (y-is : y ≡ pos b) where
  pub product_within : Within (2 ^ 47) (a *ℤ pos b)
  product_within = times_within (2 ^ 31) (2 ^ 16) a b (omega (arith, ints)) (omega arith)

  operands : to_z w64 (of_z w64 x) *ℤ to_z w64 (of_z w64 y) ≡ a *ℤ pos b
  operands =
      let p : to_z w64 (of_z w64 x) ≡ a = omega (arith, ints) in
      let q : to_z w64 (of_z w64 y) ≡ pos b = omega (arith, ints) in
      rw (p, q)

  pub product_is : to_z w64 (of_z w64 (to_z w64 (of_z w64 x) *ℤ to_z w64 (of_z w64 y))) ≡ a *ℤ pos b
  product_is = let w = product_within in rw operands (to_z-of_z w64 _ (omega (arith, ints)))
