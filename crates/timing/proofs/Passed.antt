-- What the tag after an arc says of the arc.
use Rattle.std.proofs.Common.{◌≡◌, ℕ, Bool, true, false, cond, eqb, Some, None, refl, arith}
use lib.Bits.{bit_and}
use Rattle.std.proofs.lemmas.Bool.{eqb-true, eqb-false}
use Rattle.paths.specs.Tags.{apart}

pub tag_passed : (x t e : ℕ) → Some x ≡ cond (apart t e) (Some t) None → (x ≡ t) × (bit_and t e ≡ 0)
tag_passed x t e h = go (eqb (bit_and t e) 0) refl h
  where
    go : (b : Bool) → eqb (bit_and t e) 0 ≡ b → Some x ≡ cond b (Some t) None → (x ≡ t) × (bit_and t e ≡ 0)
    go true q r = (cc, eqb-true (bit_and t e) 0 q)
    go false q r = absurd (let z : ◌≡◌ {A = ℕ} 0 1 = cc in omega arith)

pub tag_dropped : (t e : ℕ) → None ≡ cond (apart t e) (Some t) None → bit_and t e ≡ 0 → ⊥
tag_dropped t e h = go (eqb (bit_and t e) 0) refl h
  where
    go : (b : Bool) → eqb (bit_and t e) 0 ≡ b → None ≡ cond b (Some t) None → bit_and t e ≡ 0 → ⊥
    go true q r = absurd (let z : ◌≡◌ {A = ℕ} 0 1 = cc in omega arith)
    go false q r = eqb-false (bit_and t e) 0 q
