-- What the proofs are given of a block, and that its arrivals and required times are near zero.
use Rattle.std.proofs.Common.{◌≡◌, ℕ, suc, ◌-◌, ◌*◌, ◌^◌, ◌<◌, ◌≤◌, Some, arith}
use Rattle.paths.specs.Rows.{Rows}
use Rattle.paths.specs.Tags.{set_count}
use Rattle.paths.specs.Blocks.{Arc, RowBlock, Live, Rising, pass, ByNumber}
use Rattle.paths.specs.Times.{Reaches, starts, passed, Asked, ends, before}
use Rattle.paths.specs.Sheets.{no_arc}
use Rattle.paths.proofs.Stretches.{pass_below}
use Rattle.paths.proofs.RowLaws.{Laws, Near}

pub record Given {R : Type 0} (m : Rows R) (b : RowBlock R) (n : ℕ) : Type 0 where
  pub laws : Laws m
  pub few : n ≤ 256
  pub rising : Rising b
  pub below : (e : Arc R) → Live b e → e.to < n
  pub numbered : (e : Arc R) → Live b e → e.number < no_arc
  pub by_number : ByNumber b.arcs
  pub arcs : (e : Arc R) → Live b e → laws.size e.row ≤ 1_000_000
  pub starts : (v : ℕ) (x : R) → b.start v ≡ Some x → laws.size x ≤ 1_000_000
  pub ends : (v : ℕ) (x : R) → b.end v ≡ Some x → laws.size x ≤ 1_000_000

module _ {R : Type 0} {m : Rows R} {b : RowBlock R} {n : ℕ} (given : Given m b n) where
  pub reaches_small : (v s : ℕ) (x : R) → Reaches m b v s x → given.laws.size x ≤ 1_000_000 * suc v
  reaches_small v s x (starts e) = omega (arith, given.starts v x e)
  reaches_small v s x (passed {s = r} {x = z} e k l p) =
      omega (arith, given.rising e l, given.laws.sums z e.row, reaches_small e.from r z k, given.arcs e l)

  pub asked_small : (k : ℕ) → n ≤ k → (v s : ℕ) (y : R) → v < k → Asked m b v s y → given.laws.size y ≤ 1_000_000 * (k - v)
  asked_small k q v s y h (ends e) = omega (arith, given.ends v y e)
  asked_small k q v s y h (before {y = z} e l p a) =
      let to : e.to < k = omega (arith, given.below e l) in
      omega (arith, given.rising e l, to, given.laws.sums z (m.opposite e.row), given.laws.opposites e.row, asked_small k q e.to (pass b s e) z to a, given.arcs e l)

-- so the order's laws are about them
pub record Tame {R : Type 0} (m : Rows R) (b : RowBlock R) (laws : Laws m) : Type 0 where
  pub reached : (v s : ℕ) (x : R) → v < 256 → Reaches m b v s x → Near laws x
  pub asked : (v s : ℕ) (y : R) → v < 256 → Asked m b v s y → Near laws y
  pub arcs : (e : Arc R) → Live b e → Near laws e.row

pub tame : {R : Type 0} {m : Rows R} {b : RowBlock R} {n : ℕ} (given : Given m b n) → Tame m b given.laws
tame given = record {
  reached = λ v s x h r. omega (arith, reaches_small given v s x r);
  asked = λ v s y h a. omega (arith, asked_small given 256 given.few v s y h a);
  arcs = λ e l. omega (arith, given.arcs e l);
}

-- ---- a tag has the 16 sets only
pub reached_tag : {R : Type 0} {m : Rows R} {b : RowBlock R} (v s : ℕ) (x : R) → Reaches m b v s x → s < 2 ^ set_count
reached_tag v s x (starts e) = omega arith
reached_tag {b} v s x (passed {s = r} {x = z} e k l p) = pass_below b r e (reached_tag e.from r z k)
