-- Arrivals, required times and slacks by tags.
use Rattle.std.specs.Prelude.{◌≡◌, ℕ, T, Some, None, Option}
use Rattle.paths.specs.Rows.{Rows, Before, minus}
use Rattle.paths.specs.Blocks.{Arc, RowBlock, Live, pass, passes}

-- an arrival x reaches v with tag s: a start gives its node one with the empty tag, and each passes the arcs that do not drop it
pub data Reaches {R : Type 0} (m : Rows R) (b : RowBlock R) : ℕ → ℕ → R → Type 0 where
  starts : {v : ℕ} {x : R} → b.start v ≡ Some x → Reaches m b v 0 x
  passed : {s : ℕ} {x : R} (e : Arc R) → Reaches m b e.from s x → Live b e → T (passes b s e) → Reaches m b e.to (pass b s e) (m.plus x e.row)

-- y is asked of v at tag s: by its end, or by an arc that s passes undropped, where y plus the arc's row is asked beyond
pub data Asked {R : Type 0} (m : Rows R) (b : RowBlock R) : ℕ → ℕ → R → Type 0 where
  ends : {v s : ℕ} {y : R} → b.end v ≡ Some y → Asked m b v s y
  before : {s : ℕ} {y : R} (e : Arc R) → Live b e → T (passes b s e) → Asked m b e.to (pass b s e) y → Asked m b e.from s (minus m y e.row)

module _ {R : Type 0} (m : Rows R) (b : RowBlock R) where
  -- the arrival of (v, s): the latest that reaches v with tag s
  pub record Arrival (v s : ℕ) (x : R) : Type 0 where
    pub reached : Reaches m b v s x
    pub latest : (y : R) → Reaches m b v s y → Before m y x

  -- the required time of (v, s): the earliest asked
  pub record Required (v s : ℕ) (y : R) : Type 0 where
    pub asked : Asked m b v s y
    pub earliest : (z : R) → Asked m b v s z → Before m y z

  -- x is a slack of (v, s), for some tag s
  pub record TagSlack (v : ℕ) (x : R) : Type 0 where
    pub tag : ℕ
    pub arrival : R
    pub required : R
    pub arrives : Arrival v tag arrival
    pub requires : Required v tag required
    pub is : x ≡ minus m required arrival

  -- the slack of v: the least over its tags, None when no tag has one
  abbrev pub NodeSlack : ℕ → Option R → Type 0
  NodeSlack v None = (x : R) → TagSlack v x → ⊥
  NodeSlack v (Some x) = TagSlack v x × ((y : R) → TagSlack v y → Before m x y)
