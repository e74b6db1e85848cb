-- A trial: what its opening does to a block, and what its end does.
use Rattle.std.specs.Prelude.{◌≡◌, ℕ, cond, ℤ, pos, Some, None, Ok, Err, Option, Result, unsigned_abs}
use Rattle.std.specs.Option.{option_map}
use Rattle.graph.specs.declared.parts.LiveArc.{LiveArc}
use Rattle.graph.specs.declared.parts.Refusal.{Refusal}
use Rattle.graph.specs.Ranges.{is_arc}
use Rattle.graph.specs.Refusals.{refusal_number}
use Rattle.graph.specs.Block.{Block, arc_at, with_trim}

-- the number of a refusal, if there is one
abbrev pub refusal_in : {A : Type 0} → Result A ℕ → Option ℕ
refusal_in (Ok a) = None
refusal_in (Err n) = Some n

abbrev pub trim_in : Option LiveArc → ℤ
trim_in None = pos 0
trim_in (Some e) = e.trim

-- the trim of an arc, or 0 where it is not live
abbrev pub earlier_of : Block → ℤ → ℤ
earlier_of b n = cond (is_arc n) (trim_in (arc_at b (unsigned_abs n))) (pos 0)

-- b is the block before, b' under the trial; arc, earlier and refusal are what the trial keeps
pub record Opened (b : Block) (n t : ℤ) (b' : Block) (arc earlier : ℤ) (refusal : Option Refusal) : Type 0 where
  pub set : b' ≡ (with_trim b n t).after
  pub same_arc : arc ≡ n
  pub kept : earlier ≡ earlier_of b n
  pub shown : option_map refusal_number refusal ≡ refusal_in (with_trim b n t).answer

-- the end of a trial: the earlier trim is back; a refused trial changes nothing
abbrev pub put_back : {E : Type 0} → Block → ℤ → ℤ → Option E → Block
put_back b n t None = (with_trim b n t).after
put_back b n t (Some e) = b
