-- The tag of an arrival after an arc, on plain tags.
use Rattle.std.specs.Prelude.{ℕ, cond, Some, None, Option, bit_and, bit_or}
use Rattle.paths.specs.Tags.{apart}

-- those of the sets that hold the arc which are under way or begin; nothing where one of them ends
abbrev pub passed_tag : ℕ → ℕ → ℕ → ℕ → Option ℕ
passed_tag tag begins sets ends = let t = bit_and (bit_or tag begins) sets in cond (apart t ends) (Some t) None
