use Rattle.std.proofs.Common.{◌≡◌, ◌++◌, ◌≤◌, length, take, vec_items, vec_len, vec_capacity}
use Rattle.reader.specs.Reading.{left}
use Rattle.reader.proofs.listing.append.Given as goal

-- the vector's own records, those so far and those that are left are all; its own stand first, and it has no less room
abbrev pub invariant-loop-record : goal.invariant-loop-record
invariant-loop-record l =
    (vec_items l.records ++ (left l.reader).records ≡ vec_items l.initial.records ++ (left l.initial.reader).records)
    × (take (vec_len l.initial.records) (vec_items l.records) ≡ vec_items l.initial.records)
    × (vec_capacity l.initial.records ≤ vec_capacity l.records)
    × ((left l.reader).ending ≡ (left l.initial.reader).ending)

abbrev pub decreases-loop-record : goal.decreases-loop-record
decreases-loop-record l = length (left l.reader).records
