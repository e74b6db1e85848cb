-- A file's records by themselves. Assumes nothing.
use Rattle.std.specs.Prelude.{◌≡◌, ℕ, ◌+◌, ◌<◌, ◌++◌, length, take, Some, None, Ok, Err, vec_items, vec_len, vec_capacity, Option, Result}
use Rattle.reader.specs.declared.faults.FileRefusal.{FileRefusal}
use Rattle.std.specs.Global.{Vec}
use Rattle.reader.specs.declared.records.Record.{Record}
use Rattle.reader.specs.declared.listing.ListFault.{ListFault}
use Rattle.reader.specs.declared.listing.ListFault.TheVariants.{File, Memory}
use Rattle.reader.specs.Format.{Scan}

-- n at the end of a good file
abbrev pub unless_refused : Option FileRefusal → ℕ → Result ℕ FileRefusal
unless_refused None n = Ok n
unless_refused (Some e) n = Err e

-- how many value lines there are
abbrev pub counted : Scan → Result ℕ FileRefusal
counted s = unless_refused s.ending (length s.records)

-- a good file's records are put behind those of the vector v, which is w after it, or v is left as it was: the refusal is
-- the file's own, and want of memory comes only where v has no room for the records
abbrev pub ListsInto : Scan → Vec Record → Result (Unit {0}) ListFault → Vec Record → Type 0
ListsInto s v (Ok _) w = (s.ending ≡ None) × (vec_items w ≡ vec_items v ++ s.records)
ListsInto s v (Err (File e)) w = (s.ending ≡ Some e) × (vec_items w ≡ vec_items v)
ListsInto s v (Err Memory) w = (vec_capacity v < vec_len v + length s.records) × (vec_items w ≡ vec_items v)

-- the same, where a refusal may leave some of the file's records behind those of v
abbrev pub Appends : Scan → Vec Record → Result (Unit {0}) ListFault → Vec Record → Type 0
Appends s v (Ok _) w = (s.ending ≡ None) × (vec_items w ≡ vec_items v ++ s.records)
Appends s v (Err (File e)) w = (s.ending ≡ Some e) × (take (vec_len v) (vec_items w) ≡ vec_items v)
Appends s v (Err Memory) w = (vec_capacity v < vec_len v + length s.records) × (take (vec_len v) (vec_items w) ≡ vec_items v)

-- the records of a good file, in order; a refusal is the file's own; want of memory comes only where there is a record to keep
abbrev pub Lists : Scan → Result (Vec Record) ListFault → Type 0
Lists s (Ok v) = (s.ending ≡ None) × (vec_items v ≡ s.records)
Lists s (Err (File e)) = s.ending ≡ Some e
Lists s (Err Memory) = 0 < length s.records
