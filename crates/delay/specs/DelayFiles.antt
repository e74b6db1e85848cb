-- What a load of a delay file does to an annotated table.
use Rattle.std.specs.Prelude.{◌≡◌, ℕ, ◌<◌, Bool, true, false, cond, ◌&&◌, ◌⊎◌, List, ◌∷◌, ◌++◌, length, ℤ, pos, Ok, Err, Result, ◌==◌, int_le, slice_index_or, slice_set, unsigned_abs}
use Rattle.std.specs.List.{AllByRecursion}
use Rattle.std.specs.Result.{result_and}
use Rattle.reader.specs.declared.records.Kind.TheVariants.{Delays}
use Rattle.reader.specs.declared.records.Record.{Record}
use Rattle.reader.specs.declared.records.Record.TheVariants.{Arc, Delay, Bound, Pair}
use Rattle.reader.specs.declared.faults.FileRefusal.{FileRefusal}
use Rattle.reader.specs.declared.faults.FileFault.TheVariants.{Call}
use Rattle.reader.specs.Format.{scanned}
use Rattle.reader.specs.Loading.{Leaves, loaded}
use Rattle.delay.specs.declared.annotated.AnnotatedRow.{AnnotatedRow}
use Rattle.delay.specs.Entries.{is_tick_count}

-- whether a line names an arc number and a tick count
abbrev pub is_delay : ℤ → ℤ → Bool
is_delay arc ticks = (int_le (pos 0) arc && int_le arc (pos 1023)) && is_tick_count ticks

abbrev pub annotation : ℤ → AnnotatedRow
annotation ticks = record { marked = true; ticks = ticks }

-- a line sets its arc's row; 6 where a number is out of range
abbrev pub set_row : List AnnotatedRow → ℤ → ℤ → Result (List AnnotatedRow) ℕ
set_row rows arc ticks = cond (is_delay arc ticks) (Ok (slice_set rows (unsigned_abs arc) (annotation ticks))) (Err 6)

-- a delay file has no other records
abbrev pub take_line : List AnnotatedRow → Record → Result (List AnnotatedRow) ℕ
take_line rows (Delay arc ticks) = set_row rows arc ticks
take_line rows (Arc a b) = Err 6
take_line rows (Bound a b c) = Err 6
take_line rows (Pair a b c) = Err 6

-- 14 with line 0 unless the table has 1,024 rows
abbrev pub length_answer : ℕ → Result (Unit {0}) FileRefusal
length_answer rows = cond (rows == 1024) (Ok tt) (Err (record { fault = Call 14; line = 0 }))

-- the table s after the file's lines, or the first refusal
abbrev pub loaded_table : List ℕ → List AnnotatedRow → Result (List AnnotatedRow) FileRefusal
loaded_table bytes s = result_and (length_answer (length s)) (loaded take_line (scanned Delays bytes) s)

-- a load answers r and makes t of the table s: all lines or none
abbrev pub Loads : List ℕ → List AnnotatedRow → Result (Unit {0}) FileRefusal → List AnnotatedRow → Type 0
Loads bytes s r t = Leaves (loaded_table bytes s) s r t

-- ---- what that says of each row
-- a line names arc k
abbrev pub Names : ℕ → Record → Type 0
Names k (Delay arc ticks) = arc ≡ pos k
Names k (Arc a b) = ⊥
Names k (Bound a b c) = ⊥
Names k (Pair a b c) = ⊥

abbrev pub Unnamed : ℕ → List Record → Type 0
Unnamed k lines = AllByRecursion (λ line. Names k line → ⊥) lines

-- the row of arc k was old and is new: the last line that names k stands, and a row that no line names is untouched
abbrev pub Stands : ℕ → List Record → AnnotatedRow → AnnotatedRow → Type 0
Stands k lines old new =
    ((before : List Record) × (ticks : ℤ) × (after : List Record) × (lines ≡ before ++ (Delay (pos k) ticks ∷ after)) × Unnamed k after × (new ≡ annotation ticks))
    ⊎ (Unnamed k lines × (new ≡ old))

abbrev pub blank : AnnotatedRow
blank = record { marked = false; ticks = pos 0 }

-- so it is of each row once a file is accepted
abbrev pub LastLineStands : List ℕ → List AnnotatedRow → Result (Unit {0}) FileRefusal → List AnnotatedRow → Type 0
LastLineStands bytes s r t = r ≡ Ok tt → (k : ℕ) → k < 1024 → Stands k (scanned Delays bytes).records (slice_index_or s k blank) (slice_index_or t k blank)
