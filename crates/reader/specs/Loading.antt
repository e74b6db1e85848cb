-- What a load does with a file's records. Assumes nothing.
use Rattle.std.specs.Prelude.{◌≡◌, ℕ, ◌+◌, List, [], ◌∷◌, Some, None, Ok, Err, Option, Result}
use Rattle.reader.specs.declared.records.Record.{Record}
use Rattle.reader.specs.declared.faults.FileRefusal.{FileRefusal}
use Rattle.reader.specs.declared.faults.FileFault.TheVariants.{Call}
use Rattle.reader.specs.Format.{Scan}

-- a call answers r and leaves t, where the model's answer to it is given: the next state, or a refusal, which changes nothing
abbrev pub Leaves : {M E : Type 0} → Result M E → M → Result (Unit {0}) E → M → Type 0
Leaves (Ok n) m r t = (r ≡ Ok tt) × (t ≡ n)
Leaves (Err e) m r t = (r ≡ Err e) × (t ≡ m)

-- the same, where a refused call leaves q
abbrev pub Answers : {M E : Type 0} → Result M E → M → Result (Unit {0}) E → M → Type 0
Answers (Ok n) q r t = (r ≡ Ok tt) × (t ≡ n)
Answers (Err e) q r t = (r ≡ Err e) × (t ≡ q)

-- an answer with its refusal as a number
abbrev pub numbered : {A E : Type 0} → (E → ℕ) → Result A E → Result A ℕ
numbered number (Ok a) = Ok a
numbered number (Err e) = Err (number e)

module _ {M : Type 0} (step : M → Record → Result M ℕ) where
  -- the state after the records, of which the first stands in line l; the first refusal is the answer, and else the file's own
  abbrev pub replay : List Record → Option FileRefusal → ℕ → M → Result M FileRefusal
  replay [] None l m = Ok m
  replay [] (Some e) l m = Err e
  replay (x ∷ xs) e l m = elim (step m x) [ Ok n ↦ replay xs e (l + 1) n | Err n ↦ Err (record { fault = Call n; line = l }) ]

  -- the state after a file
  abbrev pub loaded : Scan → M → Result M FileRefusal
  loaded f m = replay f.records f.ending 2 m

  -- the state after the records up to the first that is turned down
  abbrev pub reached : List Record → M → M
  reached [] m = m
  reached (x ∷ xs) m = elim (step m x) [ Ok n ↦ reached xs n | Err n ↦ m ]
