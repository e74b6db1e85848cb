-- The slacks of lines, one after the other.
use Rattle.std.proofs.Common.{◌≡◌, ℕ, zero, suc, ◌+◌, ◌-◌, ◌<◌, ◌≤◌, Bool, true, false, cond, List, [], ◌∷◌, ◌++◌, length, get_or, take, drop, Some, None, Option, sym, refl, ap, ◌∙◌, ap₂, arith, take-add, option_to_list}
use Rattle.std.proofs.lemmas.List.{append_assoc, drop-drop, length-take-le, length-drop}
use Rattle.paths.specs.Rows.{Rows}
use Rattle.paths.specs.Sheets as sheets
use Rattle.paths.specs.Sheets.{slack_of, first_least}
use Rattle.sheet.specs.declared.line.Line.{Line}
use Rattle.graph.specs.Sorting.{segment}
use Rattle.sheet.specs.Lines.{past_line}
use Rattle.timing.specs.Requiring.{pick}
use Rattle.timing.specs.Slacks.{timed_of, timeds, slacks_of}
use Rattle.timing.proofs.Requiring.{pick_more}

module _ {M R : Type 0} (row : M → R) where
  pub timeds_at : (i : ℕ) (ls : List Line) (xs ys : List M) (x y : M) → i < length ls → length xs ≡ length ls → length ys ≡ length ls → x ≡ get_or xs i x → y ≡ get_or ys i y
      → segment i 1 (timeds row ls xs ys) ≡ timed_of row (get_or ls i past_line) x y ∷ []
  timeds_at i [] xs ys x y h a b p q = absurd (omega arith)
  timeds_at i (l ∷ ls) [] ys x y h a b p q = absurd (omega arith)
  timeds_at i (l ∷ ls) (u ∷ xs) [] x y h a b p q = absurd (omega arith)
  timeds_at zero (l ∷ ls) (u ∷ xs) (w ∷ ys) x y h a b p q = ap₂ (λ c d. timed_of row l c d ∷ []) (sym p) (sym q)
  timeds_at (suc i) (l ∷ ls) (u ∷ xs) (w ∷ ys) x y h a b p q = timeds_at i ls xs ys x y (omega arith) (omega arith) (omega arith) p q

  pub length_timeds : (ls : List Line) (xs ys : List M) → length xs ≡ length ls → length ys ≡ length ls → length (timeds row ls xs ys) ≡ length ls
  length_timeds [] xs ys a b = refl
  length_timeds (l ∷ ls) [] ys a b = absurd (omega arith)
  length_timeds (l ∷ ls) (u ∷ xs) [] a b = absurd (omega arith)
  length_timeds (l ∷ ls) (u ∷ xs) (w ∷ ys) a b = ap suc (length_timeds ls xs ys (omega arith) (omega arith))

module _ {R : Type 0} (m : Rows R) where
  slacks_append : (k : ℕ) (xs ys : List (sheets.Timed R)) → slacks_of m k (xs ++ ys) ≡ slacks_of m k xs ++ slacks_of m (k + length xs) ys
  slacks_append k [] ys = let z : k ≡ k + 0 = omega arith in ap (λ n. slacks_of m n ys) z
  slacks_append k (x ∷ xs) ys =
      let z : suc k + length xs ≡ k + suc (length xs) = omega arith in
      ap (λ l. slack_of m k x x.required ++ l) (slacks_append (suc k) xs ys ∙ ap (λ n. slacks_of m (suc k) xs ++ slacks_of m n ys) z)
      ∙ sym (append_assoc (slack_of m k x x.required) (slacks_of m (suc k) xs) (slacks_of m (k + suc (length xs)) ys))

  pub slacks_more : (a i : ℕ) (ts : List (sheets.Timed R)) (o : Option (sheets.Told R)) → a ≤ i → i ≤ length ts → option_to_list o ≡ slacks_of m i (segment i 1 ts)
      → pick m (first_least m (slacks_of m a (segment a (i - a) ts))) o ≡ first_least m (slacks_of m a (segment a ((i + 1) - a) ts))
  slacks_more a i ts o p q e =
      let z : (i - a) + 1 ≡ (i + 1) - a = omega arith in
      let y : a + (i - a) ≡ i = omega arith in
      let l : length (segment a (i - a) ts) ≡ i - a = length-take-le (i - a) (drop a ts) (omega (arith, length-drop a ts)) in
      pick_more m (slacks_of m a (segment a (i - a) ts)) o
      ∙ ap (λ c. first_least m (slacks_of m a (segment a (i - a) ts) ++ c)) (e ∙ ap (λ n. slacks_of m n (segment i 1 ts)) (sym (ap (λ n. a + n) l ∙ y)))
      ∙ ap (first_least m) (sym (slacks_append a (segment a (i - a) ts) (segment i 1 ts)))
      ∙ ap (λ c. first_least m (slacks_of m a c)) (ap (λ n. segment a (i - a) ts ++ segment n 1 ts) (sym y) ∙ ap (λ c. take (i - a) (drop a ts) ++ take 1 c) (sym (drop-drop (i - a) a ts)) ∙ sym (take-add (i - a) 1 (drop a ts)))
      ∙ ap (λ n. first_least m (slacks_of m a (segment a n ts))) z

module _ {M R : Type 0} (row : M → R) (m : Rows R) where
  -- by whether the line has a required time
  pub slack_flag : (k : ℕ) (l : Line) (x y : M) (t : Bool) → l.required ≡ t
      → slacks_of m k (timed_of row l x y ∷ []) ≡ cond t (record { row = m.plus (row y) (m.opposite (row x)); arc = 1024; line = k } ∷ []) []
  slack_flag k l x y true e = ap (λ c. slack_of m k (timed_of row l x y) (cond c (Some (record { row = row y; arc = l.fore_arc; line = l.fore_line })) None) ++ []) e
  slack_flag k l x y false e = ap (λ c. slack_of m k (timed_of row l x y) (cond c (Some (record { row = row y; arc = l.fore_arc; line = l.fore_line })) None) ++ []) e
