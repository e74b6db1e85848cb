-- After an accepted file the last line for an arc stands.
use Rattle.std.proofs.Common.{◌≡◌, ℕ, ◌+◌, ◌<◌, Bool, true, false, cond, eqb, List, [], ◌∷◌, length, get_or, set, ℤ, pos, negsuc, Some, None, Ok, Err, Option, Result, sym, refl, ap, ◌∙◌, subst, inl, inr, arith, length-set, get_or-set_other, get_or-set_same}
use Rattle.std.specs.Result.{result_and}
use Rattle.std.proofs.lemmas.Bool.{cases_eq, eqb-true}
use Rattle.reader.specs.declared.records.Kind.TheVariants.{Delays}
use Rattle.reader.specs.declared.records.Record.{Record}
use Rattle.reader.specs.declared.records.Record.TheVariants.{Arc, Delay, Bound, Pair}
use Rattle.reader.specs.declared.faults.FileRefusal.{FileRefusal}
use Rattle.reader.specs.declared.faults.FileFault.TheVariants.{Call}
use Rattle.reader.specs.Format.{scanned}
use Rattle.reader.specs.Loading.{Leaves, replay, loaded}
use Rattle.delay.specs.declared.annotated.AnnotatedRow.{AnnotatedRow}
use Rattle.delay.specs.DelayFiles.{is_delay, annotation, take_line, length_answer, Loads, Stands, LastLineStands, blank}

refused : {M E : Type 0} {e : E} {m : M} → Err e ≡ Ok m → ⊥
refused {e} {m} h = let z : ◌≡◌ {A = ℕ} 0 1 = cc in omega arith

module _ (k n : ℕ) (ticks : ℤ) (lines : List Record) (s : List AnnotatedRow) (within : k < length s) where
  abbrev line : Record
  line = Delay (pos n) ticks

  abbrev after_line : List AnnotatedRow
  after_line = set s n (annotation ticks)

  -- a line before those that stand
  one_more : (new : AnnotatedRow) → Stands k lines (get_or after_line k blank) new → Stands k (line ∷ lines) (get_or s k blank) new
  one_more new (inl p) = inl (line ∷ p.0, p.1, p.2, ap (λ rest. line ∷ rest) p.3, p.4, p.5)
  one_more new (inr p) =
      elim (cases_eq k n) [
        | inl same ↦
            let here : n < length s = omega arith in
            inl ([], ticks, lines, ap (λ i. Delay (pos i) ticks ∷ lines) (sym same), p.0, p.1 ∙ ap (λ i. get_or after_line i blank) same ∙ get_or-set_same s n (annotation ticks) blank here)
        | inr other ↦ inr ((λ names. let e : k ≡ n = cc in other e, p.0), p.1 ∙ get_or-set_other s n k (annotation ticks) blank other)
      ]

  line_stands : (ending : Option FileRefusal) (l : ℕ) (t : List AnnotatedRow) (taken : Bool) → (replay take_line lines ending (l + 1) after_line ≡ Ok t → Stands k lines (get_or after_line k blank) (get_or t k blank)) → ◌≡◌ {A = Result (List AnnotatedRow) FileRefusal} (elim (cond {A = Result (List AnnotatedRow) ℕ} taken (Ok after_line) (Err 6)) [ Ok m ↦ replay take_line lines ending (l + 1) m | Err m ↦ Err (record { fault = Call m; line = l }) ]) (Ok t) → Stands k (line ∷ lines) (get_or s k blank) (get_or t k blank)
  line_stands ending l t true rest e = one_more (get_or t k blank) (rest e)
  line_stands ending l t false rest e = absurd (refused e)

lines_stand_lem : (k : ℕ) (lines : List Record) (ending : Option FileRefusal) (l : ℕ) (s t : List AnnotatedRow) → k < length s → replay take_line lines ending l s ≡ Ok t → Stands k lines (get_or s k blank) (get_or t k blank)
lines_stand_lem k [] None l s t within e = let same : t ≡ s = cc in inr (tt, ap (λ x. get_or x k blank) same)
lines_stand_lem k [] (Some x) l s t within e = absurd (refused e)
lines_stand_lem k (Delay (pos n) ticks ∷ lines) ending l s t within e =
    let still : k < length (set s n (annotation ticks)) = simp length-set within in
    line_stands k n ticks lines s within ending l t (is_delay (pos n) ticks) (lines_stand_lem k lines ending (l + 1) (set s n (annotation ticks)) t still) e
lines_stand_lem k (Delay (negsuc n) ticks ∷ lines) ending l s t within e = absurd (refused e)
lines_stand_lem k (Arc a b ∷ lines) ending l s t within e = absurd (refused e)
lines_stand_lem k (Bound a b c ∷ lines) ending l s t within e = absurd (refused e)
lines_stand_lem k (Pair a b c ∷ lines) ending l s t within e = absurd (refused e)

module _ (bytes : List ℕ) (s t : List AnnotatedRow) (r : Result (Unit {0}) FileRefusal) where
  abbrev after_lines : Result (List AnnotatedRow) FileRefusal
  after_lines = loaded take_line (scanned Delays bytes) s

  pub loads_by : (x : Result (Unit {0}) FileRefusal) → x ≡ length_answer (length s) → Leaves (result_and x after_lines) s r t → Loads bytes s r t
  loads_by x e p = subst (λ y. Leaves (result_and y after_lines) s r t) e p

  pub loads_stand : Loads bytes s r t → LastLineStands bytes s r t
  loads_stand p ok k small = at (eqb (length s) 1024) refl p
    where
      taken : length s ≡ 1024 → (x : Result (List AnnotatedRow) FileRefusal) → after_lines ≡ x → Leaves x s r t → Stands k (scanned Delays bytes).records (get_or s k blank) (get_or t k blank)
      taken long (Ok m) e q = lines_stand_lem k (scanned Delays bytes).records (scanned Delays bytes).ending 2 s t (omega arith) (e ∙ ap Ok (sym q.1))
      taken long (Err x) e q = absurd (refused (sym q.0 ∙ ok))

      at : (b : Bool) → eqb (length s) 1024 ≡ b → Leaves (result_and {T = Unit {0}} (cond b (Ok tt) (Err (record { fault = Call 14; line = 0 }))) after_lines) s r t → Stands k (scanned Delays bytes).records (get_or s k blank) (get_or t k blank)
      at true h q = taken (eqb-true (length s) 1024 h) after_lines refl q
      at false h q = absurd (refused (sym q.0 ∙ ok))
