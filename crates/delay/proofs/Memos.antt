-- What a memo keeps, and that keeping leaves its meaning.
use Rattle.std.proofs.Common.{◌≡◌, ℕ, zero, suc, ◌%◌, ◌<◌, Bool, true, false, cond, eqb, leb, List, [], ◌∷◌, length, get_or, set, replicate, ℤ, Some, None, Ok, Option, sym, refl, ap, ◌∙◌, inl, inr, arith, get_or-set_other, get_or-set_same}
use mathlib.Core.Path.{fun_ext}
use Rattle.std.proofs.lemmas.Result.{MatchResult-at_ok}
use Rattle.std.proofs.lemmas.Int.{ints}
use Rattle.std.proofs.lemmas.Bool.{cases_eq, cases_lt, eqb-true, le-leb, and_from}
use Rattle.delay.specs.declared.kept.Kept.{Kept}
use Rattle.delay.specs.Entries.{Entry, TickCount, Sound, is_tick_count}
use Rattle.delay.specs.Memo.{keepable, recalled, memo_means, no_counts, with_count}

none_at : (n k : ℕ) → get_or {A = Option Kept} (replicate n None) k None ≡ None
none_at zero k = refl
none_at (suc n) zero = refl
none_at (suc n) (suc k) = none_at n k

pub new_keepable : (kept : List (Option Kept)) → kept ≡ no_counts → (k : ℕ) → keepable (get_or kept k None) ≡ true
new_keepable kept e k = ap (λ l. keepable (get_or l k None)) e ∙ ap keepable (none_at 32 k)

pub new_means : (kept : List (Option Kept)) → kept ≡ no_counts → (means : ℕ → Entry) → memo_means kept means ≡ means
new_means kept e means = ap (λ l. memo_means l means) e ∙ fun_ext (λ arc. ap (λ o. recalled o means arc) (none_at 32 (arc % 32)))

set_keepable : (kept : List (Option Kept)) (i : ℕ) (o : Option Kept) → keepable o ≡ true → ((k : ℕ) → keepable (get_or kept k None) ≡ true) → (k : ℕ) → keepable (get_or (set kept i o) k None) ≡ true
set_keepable [] i o h ok k = refl
set_keepable (x ∷ xs) zero o h ok zero = h
set_keepable (x ∷ xs) zero o h ok (suc k) = ok (suc k)
set_keepable (x ∷ xs) (suc i) o h ok zero = ok zero
set_keepable (x ∷ xs) (suc i) o h ok (suc k) = set_keepable xs i o h (λ j. ok (suc j)) k

pub still_keepable : (kept kept' : List (Option Kept)) (arc : ℕ) (t : ℤ) → kept' ≡ with_count kept arc t → keepable (Some (record { arc = arc; ticks = t })) ≡ true → ((k : ℕ) → keepable (get_or kept k None) ≡ true) → (k : ℕ) → keepable (get_or kept' k None) ≡ true
still_keepable kept kept' arc t e h ok k = ap (λ l. keepable (get_or l k None)) e ∙ set_keepable kept (arc % 32) (Some (record { arc = arc; ticks = t })) h ok k

-- a place that kept nothing, and then the tick count that the source means, answers as before
module _ (means : ℕ → Entry) (arc : ℕ) (t : ℤ) (e : means arc ≡ Ok t) where
  abbrev kept_now : Kept
  kept_now = record { arc = arc; ticks = t }

  recalled_new : (a : ℕ) → recalled (Some kept_now) means a ≡ means a
  recalled_new a = at (eqb arc a) refl
    where
      at : (b : Bool) → eqb arc a ≡ b → cond b (Ok t) (means a) ≡ means a
      at true h = sym e ∙ ap means (eqb-true arc a h)
      at false h = refl

  pub memo_same : (kept : List (Option Kept)) → arc % 32 < length kept → get_or kept (arc % 32) None ≡ None → memo_means (set kept (arc % 32) (Some kept_now)) means ≡ memo_means kept means
  memo_same kept within empty = fun_ext at
    where
      at : (a : ℕ) → memo_means (set kept (arc % 32) (Some kept_now)) means a ≡ memo_means kept means a
      at a =
          elim (cases_eq (a % 32) (arc % 32)) [
            | inl h ↦
                ap (λ k. recalled (get_or (set kept (arc % 32) (Some kept_now)) k None) means a) h
                ∙ ap (λ o. recalled o means a) (get_or-set_same kept (arc % 32) (Some kept_now) None within)
                ∙ recalled_new a
                ∙ sym (ap (λ k. recalled (get_or kept k None) means a) h ∙ ap (λ o. recalled o means a) empty)
            | inr h ↦ ap (λ o. recalled o means a) (get_or-set_other kept (arc % 32) (a % 32) (Some kept_now) None h)
          ]

-- what a sound source answers may be kept
pub sound_keepable : (means : ℕ → Entry) → Sound means → (arc : ℕ) (t : ℤ) → means arc ≡ Ok t → keepable (Some (record { arc = arc; ticks = t })) ≡ true
sound_keepable means sound arc t e =
    let h : TickCount t = MatchResult-at_ok TickCount (λ _. Unit {0}) t e (sound.within arc) in
    elim (cases_lt 1023 arc) [
      | inl over ↦ let f = sound.above arc over in let z : ◌≡◌ {A = ℕ} 0 1 = cc in absurd (omega arith)
      | inr small ↦ and_from (leb arc 1023) (is_tick_count t) (le-leb arc 1023 small) (grind (arith, ints))
    ]
