-- That the meaning of each source and layer is sound. These are proofs: nothing here has to be believed.
use Rattle.std.specs.Prelude.{◌≡◌, ℕ, ◌%◌, ◌<◌, Bool, true, false, cond, ◌&&◌, List, ℤ, pos, neg_ℤ, IfOk, Some, None, Ok, Err, Option, ◌==◌, int_le, slice_index_or, refl}
use Rattle.std.proofs.Common.{ap, ◌∙◌, arith}
use Rattle.std.proofs.lemmas.Int.{ints}
use Rattle.std.proofs.lemmas.Bool.{lt-leb, and_parts, leb-true, ne_eqb}
use Rattle.delay.specs.declared.fault.Cause.{Cause}
use Rattle.delay.specs.declared.fault.Cause.TheVariants.{OutOfRange, MarginOutOfRange}
use Rattle.delay.specs.declared.kept.Kept.{Kept}
use Rattle.delay.specs.Entries.{Entry, TickCount, Sound, is_tick_count, faulty, ranged, one_up}
use Rattle.delay.specs.Tables.{shown_at, row_entry, tabled}
use Rattle.delay.specs.Margin.{raised, with_margin, margin_means}
use Rattle.delay.specs.Memo.{recalled, memo_means, keepable}

abbrev Entered : Entry → Type 0
Entered e = IfOk e TickCount

ranged_entered : (cause : Cause) (arc level : ℕ) (z : ℤ) → Entered (ranged cause arc level z)
ranged_entered cause arc level z = at (int_le (neg_ℤ (pos 1000000)) z) (int_le z (pos 1000000)) refl refl
  where
    at : (a b : Bool) → int_le (neg_ℤ (pos 1000000)) z ≡ a → int_le z (pos 1000000) ≡ b → Entered (cond (a && b) (Ok z) (faulty cause arc level))
    at true true p q = omega (arith, ints)
    at true false p q = tt
    at false b p q = tt

row_entered : (arc : ℕ) (shown : Option ℤ) → Entered (row_entry arc shown)
row_entered arc (Some ticks) = ranged_entered OutOfRange arc 0 ticks
row_entered arc None = tt

pub tabled_sound : (shown : List (Option ℤ)) → Sound (tabled shown)
tabled_sound shown = record {
  within = λ arc. row_entered arc (shown_at shown arc);
  above = λ arc h. rw (lt-leb arc 1023 h);
}

margin_entered : (p level arc : ℕ) (e : Entry) → Entered (with_margin p level arc e)
margin_entered p level arc (Ok t) = ranged_entered MarginOutOfRange arc level (raised p t)
margin_entered p level arc (Err f) = tt

pub margin_sound : (p below : ℕ) (means : ℕ → Entry) → Sound means → Sound (margin_means p below means)
margin_sound p below means sound = record {
  within = λ arc. margin_entered p (one_up below) arc (means arc);
  above = λ arc h. ap (with_margin p (one_up below) arc) (sound.above arc h);
}

tick_count : (z : ℤ) → is_tick_count z ≡ true → TickCount z
tick_count z e =
    let p = and_parts (int_le (neg_ℤ (pos 1000000)) z) (int_le z (pos 1000000)) e in
    omega (arith, ints)

recalled_entered : (o : Option Kept) (means : ℕ → Entry) (arc : ℕ) → keepable o ≡ true → Entered (means arc) → Entered (recalled o means arc)
recalled_entered None means arc k below = below
recalled_entered (Some o) means arc k below =
    elim (o.arc == arc) as (λ b. Entered (cond b (Ok o.ticks) (means arc))) [ true ↦ tick_count o.ticks (and_parts _ _ k).1 | false ↦ below ]

recalled_above : (o : Option Kept) (means : ℕ → Entry) (arc : ℕ) → keepable o ≡ true → 1023 < arc → recalled o means arc ≡ means arc
recalled_above None means arc k h = refl
recalled_above (Some o) means arc k h =
    let small = leb-true o.arc 1023 (and_parts _ _ k).0 in
    rw (ne_eqb o.arc arc (λ e. omega arith))

pub memo_sound : (kept : List (Option Kept)) (means : ℕ → Entry) → ((k : ℕ) → keepable (slice_index_or kept k None) ≡ true) → Sound means → Sound (memo_means kept means)
memo_sound kept means ok sound = record {
  within = λ arc. recalled_entered (slice_index_or kept (arc % 32) None) means arc (ok (arc % 32)) (sound.within arc);
  above = λ arc h. recalled_above (slice_index_or kept (arc % 32) None) means arc (ok (arc % 32)) h ∙ sound.above arc h;
}
