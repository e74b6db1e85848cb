-- A trim that is set and put back leaves the block as it was.
use Rattle.std.proofs.Common.{◌≡◌, Bool, true, false, cond, not, ◌||◌, List, set, ℤ, pos, nat_abs, Some, None, Option, sym, refl, ap, ◌∙◌}
use Rattle.std.proofs.lemmas.List.{set-set, set-get_or}
use Rattle.std.specs.Option.{option_map}
use Rattle.graph.specs.declared.parts.LiveArc.{LiveArc}
use Rattle.graph.specs.declared.parts.Refusal.{Refusal}
use Rattle.graph.specs.Ranges.{is_arc, is_ticks}
use Rattle.graph.specs.Refusals.{refusal_number}
use Rattle.graph.specs.Kept.{TrimsInRange}
use Rattle.graph.specs.Block.{Block, Outcome, refused, trimmed, re_trimmed, put_arc, arc_at, with_trim}
use Rattle.graph.specs.Trials.{put_back, trim_in, earlier_of, refusal_in, Opened}
use Rattle.graph.proofs.Slots.{set_at}

abbrev by : Block → ℤ → ℤ → Bool → Bool → Option LiveArc → Outcome Unit
by b n t p q o = cond (not p || not q) (refused b 6) (trimmed b (nat_abs n) t o)

back_by : (b : Block) (n t : ℤ) (p q : Bool) (o : Option LiveArc) → is_arc n ≡ p → arc_at b (nat_abs n) ≡ o
    → ((e : LiveArc) → arc_at b (nat_abs n) ≡ Some e → is_ticks e.trim ≡ true)
    → put_back (by b n t p q o).after n (cond p (trim_in o) (pos 0)) (refusal_in (by b n t p q o).answer) ≡ b
back_by b n t false q o h k r = refl
back_by b n t true false o h k r = refl
back_by b n t true true None h k r = refl
back_by b n t true true (Some e) h k r =
    let b' : Block = put_arc b (nat_abs n) (Some (re_trimmed e t)) in
    let now : arc_at b' (nat_abs n) ≡ Some (re_trimmed e t) = set_at b.arcs (nat_abs n) e (re_trimmed e t) k in
    ap (λ x. (by b' n e.trim x (is_ticks e.trim) (arc_at b' (nat_abs n))).after) h
    ∙ ap (λ x. (by b' n e.trim true x (arc_at b' (nat_abs n))).after) (r e k)
    ∙ ap (λ o. (by b' n e.trim true true o).after) now
    ∙ ap (λ (xs : List (Option LiveArc)). record { taken = b.taken; arcs = xs; starts = b.starts; ends = b.ends })
    (set-set b.arcs (nat_abs n) (Some (re_trimmed e t)) (Some e) ∙ ap (set b.arcs (nat_abs n)) (sym k) ∙ set-get_or b.arcs (nat_abs n) None)

pub back : (b : Block) (n t : ℤ) → TrimsInRange b.arcs
    → put_back (with_trim b n t).after n (earlier_of b n) (refusal_in (with_trim b n t).answer) ≡ b
back b n t r = back_by b n t (is_arc n) (is_ticks t) (arc_at b (nat_abs n)) refl refl (r (nat_abs n))

by_number : (b : Block) (n t : ℤ) (o : Option Refusal) → put_back b n t o ≡ put_back b n t (option_map refusal_number o)
by_number b n t None = refl
by_number b n t (Some e) = refl

-- the end of a trial gives the block before it
pub ended_back : (b b' : Block) (n t arc earlier : ℤ) (refusal : Option Refusal) → Opened b n t b' arc earlier refusal → TrimsInRange b.arcs
    → put_back b' arc earlier refusal ≡ b
ended_back b b' n t arc earlier refusal o r = by_number b' arc earlier refusal ∙ rw (o.set, o.same_arc, o.kept, o.shown) (back b n t r)
