use Rattle.std.proofs.Common.{◌≡◌, ℕ, get_or, replicate, ℤ, Some, None, sym, refl, ap, ◌∙◌, arith}
use Rattle.graph.specs.declared.parts.LiveArc.{LiveArc}
use Rattle.graph.specs.Block.{blank}
use Rattle.graph.specs.Slots.{slot_arc, slot_time, arcs_of, times_of}
use Rattle.graph.proofs.Slots.{none_live, blank_slots, no_arc, no_time}
use Rattle.graph.proofs.store.TimingGraph.new.Goals as goal

no_arcs : (k : ℕ) (e : LiveArc) → get_or (arcs_of (replicate 1024 no_arc)) k None ≡ Some e → ⊥
no_arcs k e h = none_live 1024 k e (ap (λ xs. get_or xs k None) (sym (blank_slots slot_arc no_arc refl 1024)) ∙ h)

no_times : (k : ℕ) (t : ℤ) → get_or (times_of (replicate 256 no_time)) k None ≡ Some t → ⊥
no_times k t h = none_live 256 k t (ap (λ xs. get_or xs k None) (sym (blank_slots slot_time no_time refl 256)) ∙ h)

pub invariant_of-result : goal.invariant_of-result
invariant_of-result c = record {
  room = omega arith;
  numbered = (λ k e h. absurd (no_arcs k e h));
  rising = (λ k e h. absurd (no_arcs k e h));
  noded = (λ k e h. absurd (no_arcs k e h));
  trimmed = (λ k e h. absurd (no_arcs k e h));
  started = (λ k t h. absurd (no_times k t h));
  ended = (λ k t h. absurd (no_times k t h));
}

pub returns : goal.returns
unfolding blank
returns c =
    let arcs = blank_slots slot_arc no_arc refl 1024 in
    let times = blank_slots slot_time no_time refl 256 in
    λ i. record { taken = 0; arcs = arcs i; starts = times i; ends = times i }
