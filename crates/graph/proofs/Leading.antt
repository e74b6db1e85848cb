-- The computed pair is the pair by paths.
use Rattle.std.proofs.Common.{◌≡◌, ℕ, zero, suc, ◌+◌, ◌<◌, ◌≤◌, Bool, true, false, cond, not, ◌||◌, eqb, List, [], ◌∷◌, map, length, get_or, ℤ, nat_abs, Some, None, Ok, Err, Decides, MatchBool, Option, Result, sym, refl, ap, ◌∙◌, ⊎_elim, arith}
use Rattle.std.specs.List.{list_any}
use Rattle.std.proofs.lemmas.List.{length-map, ext_get_or, get_or-map}
use Rattle.std.proofs.lemmas.Bool.{and_parts, and_from, both_ways, cases_Bool, eqb-true, eq-eqb, or_cases, or_right}
use Rattle.std.proofs.lemmas.Bool.Decides.{same_from_decides, when_true, when_false}
use Rattle.graph.specs.declared.parts.LiveArc.{LiveArc}
use Rattle.graph.specs.Kept.{Live, Rising}
use Rattle.graph.specs.Ranges.{is_node, is_set}
use Rattle.graph.specs.Block.{Block, Outcome, arc_at, refused, accepted}
use Rattle.graph.specs.Paths.{Walks, Reach, Between}
use Rattle.graph.specs.declared.parts.ArcEnd.{ArcEnd}
use Rattle.graph.specs.declared.parts.ArcEnd.TheVariants.{Tail, Head}
use Rattle.graph.specs.Index.{node_at, key_of}
use Rattle.graph.specs.Sets.{in_set, set_again, with_set}
use Rattle.graph.specs.Pair.{Marked, PairedIn, Paired}
use Rattle.graph.specs.Computed.{leaves_for, leads, lies_between, paired_arc, pair_in, with_pair}
use Rattle.graph.proofs.Slots.{slot_at, none_some}
use Rattle.graph.proofs.Marks.{three_true, in_bounds}

-- some arc of the list passes a test that no missing arc passes
any_some : (p : Option LiveArc → Bool) → p None ≡ false → (os : List (Option LiveArc)) → list_any p os ≡ true
    → (n : ℕ) × ((e : LiveArc) × Live os n e × (p (Some e) ≡ true))
any_some p z [] h = absurd (both_ways false refl h)
any_some p z (o ∷ os) h = ⊎_elim (here o) (λ q. let r = any_some p z os q in (suc r.0, r.1)) (or_cases (p o) (list_any p os) h)
  where
    here : (o : Option LiveArc) → p o ≡ true → (n : ℕ) × ((e : LiveArc) × Live (o ∷ os) n e × (p (Some e) ≡ true))
    here None q = absurd (both_ways _ z q)
    here (Some e) q = (0, (e, refl, q))

any_at : (p : Option LiveArc → Bool) (os : List (Option LiveArc)) (n : ℕ) (e : LiveArc) → Live os n e → p (Some e) ≡ true → list_any p os ≡ true
any_at p [] n e l h = absurd (none_some e l)
any_at p (o ∷ os) zero e l h = ap (λ x. p x || list_any p os) l ∙ ap (λ t. t || list_any p os) h
any_at p (o ∷ os) (suc n) e l h = or_right (p o) (list_any p os) (any_at p os n e l h)

module _ (arcs : List (Option LiveArc)) where
  leads_sound : (k u v : ℕ) → leads arcs k u v ≡ true → Reach arcs u v
  leads_sound zero u v h = ([], eqb-true u v h)
  leads_sound (suc k) u v h = ⊎_elim
      (λ q. ([], eqb-true u v q))
      (λ q.
      let x = any_some (leaves_for u (λ w. leads arcs k w v)) refl arcs q in
      let e = x.1.0 in
      let t = and_parts (eqb e.from u) (leads arcs k e.to v) x.1.2 in
      let r = leads_sound k e.to v t.1 in
      (x.0 ∷ r.0, (e, x.1.1, eqb-true e.from u t.0, r.1)))
      (or_cases (eqb u v) (list_any (leaves_for u (λ w. leads arcs k w v)) arcs) h)

  leads_all : (k u v : ℕ) (ns : List ℕ) → length ns ≤ k → Walks arcs u ns v → leads arcs k u v ≡ true
  leads_all zero u v [] h w = eq-eqb u v w
  leads_all (suc k) u v [] h w = ap (λ t. t || list_any (leaves_for u (λ w. leads arcs k w v)) arcs) (eq-eqb u v w)
  leads_all zero u v (n ∷ ns) h w = absurd (omega arith)
  leads_all (suc k) u v (n ∷ ns) h w =
      or_right (eqb u v) _ (any_at (leaves_for u (λ x. leads arcs k x v)) arcs n w.0 w.1
      (and_from _ _ (eq-eqb w.0.from u w.2) (leads_all k w.0.to v ns (omega arith) w.3)))

  -- a path climbs at least one node with each arc
  climbs : Rising arcs → (u : ℕ) (ns : List ℕ) (v : ℕ) → Walks arcs u ns v → u + length ns ≤ v
  climbs up u [] v w = omega (arith, w)
  climbs up u (n ∷ ns) v w = omega (arith, up n w.0 w.1, w.2, climbs up w.0.to ns v w.3)

  lies_sound : (u v : ℕ) (o : Option LiveArc) → lies_between arcs u v o ≡ true → (e : LiveArc) × (o ≡ Some e) × Reach arcs u e.from × Reach arcs e.to v
  unfolding lies_between
  lies_sound u v None h = absurd (both_ways false refl h)
  lies_sound u v (Some e) h =
      let p = and_parts (leads arcs 255 u e.from) (leads arcs 255 e.to v) h in (e, refl, leads_sound 255 u e.from p.0, leads_sound 255 e.to v p.1)

  lies_some : (u v : ℕ) (e : LiveArc) → leads arcs 255 u e.from ≡ true → leads arcs 255 e.to v ≡ true → lies_between arcs u v (Some e) ≡ true
  unfolding lies_between
  lies_some u v e p q = and_from (leads arcs 255 u e.from) (leads arcs 255 e.to v) p q

  lies_none : (u v : ℕ) → lies_between arcs u v None ≡ false
  unfolding lies_between
  lies_none u v = refl

  lies_all : Rising arcs → (u v n : ℕ) → v < 256 → Between arcs u v n → lies_between arcs u v (get_or arcs n None) ≡ true
  lies_all up u v n in' h =
      let e = h.0 in
      let front = climbs up u h.2.0 e.from h.2.1 in
      let back = climbs up e.to h.3.0 v h.3.1 in
      let arc = up n e h.1 in
      ap (lies_between arcs u v) h.1
      ∙ lies_some u v e (leads_all 255 u e.from h.2.0 (omega arith) h.2.1) (leads_all 255 e.to v h.3.0 (omega arith) h.3.1)

  decides_lies : Rising arcs → (u v n : ℕ) → v < 256 → Decides (lies_between arcs u v (get_or arcs n None)) (Between arcs u v n)
  decides_lies up u v n in' = ((λ h. lies_sound u v (get_or arcs n None) h), (λ h. lies_all up u v n in' h))

cond_none : (t : Bool) → cond {A = Option LiveArc} t None None ≡ None
cond_none true = refl
cond_none false = refl

pair_in_holds : (b : Block) (s u v : ℕ) → Rising b.arcs → v < 256 → PairedIn b s u v (pair_in b s u v).answer (pair_in b s u v).after
pair_in_holds b s u v up in' = go (list_any (lies_between b.arcs u v) b.arcs) refl
  where
    f : Option LiveArc → Option LiveArc
    f = paired_arc b.arcs s u v

    new : Block
    new = record { taken = b.taken; arcs = map f b.arcs; starts = b.starts; ends = b.ends }

    some : list_any (lies_between b.arcs u v) b.arcs ≡ true → (n : ℕ) × Between b.arcs u v n
    some h =
        let x = any_some (lies_between b.arcs u v) (lies_none b.arcs u v) b.arcs h in
        (x.0, lies_sound b.arcs u v (get_or b.arcs x.0 None) (ap (lies_between b.arcs u v) x.1.1 ∙ x.1.2))

    none : list_any (lies_between b.arcs u v) b.arcs ≡ false → (n : ℕ) → Between b.arcs u v n → ⊥
    none h n k = both_ways _ h (any_at (lies_between b.arcs u v) b.arcs n k.0 k.1 (ap (lies_between b.arcs u v) (sym k.1) ∙ lies_all b.arcs up u v n in' k))

    done : Outcome (Unit {0})
    done = accepted tt new

    go : (t : Bool) → list_any (lies_between b.arcs u v) b.arcs ≡ t
        → PairedIn b s u v (cond t done (refused b 11)).answer (cond t done (refused b 11)).after
    go true h = (
      some h,
      record {
        taken = refl;
        numbers = length-map b.arcs f;
        starts = refl;
        ends = refl;
        arcs = λ n. (lies_between b.arcs u v (get_or b.arcs n None), decides_lies b.arcs up u v n in', slot_at f None (cond_none (lies_between b.arcs u v None)) b.arcs n);
      },
    )
    go false h = (refl, none h, refl)

pub with_pair_holds : (b : Block) (s u v : ℤ) → Rising b.arcs → Paired b s u v (with_pair b s u v).answer (with_pair b s u v).after
with_pair_holds b s u v up = go (not (is_set s) || not (is_node u) || not (is_node v)) refl
  where
    go : (t : Bool) → (not (is_set s) || not (is_node u) || not (is_node v)) ≡ t
        → MatchBool t (((cond t (refused b 6) (pair_in b (nat_abs s) (nat_abs u) (nat_abs v))).answer ≡ Err 6) × ((cond t (refused b 6) (pair_in b (nat_abs s) (nat_abs u) (nat_abs v))).after ≡ b))
        (PairedIn b (nat_abs s) (nat_abs u) (nat_abs v) (cond t (refused b 6) (pair_in b (nat_abs s) (nat_abs u) (nat_abs v))).answer (cond t (refused b 6) (pair_in b (nat_abs s) (nat_abs u) (nat_abs v))).after)
    go true h = (refl, refl)
    go false h = pair_in_holds b (nat_abs s) (nat_abs u) (nat_abs v) up (let l = (in_bounds v 255 (three_true (is_set s) (is_node u) (is_node v) h).2).0 in omega arith)

-- a pair's answer and the block after it are settled
block_same : (b b' : Block) → b.taken ≡ b'.taken → b.arcs ≡ b'.arcs → b.starts ≡ b'.starts → b.ends ≡ b'.ends → b ≡ b'
block_same b b' p q r s = λ i. record { taken = p i; arcs = q i; starts = r i; ends = s i }

marked_same : (b : Block) (s u v : ℕ) (m m' : Block) → Marked b s u v m → Marked b s u v m' → m ≡ m'
marked_same b s u v m m' p q =
    block_same m m' (p.taken ∙ sym q.taken)
    (ext_get_or None m.arcs m'.arcs (p.numbers ∙ sym q.numbers) (λ n _.
    let x = p.arcs n in let y = q.arcs n in
    x.2 ∙ ap (λ t. cond t (in_set s (arc_at b n)) (arc_at b n)) (same_from_decides x.0 y.0 x.1 y.1) ∙ sym y.2))
    (p.starts ∙ sym q.starts) (p.ends ∙ sym q.ends)

in_same : (b : Block) (s u v : ℕ) (a a' : Result Unit ℕ) (m m' : Block) → PairedIn b s u v a m → PairedIn b s u v a' m' → (a ≡ a') × (m ≡ m')
in_same b s u v (Ok _) (Ok _) m m' p q = (refl, marked_same b s u v m m' p.1 q.1)
in_same b s u v (Ok _) (Err e) m m' p q = absurd (q.1 p.0.0 p.0.1)
in_same b s u v (Err e) (Ok _) m m' p q = absurd (p.1 q.0.0 q.0.1)
in_same b s u v (Err e) (Err f) m m' p q = (ap Err (p.0 ∙ sym q.0), p.2 ∙ sym q.2)

pub paired_same : (b : Block) (s u v : ℤ) (a a' : Result Unit ℕ) (m m' : Block) → Paired b s u v a m → Paired b s u v a' m' → (a ≡ a') × (m ≡ m')
paired_same b s u v a a' m m' p q =
    let out = not (is_set s) || not (is_node u) || not (is_node v) in
    let Out = (a ≡ Err 6) × (m ≡ b) in
    let Out' = (a' ≡ Err 6) × (m' ≡ b) in
    let In = PairedIn b (nat_abs s) (nat_abs u) (nat_abs v) a m in
    let In' = PairedIn b (nat_abs s) (nat_abs u) (nat_abs v) a' m' in
    ⊎_elim
    (λ (h : out ≡ true). let x = when_true Out In h p in let y = when_true Out' In' h q in (x.0 ∙ sym y.0, x.1 ∙ sym y.1))
    (λ (h : out ≡ false). in_same b (nat_abs s) (nat_abs u) (nat_abs v) a a' m m' (when_false Out In h p) (when_false Out' In' h q))
    (cases_Bool out)

-- a refused pair changes nothing
pub paired_refused : (b : Block) (s u v : ℤ) (n : ℕ) (m : Block) → Paired b s u v (Err n) m → m ≡ b
paired_refused b s u v n m p =
    let out = not (is_set s) || not (is_node u) || not (is_node v) in
    let Out = (◌≡◌ {A = Result Unit ℕ} (Err n) (Err 6)) × (m ≡ b) in
    let In = PairedIn b (nat_abs s) (nat_abs u) (nat_abs v) (Err n) m in
    ⊎_elim (λ (h : out ≡ true). (when_true Out In h p).1) (λ (h : out ≡ false). (when_false Out In h p).2) (cases_Bool out)

-- a pair moves no arc
pub paired_keys : (end : ArcEnd) (b : Block) (s u v : ℤ) (r : Result Unit ℕ) (m : Block) → Paired b s u v r m → map (key_of end) m.arcs ≡ map (key_of end) b.arcs
paired_keys end b s u v r m p =
    let out = not (is_set s) || not (is_node u) || not (is_node v) in
    let Out = (r ≡ Err 6) × (m ≡ b) in
    let In = PairedIn b (nat_abs s) (nat_abs u) (nat_abs v) r m in
    ⊎_elim (λ (h : out ≡ true). ap (λ x. map (key_of end) x.arcs) (when_true Out In h p).1) (λ (h : out ≡ false). inside (nat_abs s) (nat_abs u) (nat_abs v) r (when_false Out In h p)) (cases_Bool out)
  where
    node_same : (s : ℕ) (end : ArcEnd) (x : LiveArc) → node_at end (set_again x (with_set x.sets s)) ≡ node_at end x
    node_same s Tail x = refl
    node_same s Head x = refl

    key_same : (s : ℕ) (t : Bool) (o : Option LiveArc) → key_of end (cond t (in_set s o) o) ≡ key_of end o
    key_same s false o = refl
    key_same s true None = refl
    key_same s true (Some x) = node_same s end x

    inside : (s u v : ℕ) (r : Result Unit ℕ) → PairedIn b s u v r m → map (key_of end) m.arcs ≡ map (key_of end) b.arcs
    inside s u v (Err e) q = ap (λ x. map (key_of end) x.arcs) q.2
    inside s u v (Ok _) q =
        ext_get_or 256 (map (key_of end) m.arcs) (map (key_of end) b.arcs) (length-map m.arcs (key_of end) ∙ q.1.numbers ∙ sym (length-map b.arcs (key_of end)))
        (λ n h.
        let x = q.1.arcs n in
        let hm : n < length m.arcs = omega (arith, length-map m.arcs (key_of end)) in
        let hb : n < length b.arcs = omega (arith, q.1.numbers) in
        get_or-map (key_of end) m.arcs n None 256 hm ∙ ap (key_of end) x.2 ∙ key_same s x.0 (arc_at b n) ∙ sym (get_or-map (key_of end) b.arcs n None 256 hb))
