-- Both walks in one list.
use Rattle.std.proofs.Common.{◌≡◌, ℕ, ◌+◌, ◌-◌, ◌≤◌, leb, List, ◌++◌, length, drop, reverse, Some, Ok, Option, sym, ap, ◌∙◌, ap₂, arith}
use Rattle.std.proofs.lemmas.List.{append_assoc, length-append, length-reverse, drop-drop, drop-replicate}
use Rattle.std.proofs.lemmas.Bool.{le-leb, cond-true}
use Rattle.measure.specs.Rows.{on_some}
use Rattle.sheet.specs.Traces.{TraceOutcome, no_arcs, untraced, joined_at}

module _ (list : List ℕ) (blank : list ≡ no_arcs (length list)) where
  -- what no walk wrote is the mark for none
  left_blank : (bs fs : List ℕ) → drop (length fs) (drop (length bs) list) ≡ no_arcs (length list - length (reverse bs ++ fs))
  left_blank bs fs =
      let n = length bs + length fs in
      let count : length list - n ≡ length list - length (reverse bs ++ fs) = omega (arith, length-append (reverse bs) fs, length-reverse bs) in
      drop-drop (length fs) (length bs) list ∙ ap (drop n) blank ∙ drop-replicate n (length list) 1024 ∙ ap no_arcs count

  -- the path is the walk back turned round, and the walk fore
  path_joined : (bs fs : List ℕ) → length bs + length fs ≤ length list
      → reverse bs ++ (fs ++ drop (length fs) (drop (length bs) list)) ≡ (joined_at (length list) (Some (reverse bs)) (Some fs)).list
  path_joined bs fs h =
      let path = reverse bs ++ fs in
      let rest = no_arcs (length list - length path) in
      let whole : TraceOutcome = record { answer = Ok (Some (length path)); list = path ++ rest } in
      let fits : length path ≤ length list = omega (arith, length-append (reverse bs) fs, length-reverse bs) in
      ap (λ r. reverse bs ++ (fs ++ r)) (left_blank bs fs)
      ∙ sym (append_assoc (reverse bs) fs rest)
      ∙ ap (λ (z : TraceOutcome). z.list) (sym (cond-true (leb (length path) (length list)) whole (untraced (length list) 17) (le-leb (length path) (length list) fits)))

  pub walks_joined : (o p : Option (List ℕ)) (bs fs : List ℕ) → o ≡ Some bs → p ≡ Some fs → length bs + length fs ≤ length list
      → reverse bs ++ (fs ++ drop (length fs) (drop (length bs) list)) ≡ (joined_at (length list) (on_some reverse o) p).list
  walks_joined o p bs fs e f h = path_joined bs fs h ∙ ap₂ (λ x y. (joined_at (length list) (on_some reverse x) y).list) (sym e) (sym f)
