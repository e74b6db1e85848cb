use Rattle.std.proofs.Common.{◌≡◌, ℕ, ◌+◌, ◌<◌, List, [], ◌∷◌, ◌++◌, map, length, take, set, replicate, sym, ap, ◌∙◌, ap₂, arith}
use Rattle.std.proofs.lemmas.List.{take_more_set, take_all, replicate_more, map-append}
use Rattle.measure.specs.Rows.{zeros}
use Rattle.sheet.proofs.blank.blank_rows.Goals as goal

blank_more : {M R : Type 0} (row : M → R) (xs : List M) (i : ℕ) (y : M) (z : R) → i < length xs → row y ≡ z → map row (take i xs) ≡ replicate i z → map row (take (i + 1) (set xs i y)) ≡ replicate (i + 1) z
blank_more row xs i y z h q p = ap (map row) (take_more_set xs i y h) ∙ map-append row (take i xs) (y ∷ []) ∙ ap₂ (λ a b. a ++ b ∷ []) p q ∙ replicate_more i z

pub loop-value-preserved : goal.loop-value-preserved
loop-value-preserved g c =
    let m = g.M.Measure in
    blank_more m.row c.loop-value.values c.loop-value.value-index c.zero-zero.result (zeros m.width) (omega arith) c.zero-zero.ensures c.loop-value.invariant

pub returns : goal.returns
returns g c =
    let m = g.M.Measure in
    let e : c.loop-value.value-index ≡ length c.args.values.now = omega arith in
    ap (map m.row) (sym (take_all c.loop-value.value-index c.loop-value.values (omega arith))) ∙ c.loop-value.invariant ∙ ap (λ n. replicate n (zeros m.width)) e
