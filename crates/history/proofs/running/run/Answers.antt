use Rattle.std.proofs.Common.{◌≡◌, ℕ, ◌-◌, ◌≤◌, false, List, map, length, take, drop, sym, ap, ◌∙◌, subst, rules, arith}
use borrow.Rule.Slice.PartMut.{same_len_mid}
use Rattle.std.proofs.lemmas.List.{take_rest, length-drop, drop-drop}
use Rattle.graph.specs.Block.{block_of}
use Rattle.ledger.proofs.Histories.{runs_on}
use Rattle.sheet.specs.Lent.{tables_in}
use Rattle.history.specs.Answers.{answer_of}
use Rattle.timing.specs.Terms.{terms_of}
use Rattle.history.specs.Steps.{at_rest, Goes, Runs, nested}
use Rattle.history.proofs.Agreeing.{histories_agree}
use Rattle.history.proofs.running.run.Goals as goal

left_length : {X : Type 0} (xs : List X) (i : ℕ) → length (take (length xs - i) (drop i xs)) ≡ length xs - i
left_length xs i = ap length (take_rest xs i) ∙ length-drop i xs

pub returns-then-replies-steps-clause-agree : goal.returns-then-replies-steps-clause-agree
returns-then-replies-steps-clause-agree g c = histories_agree _ _ _ _ g.met.M.Measure.laws

pub returns-then-not-nests-clause-agree : goal.returns-then-not-nests-clause-agree
returns-then-not-nests-clause-agree g c = histories_agree _ _ _ _ g.met.M.Measure.laws

pub loop-i-preserved : goal.loop-i-preserved
loop-i-preserved g c =
    let m = g.M.Measure in
    let k = terms_of m in
    let inv = c.loop-i.invariant in
    let i = c.loop-i.i in
    let r = c.advance-i.result in
    let steps = c.args.steps.now in
    let rest = take_rest steps i in
    let here = at_rest (block_of c.loop-i.graph) (tables_in m.row c.loop-i.tables) c.loop-i.list in
    let there = at_rest (block_of c.advance-i.new.graph) (tables_in m.row c.advance-i.new.tables) c.advance-i.new.list in
    let ran = subst (λ f. Runs (k f) here (take r (take (length steps - i) (drop i steps))) (map answer_of (take r c.advance-i.new.replies)) there) inv.3 c.advance-i.ensures.ran in
    let fit : r ≤ length steps - i = omega (arith, c.advance-i.ensures.within, left_length steps i) in
    let wide : length c.advance-i.new.replies ≡ length steps - i = c.advance-i.auto.replies ∙ left_length c.loop-i.replies i ∙ ap (λ n. n - i) inv.2 in (
      omega (arith, fit, inv.0),
      ap (λ xs. nested xs false) (sym (drop-drop r i steps) ∙ ap (drop r) (sym rest)) ∙ c.advance-i.ensures.nests,
      same_len_mid i (length c.loop-i.replies - i) c.loop-i.replies c.advance-i.new.replies c.advance-i.auto.replies ∙ inv.2,
      c.advance-i.ensures.same ∙ inv.3,
      c.advance-i.ensures.level ∙ inv.4,
      search rules,
      runs_on (Goes (k (g.S.Source.means c.args.source.now))) answer_of _ steps c.loop-i.replies i r c.advance-i.new.replies here there inv.0 inv.2 (omega (arith, fit, wide)) inv.6
          (subst (λ xs. Runs (k (g.S.Source.means c.args.source.now)) here (take r xs) (map answer_of (take r c.advance-i.new.replies)) there) rest ran),
    )

pub returns-clause-agree : goal.returns-clause-agree
returns-clause-agree g c = histories_agree _ _ _ _ g.met.M.Measure.laws
