use Rattle.std.proofs.Common.{◌≡◌, map, length, ◌∙◌, sym, rules, tests}
use Rattle.std.proofs.lemmas.List.{length-map}
use Rattle.std.proofs.lemmas.List.Folds.{list_all-map}
use Rattle.std.proofs.lemmas.Iterator.{YieldsList-from_slice}
use Rattle.std.proofs.lemmas.Iterator.Search.{all_from_yields_List}
use Rattle.std.proofs.lemmas.Bool.{eq-eqb}
use Rattle.reader.specs.Names.{among}
use Rattle.reader.specs.Pieces.{pieces}
use Rattle.reader.proofs.names.is_order.Goals as goal

pub returns-then-width-columns : goal.returns-then-width-columns
returns-then-width-columns c =
    let names = pieces 44 c.args.names.text.now in
    let columns = c.args.columns.now in
    let all = all_from_yields_List (λ q. among q.now names) c.all.new.self _ c.all.result c.all.ensures.ran (YieldsList-from_slice columns cc) (λ x b q k. search (rules, tests)) in
    let wide : length names ≡ length (map (λ q. q.now) columns) = sym c.width.ensures ∙ c.if-width-columns.true ∙ sym (length-map columns (λ q. q.now)) in
    rw (eq-eqb (length names) (length (map (λ q. q.now) columns)) wide) (all ∙ sym (list_all-map (λ q. among q names) (λ q. q.now) columns))
