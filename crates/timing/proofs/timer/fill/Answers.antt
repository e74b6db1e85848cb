use Rattle.std.proofs.Common.{◌≡◌, ◌-◌, ◌≤◌, ◌++◌, map, length, drop, replicate, Ok, Err, Result, sym, refl, ap, ◌∙◌, subst, arith, rules}
use borrow.Rule.Slice.PartMut.{put_mid, same_len_mid}
use Rattle.std.proofs.lemmas.List.{length-take-le, length-append, length-drop, take_at}
use Rattle.measure.specs.Rows.{Row, zeros}
use Rattle.paths.specs.Blocks.{RowBlock}
use Rattle.paths.specs.Graphs.{Untimed}
use Rattle.sheet.specs.Blanks.{blank_line}
use Rattle.sheet.specs.Tables.{tables_of}
use Rattle.sheet.specs.Written.{line_of, arrival_of, required_of, written}
use Rattle.timing.specs.declared.refusals.TimeRefusal.TheVariants.{TooFewLines}
use Rattle.timing.specs.Measured.{measured}
use Rattle.timing.specs.TimedBlock.{rows_of, sheet_of}
use Rattle.timing.specs.Filled.{FilledFor}
use Rattle.timing.proofs.Tabled.{rows_made}
use Rattle.timing.proofs.Columns.{sizes, same_blanks, arrived_part, sheet_length, plain_column, row_column, arrival_column}
use Rattle.timing.proofs.timer.fill.Goals as goal

pub complete-requires : goal.complete-requires
complete-requires g c =
    let m = g.M.Measure in
    let t = sizes m.row c.args.tables.now c.requires in
    let a = c.in-Some.ensures.1 in
    let lines = length-take-le c.in-Some.count c.arrive_all.new.lines a.fit in
    record {
      lines = omega (arith, lines, t.lines, c.arrive_all.auto.lines, a.fit);
      even = length-take-le c.in-Some.count c.args.tables.now.required.now (omega (arith, a.fit, t.required, c.arrive_all.auto.lines)) ∙ sym lines;
      arrived = arrived_part m.row _ _ c.arrive_all.new.lines c.arrive_all.new.times c.arrive_all.new.firsts c.in-Some.count a;
      nodes = t.nodes;
      slacks = t.slacks;
    }

pub slice_bounds-complete-end-5 : goal.slice_bounds-complete-end-5
slice_bounds-complete-end-5 g c = let t = sizes g.M.Measure.row c.args.tables.now c.requires in omega (arith, c.in-Some.ensures.1.fit, t.required, c.arrive_all.auto.lines)

pub slice_bounds-complete-end-6 : goal.slice_bounds-complete-end-6
slice_bounds-complete-end-6 g c =
    let t = sizes g.M.Measure.row c.args.tables.now c.requires in
    omega (arith, length-take-le c.in-Some.count c.args.tables.now.required.now (omega (arith, c.in-Some.ensures.1.fit, t.required, c.arrive_all.auto.lines)))

pub returns-in_default-clause-filled : goal.returns-in_default-clause-filled
returns-in_default-clause-filled g c =
    let m = g.M.Measure in
    let t = c.args.tables.now in
    subst (λ (o : Result (RowBlock (Row m.width)) Untimed). FilledFor (measured m) (length t.lines.now) (tables_of m.row c.arrive_all.new.lines c.arrive_all.new.times t.required.now t.nodes.now t.slacks.now) o (Err TooFewLines))
    (sym (rows_made m c.in_ok-block.block c.args.graph.now (g.S.Source.means c.args.source.now) c.in_ok-block.ensures.prepared))
    (refl, omega (arith, c.in_default.ensures, sheet_length (measured m) (rows_of m c.in_ok-block.block) 256, c.arrive_all.auto.lines))

pub returns-clause-sizes : goal.returns-clause-sizes
returns-clause-sizes g c =
    let m = g.M.Measure in
    let n = c.in-Some.count in
    let t = c.args.tables.now in
    let s = sizes m.row t c.requires in
    let a = c.in-Some.ensures.1 in
    let ls = c.complete.new.lines ++ drop n c.arrive_all.new.lines in
    let xs = c.arrive_all.new.times in
    let ys = c.complete.new.required ++ drop n t.required.now in
    let part = c.complete.auto.lines ∙ length-take-le n c.arrive_all.new.lines a.fit in
    let asked = c.complete.auto.required ∙ length-take-le n t.required.now (omega (arith, a.fit, c.arrive_all.auto.lines, s.required)) in
    same_blanks m.row (zeros m.width) t (put_mid n (length ls - n) ls c.fill.new.self) (put_mid n (length xs - n) xs c.blank_rows.new.values) (put_mid n (length ys - n) ys c.blank_rows-2.new.values) c.complete.new.nodes c.complete.new.slacks
    (same_len_mid n (length ls - n) ls c.fill.new.self c.fill.auto.self ∙ omega (arith, length-append c.complete.new.lines (drop n c.arrive_all.new.lines), part, length-drop n c.arrive_all.new.lines, a.fit, c.arrive_all.auto.lines))
    (same_len_mid n (length xs - n) xs c.blank_rows.new.values c.blank_rows.auto.values ∙ c.arrive_all.auto.times)
    (same_len_mid n (length ys - n) ys c.blank_rows-2.new.values c.blank_rows-2.auto.values ∙ omega (arith, length-append c.complete.new.required (drop n t.required.now), asked, length-drop n t.required.now, a.fit, c.arrive_all.auto.lines, s.required))
    c.complete.auto.nodes c.complete.auto.slacks

pub returns-clause-filled : goal.returns-clause-filled
returns-clause-filled g c =
    let m = g.M.Measure in
    let o = measured m in
    let b = rows_of m c.in_ok-block.block in
    let ts = sheet_of m c.in_ok-block.block in
    let n = c.in-Some.count in
    let z = zeros m.width in
    let t = sizes m.row c.args.tables.now c.requires in
    let size = length c.args.tables.now.lines.now in
    let count : n ≡ length ts = c.in-Some.ensures.0 ∙ sym (sheet_length o b 256) in
    let a = c.in-Some.ensures.1 in
    let fit : n ≤ size = omega (arith, a.fit, c.arrive_all.auto.lines) in
    let ls = c.complete.new.lines ++ drop n c.arrive_all.new.lines in
    let xs = c.arrive_all.new.times in
    let ys = c.complete.new.required ++ drop n c.args.tables.now.required.now in
    let part = c.complete.auto.lines ∙ length-take-le n c.arrive_all.new.lines a.fit in
    let asked = c.complete.auto.required ∙ length-take-le n c.args.tables.now.required.now (omega (arith, fit, t.required)) in
    let lines_are : put_mid n (length ls - n) ls c.fill.new.self ≡ map line_of ts ++ replicate (size - length ts) blank_line =
    plain_column n size c.complete.new.lines (drop n c.arrive_all.new.lines) c.fill.new.self (map line_of ts) blank_line part
    (omega (arith, length-append c.complete.new.lines (drop n c.arrive_all.new.lines), part, length-drop n c.arrive_all.new.lines, a.fit, c.arrive_all.auto.lines)) (search rules) c.complete.ensures.lines
    ∙ ap (λ j. map line_of ts ++ replicate (size - j) blank_line) count in
    let arrivals_are : map m.row (put_mid n (length xs - n) xs c.blank_rows.new.values) ≡ map arrival_of ts ++ replicate (size - length ts) z =
    row_column m.row n size xs c.blank_rows.new.values (map arrival_of ts) z (omega (arith, a.fit, a.even)) (c.arrive_all.auto.times ∙ t.arrivals) c.blank_rows.ensures
    (arrival_column m.row o b c.arrive_all.new.lines xs c.arrive_all.new.firsts n a)
    ∙ ap (λ j. map arrival_of ts ++ replicate (size - j) z) count in
    let required-are : map m.row (put_mid n (length ys - n) ys c.blank_rows-2.new.values) ≡ map (required_of z) ts ++ replicate (size - length ts) z =
    row_column m.row n size ys c.blank_rows-2.new.values (map (required_of z) ts) z (omega (arith, length-append c.complete.new.required (drop n c.args.tables.now.required.now), asked))
    (omega (arith, length-append c.complete.new.required (drop n c.args.tables.now.required.now), asked, length-drop n c.args.tables.now.required.now, fit, t.required)) c.blank_rows-2.ensures
    (ap (map m.row) (take_at c.complete.new.required (drop n c.args.tables.now.required.now) n asked) ∙ c.complete.ensures.required)
    ∙ ap (λ j. map (required_of z) ts ++ replicate (size - j) z) count in
    let fin = tables_of m.row (put_mid n (length ls - n) ls c.fill.new.self) (put_mid n (length xs - n) xs c.blank_rows.new.values) (put_mid n (length ys - n) ys c.blank_rows-2.new.values) c.complete.new.nodes c.complete.new.slacks in
    let is-written : fin ≡ written o size ts = λ i. record {
      lines = lines_are i;
      arrivals = arrivals_are i;
      required = required-are i;
      nodes = c.complete.ensures.nodes i;
      slacks = c.complete.ensures.slacks i;
    } in
    subst (λ (x : Result (RowBlock (Row m.width)) Untimed). FilledFor o size fin x (Ok n)) (sym (rows_made m c.in_ok-block.block c.args.graph.now (g.S.Source.means c.args.source.now) c.in_ok-block.ensures.prepared))
    (count, fit, is-written)
