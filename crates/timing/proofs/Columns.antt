-- The columns of the tables, one by one.
use Rattle.std.proofs.Common.{◌≡◌, ℕ, ◌-◌, ◌≤◌, true, List, [], ◌∷◌, ◌++◌, map, length, take, drop, replicate, sym, refl, ap, ◌∙◌, ap₂, arith}
use mathlib.Core.List.{map-map}
use borrow.Rule.Slice.PartMut.{put_mid}
use Rattle.std.proofs.lemmas.List.{length-map, length-append, length-drop, length-take-le, take_all, take_at, map-append}
use Rattle.std.proofs.lemmas.Bool.{and_parts, eqb-true, leb-true}
use Rattle.paths.specs.Rows.{Rows}
use Rattle.paths.specs.Blocks.{RowBlock}
use Rattle.paths.specs.Sheets as sheets
use Rattle.paths.proofs.Slacks.{lines_are}
use Rattle.sheet.specs.declared.line.Line.{Line}
use Rattle.sheet.specs.declared.tables.TablesMut.{TablesMut}
use Rattle.sheet.specs.declared.node.NodeEntry.{NodeEntry}
use Rattle.sheet.specs.Blanks.{blank_line, blank_entry}
use Rattle.sheet.specs.Tables.{tables_of, well_sized, blanked}
use Rattle.sheet.specs.Lent.{tables_in}
use Rattle.sheet.specs.Written.{arrival_of}
use Rattle.timing.specs.Lines.{views}
use Rattle.timing.specs.Arrived.{Arrived}
use Rattle.timing.proofs.Crossed.{put_end}

-- the lengths of tables that have the right ones
pub record Sizes {M : Type 0} (t : TablesMut M) : Type 0 where
  pub lines : length t.lines.now ≤ 4096
  pub arrivals : length t.arrivals.now ≡ length t.lines.now
  pub required : length t.required.now ≡ length t.lines.now
  pub nodes : length t.nodes.now ≡ 256
  pub slacks : length t.slacks.now ≡ 256

pub sizes : {M R : Type 0} (row : M → R) (t : TablesMut M) → well_sized (tables_in row t) ≡ true → Sizes t
sizes row t e =
    let few = and_parts _ _ e in
    let arrivals = and_parts _ _ few.1 in
    let required = and_parts _ _ arrivals.1 in
    let nodes = and_parts _ _ required.1 in
    record {
      lines = leb-true _ _ few.0;
      arrivals = sym (length-map t.arrivals.now row) ∙ eqb-true _ _ arrivals.0;
      required = sym (length-map t.required.now row) ∙ eqb-true _ _ required.0;
      nodes = eqb-true _ _ nodes.0;
      slacks = sym (length-map t.slacks.now row) ∙ eqb-true _ _ nodes.1;
    }

-- blank tables of the same lengths are the same
pub same_blanks : {M R : Type 0} (row : M → R) (z : R) (t : TablesMut M) (ls : List Line) (xs ys : List M) (ns : List NodeEntry) (ss : List M)
    → length ls ≡ length t.lines.now → length xs ≡ length t.arrivals.now → length ys ≡ length t.required.now → length ns ≡ length t.nodes.now → length ss ≡ length t.slacks.now
    → blanked z (tables_of row ls xs ys ns ss) ≡ blanked z (tables_in row t)
same_blanks {M} row z t ls xs ys ns ss a b c d e =
    let mapped-length = λ (us vs : List M) (q : length us ≡ length vs). length-map us row ∙ q ∙ sym (length-map vs row) in
    λ i. record {
      lines = replicate (a i) blank_line;
      arrivals = replicate (mapped-length xs t.arrivals.now b i) z;
      required = replicate (mapped-length ys t.required.now c i) z;
      nodes = replicate (d i) blank_entry;
      slacks = replicate (mapped-length ss t.slacks.now e i) z;
    }

-- the first lines, with all that is known of them
pub arrived_part : {M R : Type 0} (row : M → R) (m : Rows R) (b : RowBlock R) (ls : List Line) (xs : List M) (firsts : List ℕ) (n : ℕ) → Arrived row m b 256 ls xs firsts n
    → Arrived row m b 256 (take n ls) (take n xs) firsts (length (take n ls))
arrived_part row m b ls xs firsts n a =
    let size : length (take n ls) ≡ n = length-take-le n ls a.fit in
    let width : length (take n xs) ≡ n = length-take-le n xs (omega (arith, a.fit, a.even)) in
    record {
      stand = ap₂ (views row) (take_all (length (take n ls)) (take n ls) (omega arith)) (take_all (length (take n ls)) (take n xs) (omega arith)) ∙ a.stand;
      fit = omega arith;
      even = width ∙ sym size;
      firsts_are = a.firsts_are;
    }

-- ---- what stands in a column once the first n items are written and the rest is blanked
blank_length : {X : Type 0} (n size : ℕ) (xs : List X) → length xs ≡ size → length (take (length xs - n) (drop n xs)) ≡ size - n
blank_length n size xs e = length-take-le (length xs - n) (drop n xs) (omega (arith, length-drop n xs)) ∙ ap (λ k. k - n) e

pub plain_column : {X : Type 0} (n size : ℕ) (part rest blanks target : List X) (z : X) → length part ≡ n → length (part ++ rest) ≡ size → blanks ≡ replicate (length (take (length (part ++ rest) - n) (drop n (part ++ rest)))) z → part ≡ target
    → put_mid n (length (part ++ rest) - n) (part ++ rest) blanks ≡ target ++ replicate (size - n) z
plain_column n size part rest blanks target z e l q t =
    put_end n (part ++ rest) blanks (omega (arith, length-append part rest)) ∙ ap₂ (λ a b. a ++ b) (take_at part rest n e ∙ t) (q ∙ ap (λ k. replicate k z) (blank_length n size (part ++ rest) l))

pub row_column : {X R : Type 0} (row : X → R) (n size : ℕ) (xs blanks : List X) (target : List R) (z : R) → n ≤ length xs → length xs ≡ size → map row blanks ≡ replicate (length (take (length xs - n) (drop n xs))) z → map row (take n xs) ≡ target
    → map row (put_mid n (length xs - n) xs blanks) ≡ target ++ replicate (size - n) z
row_column row n size xs blanks target z e l q t =
    ap (map row) (put_end n xs blanks e) ∙ map-append row (take n xs) blanks ∙ ap₂ (λ a b. a ++ b) t (q ∙ ap (λ k. replicate k z) (blank_length n size xs l))

views_arrivals : {M R : Type 0} (row : M → R) (ls : List Line) (xs : List M) → length xs ≡ length ls → map (λ (l : sheets.Line R). l.arrival) (views row ls xs) ≡ map row xs
views_arrivals row [] [] e = refl
views_arrivals row [] (x ∷ xs) e = absurd (omega arith)
views_arrivals row (l ∷ ls) [] e = absurd (omega arith)
views_arrivals row (l ∷ ls) (x ∷ xs) e = ap (λ ys. row x ∷ ys) (views_arrivals row ls xs (omega arith))

pub sheet_length : {R : Type 0} (m : Rows R) (b : RowBlock R) (n : ℕ) → length (sheets.sheet m b n) ≡ length (sheets.arrivals m b n)
sheet_length m b n = sym (length-map (sheets.sheet m b n) (λ t. t.line)) ∙ ap length (lines_are m b 0 (sheets.arrivals m b n))

pub arrival_column : {M R : Type 0} (row : M → R) (m : Rows R) (b : RowBlock R) (ls : List Line) (xs : List M) (firsts : List ℕ) (n : ℕ) → Arrived row m b 256 ls xs firsts n
    → map row (take n xs) ≡ map arrival_of (sheets.sheet m b 256)
arrival_column {M} {R} row m b ls xs firsts n a =
    sym (views_arrivals row (take n ls) (take n xs) (length-take-le n xs (omega (arith, a.fit, a.even)) ∙ sym (length-take-le n ls a.fit)))
    ∙ ap (map (λ (l : sheets.Line R). l.arrival)) (a.stand ∙ sym (lines_are m b 0 (sheets.arrivals m b 256)))
    ∙ map-map (λ (l : sheets.Line R). l.arrival) (λ t. t.line) (sheets.sheet m b 256)
