use Rattle.std.proofs.Common.{◌≡◌, ℕ, ◌<◌, List, map, length, get_or, Some, None, Option, option_and_then, slice_get, unwrap_or, Bor, refl, sym, ap, ◌∙◌, arith, rules}
use Rattle.std.proofs.lemmas.List.{length-map}
use Rattle.reader.specs.Format.{body, headed, refused}
use Rattle.std.specs.Option.{option_map}
use Rattle.std.proofs.lemmas.Option.{slice_get-map}
use Rattle.reader.specs.Layouts.{entry}
use Rattle.reader.specs.Names.{place}
use Rattle.reader.specs.Pieces.{pieces}
use Rattle.reader.proofs.Bodies.{opens}
use Rattle.reader.proofs.Table.{names_wide, columns_few, places_found, places_few}
use Rattle.reader.proofs.reading.Reader.open.Goals as goal

-- the place of a value, by the value that a reference leads to
seen : (names : List (List ℕ)) (values : List (Bor (List ℕ))) (i : ℕ) → option_and_then (λ v. place v names) (slice_get (map (λ v. v.now) values) i) ≡ option_and_then (λ v. place v.now names) (slice_get values i)
seen names values i = ap (option_and_then (λ v. place v names)) (slice_get-map (λ v. v.now) values i) ∙ through (slice_get values i)
  where
    through : (o : Option (Bor (List ℕ))) → option_and_then (λ v. place v names) (option_map (λ v. v.now) o) ≡ option_and_then (λ v. place v.now names) o
    through None = refl
    through (Some v) = refl

pub returns-in_default-choose : goal.returns-in_default-choose
returns-in_default-choose c =
    let k = c.args.kind in
    let names = pieces 44 c.in-Some.names.text.now in
    let rest = pieces 10 c.next_line.new.self.rest.now in
    opens k c.args.bytes.now c.new-cursor.result c.next_line.new.self c.in-Some.names.text.now (c.in_ok-check_size.ensures.1 k) c.new-cursor.ensures.rest c.in-Some.ensures.0
    ∙ ap (λ o. headed k o names rest) (sym c.in_default-choose.ensures) ∙ ap refused (sym c.refuse-in_default-choose.ensures)

pub returns : goal.returns
returns c =
    let k = c.args.kind in
    let names = pieces 44 c.in-Some.names.text.now in
    let rest = pieces 10 c.next_line.new.self.rest.now in
    let chosen = sym c.in-Some-choose.ensures in
    let first : c.next_line.new.self.line ≡ 1 = omega (arith, c.in-Some.ensures.1, c.new-cursor.ensures.line) in (
      sym (opens k c.args.bytes.now c.new-cursor.result c.next_line.new.self c.in-Some.names.text.now (c.in_ok-check_size.ensures.1 k) c.new-cursor.ensures.rest c.in-Some.ensures.0
          ∙ ap (λ o. headed k o names rest) chosen ∙ ap (λ l. body k (entry c.in-Some-choose.layout) names l rest) (sym first)),
      first,
    )

pub invariant_of-result : goal.invariant_of-result
invariant_of-result c =
    let k = c.args.kind in
    let names = pieces 44 c.in-Some.names.text.now in
    let layout = c.in-Some-choose.layout in
    let places = c.find_places-places.result in
    let chosen = sym c.in-Some-choose.ensures in
    let columns : length (map (λ n. n.now) layout.columns.now) ≡ length layout.columns.now = length-map layout.columns.now (λ n. n.now) in
    let at : (i : ℕ) → i < 3 → get_or places i 0 ≡ unwrap_or (option_and_then (λ v. place v names) (slice_get (entry layout).values i)) 0 =
    λ i l. c.find_places-places.ensures i l ∙ ap (λ o. unwrap_or o 0) (sym (seen names layout.values.now i)) in
    record {
      wide = names_wide k names (entry layout) chosen ∙ columns;
      few = omega (arith, columns_few k names (entry layout) chosen, columns);
      placed = places_found k names (entry layout) places chosen (search rules) at;
      within = places_few k names (entry layout) places chosen (search rules) at;
    }
