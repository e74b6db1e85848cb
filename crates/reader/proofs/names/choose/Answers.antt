use Rattle.std.proofs.Common.{◌≡◌, Bool, true, false, cond, List, [], ◌∷◌, map, Some, find, refl, ap, ◌∙◌, rules, tests}
use Rattle.std.specs.Option.{option_map}
use Rattle.std.proofs.lemmas.Iterator.{YieldsList-from_slice}
use Rattle.std.proofs.lemmas.Iterator.Search.{find_from_yields_List}
use Rattle.reader.specs.declared.layouts.Layout.{Layout}
use Rattle.reader.specs.Layouts.{Entry, entry}
use Rattle.reader.specs.Names.{is_order}
use Rattle.reader.specs.Pieces.{pieces}
use Rattle.reader.proofs.names.choose.Goals as goal

-- what is found among the entries is found as the code holds it
find_entry : (p : Entry → Bool) (ls : List Layout) → option_map entry (find (λ l. p (entry l)) ls) ≡ find p (map entry ls)
find_entry p [] = refl
find_entry p (l ∷ ls) =
    elim (p (entry l)) as (λ t. option_map entry (cond t (Some l) (find (λ m. p (entry m)) ls)) ≡ cond t (Some (entry l)) (find p (map entry ls))) [ true ↦ refl | false ↦ find_entry p ls ]

pub returns : goal.returns
returns c =
    let names = pieces 44 c.args.names.text.now in
    let found = find_from_yields_List (λ l. is_order (entry l).columns names) c.find.new.self _ c.find.result c.find.ensures.ran (YieldsList-from_slice c.layouts.result.now cc) (λ x b q k. search (rules, tests)) in
    ap (option_map entry) (c.copied.ensures ∙ found) ∙ find_entry (λ e. is_order e.columns names) c.layouts.result.now ∙ ap (find (λ e. is_order e.columns names)) c.layouts.ensures
