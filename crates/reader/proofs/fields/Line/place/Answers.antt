use Rattle.std.proofs.Common.{rules, tests}
use Rattle.std.specs.Str.{bytes_eq}
use Rattle.std.proofs.lemmas.Iterator.Search.{position_from_yields_List}
use Rattle.std.proofs.lemmas.Iterator.Consumers.{YieldsList-from_first}
use Rattle.reader.specs.Pieces.{fields_in}
use Rattle.reader.proofs.fields.Line.place.Goals as goal

pub returns : goal.returns
returns c = position_from_yields_List (λ n. bytes_eq n c.args.name.now) c.position.new.self _ _ c.position.ensures.ran (YieldsList-from_first (λ x. x.now) (λ s. fields_in s.rest) {s = c.fields.result} _ c.fields.ensures) (λ x b q k. search (rules, tests))
