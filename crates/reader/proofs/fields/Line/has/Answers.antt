use Rattle.std.proofs.Common.{rules, tests}
use Rattle.std.specs.Str.{bytes_eq}
use Rattle.std.proofs.lemmas.Iterator.Search.{any_from_yields_List}
use Rattle.std.proofs.lemmas.Iterator.Consumers.{YieldsList-from_first}
use Rattle.reader.specs.Pieces.{fields_in}
use Rattle.reader.proofs.fields.Line.has.Goals as goal

pub returns : goal.returns
returns c = any_from_yields_List (λ n. bytes_eq n c.args.name.now) c.any.new.self _ _ c.any.ensures.ran (YieldsList-from_first (λ x. x.now) (λ s. fields_in s.rest) {s = c.fields.result} _ c.fields.ensures) (λ x b q k. search (rules, tests))
