use Rattle.paths.proofs.OnGraphs.{on_graphs}
use Rattle.sheet.specs.Theorems.{SheetsAreTraced}
use Rattle.sheet.proofs.Traced.{sheets_are_traced_lem}
use Rattle.sheet.proofs.laws.sheets_are_traced.Goals as goal

pub returns : goal.returns
returns c = record { blocks = sheets_are_traced_lem; graphs = on_graphs SheetsAreTraced sheets_are_traced_lem }
