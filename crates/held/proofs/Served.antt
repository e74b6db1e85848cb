-- A call on a graph that was made, with no trial open.
use Rattle.std.proofs.Common.{◌≡◌, true, false, nat_eq, refl}
use Rattle.graph.specs.declared.store.TimingGraph.{TimingGraph}
use Rattle.graph.specs.Block.{block_of}
use Rattle.ledger.specs.declared.words.Call.{Call}
use Rattle.ledger.specs.declared.words.Act.TheVariants.{Make}
use Rattle.ledger.specs.Answers as ledger
use Rattle.ledger.specs.Calls.{Calls}
use Rattle.ledger.specs.Ledger.{closed}
use Rattle.held.specs.declared.memory.TheConstants.{SEAL}
use Rattle.held.specs.declared.answer.Answer.{Answer}
use Rattle.held.specs.declared.memory.HeldGraph.{HeldGraph}
use Rattle.held.specs.Answers.{told}
use Rattle.held.specs.Held.{held_in, Serves}

pub served : (h : HeldGraph) (g : TimingGraph) (x : Call) (y : ledger.Answer) (a : Answer) → nat_eq h.seal SEAL ≡ true → h.on_trial ≡ false → Calls (block_of h.graph) x y (block_of g) → a ≡ told y → Serves (held_in h) (Make x) a (held_in (record h { graph = g }))
served h g x y a made ended calls tells = rw (made, ended) (y, closed (block_of g), (refl, refl, calls), tells, refl)
