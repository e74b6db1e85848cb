use Rattle.std.proofs.Common.{sym, subst, w32, SFits, rules}
use Rattle.std.proofs.lemmas.Int.{to_z-of_z}
use Rattle.reader.specs.Loading.{Leaves}
use Rattle.graph.specs.Block.{block_of}
use Rattle.graph.specs.Computed.{line_step}
use Rattle.graph.specs.Refusals.{numbered}
use Rattle.graph.proofs.Marks.{moved_pair}
use Rattle.graph.proofs.Replayed.{pair_leaves, kept_of}
use Rattle.graph.proofs.loading.Loading.enter.Goals as goal

pub returns-in-Pair : goal.returns-in-Pair
returns-in-Pair c =
    let b = block_of c.args.self.now.graph in
    let b' = block_of c.pair.new.self.graph in
    let r = numbered c.pair.result in
    let fits-set : SFits w32 c.in-Pair.set = search rules in
    let fits-from : SFits w32 c.in-Pair.from = search rules in
    let fits-to : SFits w32 c.in-Pair.to = search rules in
    let paired = moved_pair b c.in-Pair.set _ c.in-Pair.from _ c.in-Pair.to _ r b'
    (to_z-of_z w32 c.in-Pair.set fits-set) (to_z-of_z w32 c.in-Pair.from fits-from) (to_z-of_z w32 c.in-Pair.to fits-to) c.pair.ensures in
    subst (λ x. Leaves (line_step b x) b r b') (sym c.in-Pair.is) (pair_leaves b c.in-Pair.set c.in-Pair.from c.in-Pair.to r b' (kept_of c.args.self.now.graph) paired)
