use Rattle.std.proofs.Common.{subst, rules, to_z, of_z, w32}
use Rattle.graph.specs.declared.parts.ArcEnd.{ArcEnd}
use Rattle.graph.specs.declared.parts.ArcEnd.TheVariants.{Tail, Head}
use Rattle.graph.specs.Block.{block_of}
use Rattle.graph.specs.Index.{IndexesBoth}
use Rattle.graph.specs.Refusals.{numbered}
use Rattle.graph.proofs.Slots.{some_same}
use Rattle.graph.proofs.Listed.{indexed_same}
use Rattle.graph.proofs.Leading.{paired_keys}
use Rattle.graph.proofs.loading.Loading.pair.Goals as goal

pub invariant_of-self : goal.invariant_of-self
invariant_of-self c =
    let b = block_of c.args.self.now.graph in
    let is = c.get_or_insert_with-indexes.result.now in
    let both : IndexesBoth b.arcs is = search rules in
    let keys = λ (end : ArcEnd). paired_keys end b (to_z w32 (of_z w32 c.args.set)) (to_z w32 (of_z w32 c.args.from)) (to_z w32 (of_z w32 c.args.to)) (numbered c.pair_by.result) (block_of c.pair_by.new.self) c.pair_by.ensures in
    record { indexed = λ x q. subst (IndexesBoth (block_of c.pair_by.new.self).arcs) (some_same _ x q) (indexed_same Tail _ _ is.tails (keys Tail) both.0, indexed_same Head _ _ is.heads (keys Head) both.1) }
