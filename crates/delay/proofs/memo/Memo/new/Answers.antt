use Rattle.delay.proofs.Memos.{new_keepable, new_means}
use Rattle.delay.proofs.memo.Memo.new.Goals as goal

pub invariant_of-result : goal.invariant_of-result
invariant_of-result g c = record {
  ok = new_keepable _ c.empty_places.ensures;
}

pub returns-clause-means : goal.returns-clause-means
returns-clause-means g c = new_means _ c.empty_places.ensures _
