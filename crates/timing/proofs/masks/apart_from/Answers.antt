use Rattle.std.proofs.Common.{◌<◌, ◌≢◌, length, ◌∙◌, arith, rules, get_or-set_other, get_or-set_same, below_more}
use Rattle.timing.proofs.Masking.{and_not}
use Rattle.timing.proofs.masks.apart_from.Goals as goal

pub loop-v-preserved : goal.loop-v-preserved
loop-v-preserved c =
    let l = c.loop-v in
    let room : l.v < length l.left = omega arith in
    record {
      sized = search rules;
      left = below_more _ _ (λ k h. let other : k ≢ l.v = omega arith in rw get_or-set_other (l.invariant.left k h))
          (get_or-set_same l.left l.v _ 0 room ∙ and_not _ _ (omega arith) (omega arith));
    }
