use Rattle.std.proofs.Common.{arith, rules}
use Rattle.std.proofs.lemmas.Int.{ints}
use Rattle.delay.proofs.Products.{product_within, product_is}
use Rattle.delay.proofs.product.product.Goals as goal

pub returns : goal.returns
returns c =
    let is = product_is c.args.a c.args.b _ _ (search rules) (search rules) c.from.ensures c.from-2.ensures in
    let small = product_within c.args.a c.args.b _ _ (search rules) (search rules) c.from.ensures c.from-2.ensures in
    record { value = is; bound = omega (arith, ints) }
