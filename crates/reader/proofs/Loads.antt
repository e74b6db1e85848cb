-- A load, record by record. Assumes nothing.
use Rattle.std.proofs.Common.{Ok, Err, Result, refl}
use Rattle.reader.specs.Loading.{Leaves, Answers}

-- from a copy to the state itself
pub kept_copy : {M E : Type 0} (a : Result M E) (q m : M) (u : Unit {0}) (t : M) → Answers a q (Ok u) t → Leaves a m (Ok u) t
kept_copy (Ok n) q m u t h = h
kept_copy (Err e) q m u t h = absurd (let x = h.0 in cc)

pub dropped_copy : {M E : Type 0} (a : Result M E) (q m : M) (e : E) (t : M) → Answers a q (Err e) t → Leaves a m (Err e) m
dropped_copy (Ok n) q m e t h = absurd (let x = h.0 in cc)
dropped_copy (Err d) q m e t h = (h.0, refl)
