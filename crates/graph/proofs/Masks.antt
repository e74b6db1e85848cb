-- What a set's bit is after an arc joins or leaves a set, by one computed test over all pairs of sets.
use Rattle.std.proofs.Common.{◌≡◌, ℕ, zero, suc, ◌-◌, ◌/◌, ◌%◌, ◌^◌, ◌<◌, Bool, true, false, cond, not, ◌&&◌, ◌||◌, eqb, ◌⊎◌, sym, refl, ap, ◌∙◌, inl, inr, arith}
use lib.Bits.{bit_and, bit_or}
use Rattle.std.proofs.lemmas.Nat.{or_shr, or_mod, and_shr, and_mod, mod_below}
use Rattle.std.proofs.lemmas.Bool.Decides.{Decides-below_and}
use Rattle.std.proofs.lemmas.Bool.{eqb-true}
use Rattle.graph.specs.Sets.{holds, with_set, without_set}

abbrev all_below : ℕ → (ℕ → Bool) → Bool
all_below zero p = true
all_below (suc n) p = p n && all_below n p

each_below : (p : ℕ → Bool) (n : ℕ) → all_below n p ≡ true → (k : ℕ) → k < n → p k ≡ true
each_below p n h = (Decides-below_and p (λ k. p k ≡ true) (λ n. all_below n p) (λ k. ((λ x. x), (λ x. x))) refl (λ _. refl) n).0 h

one_bit : (s k : ℕ) → s < 16 → k < 16 → 2 ^ s / 2 ^ k % 2 ≡ cond (eqb k s) 1 0
one_bit s k hs hk =
    eqb-true _ _ (each_below (λ k. eqb (2 ^ s / 2 ^ k % 2) (cond (eqb k s) 1 0)) 16
    (each_below (λ s. all_below 16 (λ k. eqb (2 ^ s / 2 ^ k % 2) (cond (eqb k s) 1 0))) 16 refl s hs) k hk)

other_bits : (s k : ℕ) → s < 16 → k < 16 → (65535 - 2 ^ s) / 2 ^ k % 2 ≡ cond (eqb k s) 0 1
other_bits s k hs hk =
    eqb-true _ _ (each_below (λ k. eqb ((65535 - 2 ^ s) / 2 ^ k % 2) (cond (eqb k s) 0 1)) 16
    (each_below (λ s. all_below 16 (λ k. eqb ((65535 - 2 ^ s) / 2 ^ k % 2) (cond (eqb k s) 0 1))) 16 refl s hs) k hk)

two_values : (n : ℕ) → (n % 2 ≡ 0) ⊎ (n % 2 ≡ 1)
two_values n = let h = mod_below n 2 (omega arith) in grind arith

or_bit : (x : ℕ) (b : Bool) → (x ≡ 0) ⊎ (x ≡ 1) → eqb (bit_or x (cond b 1 0)) 1 ≡ (b || eqb x 1)
or_bit x true (inl h) = ap (λ x. eqb (bit_or x 1) 1) h
or_bit x true (inr h) = ap (λ x. eqb (bit_or x 1) 1) h
or_bit x false (inl h) = ap (λ x. eqb (bit_or x 0) 1) h ∙ ap (λ x. eqb x 1) (sym h)
or_bit x false (inr h) = ap (λ x. eqb (bit_or x 0) 1) h ∙ ap (λ x. eqb x 1) (sym h)

and_bit : (x : ℕ) (b : Bool) → (x ≡ 0) ⊎ (x ≡ 1) → eqb (bit_and x (cond b 0 1)) 1 ≡ (not b && eqb x 1)
and_bit x true (inl h) = ap (λ x. eqb (bit_and x 0) 1) h
and_bit x true (inr h) = ap (λ x. eqb (bit_and x 0) 1) h
and_bit x false (inl h) = ap (λ x. eqb (bit_and x 1) 1) h ∙ ap (λ x. eqb x 1) (sym h)
and_bit x false (inr h) = ap (λ x. eqb (bit_and x 1) 1) h ∙ ap (λ x. eqb x 1) (sym h)

pub holds_with : (m s k : ℕ) → s < 16 → k < 16 → holds (with_set m s) k ≡ (eqb k s || holds m k)
holds_with m s k hs hk =
    ap (λ x. eqb (x % 2) 1) (or_shr m (2 ^ s) k) ∙ ap (λ x. eqb x 1) (or_mod (m / 2 ^ k) (2 ^ s / 2 ^ k) 1)
    ∙ ap (λ y. eqb (bit_or (m / 2 ^ k % 2) y) 1) (one_bit s k hs hk) ∙ or_bit (m / 2 ^ k % 2) (eqb k s) (two_values (m / 2 ^ k))

pub holds_without : (m s k : ℕ) → s < 16 → k < 16 → holds (without_set m s) k ≡ (not (eqb k s) && holds m k)
holds_without m s k hs hk =
    ap (λ x. eqb (x % 2) 1) (and_shr m (65535 - 2 ^ s) k) ∙ ap (λ x. eqb x 1) (and_mod (m / 2 ^ k) ((65535 - 2 ^ s) / 2 ^ k) 1)
    ∙ ap (λ y. eqb (bit_and (m / 2 ^ k % 2) y) 1) (other_bits s k hs hk) ∙ and_bit (m / 2 ^ k % 2) (eqb k s) (two_values (m / 2 ^ k))
