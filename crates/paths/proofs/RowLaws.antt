-- What rows and their order give the proofs: the sum is a commutative group's, rows have a size, and the order's laws hold of rows up to a size.
use Rattle.std.proofs.Common.{◌≡◌, ℕ, ◌+◌, ◌≤◌, T, ◌⊎◌, sym, ap, ◌∙◌, subst, ap₂, subst₂, inl, inr, arith}
use Rattle.paths.specs.Rows.{Rows, Before, minus}

pub record Laws {R : Type 0} (m : Rows R) : Type 0 where
  pub assoc : (a b c : R) → m.plus (m.plus a b) c ≡ m.plus a (m.plus b c)
  pub comm : (a b : R) → m.plus a b ≡ m.plus b a
  pub unit : (a : R) → m.plus a m.origin ≡ a
  pub cancel : (a : R) → m.plus a (m.opposite a) ≡ m.origin
  pub size : R → ℕ
  pub sums : (a b : R) → size (m.plus a b) ≤ size a + size b
  pub opposites : (a : R) → size (m.opposite a) ≤ size a
  pub either : (a b : R) → size a ≤ 1_000_000_000 → size b ≤ 1_000_000_000 → Before m a b ⊎ Before m b a
  pub same : (a b : R) → size a ≤ 1_000_000_000 → size b ≤ 1_000_000_000 → Before m a b → Before m b a → a ≡ b
  pub chain : (a b c : R) → size a ≤ 1_000_000_000 → size b ≤ 1_000_000_000 → size c ≤ 1_000_000_000 → Before m a b → Before m b c → Before m a c
  pub shift : (a b c : R) → size a ≤ 1_000_000_000 → size b ≤ 1_000_000_000 → size c ≤ 1_000_000_000 → size (m.plus a c) ≤ 1_000_000_000 → size (m.plus b c) ≤ 1_000_000_000
      → m.not_later (m.plus a c) (m.plus b c) ≡ m.not_later a b

module _ {R : Type 0} {m : Rows R} (laws : Laws m) where
  -- the rows that the laws of the order are about
  abbrev pub Fine : R → Type 0
  Fine a = laws.size a ≤ 1_000_000_000

  -- the rows that arrivals and required times are among: sums of three are fine
  abbrev pub Near : R → Type 0
  Near a = laws.size a ≤ 256_000_000

  pub left_unit : (a : R) → m.plus m.origin a ≡ a
  left_unit a = laws.comm m.origin a ∙ laws.unit a

  pub swap : (a b c d : R) → m.plus (m.plus a b) (m.plus c d) ≡ m.plus (m.plus a c) (m.plus b d)
  swap a b c d =
      laws.assoc a b (m.plus c d)
      ∙ ap (m.plus a) (sym (laws.assoc b c d) ∙ ap (λ x. m.plus x d) (laws.comm b c) ∙ laws.assoc c b d)
      ∙ sym (laws.assoc a c (m.plus b d))

  pub opposite_is : (a b : R) → m.plus a b ≡ m.origin → b ≡ m.opposite a
  opposite_is a b e =
      sym (left_unit b)
      ∙ ap (λ x. m.plus x b) (sym (laws.comm (m.opposite a) a ∙ laws.cancel a))
      ∙ laws.assoc (m.opposite a) a b
      ∙ ap (m.plus (m.opposite a)) e
      ∙ laws.unit (m.opposite a)

  pub opposite_plus : (a b : R) → m.opposite (m.plus a b) ≡ m.plus (m.opposite a) (m.opposite b)
  opposite_plus a b =
      sym (opposite_is (m.plus a b) (m.plus (m.opposite a) (m.opposite b))
      (swap a b (m.opposite a) (m.opposite b) ∙ ap₂ m.plus (laws.cancel a) (laws.cancel b) ∙ laws.unit m.origin))

  pub opposite_none : m.opposite m.origin ≡ m.origin
  opposite_none = sym (opposite_is m.origin m.origin (laws.unit m.origin))

  pub minus_none : (a : R) → minus m a m.origin ≡ a
  minus_none a = ap (m.plus a) opposite_none ∙ laws.unit a

  -- a − (b + c) is (a − c) − b
  pub minus_plus : (a b c : R) → minus m a (m.plus b c) ≡ minus m (minus m a c) b
  minus_plus a b c =
      ap (m.plus a) (opposite_plus b c ∙ laws.comm (m.opposite b) (m.opposite c)) ∙ sym (laws.assoc a (m.opposite c) (m.opposite b))

  pub minus_fine : (a b : R) → Near a → Near b → Fine (minus m a b)
  minus_fine a b na nb = omega (arith, laws.sums a (m.opposite b), laws.opposites b)

  pub before_refl : (a : R) → Fine a → Before m a a
  before_refl a f = go (laws.either a a f f)
    where
      go : Before m a a ⊎ Before m a a → Before m a a
      go (inl h) = h
      go (inr h) = h

  pub before_right : (a b c : R) → Near a → Near b → laws.size c ≤ 512_000_000 → Before m a b → Before m (m.plus a c) (m.plus b c)
  before_right a b c na nb nc h =
      subst T (sym (laws.shift a b c (omega arith) (omega arith) (omega arith) (omega (arith, laws.sums a c)) (omega (arith, laws.sums b c)))) h

  pub before_left : (a b c : R) → Near a → Near b → Near c → Before m a b → Before m (m.plus c a) (m.plus c b)
  before_left a b c na nb nc h = subst₂ (λ x y. Before m x y) (laws.comm a c) (laws.comm b c) (before_right a b c na nb (omega arith) h)

  pub before_opposite : (a b : R) → Near a → Near b → Before m a b → Before m (m.opposite b) (m.opposite a)
  before_opposite a b na nb h =
      subst₂ (λ x y. Before m x y)
      (sym (laws.assoc a (m.opposite a) (m.opposite b)) ∙ ap (λ x. m.plus x (m.opposite b)) (laws.cancel a) ∙ left_unit (m.opposite b))
      (ap (m.plus b) (laws.comm (m.opposite a) (m.opposite b)) ∙ sym (laws.assoc b (m.opposite b) (m.opposite a)) ∙ ap (λ x. m.plus x (m.opposite a)) (laws.cancel b) ∙ left_unit (m.opposite a))
      (before_right a b (m.plus (m.opposite a) (m.opposite b)) na nb (omega (arith, laws.sums (m.opposite a) (m.opposite b), laws.opposites a, laws.opposites b)) h)

  -- less required and more arrival is less slack
  pub before_minus : (y y' x x' : R) → Near y → Near y' → Near x → Near x' → Before m y y' → Before m x' x → Before m (minus m y x) (minus m y' x')
  before_minus y y' x x' ny ny' nx nx' h k =
      laws.chain (minus m y x) (minus m y' x) (minus m y' x') (minus_fine y x ny nx) (minus_fine y' x ny' nx) (minus_fine y' x' ny' nx')
      (before_right y y' (m.opposite x) ny ny' (omega (arith, laws.opposites x)) h)
      (before_left (m.opposite x) (m.opposite x') y' (omega (arith, laws.opposites x)) (omega (arith, laws.opposites x')) ny' (before_opposite x' x nx' nx k))
