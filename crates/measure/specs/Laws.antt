-- What every measure shows of itself: its width, the bounds of the rows entered, and the laws of its order.
use Rattle.std.specs.Prelude.{◌≡◌, ℕ, ◌≤◌, Bool, true, ◌⊎◌, ℤ}
use Rattle.measure.specs.Rows.{Row, Within, Bounded, plus}

-- the rows that values can mean
abbrev pub InRange : (n : ℕ) → Row n → Type 0
InRange n r = Bounded n 1000000000 r

-- the four laws of an order of rows, asked only of rows in range, since a measure can show no more of what its values mean:
-- of two rows one is not after the other; two that are each not after the other are equal; not-after goes on; one row added to both sides changes no answer
pub record Order (n : ℕ) (not_later : Row n → Row n → Bool) : Type 0 where
  pub total : (a b : Row n) → InRange n a → InRange n b → (not_later a b ≡ true) ⊎ (not_later b a ≡ true)
  pub antisym : (a b : Row n) → InRange n a → InRange n b → not_later a b ≡ true → not_later b a ≡ true → a ≡ b
  pub trans : (a b c : Row n) → InRange n a → InRange n b → InRange n c → not_later a b ≡ true → not_later b c ≡ true → not_later a c ≡ true
  pub shift : (a b c : Row n) → InRange n a → InRange n b → InRange n c → InRange n (plus n a c) → InRange n (plus n b c) → not_later (plus n a c) (plus n b c) ≡ not_later a b

-- a row has one to three places, and that of a tick count has none beyond 1,000,000
pub record Laws (n : ℕ) (not_later : Row n → Row n → Bool) (row_of_time row_of_arc : ℤ → Row n) : Type 0 where
  pub some : 1 ≤ n
  pub few : n ≤ 3
  pub time : (t : ℤ) → Within 1000000 t → Bounded n 1000000 (row_of_time t)
  pub arc : (d : ℤ) → Within 1000000 d → Bounded n 1000000 (row_of_arc d)
  pub order : Order n not_later
