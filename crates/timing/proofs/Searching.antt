-- A search among lines that are sorted by tag.
use Rattle.std.proofs.Common.{◌≡◌, ℕ, ◌+◌, ◌-◌, ◌*◌, ◌<◌, ◌≤◌, cond, ltb, List, length, get_or, drop, sym, ap, ◌∙◌, subst, ⊎_elim, arith}
use Rattle.std.proofs.lemmas.Bool.{lt-ltb, le-ltb, cases_lt}
use Rattle.std.proofs.lemmas.List.{get_or-take, get_or-drop, length-take-le, length-drop}
use Rattle.graph.specs.Sorting.{segment}
use Rattle.sheet.specs.declared.line.Line.{Line}
use Rattle.sheet.specs.Lines.{past_line}
use Rattle.timing.specs.Lines.{SortedByTag}

abbrev pub tag_at : List Line → ℕ → ℕ
tag_at ls k = (get_or ls k past_line).tag

abbrev pub test : ℕ → ℕ → ℕ
test x t = cond (ltb x t) 1 0

test_below : (x t : ℕ) → x < t → test x t ≡ 1
test_below x t h = ap (λ c. cond c 1 0) (lt-ltb x t h)

test_not : (x t : ℕ) → t ≤ x → test x t ≡ 0
test_not x t h = ap (λ c. cond c 1 0) (le-ltb x t h)

-- where a search has come to: the lines before base are below t, those from base + left on are not
pub record Narrowed (ls : List Line) (t base left : ℕ) : Type 0 where
  pub within : base + left ≤ length ls
  pub below : 0 < base → tag_at ls (base - 1) < t
  pub stops : base + left < length ls → t ≤ tag_at ls (base + left)

-- what a count over the first i lines has come to
pub record Counted (ls : List Line) (t i n : ℕ) : Type 0 where
  pub within : n ≤ i
  pub below : (k : ℕ) → k < n → tag_at ls k < t
  pub stops : n < i → t ≤ tag_at ls n

module _ (ls : List Line) (sorted : SortedByTag ls) (t : ℕ) where
  rises : (i j : ℕ) → i ≤ j → j < length ls → tag_at ls i ≤ tag_at ls j
  rises i j le h = ⊎_elim (λ l. omega (arith, sorted i j l h)) (λ g. let e : i ≡ j = omega arith in omega (arith, ap (tag_at ls) e)) (cases_lt i j)

  -- behind the whole quarters that are below t, the next one ends at a line that is not
  pub quarters_stop : (base q a b c : ℕ) → 0 < q → base + 3 * q ≤ length ls
      → a ≡ test (tag_at ls (base + q - 1)) t → b ≡ test (tag_at ls (base + q - 1 + q)) t → c ≡ test (tag_at ls (base + q - 1 + 2 * q)) t
      → q * (a + b + c) < 3 * q → t ≤ tag_at ls (base + q * (a + b + c) + q - 1)
  quarters_stop base q a b c some room is_a is_b is_c less =
      ⊎_elim
      (λ below. absurd (let n = number 3 (omega (arith, a_one (omega (arith, rise_ac, below)), b_one (omega (arith, rise_bc, below)), c_one below)) in omega (arith, less, n)))
      (λ not_c. ⊎_elim
      (λ below. at 2 (omega (arith, a_one (omega (arith, rise_ab, below)), b_one below, c_none not_c)) _ (omega arith) not_c)
      (λ not_b. ⊎_elim
      (λ below. at 1 (omega (arith, a_one below, b_none not_b, c_none not_c)) _ (omega arith) not_b)
      (λ not_a. at 0 (omega (arith, a_none not_a, b_none not_b, c_none not_c)) _ (omega arith) not_a)
      (cases_lt (tag_at ls (base + q - 1)) t))
      (cases_lt (tag_at ls (base + q - 1 + q)) t))
      (cases_lt (tag_at ls (base + q - 1 + 2 * q)) t)
    where
      rise_ab : tag_at ls (base + q - 1) ≤ tag_at ls (base + q - 1 + q)
      rise_ab = rises _ _ (omega arith) (omega arith)

      rise_bc : tag_at ls (base + q - 1 + q) ≤ tag_at ls (base + q - 1 + 2 * q)
      rise_bc = rises _ _ (omega arith) (omega arith)

      rise_ac : tag_at ls (base + q - 1) ≤ tag_at ls (base + q - 1 + 2 * q)
      rise_ac = omega (arith, rise_ab, rise_bc)

      a_one : tag_at ls (base + q - 1) < t → a ≡ 1
      a_one h = is_a ∙ test_below _ t h

      a_none : t ≤ tag_at ls (base + q - 1) → a ≡ 0
      a_none h = is_a ∙ test_not _ t h

      b_one : tag_at ls (base + q - 1 + q) < t → b ≡ 1
      b_one h = is_b ∙ test_below _ t h

      b_none : t ≤ tag_at ls (base + q - 1 + q) → b ≡ 0
      b_none h = is_b ∙ test_not _ t h

      c_one : tag_at ls (base + q - 1 + 2 * q) < t → c ≡ 1
      c_one h = is_c ∙ test_below _ t h

      c_none : t ≤ tag_at ls (base + q - 1 + 2 * q) → c ≡ 0
      c_none h = is_c ∙ test_not _ t h

      number : (n : ℕ) → a + b + c ≡ n → q * (a + b + c) ≡ q * n
      number n e = ap (λ m. q * m) e

      at : (n : ℕ) → a + b + c ≡ n → (i : ℕ) → base + q * n + q - 1 ≡ i → t ≤ tag_at ls i → t ≤ tag_at ls (base + q * (a + b + c) + q - 1)
      at n e i is h = subst (λ k. t ≤ tag_at ls k) (sym (ap (λ m. base + m + q - 1) (number n e) ∙ is)) h

  module _ (base left n : ℕ) (s : Narrowed ls t base left) where
    abbrev window : List Line
    window = segment base (base + left - base) ls

    window_long : length window ≡ left
    window_long = omega (arith, length-take-le (base + left - base) (drop base ls) (omega (arith, length-drop base ls, s.within)), s.within)

    window_at : (k : ℕ) → k < left → tag_at window k ≡ tag_at ls (base + k)
    window_at k h = ap (λ (l : Line). l.tag) (get_or-take (base + left - base) (drop base ls) k past_line (omega arith) ∙ get_or-drop base ls k past_line)

    pub all_below : n ≤ length window → ((k : ℕ) → k < n → tag_at window k < t) → (k : ℕ) → k < base + n → tag_at ls k < t
    all_below le below k h =
        ⊎_elim
        (λ l. omega (arith, rises k (base - 1) (omega arith) (omega (arith, s.within)), s.below (omega arith)))
        (λ g. let e : base + (k - base) ≡ k = omega arith in omega (arith, below (k - base) (omega arith), window_at (k - base) (omega (arith, le, window_long)), ap (tag_at ls) e))
        (cases_lt k base)

    pub stops_there : n ≤ length window → (n < length window → t ≤ tag_at window n) → base + n < length ls → t ≤ tag_at ls (base + n)
    stops_there le stops h =
        ⊎_elim
        (λ l. omega (arith, stops (omega (arith, l, window_long)), window_at n l))
        (λ g. let e : base + left ≡ base + n = omega (arith, g, le, window_long) in omega (arith, s.stops (omega (arith, e)), ap (tag_at ls) e))
        (cases_lt n left)
