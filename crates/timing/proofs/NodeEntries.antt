-- The entries of the nodes, one after the other.
use Rattle.std.proofs.Common.{◌≡◌, ℕ, zero, suc, ◌+◌, ◌-◌, ◌<◌, ◌≤◌, cond, List, [], ◌∷◌, ◌++◌, map, length, get_or, take, set, sym, refl, ap, ◌∙◌, ap₂, arith}
use Rattle.std.specs.List.{range_with_len}
use Rattle.std.proofs.lemmas.List.{take_more_set, take_all}
use Rattle.std.proofs.lemmas.List.FromFn.{map-range_with_len_more}
use Rattle.std.proofs.lemmas.Bool.{eq-eqb, ne_eqb}
use Rattle.paths.specs.Rows.{Rows}
use Rattle.paths.specs.Graphs.{node_count}
use Rattle.paths.specs.Sheets.{slack_of, slacks, first_least, node_slack}
use Rattle.graph.specs.Sorting.{segment}
use Rattle.sheet.specs.declared.line.Line.{Line}
use Rattle.sheet.specs.Lines.{past_line}
use Rattle.sheet.specs.Written.{by_nodes}
use Rattle.timing.specs.Slacks.{timed_of, timeds, slacks_of}
use Rattle.timing.specs.Grouped.{GroupAt}

module _ {M R : Type 0} (row : M → R) (m : Rows R) where
  -- v's lines are the n lines from a on: its slacks are theirs
  own_slacks : (v k a n : ℕ) (ls : List Line) (xs ys : List M) → length xs ≡ length ls → length ys ≡ length ls → a + n ≤ length ls
      → ((i : ℕ) → a ≤ i → i < a + n → (get_or ls i past_line).node ≡ v)
      → ((i : ℕ) → i < length ls → (get_or ls i past_line).node ≡ v → (a ≤ i) × (i < a + n))
      → slacks m v k (timeds row ls xs ys) ≡ slacks_of m (k + a) (segment a n (timeds row ls xs ys))
  own_slacks v k zero zero [] xs ys p q h own other = refl
  own_slacks v k zero (suc n) [] xs ys p q h own other = absurd (omega arith)
  own_slacks v k (suc a) n [] xs ys p q h own other = absurd (omega arith)
  own_slacks v k a n (l ∷ ls) [] ys p q h own other = absurd (omega arith)
  own_slacks v k a n (l ∷ ls) (x ∷ xs) [] p q h own other = absurd (omega arith)
  own_slacks v k zero zero (l ∷ ls) (x ∷ xs) (y ∷ ys) p q h own other =
      let t = timed_of row l x y in
      let rest = slacks m v (suc k) (timeds row ls xs ys) in
      ap (λ c. cond c (slack_of m k t t.required ++ rest) rest) (ne_eqb l.node v (λ e. omega (arith, other 0 (omega arith) e)))
      ∙ own_slacks v (suc k) zero zero ls xs ys (omega arith) (omega arith) (omega arith) (λ i a b. absurd (omega arith)) (λ i b e. absurd (omega (arith, other (suc i) (omega arith) e)))
  own_slacks v k zero (suc n) (l ∷ ls) (x ∷ xs) (y ∷ ys) p q h own other =
      let t = timed_of row l x y in
      let ts = timeds row ls xs ys in
      let rest = slacks m v (suc k) ts in
      let z : k ≡ k + 0 = omega arith in
      let s : suc k + 0 ≡ suc (k + 0) = omega arith in
      ap (λ c. cond c (slack_of m k t t.required ++ rest) rest) (eq-eqb l.node v (own 0 (omega arith) (omega arith)))
      ∙ ap₂ (λ i c. slack_of m i t t.required ++ c) z
      (own_slacks v (suc k) zero n ls xs ys (omega arith) (omega arith) (omega arith) (λ i a b. own (suc i) (omega arith) (omega arith))
      (λ i b e. let o = other (suc i) (omega arith) e in (omega arith, omega (arith, o)))
      ∙ ap (λ i. slacks_of m i (take n ts)) s)
  own_slacks v k (suc a) n (l ∷ ls) (x ∷ xs) (y ∷ ys) p q h own other =
      let t = timed_of row l x y in
      let ts = timeds row ls xs ys in
      let rest = slacks m v (suc k) ts in
      let z : suc k + a ≡ k + suc a = omega arith in
      ap (λ c. cond c (slack_of m k t t.required ++ rest) rest) (ne_eqb l.node v (λ e. omega (arith, other 0 (omega arith) e)))
      ∙ own_slacks v (suc k) a n ls xs ys (omega arith) (omega arith) (omega arith) (λ i c d. own (suc i) (omega arith) (omega arith))
      (λ i b e. let o = other (suc i) (omega arith) e in (omega (arith, o), omega (arith, o)))
      ∙ ap (λ i. slacks_of m i (segment a n ts)) z

  -- so is its least slack
  pub slack_at : (v : ℕ) (firsts : List ℕ) (ls : List Line) (xs ys : List M) → length xs ≡ length ls → length ys ≡ length ls → GroupAt ls firsts v
      → first_least m (slacks_of m (get_or firsts v 0) (segment (get_or firsts v 0) (get_or firsts (v + 1) 0 - get_or firsts v 0) (timeds row ls xs ys))) ≡ node_slack m v (timeds row ls xs ys)
  slack_at v firsts ls xs ys p q g =
      let a = get_or firsts v 0 in
      let n = get_or firsts (v + 1) 0 - a in
      let z : 0 + a ≡ a = omega arith in
      let up = g.rising in
      sym (ap (first_least m) (own_slacks v 0 a n ls xs ys p q (omega (arith, up, g.stand)) (λ i c d. g.inside i c (omega arith))
      (λ i b e. let o = g.outside i b e in (o.0, omega (arith, o.1))) ∙ ap (λ i. slacks_of m i (segment a n (timeds row ls xs ys))) z))

-- ---- a table with one item for each node
pub nodes_more : {X : Type 0} (f : ℕ → X) (xs new : List X) (i : ℕ) (y : X) → i < length xs → new ≡ set xs i y → y ≡ f i → take i xs ≡ map f (range_with_len 0 i) → take (i + 1) new ≡ map f (range_with_len 0 (i + 1))
nodes_more f xs new i y h w e p =
    ap (take (i + 1)) w ∙ take_more_set xs i y h ∙ ap₂ (λ a b. a ++ b ∷ []) p e ∙ sym (map-range_with_len_more f 0 i i (omega arith))

counted : {X : Type 0} (f : ℕ → X) (i : ℕ) → i ≡ node_count → map f (range_with_len 0 i) ≡ by_nodes f
unfolding by_nodes
counted f i e = ap (λ n. map f (range_with_len 0 n)) e

pub nodes_all : {X : Type 0} (f : ℕ → X) (xs : List X) (i : ℕ) → i ≡ 256 → length xs ≡ 256 → take i xs ≡ map f (range_with_len 0 i) → xs ≡ by_nodes f
nodes_all f xs i e l p = sym (take_all i xs (omega arith)) ∙ p ∙ counted f i e
