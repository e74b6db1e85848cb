-- Paths of a block: which are open, and their slack. Nothing here speaks of tags but `Carries`.
use Rattle.std.specs.Prelude.{◌≡◌, ℕ, ◌<◌, T, List, [], ◌∷◌, ◌++◌, map, Some, None, Option}
use Rattle.std.specs.List.{AllByRecursion}
use Rattle.paths.specs.Rows.{Rows, Before, minus}
use Rattle.paths.specs.Tags.{set_count}
use Rattle.paths.specs.Blocks.{Arc, RowBlock, Live, in_set, is_begin, is_end, pass, passes}

-- the live arcs es lead from u to v, each starting where the one before ended; no arc at all leads from u to u
abbrev pub Leads : {R : Type 0} → RowBlock R → ℕ → List (Arc R) → ℕ → Type 0
Leads b u [] v = u ≡ v
Leads b u (e ∷ es) v = Live b e × (e.from ≡ u) × Leads b e.to es v

-- the numbers of the arcs
abbrev pub numbers : {R : Type 0} → List (Arc R) → List ℕ
numbers es = map (λ e. e.number) es

-- some stretch of es has all its arcs in one set, and runs from where that set begins to where it ends
pub record Falsified {R : Type 0} (b : RowBlock R) (es : List (Arc R)) : Type 0 where
  pub set : ℕ
  pub set_below : set < set_count
  pub front : List (Arc R)
  pub stretch : List (Arc R)
  pub back : List (Arc R)
  pub parts : es ≡ front ++ (stretch ++ back)
  pub inside : AllByRecursion (λ e. T (in_set set e)) stretch
  pub first : ℕ
  pub last : ℕ
  pub leads : Leads b first stretch last
  pub begins : T (is_begin b set first)
  pub ends : T (is_end b set last)

abbrev pub Open : {R : Type 0} → RowBlock R → List (Arc R) → Type 0
Open b es = Falsified b es → ⊥

-- the sum of the arcs' rows
abbrev pub total : {R : Type 0} → Rows R → List (Arc R) → R
total m [] = m.origin
total m (e ∷ es) = m.plus e.row (total m es)

-- an open complete path through v: arcs to v from a node with a start, and arcs from v to a node with an end
pub record Through {R : Type 0} (b : RowBlock R) (v : ℕ) : Type 0 where
  pub first : ℕ
  pub last : ℕ
  pub before : List (Arc R)
  pub after : List (Arc R)
  pub starts_at : R
  pub ends_at : R
  pub starts : b.start first ≡ Some starts_at
  pub ends : b.end last ≡ Some ends_at
  pub reaches : Leads b first before v
  pub goes_on : Leads b v after last
  pub open_path : Open b (before ++ after)

-- its slack: the end's row minus the start's row and the arcs' rows
abbrev pub slack : {R : Type 0} → Rows R → {b : RowBlock R} {v : ℕ} → Through b v → R
slack m p = minus m p.ends_at (m.plus p.starts_at (total m (p.before ++ p.after)))

-- x is the least slack of the open complete paths through v; None where there is no such path
abbrev pub LeastSlack : {R : Type 0} → Rows R → RowBlock R → ℕ → Option R → Type 0
LeastSlack m b v None = Through b v → ⊥
LeastSlack m b v (Some x) = ((p : Through b v) × (slack m p ≡ x)) × ((p : Through b v) → Before m x (slack m p))

-- es ends with a stretch, of one arc or more, that lies all in set i and starts where that set begins
pub record Ending {R : Type 0} (b : RowBlock R) (i : ℕ) (es : List (Arc R)) : Type 0 where
  pub front : List (Arc R)
  pub arc : Arc R
  pub rest : List (Arc R)
  pub parts : es ≡ front ++ (arc ∷ rest)
  pub inside : AllByRecursion (λ e. T (in_set i e)) (arc ∷ rest)
  pub begins : T (is_begin b i arc.from)

-- an arrival with tag s passes the arcs es undropped, and then has tag t
abbrev pub Carries : {R : Type 0} → RowBlock R → ℕ → List (Arc R) → ℕ → Type 0
Carries b s [] t = s ≡ t
Carries b s (e ∷ es) t = T (passes b s e) × Carries b (pass b s e) es t
