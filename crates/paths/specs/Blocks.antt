-- A block in rows: its live arcs, start and end times, and the false sets of the arcs. Nodes are numbered in the order in which they are worked.
use Rattle.std.specs.Prelude.{ℕ, ◌<◌, Bool, not, ◌&&◌, List, [], ◌∷◌, Option, ◌==◌, bit_and, bit_or}
use mathlib.Core.List.{Memᴰ}
use Rattle.std.specs.List.{AllByRecursion, list_any}
use Rattle.paths.specs.Tags.{set_count, has, tag_of, apart}

pub record Arc (R : Type 0) : Type 0 where
  pub number : ℕ
  pub from : ℕ
  pub to : ℕ
  pub row : R
  pub sets : ℕ  -- the sets that hold the arc, as a tag

pub record RowBlock (R : Type 0) : Type 0 where
  pub arcs : List (Arc R)  -- the live arcs
  pub start : ℕ → Option R
  pub end : ℕ → Option R

-- the arcs stand by rising number
abbrev pub ByNumber : {R : Type 0} → List (Arc R) → Type 0
ByNumber [] = Unit {0}
ByNumber (e ∷ es) = AllByRecursion (λ k. e.number < k.number) es × ByNumber es

module _ {R : Type 0} where
  abbrev pub Live : RowBlock R → Arc R → Type 0
  Live b e = Memᴰ e b.arcs

  -- every arc goes from a node to one that is worked later
  abbrev pub Rising : RowBlock R → Type 0
  Rising b = (e : Arc R) → Live b e → e.from < e.to

  abbrev pub in_set : ℕ → Arc R → Bool
  in_set i e = has e.sets i

  -- an arc of set i leaves v, or enters it
  abbrev pub leaves : RowBlock R → ℕ → ℕ → Bool
  leaves b i v = list_any (λ e. in_set i e && e.from == v) b.arcs

  abbrev pub enters : RowBlock R → ℕ → ℕ → Bool
  enters b i v = list_any (λ e. in_set i e && e.to == v) b.arcs

  -- set i begins at v: an arc of it leaves v, and none enters; it ends at v: one enters, and none leaves
  abbrev pub is_begin : RowBlock R → ℕ → ℕ → Bool
  is_begin b i v = leaves b i v && not (enters b i v)

  abbrev pub is_end : RowBlock R → ℕ → ℕ → Bool
  is_end b i v = enters b i v && not (leaves b i v)

  -- the sets that begin at v, and those that end there
  unfoldable pub begin_sets : RowBlock R → ℕ → ℕ
  begin_sets b v = tag_of set_count (λ i. is_begin b i v)

  unfoldable pub end_sets : RowBlock R → ℕ → ℕ
  end_sets b v = tag_of set_count (λ i. is_end b i v)

  -- the tag that an arrival with tag s has after the arc e: those of s and of the sets that begin at e's first node which hold e
  unfoldable pub pass : RowBlock R → ℕ → Arc R → ℕ
  pass b s e = bit_and (bit_or s (begin_sets b e.from)) e.sets

  -- it is dropped where one of them ends
  unfoldable pub passes : RowBlock R → ℕ → Arc R → Bool
  passes b s e = apart (pass b s e) (end_sets b e.to)
