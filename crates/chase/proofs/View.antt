-- A function on cells that stands for one on entries commutes with the view of a stored query. For every width and row count.
-- Assumes nothing.
use mathlib.Core.Path.{◌≡◌, ◌∙◌, ap}
use mathlib.Core.List.{List, map}
use Prim.Native.Nat.{ℕ}
use lib.ListN.{take}
use Rattle.query.specs.declared.Cell.{Cell}
use Rattle.query.specs.View.{entry_of, entries_of}
use Rattle.lists.proofs.Maps.{take-map, map-square}
use Rattle.theory.specs.Query.{Entry}

-- f does to a cell what g does to its entry
abbrev pub StandsFor : (Cell → Cell) → (Entry → Entry) → Type 0
StandsFor f g = (c : Cell) → entry_of (f c).entry ≡ g (entry_of c.entry)

module _ (f : Cell → Cell) (g : Entry → Entry) (same : StandsFor f g) where
  pub entries_of-map : (cells : List Cell) → entries_of (map f cells) ≡ map g (entries_of cells)
  entries_of-map cells = map-square f (λ c. entry_of c.entry) (λ c. entry_of c.entry) g same cells

  pub entries_of-take : (n : ℕ) (cells : List Cell) → entries_of (take n (map f cells)) ≡ map g (entries_of (take n cells))
  entries_of-take n cells = ap entries_of (take-map f n cells) ∙ entries_of-map (take n cells)
