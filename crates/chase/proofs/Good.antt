-- What a replacement keeps of the rule for a query.
-- Assumes nothing.
use mathlib.Core.Path.{◌≡◌, refl}
use mathlib.Core.Bool.{true, false≢true}
use mathlib.Core.List.{List, [], ◌∷◌, map}
use Prim.Native.Nat.{ℕ, ◌*◌, ◌≤◌, ◌<◌}
use native.Mathlib.Omega.{arith}
use borrow.Author.Tests.{lt-ltb}
use lib.Dec.{eqb}
use lib.ListN.{length, take, drop, get_or}
use Rattle.query.specs.declared.Entry.{Entry}
use Rattle.query.specs.declared.Entry.TheVariants.{Constant, Variable}
use Rattle.query.specs.declared.Cell.{Cell}
use Rattle.query.specs.Types.{Query}
use Rattle.lists.specs.Tests.{every, in_use}
use Rattle.query.specs.View.{as_query}
use Rattle.query.specs.Rule.{blank_entry, blank_cell, good_entry, good_cell, good_row, good_rows, head_in_use, good_up_to, good_tableau, never_tableau}
use Rattle.lists.proofs.Tests.{and_right, used-good, used-blank, used-whole}
use Rattle.lists.proofs.Maps.{take-map, drop-map, every_map}
use Rattle.query.proofs.Good.{good-query, make-query}
use Rattle.query.proofs.Stored.{row-parts, row_at}
use Rattle.replacement.specs.internal.Replacement.{substitute_entry, substitute_cell, map_cells}
use Rattle.theory.proofs.Lists.{bool_cases}

-- A replacement keeps blank entries blank, and good entries good if the new entry is
substitute-blank : (v : ℕ) (e x : Entry) → blank_entry x ≡ true → blank_entry (substitute_entry v e x) ≡ true
unfolding substitute_entry
substitute-blank v e (Constant n) p = p
substitute-blank v e (Variable w) p = absurd (false≢true p)

substitute-good : (v : ℕ) (e : Entry) → good_entry e ≡ true → (x : Entry) → good_entry x ≡ true → good_entry (substitute_entry v e x) ≡ true
unfolding substitute_entry
substitute-good v e good (Constant n) p = p
substitute-good v e good (Variable w) p = bool_cases (eqb w v) (λ q. rw q good) (λ q. rw q p)

-- The first of good rows: its relation is known, and its cells are good and blank; and the rows after it are good
pub good-row : (schema : List ℕ) (relation : ℕ) (relations : List ℕ) (cells : List Cell) → good_rows schema (relation ∷ relations) cells ≡ true
    → (relation < length schema) × (in_use (get_or schema relation 0) good_cell blank_cell (take 8 cells) ≡ true) × (good_rows schema relations (drop 8 cells) ≡ true)
unfolding good_rows
good-row schema relation relations cells p =
    let row = row-parts schema relation (take 8 cells) (row_at schema (relation ∷ relations) cells 0 p (omega arith)) in
    (row.0, row.1, and_right (good_row schema relation (take 8 cells)) (good_rows schema relations (drop 8 cells)) p)

-- so cells that are not in use stay blank
pub unused-kept : (v : ℕ) (e : Entry) (n : ℕ) (cells : List Cell) → every blank_cell (drop n cells) ≡ true
    → every blank_cell (drop n (map (substitute_cell v e) cells)) ≡ true
unused-kept v e n cells p = rw drop-map (every_map blank_cell blank_cell (substitute_cell v e) (λ c. substitute-blank v e c.entry) (drop n cells) p)

module _ (v : ℕ) (e : Entry) (good : good_entry e ≡ true) where
  pub cells-kept : (cells : List Cell) → every good_cell cells ≡ true → every good_cell (map (substitute_cell v e) cells) ≡ true
  cells-kept = every_map good_cell good_cell (substitute_cell v e) (λ c. substitute-good v e good c.entry)

  used-kept : (n : ℕ) (cells : List Cell) → in_use n good_cell blank_cell cells ≡ true → in_use n good_cell blank_cell (map (substitute_cell v e) cells) ≡ true
  used-kept n cells p =
      used-whole n good_cell blank_cell (map (substitute_cell v e) cells)
      (rw take-map (cells-kept (take n cells) (used-good n good_cell blank_cell cells p)))
      (unused-kept v e n cells (used-blank n good_cell blank_cell cells p))

  rows-kept : (schema relations : List ℕ) (cells : List Cell) → good_rows schema relations cells ≡ true
      → good_rows schema relations (map (substitute_cell v e) cells) ≡ true
  unfolding good_rows
  rows-kept schema [] cells p = refl
  rows-kept schema (relation ∷ relations) cells p =
      let parts = good-row schema relation relations cells p in
      let w = get_or schema relation 0 in
      rw (
        take-map (substitute_cell v e) 8 cells,
        drop-map (substitute_cell v e) 8 cells,
        lt-ltb relation (length schema) parts.0,
        used-kept w (take 8 cells) parts.1,
      )
      (rows-kept schema relations (drop 8 cells) parts.2)

  -- A replacement by a good entry keeps a query good
  pub good-kept : (most : ℕ) (schema : List ℕ) (q : Query) → good_up_to most schema q ≡ true → good_up_to most schema (map_cells (substitute_cell v e) q) ≡ true
  good-kept most schema q good-q =
      let p = good-query most schema q good-q in
      make-query most schema (map_cells (substitute_cell v e) q)
      (record {
        arity = p.arity;
        size = p.size;
        head = used-kept (head_in_use q) q.head p.head;
        rows = rows-kept schema (take q.size q.relations) q.cells p.rows;
        named = p.named;
        cells = unused-kept v e (8 * q.size) q.cells p.cells;
      })

-- The never query is good
pub never-good : (schema : List ℕ) (arity : ℕ) → arity ≤ 8 → good_tableau schema (never_tableau arity) ≡ true
unfolding good_rows every
never-good schema arity fits =
    make-query 24 schema (as_query (never_tableau arity)) (record { arity = fits; size = omega arith; head = refl; rows = refl; named = refl; cells = refl })
