-- Laws of one step of the chase on stored entries: the replacement, and what stands in a head. Assumes nothing.
use mathlib.Core.Path.{◌≡◌, refl, ◌∙◌, ap, ap₂}
use mathlib.Core.Bool.{Bool, true, false}
use mathlib.Core.List.{List, [], ◌∷◌, ◌++◌, map}
use Prim.Native.Nat.{ℕ, zero, suc}
use lib.Dec.{eqb}
use lib.ListN.{take, drop, get_or}
use borrow.Author.Tests.{eq-eqb, ne_eqb}
use Rattle.query.specs.declared.Entry.{Entry}
use Rattle.query.specs.declared.Entry.TheVariants.{Constant, Variable}
use Rattle.query.specs.declared.Cell.{Cell}
use Rattle.query.specs.View.{entries_of}
use Rattle.query.specs.Rule.{blank_cell}
use Rattle.lists.specs.Tests.{every}
use Rattle.lists.proofs.Tests.{and_left, and_right}
use Rattle.lists.proofs.Maps.{map_first}
use Rattle.query.proofs.Shape.{blank-entry}
use Rattle.theory.proofs.Lists.{bool_cases}
use Rattle.replacement.specs.internal.Replacement.{substitute_entry, substitute_cell, stands_in}
use Rattle.std.specs.List.{list_any}
use Rattle.theory.specs.Query.{variables_of, member}

-- A cell with another entry
abbrev cell_of : Entry → Cell
cell_of e = record { entry = e }

-- A constant stays, the variable gives way to the entry, another variable stays
pub substitute-constant : (v : ℕ) (e : Entry) (c : Cell) (n : ℕ) → c.entry ≡ Constant n → c ≡ substitute_cell v e c
unfolding substitute_entry
substitute-constant v e c n is = ap cell_of (is ∙ rw is)

pub substitute-same : (v : ℕ) (e : Entry) (c : Cell) (w : ℕ) → c.entry ≡ Variable w → w ≡ v → cell_of e ≡ substitute_cell v e c
unfolding substitute_entry
substitute-same v e c w is same = ap cell_of (rw (is, eq-eqb w v same))

pub substitute-other : (v : ℕ) (e : Entry) (c : Cell) (w : ℕ) → c.entry ≡ Variable w → (w ≡ v → ⊥) → c ≡ substitute_cell v e c
unfolding substitute_entry
substitute-other v e c w is other = ap cell_of (is ∙ rw (is, ne_eqb w v other))

-- A cell that is not in use holds a constant, and stays
substitute-unused : (v : ℕ) (e : Entry) (c : Cell) → blank_cell c ≡ true → c ≡ substitute_cell v e c
substitute-unused v e c blank = substitute-constant v e c 0 (blank-entry c.entry blank)

-- With all that is in use replaced, all cells are
pub substitute-used : (v : ℕ) (e : Entry) (k : ℕ) (cells : List Cell) → every blank_cell (drop k cells) ≡ true
    → map (substitute_cell v e) (take k cells) ++ drop k cells ≡ map (substitute_cell v e) cells
unfolding every
substitute-used v e zero [] blank = refl
substitute-used v e zero (c ∷ cs) blank =
    ap₂ ◌∷◌ (substitute-unused v e c (and_left (blank_cell c) (every blank_cell cs) blank))
    (substitute-used v e zero cs (and_right (blank_cell c) (every blank_cell cs) blank))
substitute-used v e (suc k) [] blank = refl
substitute-used v e (suc k) (c ∷ cs) blank = ap (λ (l : List Cell). substitute_cell v e c ∷ l) (substitute-used v e k cs blank)

-- ---- what stands in cells

-- Whether a cell holds a variable
abbrev entry_holds : ℕ → Entry → Bool
entry_holds v (Constant n) = false
entry_holds v (Variable w) = eqb v w

abbrev pub holds_variable : ℕ → Cell → Bool
holds_variable v cell = entry_holds v cell.entry

-- A variable stands in some cells exactly when it is one of their variables
pub any-member : (v : ℕ) (cells : List Cell) → list_any (holds_variable v) cells ≡ stands_in cells v
unfolding variables_of member
any-member v [] = refl
any-member v (cell ∷ cells) = go cell.entry (any-member v cells)
  where
    go : (e : Entry) → list_any (holds_variable v) cells ≡ member v (variables_of (entries_of cells))
        → list_any (holds_variable v) (cell_of e ∷ cells) ≡ member v (variables_of (entries_of (cell_of e ∷ cells)))
    go (Constant n) later = later
    go (Variable w) later = bool_cases (eqb v w) (λ p. rw p) (λ p. rw p later)
