-- How a variable is looked for: in a row's cells, in the rows, and for each entry of a head. One law for every width and row count.
-- A variable stands in neither of two lists exactly when not in the first and not in the second
use mathlib.Core.Path.{◌≡◌, refl, sym, ap, ◌∙◌}
use mathlib.Core.Bool.{Bool, true, false, cond, not, ◌&&◌, ◌||◌}
use Rattle.std.specs.List.{list_any}
use mathlib.Core.List.{List, [], ◌∷◌, ◌++◌}
use Prim.Native.Nat.{ℕ, suc, ◌+◌, ◌*◌}
use native.Mathlib.Omega.{arith}
use lib.Dec.{eqb}
use lib.ListN.{take, drop, get_or}
use lib.Seq.{drop-drop}
use Rattle.theory.specs.Query as theory
use Rattle.theory.specs.Query.{member, variables_of, row_entries}
use Rattle.theory.specs.Query.{subset}
use Rattle.query.specs.declared.Entry.{Entry}
use Rattle.query.specs.declared.Entry.TheVariants.{Constant, Variable}
use Rattle.query.specs.declared.Cell.{Cell}
use Rattle.query.specs.Types.{Query}
use Rattle.query.specs.View.{entry_of, entries_of, rows_of}
use Rattle.lists.specs.Tests.{every}
use Rattle.limits.specs.internal.Entries.{is_variable, names_variable, safe_entry, safe_cell}
use Rattle.query.specs.Rule.{head_safe}
use Rattle.lists.proofs.Loops.{and_assoc, every_at, Sought}

not-cond : (t m : Bool) → not (cond t true m) ≡ not t && not m
not-cond true m = refl
not-cond false m = refl

absent-append : (v : ℕ) (es fs : List theory.Entry)
    → not (member v (variables_of (es ++ fs))) ≡ not (member v (variables_of es)) && not (member v (variables_of fs))
unfolding variables_of member
absent-append v [] fs = refl
absent-append v (theory.constant n ∷ es) fs = absent-append v es fs
absent-append v (theory.variable w ∷ es) fs =
    not-cond (eqb v w) (member v (variables_of (es ++ fs))) ∙ ap (λ (t : Bool). not (eqb v w) && t) (absent-append v es fs)
    ∙ sym (and_assoc (not (eqb v w)) (not (member v (variables_of es))) (not (member v (variables_of fs))))
    ∙ ap (λ (t : Bool). t && not (member v (variables_of fs))) (sym (not-cond (eqb v w) (member v (variables_of es))))

-- ---- in the cells of a row

cond-or : (t m : Bool) → t || m ≡ cond t true m
cond-or true m = refl
cond-or false m = refl

here : (v : ℕ) (e : Entry) (rest : List theory.Entry)
    → is_variable v e || member v (variables_of rest) ≡ member v (variables_of (entry_of e ∷ rest))
unfolding variables_of member
here v (Constant n) rest = refl
here v (Variable w) rest = cond-or (eqb v w) (member v (variables_of rest))

-- A variable stands in some cells exactly when a cell is that variable
pub any-member : (v : ℕ) (cells : List Cell) → list_any (names_variable v) cells ≡ member v (variables_of (entries_of cells))
unfolding variables_of member
any-member v [] = refl
any-member v (c ∷ cs) = ap (λ (t : Bool). names_variable v c || t) (any-member v cs) ∙ here v c.entry (entries_of cs)

-- ---- in the rows

-- Whether a variable stands in the row at position i
abbrev pub row_has : List ℕ → List Cell → ℕ → ℕ → ℕ → Bool
row_has schema cells v i relation = member v (variables_of (entries_of (take (get_or schema relation 0) (drop (8 * i) cells))))

absent-rows : (schema : List ℕ) (cells : List Cell) (v i : ℕ) (rs : List ℕ)
    → not (member v (variables_of (row_entries (rows_of schema rs (drop (8 * i) cells))))) ≡ every_at (λ k r. not (row_has schema cells v k r)) i rs
unfolding rows_of row_entries variables_of member every_at
absent-rows schema cells v i [] = refl
absent-rows schema cells v i (r ∷ rs) =
    let next : 8 * i + 8 ≡ 8 * suc i = omega arith in
    let here : drop 8 (drop (8 * i) cells) ≡ drop (8 * suc i) cells = drop-drop 8 (8 * i) cells ∙ ap (λ (k : ℕ). drop k cells) next in
    absent-append v (entries_of (take (get_or schema r 0) (drop (8 * i) cells))) (row_entries (rows_of schema rs (drop 8 (drop (8 * i) cells))))
    ∙ ap (λ (t : Bool). not (row_has schema cells v i r) && t)
    (ap (λ (cs : List Cell). not (member v (variables_of (row_entries (rows_of schema rs cs))))) here ∙ absent-rows schema cells v (suc i) rs)

-- A loop that looks for a variable in rows starts so
pub rows_start : (schema : List ℕ) (cells : List Cell) (v : ℕ) (rs : List ℕ)
    → Sought (row_has schema cells v) rs (member v (variables_of (row_entries (rows_of schema rs cells)))) 0
rows_start schema cells v rs = record { rest = record { rest = absent-rows schema cells v 0 rs } }

-- ---- for each entry of a head

subset-entry : (variables : List ℕ) (e : Entry) (rest : List theory.Entry)
    → subset (variables_of (entry_of e ∷ rest)) variables ≡ safe_entry variables e && subset (variables_of rest) variables
unfolding variables_of subset
subset-entry variables (Constant n) rest = refl
subset-entry variables (Variable w) rest = refl

-- The variables of some cells stand among others exactly when each cell is safe
pub subset-cells : (variables : List ℕ) (cells : List Cell) → subset (variables_of (entries_of cells)) variables ≡ every (safe_cell variables) cells
unfolding variables_of subset every
subset-cells variables [] = refl
subset-cells variables (c ∷ cs) =
    subset-entry variables c.entry (entries_of cs) ∙ ap (λ (t : Bool). safe_cell variables c && t) (subset-cells variables cs)

-- The variables of the rows of a stored query
abbrev pub row_variables : List ℕ → Query → List ℕ
row_variables schema q = variables_of (row_entries (rows_of schema (take q.size q.relations) q.cells))

-- A head is safe exactly when each of its cells is
pub head-safe-is : (schema : List ℕ) (q : Query) → head_safe schema q ≡ every (safe_cell (row_variables schema q)) (take q.arity q.head)
unfolding head_safe
head-safe-is schema q = subset-cells (row_variables schema q) (take q.arity q.head)
