-- The lines of a place are of the rows and the variables of its query, not of its constants: they are the same of the query as it is read. Assumes nothing.
use mathlib.Core.Path.{◌≡◌, ap₂}
use mathlib.Core.Bool.{cond}
use mathlib.Core.List.{List, ◌++◌}
use Prim.Native.Nat.{ℕ}
use lib.Dec.{eqb}
use lib.ListN.{length}
use Rattle.lists.specs.Numbers.{numbers_where}
use Rattle.theory.specs.Query as theory
use Rattle.theory.specs.Codes.{CodePair, read_query}
use Rattle.theory.proofs.Theorems.{read-lengths, reading-keeps-variables}
use Rattle.text.specs.Text.{head_line, least_above, map_line, never_line, occurring, place_line, place_text, rows_text}

pub text-read : (ps : List CodePair) (place : ℕ) (S T : theory.Query) (count : ℕ) (image : ℕ → theory.Entry)
    → place_text place (read_query ps S) T count image ≡ place_text place S T count image
unfolding place_text occurring
text-read ps place S T count image =
    ap₂
    (λ (rows : ℕ) (variables : List ℕ).
    cond (eqb (length T.rows) 0) (never_line place rows count)
    (place_line place rows (length T.rows) count
    ++ (head_line T.head ++ (rows_text T.rows ++ map_line image (numbers_where (λ (v : ℕ). theory.member v variables) 0 (least_above variables))))))
    (read-lengths ps S).0 (reading-keeps-variables ps S)
