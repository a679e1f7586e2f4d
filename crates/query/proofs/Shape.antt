-- Stored arrays by position, and values that are not in use:
--   1. what stands at a position of the theory's query, 2. what a blank cell, dependency or query is.
use mathlib.Core.Path.{◌≡◌, refl, ap, ◌∙◌}
use mathlib.Core.Bool.{Bool, true, false, cond, ◌&&◌}
use mathlib.Core.List.{List, [], ◌∷◌, ◌++◌}
use Prim.Native.Nat.{ℕ, zero, suc, ◌+◌, ◌*◌, ◌-◌, ◌≤◌, ◌<◌}
use native.Mathlib.Nat.{le_of_suc-le-suc, not-suc-le-zero}
use native.Mathlib.Omega.{arith}
use lib.Dec.{eqb}
use lib.ListN.{length, take, drop, get_or, replicate, length-map, get_or-map}
use lib.Seq.{drop-drop, length-take-le}
use borrow.Author.Tests.{eqb-true}
use Rattle.theory.specs.Query as theory
use Rattle.query.specs.declared.Entry.{Entry}
use Rattle.query.specs.declared.Entry.TheVariants.{Constant, Variable}
use Rattle.query.specs.declared.Cell.{Cell}
use Rattle.query.specs.Types.{Query}
use Rattle.query.specs.declared.Dependency.{Dependency}
use Rattle.query.specs.declared.JoinDependency.{JoinDependency}
use Rattle.query.specs.declared.Place.{Place}
use Rattle.query.specs.View.{entry_of, entries_of, rows_of, query_of}
use Rattle.lists.specs.Tests.{every, is_zero}
use Rattle.query.specs.Rule.{good_cell, blank_entry, blank_cell, blank_dependency, blank_join, no_join, head_in_use, good_up_to, shaped_for, blank_query, no_cell}
use Rattle.query.specs.Rule.{no_dependency, no_query}
use Rattle.lists.proofs.Tests.{and_left, and_right, every-same, used-blank, padded}
use Rattle.lists.proofs.Loops.{stretch-get_or}
use Rattle.query.proofs.Good.{good-query}

-- ---- the lengths of a query's arrays

-- What the types say of a query's arrays, which have room for so many rows
pub record SizedFor (rows : ℕ) (q : Query) : Type 0 where
  pub head : length q.head ≡ 8
  pub relations : length q.relations ≡ rows
  pub cells : length q.cells ≡ 8 * rows

pub shaped-sized : (rows : ℕ) (q : Query) → shaped_for rows q ≡ true → SizedFor rows q
shaped-sized rows q e =
    let a : Bool = eqb (length q.head) 8 in
    let b : Bool = eqb (length q.relations) rows in
    let c : Bool = eqb (length q.cells) (8 * rows) in
    let e2 : a && b ≡ true = and_left (a && b) c e in
    record {
      head = eqb-true (length q.head) 8 (and_left a b e2);
      relations = eqb-true (length q.relations) rows (and_right a b e2);
      cells = eqb-true (length q.cells) (8 * rows) (and_right (a && b) c e);
    }

-- Of a stored query
abbrev pub Sized : Query → Type 0
Sized q = SizedFor 12 q

-- ---- 1. positions

-- The theory's query has as many head entries and rows as the stored one says
pub head-length : (schema : List ℕ) (q : Query) → q.arity ≤ length q.head → length (query_of schema q).head ≡ q.arity
head-length schema q h = length-map (take q.arity q.head) (λ (c : Cell). entry_of c.entry) ∙ length-take-le q.arity q.head h

pub rows-length : (schema rs : List ℕ) (cells : List Cell) → length (rows_of schema rs cells) ≡ length rs
unfolding rows_of
rows-length schema [] cells = refl
rows-length schema (k ∷ rs) cells = ap suc (rows-length schema rs (drop 8 cells))

pub row_count : (schema : List ℕ) (q : Query) → q.size ≤ length q.relations → length (query_of schema q).rows ≡ q.size
row_count schema q h = rows-length schema (take q.size q.relations) q.cells ∙ length-take-le q.size q.relations h

-- The row of relation k whose cells start at a position
abbrev pub row_from : List ℕ → List Cell → ℕ → ℕ → theory.Row theory.Entry
row_from schema cells start k = record { relation = k; values = entries_of (take (get_or schema k 0) (drop start cells)) }

-- Row i has the cells from 8 * i on
pub row_is : (schema rs : List ℕ) (cells : List Cell) (i : ℕ) (z : theory.Row theory.Entry) → i < length rs
    → get_or (rows_of schema rs cells) i z ≡ row_from schema cells (8 * i) (get_or rs i 0)
unfolding rows_of
row_is schema [] cells i z h = absurd (not-suc-le-zero h)
row_is schema (k ∷ rs) cells zero z h = refl
row_is schema (k ∷ rs) cells (suc i) z h =
    let next : 8 + 8 * i ≡ 8 * suc i = omega arith in
    row_is schema rs (drop 8 cells) i z (le_of_suc-le-suc h)
    ∙ ap (λ (cs : List Cell). row_from schema cs 0 (get_or rs i 0)) (drop-drop (8 * i) 8 cells ∙ ap (λ (n : ℕ). drop n cells) next)

-- Column c of a row whose cells start at a position
pub column-is : (w start : ℕ) (cells : List Cell) (c : ℕ) → c < w
    → get_or (entries_of (take w (drop start cells))) c (theory.constant 0) ≡ entry_of (get_or cells (start + c) no_cell).entry
column-is w start cells c h =
    get_or-map (λ (x : Cell). entry_of x.entry) (take w (drop start cells)) c no_cell
    ∙ ap (λ (x : Cell). entry_of x.entry) (stretch-get_or start w cells c no_cell h)

-- Head entry i
pub head-is : (schema : List ℕ) (q : Query) (i : ℕ) → i < q.arity
    → get_or (query_of schema q).head i (theory.constant 0) ≡ entry_of (get_or q.head i no_cell).entry
head-is schema q i h = column-is q.arity 0 q.head i h ∙ ap (λ (k : ℕ). entry_of (get_or q.head k no_cell).entry) (omega arith)

-- ---- 2. values that are not in use

pub blank-entry : (e : Entry) → blank_entry e ≡ true → e ≡ Constant 0
blank-entry (Constant n) e = ap Constant (eqb-true n 0 e)
blank-entry (Variable v) e = let z : ◌≡◌ {A = ℕ} 0 1 = ap (λ (t : Bool). cond {A = ℕ} t 1 0) e in absurd (omega arith)

pub blank-cell : (c : Cell) → blank_cell c ≡ true → c ≡ no_cell
blank-cell c e = λ i. record { entry = blank-entry c.entry e i }

pub blank-number : (n : ℕ) → is_zero n ≡ true → n ≡ 0
blank-number n e = eqb-true n 0 e

pub blank-dependency : (d : Dependency) → blank_dependency d ≡ true → d ≡ no_dependency
blank-dependency d e =
    let a : Bool = is_zero d.relation in
    let b : Bool = is_zero d.left in
    let f : Bool = is_zero d.right in
    let e2 : a && b ≡ true = and_left (a && b) f e in
    λ i.
    record {
      relation = eqb-true d.relation 0 (and_left a b e2) i;
      left = eqb-true d.left 0 (and_right a b e2) i;
      right = eqb-true d.right 0 (and_right (a && b) f e) i;
    }

pub blank-join : (j : JoinDependency) → length j.sets ≡ 4 → blank_join j ≡ true → j ≡ no_join
blank-join j long e =
    let a : Bool = is_zero j.relation in
    let b : Bool = is_zero j.count in
    let f : Bool = every is_zero j.sets in
    let e2 : a && b ≡ true = and_left (a && b) f e in
    let sets : j.sets ≡ replicate 4 0 = every-same is_zero 0 blank-number j.sets (and_right (a && b) f e) ∙ ap (λ (n : ℕ). replicate n 0) long in
    λ i.
    record {
      relation = eqb-true j.relation 0 (and_left a b e2) i;
      count = eqb-true j.count 0 (and_right a b e2) i;
      sets = sets i;
    }

-- A blank query is the query of a vacant place
pub blank-query : (q : Query) → length q.head ≡ 8 → length q.relations ≡ 12 → length q.cells ≡ 96 → blank_query q ≡ true → q ≡ no_query
unfolding blank_query
blank-query q head-long named-long cells-long e =
    let a : Bool = is_zero q.arity in
    let b : Bool = is_zero q.size in
    let f : Bool = every blank_cell q.head in
    let g : Bool = every is_zero q.relations in
    let h : Bool = every blank_cell q.cells in
    let e4 : a && b && f && g ≡ true = and_left (a && b && f && g) h e in
    let e3 : a && b && f ≡ true = and_left (a && b && f) g e4 in
    let e2 : a && b ≡ true = and_left (a && b) f e3 in
    let head : q.head ≡ replicate 8 no_cell =
    every-same blank_cell no_cell blank-cell q.head (and_right (a && b) f e3) ∙ ap (λ (n : ℕ). replicate n no_cell) head-long
    in
    let named : q.relations ≡ replicate 12 0 =
    every-same is_zero 0 blank-number q.relations (and_right (a && b && f) g e4) ∙ ap (λ (n : ℕ). replicate n 0) named-long
    in
    let cells : q.cells ≡ replicate 96 no_cell =
    every-same blank_cell no_cell blank-cell q.cells (and_right (a && b && f && g) h e) ∙ ap (λ (n : ℕ). replicate n no_cell) cells-long
    in
    λ i.
    record {
      arity = eqb-true q.arity 0 (and_left a b e2) i;
      size = eqb-true q.size 0 (and_right a b e2) i;
      head = head i;
      relations = named i;
      cells = cells i;
    }

-- What a read of an array of places past its end would give
abbrev pub past_place : Place
past_place = record { filled = false; query = record { arity = 0; size = 0; head = []; relations = []; cells = [] } }

-- The arrays of a good query are what is in use, then blanks
module _ (most : ℕ) (schema : List ℕ) (q : Query) (good : good_up_to most schema q ≡ true) where
  pub head-padded : q.head ≡ take (head_in_use q) q.head ++ replicate (length q.head - head_in_use q) no_cell
  head-padded =
      padded (head_in_use q) good_cell blank_cell q.head no_cell blank-cell
      (used-blank (head_in_use q) good_cell blank_cell q.head (good-query most schema q good).head)

  pub relations-padded : q.relations ≡ take q.size q.relations ++ replicate (length q.relations - q.size) 0
  relations-padded = padded q.size is_zero is_zero q.relations 0 blank-number (good-query most schema q good).named

  pub cells-padded : q.cells ≡ take (8 * q.size) q.cells ++ replicate (length q.cells - 8 * q.size) no_cell
  cells-padded = padded (8 * q.size) good_cell blank_cell q.cells no_cell blank-cell (good-query most schema q good).cells
