-- What it tells that a query or a dependency passes the rule's test: its parts, each by name.
-- What these parts mean for the theory's queries and dependencies is in `Stored`.
use mathlib.Core.Path.{◌≡◌}
use mathlib.Core.Bool.{Bool, true, ◌&&◌}
use mathlib.Core.List.{List}
use Prim.Native.Nat.{ℕ, ◌*◌, ◌^◌, ◌≤◌, ◌<◌}
use lib.Dec.{leb}
use lib.ListN.{length, take, drop, get_or}
use borrow.Author.Tests.{leb-true, le-leb}
use native.Mathlib.Omega.{arith}
use Rattle.std.proofs.lemmas.Bool.Decides.{nat_tests}
use Rattle.query.specs.Types.{Query}
use Rattle.query.specs.declared.Dependency.{Dependency}
use Rattle.query.specs.declared.JoinDependency.{JoinDependency}
use Rattle.lists.specs.Tests.{every, in_use, is_zero}
use Rattle.query.specs.Rule.{good_set, good_dependency, covers_columns, good_join_set, good_join, good_cell, blank_cell, good_rows, head_in_use, good_up_to}
use Rattle.lists.proofs.Tests.{and_left, and_right}

-- A query that passes the test for at most so many rows
pub record GoodUpTo (most : ℕ) (schema : List ℕ) (q : Query) : Type 0 where
  pub arity : q.arity ≤ 8
  pub size : q.size ≤ most
  pub head : in_use (head_in_use q) good_cell blank_cell q.head ≡ true
  pub rows : good_rows schema (take q.size q.relations) q.cells ≡ true
  pub named : every is_zero (drop q.size q.relations) ≡ true
  pub cells : every blank_cell (drop (8 * q.size) q.cells) ≡ true

pub good-query : (most : ℕ) (schema : List ℕ) (q : Query) → good_up_to most schema q ≡ true → GoodUpTo most schema q
unfolding good_up_to
good-query most schema q e =
    let a : Bool = leb q.arity 8 in
    let b : Bool = leb q.size most in
    let d : Bool = in_use (head_in_use q) good_cell blank_cell q.head in
    let f : Bool = good_rows schema (take q.size q.relations) q.cells in
    let g : Bool = every is_zero (drop q.size q.relations) in
    let h : Bool = every blank_cell (drop (8 * q.size) q.cells) in
    let e5 : a && b && d && f && g ≡ true = and_left (a && b && d && f && g) h e in
    let e4 : a && b && d && f ≡ true = and_left (a && b && d && f) g e5 in
    let e3 : a && b && d ≡ true = and_left (a && b && d) f e4 in
    let e2 : a && b ≡ true = and_left (a && b) d e3 in
    record {
      arity = leb-true _ _ (and_left a b e2);
      size = leb-true _ _ (and_right a b e2);
      head = and_right (a && b) d e3;
      rows = and_right (a && b && d) f e4;
      named = and_right (a && b && d && f) g e5;
      cells = and_right (a && b && d && f && g) h e;
    }

pub make-query : (most : ℕ) (schema : List ℕ) (q : Query) → GoodUpTo most schema q → good_up_to most schema q ≡ true
unfolding good_up_to
make-query most schema q g =
    rw (le-leb q.arity 8 g.arity, le-leb q.size most g.size, g.head, g.rows, g.named, g.cells)

-- A query that refusal 5 passes
abbrev pub GoodQuery : List ℕ → Query → Type 0
GoodQuery schema q = GoodUpTo 12 schema q

-- A relation and a set of columns that refusal 4 passes
pub record GoodSet (schema : List ℕ) (relation left : ℕ) : Type 0 where
  pub relation-known : relation < length schema
  pub within : left < 2 ^ get_or schema relation 0

pub good-set : (schema : List ℕ) (relation left : ℕ) → good_set schema relation left ≡ true → GoodSet schema relation left
unfolding good_set
good-set schema relation left e = record { relation-known = grind (arith, nat_tests, e); within = grind (arith, nat_tests, e) }

-- A set of a join dependency is one
pub good-join-set : (schema : List ℕ) (relation set : ℕ) → good_join_set schema relation set ≡ true → GoodSet schema relation set
unfolding good_join_set
good-join-set schema relation set e = good-set schema relation set (grind (arith, nat_tests, e))

-- A dependency that refusal 4 passes
pub record GoodDependency (schema : List ℕ) (d : Dependency) : Type 0 where
  pub relation : d.relation < length schema
  pub left : d.left < 2 ^ get_or schema d.relation 0
  pub right : d.right < get_or schema d.relation 0

pub good-dependency : (schema : List ℕ) (d : Dependency) → good_dependency schema d ≡ true → GoodDependency schema d
unfolding good_dependency good_set
good-dependency schema d e =
    record { relation = grind (arith, nat_tests, e); left = grind (arith, nat_tests, e); right = grind (arith, nat_tests, e) }

-- A join dependency that refusal 15 passes
pub record GoodJoin (schema : List ℕ) (j : JoinDependency) : Type 0 where
  pub least : 2 ≤ j.count
  pub most : j.count ≤ 4
  pub sets : in_use j.count (good_join_set schema j.relation) is_zero j.sets ≡ true
  pub covers : covers_columns schema j ≡ true

pub good-join : (schema : List ℕ) (j : JoinDependency) → good_join schema j ≡ true → GoodJoin schema j
unfolding good_join
good-join schema j e =
    record {
      least = grind (arith, nat_tests, e);
      most = grind (arith, nat_tests, e);
      sets = grind (arith, nat_tests, e);
      covers = grind (arith, nat_tests, e);
    }
