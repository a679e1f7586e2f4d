-- Each example of the table holds, by computation, and so means what it says.
-- Assumes nothing.
use mathlib.Core.Path.{◌≡◌, refl, sym, ◌∙◌, subst₂}
use mathlib.Core.Bool.{true, false, ◌&&◌, beq}
use mathlib.Core.List.{List}
use mathlib.Core.Option.{bind, or_else}
use Prim.Native.Nat.{ℕ}
use lib.Dec.{eqb, ltb}
use lib.ListN.{length, get_or}
use borrow.Author.Tests.{ltb-true, eqb-true}
use Rattle.lists.specs.Tests.{every, same_lists}
use Rattle.lists.specs.Numbers.{numbers_where}
use Rattle.lists.proofs.Tests.{and_left, and_right, every-member, same_lists-true}
use Rattle.theory.specs.Query.{Entry, Row, Query, FitsSchema, ◌∈◌}
use Rattle.theory.specs.Database.{Dependency}
use Rattle.theory.specs.Query.{same_entry, variables_of, row_entries, member, distinct}
use Rattle.theory.specs.Chase.{first_passing, first_pair, first_found, agree, breaks, first_broken, survives, resolve, substitute}
use Rattle.theory.specs.Chase.{step, Chases, chase_on, chase_for, chase}
use Rattle.theory.specs.Query.{subset}
use Rattle.determination.specs.Determined.{FitsColumns, adds, grow_on, grow_for, closure, determined}
use Rattle.minimization.specs.Search.{lookup, assign_to, send_entry, send_entries, send_row, try_rows, place_rows, place_query, mappable}
use Rattle.minimization.specs.Checking.{same_row}
use Rattle.minimization.specs.Search.{contained_on, contained}
use Rattle.minimization.specs.Kept.{kept_after, entries_before, insert_row, sorted, reduced}
use Rattle.minimization.specs.Examples.{Example, reduces, keeps, chases_to, compares, determines, schema, Meaning, same_query}
use Rattle.minimization.specs.Examples.{fits_columns, fits_schema, over_schema, holds, examples}
use Rattle.theory.proofs.Lists.{and-three, beq-true}
use Rattle.theory.proofs.Entries.{same_entry-eq}
use Rattle.minimization.proofs.Checking.{same_row-eq}
use Rattle.theory.proofs.Chase.{chase-chases}
use Rattle.minimization.proofs.Reduction.{reduction-same-size, reduction-minimal}
use Rattle.determination.proofs.Determined.{determined-exact, determined-ascending}
use Rattle.minimization.proofs.Search.{contained-exact, contained-false}
use Rattle.minimization.proofs.Kept.{reduced-reduction}

-- Every example of the table holds
pub examples-hold : every holds examples ≡ true
unfolding same_entry variables_of row_entries member distinct or_else bind first_passing first_pair first_found agree breaks first_broken
    survives resolve substitute step chase_on chase_for chase subset adds grow_on grow_for closure numbers_where determined lookup assign_to
    send_entry send_entries send_row try_rows place_rows place_query mappable contained_on contained kept_after entries_before insert_row sorted same_lists same_row same_query
    every fits_columns fits_schema over_schema holds
examples-hold = refl

-- ---- what they mean

pub same_query-true : (p q : Query) → same_query p q ≡ true → p ≡ q
unfolding same_query
same_query-true p q e =
    let heads = same_lists same_entry p.head q.head in
    let bodies = same_lists same_row p.rows q.rows in
    let head : p.head ≡ q.head = same_lists-true same_entry same_entry-eq p.head q.head (and_left heads bodies e) in
    let rows : p.rows ≡ q.rows = same_lists-true same_row same_row-eq p.rows q.rows (and_right heads bodies e) in
    λ i. record { head = head i; rows = rows i }

fits_columns-true : (widths : List ℕ) (d : Dependency) → fits_columns widths d ≡ true → FitsColumns widths d
unfolding fits_columns
fits_columns-true widths d e =
    let facts =
    and-three (ltb d.relation (length widths)) (every (λ c. ltb c (get_or widths d.relation 0)) d.left)
    (ltb d.right (get_or widths d.relation 0)) e in
    record {
      relation = ltb-true d.relation (length widths) facts.0;
      left = λ c at. ltb-true c (get_or widths d.relation 0) (every-member (λ b. ltb b (get_or widths d.relation 0)) d.left facts.1 at);
      right = ltb-true d.right (get_or widths d.relation 0) facts.2;
    }

fits_schema-true : (widths : List ℕ) (r : Row Entry) → fits_schema widths r ≡ true → FitsSchema widths r
unfolding fits_schema
fits_schema-true widths r e =
    let known = ltb r.relation (length widths) in
    let full = eqb (length r.values) (get_or widths r.relation 0) in
    (ltb-true r.relation (length widths) (and_left known full e), eqb-true (length r.values) (get_or widths r.relation 0) (and_right known full e))

pub rows_fit : (ds : List Dependency) (q : Query) → over_schema ds q ≡ true → (r : Row Entry) → r ∈ q.rows → FitsSchema schema r
unfolding over_schema
rows_fit ds q e r at =
    fits_schema-true schema r
    (every-member (fits_schema schema) q.rows (and_right (every (fits_columns schema) ds) (every (fits_schema schema) q.rows) e) at)

-- An example that holds means what it says
pub holds-meaning : (x : Example) → holds x ≡ true → Meaning x
unfolding holds
holds-meaning (reduces ds q head rows count) e =
    let heads = same_lists same_entry (reduced ds q).head head in
    let facts = and-three (over_schema ds q && heads) (eqb (length (reduced ds q).rows) rows) (eqb (chase ds q).count count) e in
    let fit = rows_fit ds q (and_left (over_schema ds q) heads facts.0) in
    let same : (reduced ds q).head ≡ head = same_lists-true same_entry same_entry-eq (reduced ds q).head head (and_right (over_schema ds q) heads facts.0) in
    let size : length (reduced ds q).rows ≡ rows = eqb-true (length (reduced ds q).rows) rows facts.1 in
    let number : (chase ds q).count ≡ count = eqb-true (chase ds q).count count facts.2 in
    record {
      result = (reduced ds q, reduced-reduction ds q);
      each = λ T r. (r.head ∙ sym (reduced-reduction ds q).head ∙ same, reduction-same-size ds q T (reduced ds q) r (reduced-reduction ds q) ∙ size);
      least = λ U rival. rw size at (reduction-minimal schema ds q (reduced ds q) fit (reduced-reduction ds q) U rival);
      counted = ((chase ds q).query, rw number at (chase-chases ds q));
    }
holds-meaning (keeps ds q rows) e =
    let same = same_lists same_row (reduced ds q).rows rows in
    same_lists-true same_row same_row-eq (reduced ds q).rows rows (and_right (over_schema ds q) same e)
holds-meaning (chases_to ds q result count) e =
    let facts = and-three (over_schema ds q) (same_query (chase ds q).query result) (eqb (chase ds q).count count) e in
    subst₂ (λ chased n. Chases ds q chased n) (same_query-true (chase ds q).query result facts.1) (eqb-true (chase ds q).count count facts.2)
    (chase-chases ds q)
holds-meaning (compares ds p q true) e =
    let facts = and-three (over_schema ds p) (over_schema ds q) (beq (contained ds p q) true) e in
    (contained-exact schema ds p q (rows_fit ds p facts.0)).0 (beq-true (contained ds p q) true facts.2)
holds-meaning (compares ds p q false) e =
    let facts = and-three (over_schema ds p) (over_schema ds q) (beq (contained ds p q) false) e in
    contained-false schema ds p q (rows_fit ds p facts.0) (beq-true (contained ds p q) false facts.2)
holds-meaning (determines ds relation left columns) e =
    let facts =
    and-three (ltb relation (length schema)) (every (fits_columns schema) ds)
    (eqb (length (determined ds relation (get_or schema relation 0) left)) columns) e in
    record {
      set = determined ds relation (get_or schema relation 0) left;
      ascending = determined-ascending ds relation (get_or schema relation 0) left;
      size = eqb-true (length (determined ds relation (get_or schema relation 0) left)) columns facts.2;
      exact =
          determined-exact schema ds (λ d at. fits_columns-true schema d (every-member (fits_columns schema) ds facts.1 at)) relation
          (ltb-true relation (length schema) facts.0) left;
    }

-- So every example of the table means what it says
pub examples-meaning : (x : Example) → x ∈ examples → Meaning x
examples-meaning x at = holds-meaning x (every-member holds examples examples-hold at)
