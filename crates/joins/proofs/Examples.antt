-- Each example of the table holds, by computation, and so means what it says; and the closed facts.
-- Assumes nothing.
use mathlib.Core.Path.{◌≡◌, refl, ap}
use mathlib.Core.Bool.{Bool, true, false, false≢true}
use mathlib.Core.List.{List}
use mathlib.Core.Option.{Option, none, some, bind, or_else}
use Prim.Native.Nat.{ℕ}
use lib.ListN.{length}
use borrow.Author.Tests.{eqb-true}
use Rattle.lists.specs.Tests.{every, same_lists}
use Rattle.lists.specs.Numbers.{numbers_where}
use Rattle.lists.proofs.Tests.{and_left, and_right, every-member}
use Rattle.theory.specs.Query.{Query, same_entry, variables_of, row_entries, member, distinct, RowsFit}
use Rattle.theory.specs.Database.{Dependency, JoinDependency}
use Rattle.theory.specs.Chase.{first_passing, first_pair, first_found, agree, breaks, first_broken, survives, resolve, substitute, step, chase_on, chase_for, chase}
use Rattle.theory.proofs.Lists.{beq-true}
use Rattle.minimization.specs.Checking.{same_row, stands_in, nonempty}
use Rattle.minimization.specs.Search.{lookup, assign_to, send_entry, send_entries, send_row, try_rows, place_rows, place_query, mappable, contained_on}
use Rattle.minimization.specs.Examples.{schema, same_query, fits_columns, fits_schema, over_schema}
use Rattle.minimization.proofs.Examples.{same_query-true, rows_fit}
use Rattle.joins.specs.Join.{JoinsFit, in_some, join_fits}
use Rattle.joins.specs.JoinChase.{before, picks, chosen_entry, yields, fits_choice, consistent, missing, first_missing, first_unmet, next_row, keep_first}
use Rattle.joins.specs.JoinChase.{without_repeats, Outcome, chased, overflow, join_on, settle, join_chase_for, join_chase, contained_in}
use Rattle.joins.specs.JoinChase.{join_contained}
use Rattle.joins.specs.Examples.{Example, chases_to, grows, compares, Meaning, same_outcome, has_rows, is_answer, over_both, holds, examples}
use Rattle.joins.specs.Examples.{ExamplesMean, YieldsFirst, ChoiceFound, NoChoice, OverflowDecides, FitsNot}
use Rattle.joins.proofs.Fitting.{join_fits-exact}
use Rattle.joins.proofs.Containment.{chase-computed, contained-computed, not-contained-computed}

-- Every example of the table holds
pub examples-hold : every holds examples ≡ true
unfolding same_entry variables_of row_entries member distinct or_else bind first_passing first_pair first_found agree breaks first_broken
    survives resolve substitute step chase_on chase_for chase lookup assign_to send_entry send_entries send_row try_rows place_rows place_query
    mappable contained_on same_lists same_row stands_in nonempty same_query every fits_columns fits_schema over_schema numbers_where in_some join_fits
    before picks chosen_entry yields fits_choice consistent missing first_missing first_unmet next_row keep_first without_repeats join_on settle
    join_chase_for join_chase contained_in join_contained same_outcome has_rows is_answer over_both holds
examples-hold = refl

-- ---- closed facts

pub yields-first : YieldsFirst
unfolding yields chosen_entry member numbers_where
yields-first = refl

pub first-choice : ChoiceFound
unfolding first_missing first_passing before picks missing consistent fits_choice every agree same_entry yields chosen_entry member numbers_where stands_in
    same_row same_lists
first-choice = refl

pub no-choice : NoChoice
unfolding first_missing first_passing before picks missing consistent fits_choice every agree same_entry yields chosen_entry member numbers_where stands_in
    same_row same_lists
no-choice = refl

pub overflow-decides : OverflowDecides
unfolding same_entry variables_of row_entries member distinct or_else bind first_passing first_pair first_found agree breaks first_broken
    step chase_on chase_for chase contained_on same_lists same_row stands_in every numbers_where before picks chosen_entry yields fits_choice consistent
    missing first_missing first_unmet next_row keep_first without_repeats join_on settle join_chase_for join_chase contained_in join_contained
overflow-decides = refl

pub fits_not : FitsNot
unfolding join_fits in_some nonempty every numbers_where member
fits_not = (refl, refl, refl)

-- ---- what the examples mean

-- What is over the schema fits
joins-fit : (ds : List Dependency) (js : List JoinDependency) (q : Query) → over_both ds js q ≡ true → JoinsFit schema js × RowsFit schema q
unfolding over_both
joins-fit ds js q e = (
  λ j at. (join_fits-exact schema j).0 (every-member (join_fits schema) js (and_right (over_schema ds q) (every (join_fits schema) js) e) at),
  rows_fit ds q (and_left (over_schema ds q) (every (join_fits schema) js) e),
)

same_outcome-true : (one other : Outcome) → same_outcome one other ≡ true → one ≡ other
unfolding same_outcome
same_outcome-true (chased p) (chased q) e = ap chased (same_query-true p q e)
same_outcome-true (chased p) overflow e = absurd (false≢true e)
same_outcome-true overflow (chased q) e = absurd (false≢true e)
same_outcome-true overflow overflow e = refl

has_rows-true : (outcome : Outcome) (n : ℕ) → has_rows outcome n ≡ true → (result : Query) × (outcome ≡ chased result) × (length result.rows ≡ n)
unfolding has_rows
has_rows-true (chased q) n e = (q, refl, eqb-true (length q.rows) n e)
has_rows-true overflow n e = absurd (false≢true e)

is_answer-true : (o : Option Bool) (answer : Bool) → is_answer o answer ≡ true → o ≡ some answer
unfolding is_answer
is_answer-true none answer e = absurd (false≢true e)
is_answer-true (some a) answer e = ap some (beq-true a answer e)

-- An example that holds means what it says
pub holds-meaning : (x : Example) → holds x ≡ true → Meaning x
unfolding holds
holds-meaning (chases_to ds js limit q outcome) e =
    let over = over_both ds js q in
    let same = same_outcome (join_chase schema ds js limit q) outcome in
    let fits = joins-fit ds js q (and_left over same e) in
    (chase-computed schema ds js limit q outcome fits.0).1 (same_outcome-true (join_chase schema ds js limit q) outcome (and_right over same e))
holds-meaning (grows ds js limit q n) e =
    let over = over_both ds js q in
    let rows = has_rows (join_chase schema ds js limit q) n in
    let fits = joins-fit ds js q (and_left over rows e) in
    let found = has_rows-true (join_chase schema ds js limit q) n (and_right over rows e) in
    (found.0, (chase-computed schema ds js limit q (chased found.0) fits.0).1 found.1, found.2)
holds-meaning (compares ds js p q true) e =
    let over = over_both ds js p in
    let told = is_answer (join_contained schema ds js 24 p q) true in
    let fits = joins-fit ds js p (and_left over told e) in
    ((contained-computed schema ds js 24 p q fits.0 fits.1).0 (is_answer-true (join_contained schema ds js 24 p q) true (and_right over told e))).1
holds-meaning (compares ds js p q false) e =
    let over = over_both ds js p in
    let told = is_answer (join_contained schema ds js 24 p q) false in
    let fits = joins-fit ds js p (and_left over told e) in
    let shown = (not-contained-computed schema ds js 24 p q fits.0 fits.1).0
    (is_answer-true (join_contained schema ds js 24 p q) false (and_right over told e)) in
    (shown.1, shown.2, shown.3)

pub examples-meaning : ExamplesMean
examples-meaning x at = holds-meaning x (every-member holds examples examples-hold at)
