-- The rounds of the chase on a stored query: what holds before each round, that a replacement keeps it and makes the rest of the chase shorter by one, and
-- what the end gives. Assumes nothing.
use mathlib.Core.Path.{◌≡◌, refl, sym, ◌∙◌, ap, ap₂}
use mathlib.Core.Logic.{⊎_elim}
use mathlib.Core.Bool.{Bool, true}
use mathlib.Core.List.{List, [], ◌∷◌, ◌++◌, map}
use mathlib.Core.Option.{none, some}
use Prim.Native.Nat.{ℕ, zero, suc, ◌+◌, ◌*◌, ◌≤◌, zero-le}
use native.Mathlib.Nat.{zero-add, add-zero}
use native.Mathlib.Omega.{arith}
use lib.Dec.{eqb}
use lib.ListN.{length, take, drop, get_or, length-append, length-take, length-map}
use lib.Seq.{length-take-le}
use Rattle.query.specs.declared.Entry as stored-entry
use Rattle.query.specs.declared.Entry.TheVariants.{Constant, Variable}
use Rattle.query.specs.declared.Cell.{Cell}
use Rattle.query.specs.declared.Dependency as stored-dependency
use Rattle.query.specs.Types as stored
use Rattle.query.specs.Types.{Tableau}
use Rattle.query.specs.View.{entry_of, entries_of, query_of, as_query, dependency_of}
use Rattle.lists.specs.Tests.{every, between}
use Rattle.query.specs.Rule.{good_entry, good_cell, blank_cell, good_up_to, good_tableau, never_tableau, no_cell}
use Rattle.std.specs.Prelude.{None, Some}
use Rattle.std.specs.Prelude as prelude
use Rattle.replacement.specs.declared.Replacement.{Replacement}
use Rattle.chase.specs.declared.Chased as stored-chased
use Rattle.first_step.specs.internal.Wide.{wide_row, wide_rows, wide_query, first_differing, next_step_of, good_next_step}
use Rattle.replacement.specs.internal.Replacement.{resolution_of, substitute_entry}
use Rattle.replacement.specs.internal.Replacement.{substitute_cell, map_cells}
use Rattle.chase.specs.internal.Outcome.{IsChased}
use Rattle.lists.proofs.Maps.{drop-map, take-replicate, map-replicate}
use Rattle.chase.proofs.View.{StandsFor, entries_of-take}
use Rattle.chase.proofs.Good.{unused-kept, cells-kept, good-kept, never-good}
use Rattle.chase.proofs.Callers.{width-le}
use Rattle.chase.proofs.Narrow.{step-differing, chases-narrow, wide-padded, narrow_wide}
use Rattle.theory.specs.Query.{Entry, constant, variable, never, map_row, map_query, row_entries, variables_of, member, distinct, variable_count}
use Rattle.theory.specs.Database.{Dependency}
use Rattle.theory.specs.Chase.{resolve, in_head, substitute, step, Chased, one_more, Chases, chase}
use Rattle.lists.proofs.Tests.{and_left, and_right}
use Rattle.theory.proofs.Lists.{bool_cases}
use Rattle.theory.proofs.Entries.{constant-same, variable-same, constant-variable}
use Rattle.theory.proofs.Step.{resolve-replace}
use Rattle.theory.proofs.Chase.{chase-chases, chases-unique, chase-at-rest, chase-at-clash, chase-at-replace, chase-count-le}

-- ---- a replacement on the wide rows

-- The replacement in a cell is the theory's substitution
substitute-entry : (v : ℕ) (e x : stored-entry.Entry) → entry_of (substitute_entry v e x) ≡ substitute v (entry_of e) (entry_of x)
unfolding substitute_entry substitute
substitute-entry v e (Constant n) = refl
substitute-entry v e (Variable w) = bool_cases (eqb w v) (λ p. rw p) (λ p. rw p)

pub substitute-stands : (v : ℕ) (e : stored-entry.Entry) → StandsFor (substitute_cell v e) (substitute v (entry_of e))
substitute-stands v e c = substitute-entry v e c.entry

module _ (f : Cell → Cell) (g : Entry → Entry) (same : StandsFor f g) where
  wide_row-map : (q : stored.Query) (i : ℕ) → wide_row (map_cells f q) i ≡ map_row g (wide_row q i)
  wide_row-map q i =
      ap
      (λ l. record { relation = get_or q.relations i 0; values = l })
      (ap (λ l. entries_of (take 8 l)) (drop-map f (8 * i) q.cells) ∙ entries_of-take f g same 8 (drop (8 * i) q.cells))

  wide_rows-map : (q : stored.Query) (i n : ℕ) → wide_rows (map_cells f q) i n ≡ map (map_row g) (wide_rows q i n)
  unfolding wide_rows
  wide_rows-map q i zero = refl
  wide_rows-map q i (suc n) = ap₂ ◌∷◌ (wide_row-map q i) (wide_rows-map q (suc i) n)

  pub wide_query-map : (q : stored.Query) → wide_query (map_cells f q) ≡ map_query g (wide_query q)
  wide_query-map q =
      ap₂ (λ h l. record { head = h; rows = l }) (entries_of-take f g same q.arity q.head) (wide_rows-map q 0 q.size)

-- ---- how many variables

distinct-length : (ns : List ℕ) → length (distinct ns) ≤ length ns
unfolding distinct
distinct-length [] = zero-le
distinct-length (n ∷ ns) = bool_cases (member n ns) (λ p. rw p (omega (arith, distinct-length ns))) (λ p. rw p (omega (arith, distinct-length ns)))

variables_of-length : (es : List Entry) → length (variables_of es) ≤ length es
unfolding variables_of
variables_of-length [] = zero-le
variables_of-length (constant n ∷ es) = omega (arith, variables_of-length es)
variables_of-length (variable v ∷ es) = omega (arith, variables_of-length es)

entries-length : (n : ℕ) (cells : List Cell) → length (entries_of (take n cells)) ≤ n
entries-length n cells = omega (arith, length-map (take n cells) (λ c. entry_of c.entry), length-take n cells)

wide-length : (q : stored.Query) (i n : ℕ) → length (row_entries (wide_rows q i n)) ≤ 8 * n
unfolding wide_rows row_entries
wide-length q i zero = zero-le
wide-length q i (suc n) =
    let here = entries_of (take 8 (drop (8 * i) q.cells)) in
    let fits : length here ≤ 8 = entries-length 8 (drop (8 * i) q.cells) in
    let later : length (row_entries (wide_rows q (suc i) n)) ≤ 8 * n = wide-length q (suc i) n in
    rw (length-append here (row_entries (wide_rows q (suc i) n))) (omega arith)

-- A tableau has at most 200 variables, as many as it has cells
pub variables-fit : (q : stored.Query) → q.arity ≤ 8 → q.size ≤ 24 → variable_count (wide_query q) ≤ 200
variables-fit q arity size =
    let head = entries_of (take q.arity q.head) in
    let rows = row_entries (wide_rows q 0 q.size) in
    omega (
      arith,
      distinct-length (variables_of (head ++ rows)),
      variables_of-length (head ++ rows),
      length-append head rows,
      entries-length q.arity q.head,
      wide-length q 0 q.size,
    )

-- ---- the rounds

-- A chased query that n replacements led to
abbrev pub later : ℕ → Chased → Chased
later n c = record { query = c.query; count = n + c.count }

-- What holds before each round: the chase of q is the chase of `query`, `count` replacements later, and of the rule for queries nothing is lost
pub record Under (q : stored.Query) (ds : List Dependency) (query : stored.Query) (count : ℕ) : Type 0 where
  pub same-arity : query.arity ≡ q.arity
  pub same_size : query.size ≡ q.size
  pub same-relations : query.relations ≡ q.relations
  pub head-length : length query.head ≡ length q.head
  pub keeps-good : (schema : List ℕ) → good_up_to 24 schema q ≡ true → good_up_to 24 schema query ≡ true
  pub cells-good : every good_cell query.cells ≡ true
  pub rest-blank : every blank_cell (drop (8 * query.size) query.cells) ≡ true
  pub chase-is : chase ds (wide_query q) ≡ later count (chase ds (wide_query query))

pub under-start : (q : stored.Query) (ds : List Dependency) → every good_cell q.cells ≡ true → every blank_cell (drop (8 * q.size) q.cells) ≡ true
    → Under q ds q 0
under-start q ds good blank =
    record {
      same-arity = refl;
      same_size = refl;
      same-relations = refl;
      head-length = refl;
      keeps-good = λ schema good. good;
      cells-good = good;
      rest-blank = blank;
      chase-is = ap (λ n. record { query = (chase ds (wide_query q)).query; count = n }) (sym (zero-add (chase ds (wide_query q)).count));
    }

-- The step of a round from what the search found and how that was resolved
pub step-some : (ds : List Dependency) (query : stored.Query) (a b : stored-entry.Entry) (r : prelude.Option Replacement)
    → next_step_of (Some (a, b)) ≡ first_differing ds (wide_query query).rows → resolution_of r ≡ resolve (in_head (wide_query query)) (entry_of a) (entry_of b)
    → step ds (wide_query query) ≡ some (resolution_of r)
step-some ds query a b r found resolved = step-differing ds (wide_query query) ∙ rw (← found, resolved)

pub step-none : (ds : List Dependency) (query : stored.Query) → next_step_of None ≡ first_differing ds (wide_query query).rows → step ds (wide_query query) ≡ none
step-none ds query found = step-differing ds (wide_query query) ∙ rw (← found)

-- The entry that survives is one of the two, so it is good if they are
same_good : (e x : stored-entry.Entry) → entry_of e ≡ entry_of x → good_entry x ≡ true → good_entry e ≡ true
same_good (Constant m) (Constant n) is good = rw (constant-same is) good
same_good (Constant m) (Variable w) is good = absurd (constant-variable m w is)
same_good (Variable v) (Constant n) is good = absurd (constant-variable n v (sym is))
same_good (Variable v) (Variable w) is good = rw (variable-same is) good

resolve-good : (shown : ℕ → Bool) (a b : stored-entry.Entry) (v : ℕ) (e : stored-entry.Entry) → good_entry a ≡ true → good_entry b ≡ true
    → resolution_of (Some (record { variable = v; entry = e })) ≡ resolve shown (entry_of a) (entry_of b) → good_entry e ≡ true
resolve-good shown a b v e good-a good-b is =
    ⊎_elim
    (λ p. same_good e b (sym p.1) good-b)
    (λ p. same_good e a (sym p.0) good-a)
    (resolve-replace shown (entry_of a) (entry_of b) v (entry_of e) (sym is))

-- A replacement keeps it, and the rest of the chase is shorter by one
module _
    (q : stored.Query)
    (ds : List Dependency)
    (query : stored.Query)
    (a b : stored-entry.Entry)
    (v : ℕ)
    (e : stored-entry.Entry)
    (found : next_step_of (Some (a, b)) ≡ first_differing ds (wide_query query).rows)
    (resolved : resolution_of (Some (record { variable = v; entry = e })) ≡ resolve (in_head (wide_query query)) (entry_of a) (entry_of b))
  where
    one-replaced : chase ds (wide_query query) ≡ one_more (chase ds (wide_query (map_cells (substitute_cell v e) query)))
    one-replaced =
        chase-at-replace ds (wide_query query) v (entry_of e) (step-some ds query a b (Some (record { variable = v; entry = e })) found resolved)
        ∙ ap (λ x. one_more (chase ds x)) (sym (wide_query-map (substitute_cell v e) (substitute v (entry_of e)) (substitute-stands v e) query))

    pub replaced-count : (chase ds (wide_query query)).count ≡ suc (chase ds (wide_query (map_cells (substitute_cell v e) query))).count
    replaced-count = ap (λ c. c.count) one-replaced

    pub under-replace : (count : ℕ) → Under q ds query count → good_next_step (Some (a, b)) ≡ true
        → Under q ds (map_cells (substitute_cell v e) query) (count + 1)
    under-replace count under both =
        let good-e = resolve-good (in_head (wide_query query)) a b v e (and_left (good_entry a) (good_entry b) both)
        (and_right (good_entry a) (good_entry b) both) resolved in
        let after = chase ds (wide_query (map_cells (substitute_cell v e) query)) in
        let one : count + suc after.count ≡ count + 1 + after.count = omega arith in
        record {
          same-arity = under.same-arity;
          same_size = under.same_size;
          same-relations = under.same-relations;
          head-length = length-map query.head (substitute_cell v e) ∙ under.head-length;
          keeps-good = λ schema good-q. good-kept v e good-e 24 schema query (under.keeps-good schema good-q);
          cells-good = cells-kept v e good-e query.cells under.cells-good;
          rest-blank = unused-kept v e (8 * query.size) query.cells under.rest-blank;
          chase-is = under.chase-is ∙ ap (later count) one-replaced ∙ ap (λ n. record { query = after.query; count = n }) one;
        }

-- The count stays small
pub under-count : (q : stored.Query) (ds : List Dependency) (query : stored.Query) (count : ℕ) → Under q ds query count → q.arity ≤ 8 → q.size ≤ 24
    → count + (chase ds (wide_query query)).count ≤ 200
under-count q ds query count under arity size =
    omega (arith, ap (λ c. c.count) under.chase-is, chase-count-le ds (wide_query q), variables-fit q arity size)

-- ---- the end

-- A chase of the wide rows that ends in a tableau is a chase of the rows
chased-by : (schema : List ℕ) (dependencies : List stored-dependency.Dependency) (t : Tableau) (r : stored-chased.Chased)
    → good_tableau schema t ≡ true → every (between 1 8) schema ≡ true
    → t.size ≤ length t.relations → r.query.size ≤ length r.query.relations
    → chase (map dependency_of dependencies) (wide_query (as_query t)) ≡ record { query = wide_query (as_query r.query); count = r.count }
    → good_tableau schema r.query ≡ true → r.query.arity ≡ t.arity → r.query.size ≤ t.size → IsChased schema dependencies t r
chased-by schema dependencies t r good widths fits fits' chased good' arity size =
    let ds = map dependency_of dependencies in
    let q = as_query t in
    let result = as_query r.query in
    let narrow = width-le schema widths in
    let wide : Chases ds (wide_query q) (wide_query result) r.count = rw chased at (chase-chases ds (wide_query q)) in
    let view : Chases ds (query_of schema q) (query_of schema result) r.count
    = rw (narrow_wide schema q narrow fits, narrow_wide schema result narrow fits') at (chases-narrow schema (wide-padded schema q 24 good fits) wide) in
    let same = chases-unique ds (query_of schema q) (query_of schema result) r.count view in
    record { query-is = same.0; count-is = same.1; good = good'; same-arity = arity; no-more-rows = size }

-- The never query is the theory's
wide-never : (arity : ℕ) → arity ≤ 8 → wide_query (as_query (never_tableau arity)) ≡ never arity
unfolding wide_rows
wide-never arity fits = ap (λ l. record { head = l; rows = [] })
    (ap entries_of (take-replicate arity 8 no_cell fits) ∙ map-replicate (λ c. entry_of c.entry) arity no_cell)

module _
    (dependencies : List stored-dependency.Dependency)
    (t tableau : Tableau)
    (count : ℕ)
    (under : Under (as_query t) (map dependency_of dependencies) (as_query tableau) count)
    (fits : t.size ≤ length t.relations)
    (schema : List ℕ)
    (good : good_tableau schema t ≡ true)
    (widths : every (between 1 8) schema ≡ true)
  where
    -- Where the chase rests
    pub under_rest : next_step_of None ≡ first_differing (map dependency_of dependencies) (wide_query (as_query tableau)).rows
        → IsChased schema dependencies t (record { query = tableau; count = count })
    under_rest found =
        let ds = map dependency_of dependencies in
        let query = as_query tableau in
        chased-by
        schema
        dependencies
        t
        (record { query = tableau; count = count })
        good
        widths
        fits
        (rw (under.same_size, under.same-relations) fits)
        (under.chase-is
        ∙ ap (later count) (chase-at-rest ds (wide_query query) (step-none ds query found))
        ∙ ap (λ n. record { query = wide_query query; count = n }) (add-zero count))
        (under.keeps-good schema good)
        under.same-arity
        (omega (arith, under.same_size))

    -- Where it clashes
    pub under-clash : (a b : stored-entry.Entry) → t.arity ≤ 8 → t.arity ≤ length t.head
        → next_step_of (Some (a, b)) ≡ first_differing (map dependency_of dependencies) (wide_query (as_query tableau)).rows
        → resolution_of None ≡ resolve (in_head (wide_query (as_query tableau))) (entry_of a) (entry_of b)
        → IsChased schema dependencies t (record { query = never_tableau t.arity; count = count })
    under-clash a b arity head found resolved =
        let ds = map dependency_of dependencies in
        let query = as_query tableau in
        let inside : query.arity ≤ length query.head = rw (under.same-arity, under.head-length) head in
        let shown : length (wide_query query).head ≡ t.arity
        = length-map (take query.arity query.head) (λ c. entry_of c.entry) ∙ length-take-le query.arity query.head inside ∙ under.same-arity in
        chased-by
        schema
        dependencies
        t
        (record { query = never_tableau t.arity; count = count })
        good
        widths
        fits
        zero-le
        (under.chase-is
        ∙ ap (later count) (chase-at-clash ds (wide_query query) (step-some ds query a b None found resolved))
        ∙ ap₂ (λ x n. record { query = x; count = n }) (ap never shown ∙ sym (wide-never t.arity arity)) (add-zero count))
        (never-good schema t.arity arity)
        refl
        zero-le
