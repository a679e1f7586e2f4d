-- `find` finds a mapping by the search, or shows that there is none. What the search, the table and the images promise is put together in `Results`.
-- Assumes nothing.
-- The lengths of arrays are the types'.
use borrow.Author.Rules.{rules}
use mathlib.Core.Path.{refl, ◌≡◌, sym, subst}
use Prim.Native.Nat.{◌+◌, ◌≤◌, ◌<◌}
use lib.ListN.{length}
use Rattle.query.specs.Types.{Query}
use Rattle.query.specs.Types.{Tableau}
use Rattle.query.specs.View.{as_query}
use Rattle.lists.proofs.Loops.{mapped-length}
use native.Mathlib.Omega.{arith}
use Rattle.mapping.specs.internal.Lines.{choice_of}
use Rattle.candidates.specs.internal.Candidates.{Laid}
use Rattle.mapping.specs.internal.Mapped.{Finds}
use Rattle.query.proofs.Shape.{SizedFor}
use Rattle.mapping.proofs.Results.{storable-size, tableau-size, CodesOf, line_code, code-small, none-size, none-solution, solution-small, found-solution}
use Rattle.mapping.proofs.find.Goals as goal
use Rattle.mapping.proofs.find.Goals.{Start, After-codes_of-to, After-table, After-assign}

source-sizes : (c : Start) → SizedFor 12 c.args.source
source-sizes c = record { head = search (mapped-length, rules); relations = search (mapped-length, rules); cells = search (mapped-length, rules) }

target-sizes : (c : Start) → SizedFor 24 (as_query c.args.target)
target-sizes c = record { head = search (mapped-length, rules); relations = search (mapped-length, rules); cells = search (mapped-length, rules) }

from-long : (c : After-codes_of-to) → length c.codes_of-from.result ≡ 104
from-long c = search rules

to-long : (c : After-codes_of-to) → length c.codes_of-to.result ≡ 200
to-long c = search rules

images-long : (c : After-assign) → length c.assign.result ≡ 96
images-long c = search rules

-- The query and the tableau, where the codes of both are made
abbrev source_at : After-codes_of-to → Query
source_at c = c.args.source

abbrev target_at : After-codes_of-to → Tableau
target_at c = c.args.target

laid : (c : After-codes_of-to) → Laid c.codes_of-from.result c.codes_of-to.result (source_at c).size (target_at c).size
laid c =
    record {
      source-length = from-long c;
      target-length = to-long c;
      few-rows = storable-size c.args.source c.requires.0;
      few-images = tableau-size c.args.target c.requires.1;
    }

-- The codes are those of the query and of the tableau
from_is : (c : After-codes_of-to) → CodesOf 12 (source_at c) c.codes_of-from.result
from_is c =
    line_code 12 (source_at c) c.flat-line.result c.codes_of-from.result c.flat-line.ensures c.codes_of-from.ensures

to_is : (c : After-codes_of-to) → CodesOf 24 (as_query (target_at c)) c.codes_of-to.result
to_is c =
    line_code 24 (as_query (target_at c)) c.flat-cells.result c.codes_of-to.result
    c.flat-cells.ensures c.codes_of-to.ensures

-- The search is given few enough rows
few-rows : (c : After-table) → c.args.source.size + 1 ≤ 13
few-rows c =
    let few : c.args.source.size ≤ 12 = storable-size c.args.source c.requires.0 in
    omega arith

pub returns-then-size-eq0 : goal.returns-then-size-eq0
returns-then-size-eq0 c =
    let at = goal.at.returns-then-size-eq0 c in
    none-size c.args.source c.args.target (source-sizes at.Start) (target-sizes at.Start) c.if-size-eq0.true

pub domains-domain-requires : goal.domains-domain-requires
domains-domain-requires c = laid (goal.at.domains-domain-requires c).After-codes_of-to

pub table-requires : goal.table-requires
table-requires c = laid (goal.at.table-requires c).After-codes_of-to

pub solve-requires : goal.solve-requires
solve-requires c = few-rows (goal.at.solve-requires c).After-table

pub returns-in_err-chosen : goal.returns-in_err-chosen
returns-in_err-chosen c =
    let at = goal.at.returns-in_err-chosen c in
    subst (Finds c.args.source c.args.target) (sym c.from_residual.ensures)
    (none-solution c.args.source c.args.target (source-sizes at.Start) (target-sizes at.Start) c.requires.0 c.requires.1
    c.flat-cells.result c.codes_of-from.result c.codes_of-to.result c.domains-domain.result c.table.new.table
    (from_is at.After-codes_of-to) c.flat-cells.ensures (to_is at.After-codes_of-to) c.domains-domain.ensures c.table.ensures
    (c.in_err-chosen.ensures.none refl))

pub assign-requires : goal.assign-requires
assign-requires c =
    let at = goal.at.assign-requires c in
    let source = c.args.source in
    let sizes = source-sizes at.Start in
    let from = from_is at.After-codes_of-to in (
      storable-size _ c.requires.0,
      -- a choice that solves it has candidates below 24
      solution-small source c.args.target sizes (target-sizes at.Start) c.requires.0 c.requires.1 c.flat-cells.result
          c.codes_of-from.result c.codes_of-to.result c.domains-domain.result c.table.new.table from
          c.flat-cells.ensures (to_is at.After-codes_of-to) c.domains-domain.ensures c.table.ensures
          (choice_of c.in_ok-chosen.chosen) c.in_ok-chosen.ensures.found,
      code-small source c.requires.0 sizes c.codes_of-from.result from,
    )

pub returns : goal.returns
returns c =
    let at = goal.at.returns c in
    let some : 0 < c.args.source.size = search rules in
    found-solution c.args.source c.args.target (source-sizes at.Start) (target-sizes at.Start) c.requires.0 c.requires.1
    c.flat-cells.result c.codes_of-from.result c.codes_of-to.result c.domains-domain.result c.table.new.table
    (from_is at.After-codes_of-to) c.flat-cells.ensures (to_is at.After-codes_of-to) c.domains-domain.ensures c.table.ensures
    (choice_of c.in_ok-chosen.chosen) c.assign.result some c.in_ok-chosen.ensures.found (images-long at.After-assign)
    c.assign.ensures
