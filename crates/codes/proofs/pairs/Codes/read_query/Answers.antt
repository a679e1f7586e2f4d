-- `Codes::read_query` meets its contract: by the laws of `Reading`. Assumes nothing.
use mathlib.Core.Path.{◌≡◌, sym, ap, ap₂, ◌∙◌}
use mathlib.Core.List.{List, [], ◌++◌, map}
use Prim.Native.Nat.{ℕ}
use borrow.Author.Rules.{rules}
use lib.ListN.{length, take, drop}
use lib.Seq.{length-take-le}
use Rattle.lists.proofs.Loops.{mapped-length}
use Rattle.query.specs.declared.Cell.{Cell}
use Rattle.query.specs.Types.{Query}
use Rattle.query.specs.View.{query_of}
use Rattle.query.specs.Rule.{good_query, head_in_use}
use Rattle.query.proofs.Good.{good-query}
use Rattle.query.proofs.Shape.{SizedFor}
use Rattle.theory.specs.Codes.{CodePair}
use Rattle.codes.specs.internal.Codes.{codes_in, read_cell, read_rows}
use Rattle.query.proofs.Relations.{width-le}
use Rattle.limits.specs.internal.Schema.{widths_in}
use Rattle.codes.proofs.Reading.{query-read, query-good, safe-read, few-heads}
use Rattle.codes.proofs.pairs.Codes.read_query.Goals as goal

sized : (q : Query) → length q.head ≡ 8 → length q.relations ≡ 12 → length q.cells ≡ 96 → SizedFor 12 q
sized q head relations cells = record { head = head; relations = relations; cells = cells }

-- What the loops leave is the query as it is read
made : (ps : List CodePair) (schema : List ℕ) (q : Query) (n : ℕ) (head cells : List Cell) → n ≡ head_in_use q
    → head ≡ map (read_cell ps) (take n q.head) → cells ≡ read_rows ps schema (take q.size q.relations) q.cells
    → ◌≡◌ {A = Query} (record { arity = q.arity; size = q.size; head = head ++ drop n q.head; relations = q.relations; cells = cells })
    (record {
      arity = q.arity;
      size = q.size;
      head = map (read_cell ps) (take (head_in_use q) q.head) ++ drop (head_in_use q) q.head;
      relations = q.relations;
      cells = read_rows ps schema (take q.size q.relations) q.cells;
    })
made ps schema q n head cells used heads rows =
    ap₂ (λ (h : List Cell) (cs : List Cell). record { arity = q.arity; size = q.size; head = h; relations = q.relations; cells = cs })
    (ap (λ (h : List Cell). h ++ drop n q.head) heads ∙ ap (λ (k : ℕ). map (read_cell ps) (take k q.head) ++ drop k q.head) used) rows

pub slice_bounds-head-end : goal.slice_bounds-head-end
slice_bounds-head-end c =
    let q = c.args.q in
    let s = c.args.schema in
    let fits = sized q (search (mapped-length, rules)) (search rules) (search (mapped-length, rules)) in
    rw (c.head_in_use.ensures) (few-heads [] (widths_in s) (width-le s.relations s.widths s.good) q fits c.requires)

pub slice_bounds-read_cells-end : goal.slice_bounds-read_cells-end
slice_bounds-read_cells-end c =
    let q = c.args.q in
    let s = c.args.schema in
    let fits = sized q (search (mapped-length, rules)) (search rules) (search (mapped-length, rules)) in
    sym (length-take-le c.head_in_use.result q.head
    (rw (c.head_in_use.ensures) (few-heads [] (widths_in s) (width-le s.relations s.widths s.good) q fits c.requires)))

pub shared_ref_as_front-read_rows : goal.shared_ref_as_front-read_rows
shared_ref_as_front-read_rows c = (good-query 12 (widths_in c.args.schema) c.args.q c.requires).size

pub returns-clause-query : goal.returns-clause-query
returns-clause-query c =
    let q = c.args.q in
    let s = c.args.schema in
    let ps = codes_in c.args.self.now in
    let fits = sized q (search (mapped-length, rules)) (search rules) (search (mapped-length, rules)) in
    ap (query_of (widths_in s)) (made ps (widths_in s) q _ _ _ c.head_in_use.ensures c.read_cells.ensures c.read_rows.ensures)
    ∙ query-read ps (widths_in s) (width-le s.relations s.widths s.good) q fits c.requires

pub returns-clause-good : goal.returns-clause-good
returns-clause-good c = λ limit.
    let q = c.args.q in
    let s = c.args.schema in
    let ps = codes_in c.args.self.now in
    let fits = sized q (search (mapped-length, rules)) (search rules) (search (mapped-length, rules)) in
    ap (good_query (widths_in s)) (made ps (widths_in s) q _ _ _ c.head_in_use.ensures c.read_cells.ensures c.read_rows.ensures)
    ∙ query-good ps (widths_in s) (width-le s.relations s.widths s.good) q fits c.requires limit

pub returns-clause-safe : goal.returns-clause-safe
returns-clause-safe c = λ safe.
    let q = c.args.q in
    let s = c.args.schema in
    let ps = codes_in c.args.self.now in
    let fits = sized q (search (mapped-length, rules)) (search rules) (search (mapped-length, rules)) in
    safe-read ps (widths_in s) q _
    (ap (query_of (widths_in s)) (made ps (widths_in s) q _ _ _ c.head_in_use.ensures c.read_cells.ensures c.read_rows.ensures)
    ∙ query-read ps (widths_in s) (width-le s.relations s.widths s.good) q fits c.requires) safe
