-- `read_rows` reads the rows one after another, the entries of each into its cells. Assumes nothing.
use Rattle.std.proofs.Common.{◌≡◌, ℕ, List, ◌≤◌, ◌+◌, ◌-◌, ◌*◌, length, take, drop, sym, ap, ◌∙◌, arith, rules}
use lib.Seq.{length-take-le}
use Rattle.query.specs.declared.Cell.{Cell}
use Rattle.query.specs.Rule.{no_cell}
use Rattle.query.proofs.Relations.{relations-bounds, width-le}
use Rattle.lists.specs.Over.{pad}
use Rattle.lists.proofs.Loops.{stretch-length}
use Rattle.limits.specs.declared.schema.Schema.{Schema}
use Rattle.limits.specs.internal.Schema.{widths_in}
use Rattle.format.specs.Format.{get_times}
use Rattle.format.specs.Parts.{entry}
use Rattle.parsing.specs.internal.Read.{reading_of, read_into}
use Rattle.parsing.proofs.Times.{times-length}
use Rattle.parsing.proofs.RowLaws.{no-row, row-unknown, row-bad, row-good, entries-none, entries-got}
use Rattle.parsing.proofs.ReadingRows.{begins, fails, goes_on, accepted, put-cells}
use Rattle.parsing.proofs.read_rows.Goals as goal
use Rattle.parsing.proofs.read_rows.Goals.{After-width_of-width, After-read_entries}

-- A schema has as many widths as relations
widths-length : (s : Schema) → length s.widths ≡ 8 → length (widths_in s) ≡ s.relations
widths-length s long = length-take-le s.relations s.widths (omega (arith, (relations-bounds s.relations s.widths s.good).1))

pub loop-r-init : goal.loop-r-init
loop-r-init c = begins (widths_in c.args.schema) c.args.s.now c.args.size

pub returns-in_err-relation : goal.returns-in_err-relation
returns-in_err-relation c =
    ap reading_of c.from_residual.ensures
    ∙ fails _ _ _ _ _ _ _ c.loop-r.invariant c.loop-r-test.true (sym (no-row (widths_in c.args.schema) c.loop-r.rest.now c.in_err-relation.ensures.cases))

pub returns-then-schema-relation : goal.returns-then-schema-relation
returns-then-schema-relation c =
    fails _ _ _ _ _ _ _ c.loop-r.invariant c.loop-r-test.true
    (sym (row-unknown (widths_in c.args.schema) c.loop-r.rest.now c.in_ok-relation.relation.now c.in_ok-relation.entries.now
    c.in_ok-relation.ensures.cases.0
    (omega (arith, widths-length c.args.schema (search rules), c.if-schema-relation.true))))

narrow : (c : After-width_of-width) → c.width_of-width.result ≤ 8
narrow c = omega (arith, c.width_of-width.ensures, width-le _ _ c.args.schema.good c.in_ok-relation.relation.now)

part-length : (cells : List Cell) (at width : ℕ) → at + width ≤ length cells → length (take (at + width - at) (drop at cells)) ≡ width
part-length cells at width h =
    let n : at + width - at ≡ width = omega arith in
    ap (λ (k : ℕ). length (take k (drop at cells))) n ∙ stretch-length at width cells h

-- What was read of a row's entries
entries-read : (c : After-read_entries)
    → get_times entry.get c.width_of-width.result c.in_ok-relation.entries.now ≡ read_into c.read_entries.new.cells c.read_entries.result
entries-read c =
    let w = narrow (goal.at.After-read_entries c).After-width_of-width in
    ap (λ (k : ℕ). get_times entry.get k c.in_ok-relation.entries.now)
    (sym (part-length c.loop-r.cells (8 * c.loop-r.r) c.width_of-width.result (omega (arith, c.loop-r.invariant.cells-long))))
    ∙ sym c.read_entries.ensures

pub slice_bounds-cells-end : goal.slice_bounds-cells-end
slice_bounds-cells-end c = let w = narrow (goal.at.slice_bounds-cells-end c).After-width_of-width in omega (arith, c.loop-r.invariant.cells-long)

pub returns-in_err-rest : goal.returns-in_err-rest
returns-in_err-rest c =
    ap reading_of c.from_residual-in_err-rest.ensures
    ∙ fails _ _ _ _ _ _ _ c.loop-r.invariant c.loop-r-test.true
    (sym (row-bad (widths_in c.args.schema) c.loop-r.rest.now c.in_ok-relation.relation.now c.in_ok-relation.entries.now
    c.in_ok-relation.ensures.cases.0
    (omega (arith, widths-length c.args.schema (search rules), c.if-schema-relation.false))
    (rw (← c.width_of-width.ensures)
    (entries-none c.width_of-width.result c.in_ok-relation.entries.now
    (entries-read (goal.at.returns-in_err-rest c).After-read_entries ∙ ap (read_into c.read_entries.new.cells) c.in_err-rest.was)))))

pub loop-r-preserved : goal.loop-r-preserved
loop-r-preserved c =
    let w = narrow (goal.at.loop-r-preserved c).After-width_of-width in
    let times = entries-read (goal.at.loop-r-preserved c).After-read_entries ∙ ap (read_into c.read_entries.new.cells) c.in_ok-rest.was in
    let long : length c.read_entries.new.cells ≡ c.width_of-width.result =
    times-length entry.get c.width_of-width.result c.in_ok-relation.entries.now c.read_entries.new.cells c.in_ok-rest.rest.now times in
    goes_on _ _ _ _ _ _ _ c.loop-r.invariant c.in_ok-relation.relation.now c.read_entries.new.cells c.in_ok-rest.rest.now _
    c.loop-r-test.true c.requires (omega arith)
    (sym (row-good (widths_in c.args.schema) c.loop-r.rest.now c.in_ok-relation.relation.now c.in_ok-relation.entries.now
    c.in_ok-relation.ensures.cases.0
    (omega (arith, widths-length c.args.schema (search rules), c.if-schema-relation.false))
    (pad 8 no_cell c.read_entries.new.cells) c.in_ok-rest.rest.now
    (rw (← c.width_of-width.ensures)
    (entries-got c.width_of-width.result c.in_ok-relation.entries.now c.read_entries.new.cells c.in_ok-rest.rest.now times))))
    (put-cells c.loop-r.cells c.read_entries.new.cells (8 * c.loop-r.r) c.width_of-width.result long)

pub returns : goal.returns
returns c = accepted _ _ _ _ _ _ _ c.loop-r.invariant c.loop-r-test.false
