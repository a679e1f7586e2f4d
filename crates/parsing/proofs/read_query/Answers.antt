-- `read_query` meets its contract. Assumes nothing.
use Rattle.std.proofs.Common.{◌≡◌, ◌≤◌, ℕ, List, ◌++◌, length, drop, sym, ap, ◌∙◌}
use mathlib.Core.Bool.{cond}
use lib.Dec.{leb, eqb}
use lib.ListN.{replicate}
use lib.Seq.{length-take-le}
use Rattle.query.specs.declared.Cell.{Cell}
use Rattle.query.specs.Rule.{no_cell}
use Rattle.lists.proofs.Over.{pad-is}
use Rattle.format.specs.Format.{got, get_byte, get_times}
use Rattle.format.specs.Parts.{entry, entries}
use Rattle.format.proofs.Parts.{head_fits}
use Rattle.limits.specs.internal.Schema.{widths_in}
use Rattle.parsing.specs.internal.Read.{reading_of, read_into}
use Rattle.parsing.proofs.Counted.{no-low, byte-within}
use Rattle.parsing.proofs.Times.{times-length}
use Rattle.parsing.proofs.RowLaws.{entries-none, entries-got}
use Rattle.parsing.proofs.QueryLaws.{no-arity, no_size, no-head, bad-rows, accepts}
use Rattle.parsing.proofs.read_query.Goals as goal
use Rattle.parsing.proofs.read_query.Goals.{In_ok-arity, In_ok-size, In_ok-rest, After-head_in_use-used, After-read_entries}

-- What has been read so far
arity-read : (c : In_ok-arity) → get_byte (λ n. leb n 8) c.args.part.now ≡ got c.in_ok-arity.arity c.in_ok-arity.rest.now
arity-read c = sym (no-low 8 c.args.part.now) ∙ sym c.read_byte.ensures ∙ ap reading_of c.in_ok-arity.was

size-read : (c : In_ok-size) → get_byte (λ n. leb n 12) c.in_ok-arity.rest.now ≡ got c.in_ok-size.size c.in_ok-size.rest.now
size-read c = sym (no-low 12 c.in_ok-arity.rest.now) ∙ sym c.read_byte-2.ensures ∙ ap reading_of c.in_ok-size.was

pub returns-in_err-arity : goal.returns-in_err-arity
returns-in_err-arity c =
    ap reading_of c.from_residual.ensures
    ∙ sym (no-arity (widths_in c.args.schema) c.args.part.now
    (sym (no-low 8 c.args.part.now) ∙ sym c.read_byte.ensures ∙ ap reading_of c.in_err-arity.was))

pub returns-in_err-size : goal.returns-in_err-size
returns-in_err-size c =
    ap reading_of c.from_residual-in_err-size.ensures
    ∙ sym (no_size (widths_in c.args.schema) c.args.part.now c.in_ok-arity.arity c.in_ok-arity.rest.now
    (arity-read (goal.at.returns-in_err-size c).In_ok-arity)
    (sym (no-low 12 c.in_ok-arity.rest.now) ∙ sym c.read_byte-2.ensures ∙ ap reading_of c.in_err-size.was))

used-narrow : (c : After-head_in_use-used) → c.head_in_use-used.result ≤ 8
used-narrow c =
    rw c.head_in_use-used.ensures
    (head_fits c.in_ok-size.size c.in_ok-arity.arity
    (byte-within 8 c.args.part.now c.in_ok-arity.arity c.in_ok-arity.rest.now (arity-read (goal.at.After-head_in_use-used c).In_ok-arity)))

entries-read : (c : After-read_entries)
    → get_times entry.get c.head_in_use-used.result c.in_ok-size.rest.now ≡ read_into c.read_entries.new.cells c.read_entries.result
entries-read c =
    ap (λ (k : ℕ). get_times entry.get k c.in_ok-size.rest.now)
    (sym (length-take-le c.head_in_use-used.result (replicate 8 no_cell) (used-narrow (goal.at.After-read_entries c).After-head_in_use-used)))
    ∙ sym c.read_entries.ensures

head-read : (c : In_ok-rest) → (entries (cond (eqb c.in_ok-size.size 0) 0 c.in_ok-arity.arity)).get c.in_ok-size.rest.now
    ≡ got (c.read_entries.new.cells ++ drop c.head_in_use-used.result (replicate 8 no_cell)) c.in_ok-rest.rest.now
head-read c =
    let new = c.read_entries.new.cells in
    let used = c.head_in_use-used.result in
    let times : get_times entry.get used c.in_ok-size.rest.now ≡ got new c.in_ok-rest.rest.now =
    entries-read (goal.at.In_ok-rest c).After-read_entries ∙ ap (read_into new) c.in_ok-rest.was in
    let long : length new ≡ used = times-length entry.get used c.in_ok-size.rest.now new c.in_ok-rest.rest.now times in
    rw (← c.head_in_use-used.ensures)
    (entries-got used c.in_ok-size.rest.now new c.in_ok-rest.rest.now times
    ∙ ap (λ (cs : List Cell). got cs c.in_ok-rest.rest.now)
    (pad-is 8 no_cell new ∙ ap (λ (k : ℕ). new ++ drop k (replicate 8 no_cell)) long))

pub slice_bounds-head-end : goal.slice_bounds-head-end
slice_bounds-head-end c = used-narrow c

pub slice_bounds-read_entries-end : goal.slice_bounds-read_entries-end
slice_bounds-read_entries-end c =
    sym (length-take-le c.head_in_use-used.result (replicate 8 no_cell)
    (used-narrow (goal.at.slice_bounds-read_entries-end c).After-head_in_use-used))

pub returns-in_err-rest : goal.returns-in_err-rest
returns-in_err-rest c =
    ap reading_of c.from_residual-in_err-rest.ensures
    ∙ sym (no-head (widths_in c.args.schema) c.args.part.now c.in_ok-arity.arity c.in_ok-arity.rest.now
    (arity-read (goal.at.returns-in_err-rest c).In_ok-arity) c.in_ok-size.size c.in_ok-size.rest.now
    (size-read (goal.at.returns-in_err-rest c).In_ok-size)
    (rw (← c.head_in_use-used.ensures)
    (entries-none c.head_in_use-used.result c.in_ok-size.rest.now
    (entries-read (goal.at.returns-in_err-rest c).After-read_entries ∙ ap (read_into c.read_entries.new.cells) c.in_err-rest.was))))

pub read_rows-requires : goal.read_rows-requires
read_rows-requires c =
    byte-within 12 c.in_ok-arity.rest.now c.in_ok-size.size c.in_ok-size.rest.now (size-read (goal.at.read_rows-requires c).In_ok-size)

pub returns-in_err-rows : goal.returns-in_err-rows
returns-in_err-rows c =
    ap reading_of c.from_residual-in_err-rows.ensures
    ∙ bad-rows (widths_in c.args.schema) c.args.part.now c.in_ok-arity.arity c.in_ok-arity.rest.now
    (arity-read (goal.at.returns-in_err-rows c).In_ok-arity) c.in_ok-size.size c.in_ok-size.rest.now
    (size-read (goal.at.returns-in_err-rows c).In_ok-size) _ c.in_ok-rest.rest.now
    (head-read (goal.at.returns-in_err-rows c).In_ok-rest)
    (ap reading_of (sym c.in_err-rows.was) ∙ c.read_rows.ensures)

pub returns : goal.returns
returns c =
    accepts (widths_in c.args.schema) c.args.part.now c.in_ok-arity.arity c.in_ok-arity.rest.now
    (arity-read (goal.at.returns c).In_ok-arity) c.in_ok-size.size c.in_ok-size.rest.now
    (size-read (goal.at.returns c).In_ok-size) _ c.in_ok-rest.rest.now
    (head-read (goal.at.returns c).In_ok-rest)
    c.in_ok-rows.rows c.in_ok-rows.rest.now (ap reading_of (sym c.in_ok-rows.was) ∙ c.read_rows.ensures)
