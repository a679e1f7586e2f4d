-- The bytes of each cell's entry
use mathlib.Core.Path.{◌≡◌}
use mathlib.Core.List.{List, flat_map}
use Prim.Native.Nat.{ℕ, ◌+◌, ◌*◌, ◌≤◌}
use native.Mathlib.Nat.{add-zero}
use native.Mathlib.Omega.{arith}
use lib.ListN.{length, get_or}
use Rattle.query.specs.declared.Cell.{Cell}
use Rattle.query.specs.Rule.{no_cell}
use Rattle.format.specs.Parts.{put_entry, entry}
use Rattle.format.proofs.Lengths.{length-flat_map, length-entry}
use Rattle.encoder.proofs.Stores.{Writing, writing-starts, writing-turns, writing-ends}
use Rattle.encoder.proofs.put_entries.Goals as goal

abbrev put_cell : Cell → List ℕ
put_cell c = put_entry c.entry

begins : (buffer : List ℕ) (at : ℕ) (cells : List Cell) → at + 5 * length cells ≤ length buffer → Writing put_cell buffer at cells buffer (at + 0) 0
begins buffer at cells h =
    let e : length (flat_map put_cell cells) ≡ 5 * length cells = length-flat_map put_cell 5 (λ c. length-entry c.entry) cells in
    rw add-zero (writing-starts put_cell buffer at cells (omega arith))

pub loop-i-init : goal.loop-i-init
loop-i-init c = begins c.args.buffer.now c.args.at c.args.cells.now c.requires

pub loop-i-preserved : goal.loop-i-preserved
loop-i-preserved c =
    let i = c.loop-i.i in
    writing-turns c.loop-i.invariant no_cell c.put_entry.new.buffer (c.args.at + 5 * (i + 1)) c.loop-i-test.true c.put_entry.ensures
    (omega (arith, length-entry (get_or c.args.cells.now i no_cell).entry))

pub returns : goal.returns
unfolding entry
returns c = (writing-ends c.loop-i.invariant (omega arith)).0
