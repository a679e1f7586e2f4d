-- `read_row` reads value by value. Invariant: those before column c are read. Assumes nothing.
use Rattle.codes.specs.internal.Codes.{codes_in}
use Rattle.words.proofs.Columns.{ReadTo}
use Rattle.words.proofs.read_row.Given as goal

abbrev pub invariant-loop-c : goal.invariant-loop-c
invariant-loop-c l = ReadTo (codes_in l.codes) l.words l.at l.row l.c
