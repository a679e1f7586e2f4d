-- Reading and writing undo each other: format's laws in the words of the two calls' contracts. Assumes nothing.
use mathlib.Core.Path.{◌≡◌, refl, sym, ap, ◌∙◌}
use mathlib.Core.List.{List}
use Prim.Native.Nat.{ℕ, ◌+◌}
use native.Mathlib.Nat.{zero-add}
use native.Mathlib.Omega.{arith}
use lib.ListN.{length, take, drop}
use lib.Seq.{take_at, drop_at}
use Rattle.refusals.specs.Refusals.{gives}
use Rattle.std.specs.Prelude.{Ok}
use Rattle.format.specs.File.{read_file, read_outcome, file_of}
use Rattle.format.proofs.RoundTrip.{file-written-back, record-read-back, file-fits}
use Rattle.format.proofs.Results.{outcome-done}
use Rattle.writer.specs.Write.{after_writing}
use Rattle.writer.proofs.Writing.{fits-written, written-fits}
use Rattle.file.specs.RoundTrip.{WrittenBack, ReadBack, ReadGood, WrittenShort, RoomEnough}

pub written_back : WrittenBack
written_back bytes buffer r hb e fits =
    let (good, long, same) = file-written-back bytes r hb (outcome-done (read_file bytes) (record { answer = Ok tt; «record» = r }) (sym e) refl) in
    let (w, after) = fits-written r buffer good (rw same fits) in (
      sym w ∙ ap (λ (b : List ℕ). gives (length b)) same,
      rw (← after, same) (take_at bytes (drop (0 + length bytes) buffer) (length bytes) refl),
      rw (← after, same) (drop_at bytes (drop (0 + length bytes) buffer) (length bytes) refl ∙ ap (λ (n : ℕ). drop n buffer) (zero-add (length bytes))),
    )

pub read_back : ReadBack
read_back r buffer n s w =
    let (good, fits, long) = written-fits r buffer n w in
    let after = (fits-written r buffer good fits).1 in
    let same : take n (after_writing r buffer) ≡ file_of r =
    rw (← after, long) (take_at (file_of r) (drop (0 + length (file_of r)) buffer) (length (file_of r)) refl) in
    ap (λ (b : List ℕ). read_outcome (read_file b)) same ∙ ap read_outcome (record-read-back r good s)

pub read-good : ReadGood
read-good bytes r hb e =
    let (good, long, same) = file-written-back bytes r hb (outcome-done (read_file bytes) (record { answer = Ok tt; «record» = r }) (sym e) refl) in
    (good, long)

pub written-short : WrittenShort
written-short r buffer n s w = let (good, fits, long) = written-fits r buffer n w in rw long (file-fits r good s)

pub room-enough : RoomEnough
room-enough r buffer good s room = (length (file_of r), sym (fits-written r buffer good (omega (arith, file-fits r good s))).0)
