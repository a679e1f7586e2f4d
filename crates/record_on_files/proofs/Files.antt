-- What reading a file tells, and a record that is written. Assumes nothing.
use mathlib.Core.Path.{◌≡◌, refl, sym, ap, ◌∙◌}
use mathlib.Core.Bool.{true}
use mathlib.Core.List.{List}
use Prim.Native.Nat.{ℕ, ◌<◌}
use lib.ListN.{length, get_or}
use borrow.Author.Tests.{le-leb, lt-leb}
use Rattle.refusals.specs.Refusals.{◌>>=◌, gives, refused, Reply}
use Rattle.record.specs.declared.Record.{Record}
use Rattle.std.specs.Prelude.{Ok, Err}
use Rattle.record.specs.declared.Outcome.{Outcome}
use Rattle.record.specs.Rule.{good_record}
use Rattle.record.specs.Calls.{outcome_reply}
use Rattle.refusals.specs.declared.Refusal.{Refusal}
use Rattle.refusals.specs.Refusal.{number_of}
use Rattle.format.specs.File.{read_file, file_of}
use Rattle.format.proofs.RoundTrip.{sound-record, file-written-back}
use Rattle.format.proofs.Bytes.{bytes-known}
use Rattle.writer.specs.Write.{written, after_writing}
use Rattle.writer.proofs.Writing.{fits-written, long-refused, written-fits, refused-long}
use Rattle.lent_numbers.specs.Lent.{returned, leaves, fitted, Wrote}
use Rattle.lent_numbers.proofs.Lent.{goes_on}
use Rattle.record_on_files.specs.Records.{result_of, copied}

-- ---- a record that is written

module _ (r : Record) (out after : List ℕ) (b : after ≡ after_writing r out) (n : ℕ) where
  -- its file and the length
  written-wrote : (m : ℕ) → written r out ≡ gives m → Wrote (fitted (length out) (file_of r)) out n 0 after m
  written-wrote m w =
      let (good, fits, long) = written-fits r out m w in
      rw (le-leb (length (file_of r)) (length out) fits) (refl, b ∙ sym (fits-written r out good fits).1, long)

  -- or nothing, where there is no room
  unwritten-wrote : (number : ℕ) → good_record r ≡ true → written r out ≡ refused number
      → Wrote (fitted (length out) (file_of r)) out n number after n
  unwritten-wrote number good w =
      let (long, short) = refused-long r out number good w in
      rw (lt-leb (length (file_of r)) (length out) long) (short, b ∙ sym (long-refused r out good long).1, refl)

  -- what writing says, as the call returns and leaves it
  pub wrote-fitted : good_record r ≡ true → (x : Reply ℕ) → x ≡ written r out → (number m : ℕ) → number ≡ returned x → m ≡ leaves x (λ k. k) n
      → Wrote (fitted (length out) (file_of r)) out n number after m
  wrote-fitted good (gives k) e number m p q = rw (p, q) (written-wrote k (sym e))
  wrote-fitted good (refused k) e number m p q = rw (p, q) (unwritten-wrote k good (sym e))

-- ---- a call's record

pub result-done : (o : Outcome) → o.answer ≡ Ok tt → result_of (outcome_reply o) ≡ gives o.«record»
unfolding ◌>>=◌
result-done o a = rw a

pub result-refused : (o : Outcome) (why : Refusal) → o.answer ≡ Err why → result_of (outcome_reply o) ≡ refused (number_of why)
unfolding ◌>>=◌
result-refused o why a = rw a

-- ---- a file that is read

module _ (file : List ℕ) (bytes : (i : ℕ) → get_or file i 0 < 256) (r : Record) (read : gives r ≡ read_file file) where
  back : (good_record r ≡ true) × (file_of r ≡ file)
  back = let k = file-written-back file r (bytes-known file bytes) (sym read) in (k.0, k.2)

  -- Its record is good
  pub read-good : good_record r ≡ true
  read-good = back.0

  -- and has room for 16 pairs of codes
  pub read-codes-long : length r.codes ≡ 16
  read-codes-long =
      let k = file-written-back file r (bytes-known file bytes) (sym read) in
      (sound-record r k.0 k.1).codes-long

  -- and has room for 32 dependencies
  pub read-long : length r.dependencies ≡ 32
  read-long =
      let k = file-written-back file r (bytes-known file bytes) (sym read) in
      (sound-record r k.0 k.1).dependencies-long

  -- The file that is written back is the file
  pub copied_is : (room : ℕ) → copied file room ≡ fitted room (file_of r)
  copied_is room = goes_on (sym read) (λ _. fitted room file) ∙ ap (fitted room) (sym back.1)
