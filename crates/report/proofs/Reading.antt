-- What reading a file answers: an accepted file's record is good, and what is written of it is its listing. Assumes nothing.
use mathlib.Core.Path.{◌≡◌, sym, ap, ◌∙◌}
use mathlib.Core.Bool.{true}
use mathlib.Core.List.{List}
use Prim.Native.Nat.{ℕ, ◌<◌}
use lib.ListN.{get_or}
use Rattle.record.specs.declared.Record.{Record}
use Rattle.std.specs.Prelude.{Result, Ok}
use Rattle.record.specs.Rule.{good_record}
use Rattle.refusals.specs.declared.Refusal.{Refusal}
use Rattle.refusals.specs.Refusal.{reply_of}
use Rattle.format.specs.File.{read_file}
use Rattle.format.proofs.RoundTrip.{file-written-back}
use Rattle.format.proofs.Bytes.{bytes-known}

module _ (file : List ℕ) (read : Result Record Refusal) (e : reply_of read ≡ read_file file) where
  -- The record of an accepted file is good
  pub read-good : ((i : ℕ) → get_or file i 0 < 256) → (r : Record) → read ≡ Ok r → good_record r ≡ true
  read-good bytes r a = (file-written-back file r (bytes-known file bytes) (sym e ∙ ap reply_of a)).0
