-- Working memory lent to a call on a file that is read: the call's own law decides. Assumes nothing.
use mathlib.Core.Path.{◌≡◌, refl, sym, ap, ◌∙◌}
use mathlib.Core.List.{List}
use mathlib.Core.Option.{Option, none, some}
use Prim.Native.Nat.{ℕ}
use Rattle.record.specs.declared.Record.{Record}
use Rattle.refusals.specs.Refusals.{Condition, first_holding, Reply, gives, reply, refusal_in}
use Rattle.format.specs.File.{read_file}
use Rattle.lent_numbers.proofs.Lent.{goes_on}
use Rattle.database.specs.Calls.{UnusedIfRefused}
use Rattle.database_on_files.specs.Databases.{UnusedInFile}

-- A reply refuses with the number that it is made of
reply-refusal : (refusal : Option ℕ) (r : Record) → refusal_in (reply refusal r) ≡ refusal
reply-refusal none r = refl
reply-refusal (some n) r = refl

-- Once the file is read the conditions are those on its record
pub unused-read : (file : List ℕ) (r : Record) → gives r ≡ read_file file → (conditions : Record → List Condition) (before after : List ℕ)
    → UnusedIfRefused (conditions r) before after → UnusedInFile file conditions before after
unused-read file r e conditions before after unused n p =
    let next : Record → Reply Record = λ r. reply (first_holding (conditions r)) r in
    unused n (sym (reply-refusal (first_holding (conditions r)) r) ∙ ap refusal_in (sym (goes_on (sym e) next)) ∙ p)
