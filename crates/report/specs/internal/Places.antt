-- What the functions on the way to a listing promise: the record without the other places, and the lines of some places written from a position on.
use Rattle.std.specs.Prelude.{cond, List, ℕ, ◌+◌, ◌*◌, ◌≤◌, eqb, length, get_or, set, replicate}
use Rattle.record.specs.declared.Record.{Record}
use Rattle.query.specs.Rule.{no_place}
use Rattle.record.specs.Calls.{is_filled}
use Rattle.printing.specs.internal.Writing.{WrittenAt}
use Rattle.lists.specs.Numbers.{numbers_where}
use Rattle.text.specs.internal.Listable.{place_room}
use Rattle.report.specs.Report.{Lines, AllLines}

-- ---- the record without the other places

-- The record with every place but one dropped
abbrev pub alone_in : Record → ℕ → Record
alone_in r place =
    record {
      relations = r.relations;
      widths = r.widths;
      coded = r.coded;
      codes = r.codes;
      held = r.held;
      dependencies = r.dependencies;
      joined = r.joined;
      joins = r.joins;
      places = set (replicate 8 no_place) place (get_or r.places place no_place);
    }

-- Another place than the given one
abbrev pub other_place : ℕ → ℕ
other_place place = cond (eqb place 0) 1 0

-- ---- what is written on the way

-- The buffer has room for a place from a position on
pub record Room (buffer : List ℕ) (at : ℕ) : Type 0 where
  pub room : at + place_room ≤ length buffer

-- The lines of a filled place are written from a position on
pub record LinesWritten (r : Record) (place : ℕ) (before : List ℕ) (at : ℕ) (after : List ℕ) (next : ℕ) : Type 0 where
  pub text : List ℕ
  pub lines : Lines r place text
  pub short : length text ≤ place_room
  pub written : WrittenAt before at text after next

-- The lines of those of n places from `start` on that are filled are written from a position on
pub record PartWritten (r : Record) (start n : ℕ) (before : List ℕ) (at : ℕ) (after : List ℕ) (next : ℕ) : Type 0 where
  pub text : List ℕ
  pub lines : AllLines r (numbers_where (is_filled r) start n) text
  pub short : length text ≤ n * place_room
  pub written : WrittenAt before at text after next

-- The lines of a place, none where it is vacant
abbrev pub PlaceWritten : Record → ℕ → List ℕ → ℕ → List ℕ → ℕ → Type 0
PlaceWritten r place before at after next = PartWritten r place 1 before at after next

-- The lines of all places
abbrev pub ListingWritten : Record → List ℕ → List ℕ → ℕ → Type 0
ListingWritten r before after next = PartWritten r 0 8 before 0 after next
