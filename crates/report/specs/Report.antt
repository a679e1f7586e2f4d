-- What the listing of a file is, and what it is to have written it at the start of a buffer (SPECIFICATION, The listing program).
-- Which mapping is listed is free (SPECIFICATION, Reduction).
use Rattle.std.specs.Prelude.{◌≡◌, ◌≢◌, List, [], ◌∷◌, ◌++◌, ℕ, ◌≤◌, length}
use Rattle.lists.specs.Over.{over}
use Rattle.record.specs.declared.Record.{Record}
use Rattle.record.specs.View.{dependencies_of}
use Rattle.record.specs.Calls.{is_filled, query_at}
use Rattle.refusals.specs.Refusals.{Reply, gives, refused}
use Rattle.format.specs.File.{read_file}
use Rattle.theory.specs.Answer.{IsMapping}
use Rattle.theory.specs.Chase.{chase}
use Rattle.minimization.specs.Kept.{reduced}
use Rattle.lists.specs.Numbers.{numbers_where}
use Rattle.text.specs.Text.{place_text, refused_text}
use Rattle.theory.specs.Query as theory

-- The lines of a place: its number, its query as it is read, the result of reduction under the record's functional dependencies, the count, and a mapping to
-- the result
pub record Lines (r : Record) (place : ℕ) (lines : List ℕ) : Type 0 where
  pub images : ℕ → theory.Entry
  pub mapping : (reduced (dependencies_of r) (query_at r place)).rows ≢ []
      → IsMapping (query_at r place) (reduced (dependencies_of r) (query_at r place)) images
  pub text : lines
      ≡ place_text place (query_at r place) (reduced (dependencies_of r) (query_at r place)) (chase (dependencies_of r) (query_at r place)).count images

-- The lines of some places, one after the other
pub data AllLines (r : Record) : List ℕ → List ℕ → Type 0 where
  nil : AllLines r [] []
  cons : {place : ℕ} {places lines rest : List ℕ} → Lines r place lines → AllLines r places rest → AllLines r (place ∷ places) (lines ++ rest)

-- The filled places of a record, ascending
abbrev pub filled_places : Record → List ℕ
filled_places r = numbers_where (is_filled r) 0 8

-- The listing of what a file holds: the lines of each filled place, or `refused n`
abbrev pub ListingOf : Reply Record → List ℕ → Type 0
ListingOf (gives r) text = AllLines r (filled_places r) text
ListingOf (refused n) text = text ≡ refused_text n

-- The text is a listing of the file
abbrev pub IsListing : List ℕ → List ℕ → Type 0
IsListing file text = ListingOf (read_file file) text

-- What the report of a file promises: the buffer after it is the one before with a listing over its start, and the number returned is the listing's length
pub record IsReport (file before after : List ℕ) (end : ℕ) : Type 0 where
  pub text : List ℕ
  pub listing : IsListing file text
  pub written : after ≡ over before 0 text
  pub length-returned : end ≡ length text
  -- so the listing is the start of the buffer
  pub fits : end ≤ length after
