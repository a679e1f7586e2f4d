-- Comparing and checking a mapping, on files. How a mapping is words is in `mapping_words/specs/Images`.
use Rattle.std.specs.Prelude.{Result, Ok, Err, ◌≡◌, ◌↔◌, Bool, true, false, cond, ◌&&◌, List, [], ◌∷◌, ℕ, eqb, leb, ltb, length, replicate}
use Rattle.refusals.specs.Refusals.{◌>>=◌, buffer_too_short, too_many_rows, gives, refused, Reply, reply}
use Rattle.record.specs.Calls.{query_at}
use Rattle.query.specs.declared.Cell.{Cell}
use Rattle.record.specs.declared.Record.{Record}
use Rattle.record.specs.View.{schema_of}
use Rattle.lists.specs.Over.{over}
use Rattle.format.specs.Format.{Reading, none, got}
use Rattle.format.specs.Parts.{query_for}
use Rattle.format.specs.File.{read_file}
use Rattle.query.specs.View.{as_query}
use Rattle.query.specs.Rule.{no_cell}
use Rattle.mapping_words.specs.Images.{mapping_words, images_in}
use Rattle.comparison.specs.declared.Verdict.{Verdict}
use Rattle.comparison.specs.declared.Verdict.TheVariants.{Never, Mapped, Apart}
use Rattle.refusals.specs.declared.Refusal.{Refusal}
use Rattle.comparison.specs.Comparison.{verdict_reply, pair_refusal, Compared, ComparisonShape, images_at}
use Rattle.theory.specs.Answer as answer
use Rattle.minimization.specs.Checking.{image_at, maps_to}
use Rattle.lent_numbers.specs.Lent.{returned, leaves}

-- ---- comparing

-- A verdict's number, or the refusal, for a mapping buffer of so many words. Refused: buffer_too_short, there is no room for a mapping; it comes before
-- too_many_rows and after every other refusal
abbrev pub with_mapping : ℕ → Reply ℕ → Reply ℕ
with_mapping words (gives number) = cond (leb 192 words) (gives number) (refused buffer_too_short)
with_mapping words (refused n) = refused (cond (eqb n too_many_rows && ltb words 192) buffer_too_short n)

-- A verdict's number with bytes, for a buffer with so much room. Refused: buffer_too_short, there is no room for the bytes
abbrev pub with_part : ℕ → ℕ × List ℕ → Reply (ℕ × List ℕ)
with_part room found = cond (leb (length found.1) room) (gives found) (refused buffer_too_short)

-- The bytes of the query of a comparison, which is given only where it is not contained
abbrev pub part_told : List ℕ → Result Verdict Refusal → List ℕ
part_told schema (Ok (Apart query)) = (query_for 24 schema).put (as_query query)
part_told schema (Ok (Mapped images)) = []
part_told schema (Ok Never) = []
part_told schema (Err refusal) = []

-- Its images: constant 0 of each variable where there is no mapping
abbrev pub images_told : Result Verdict Refusal → List Cell
images_told (Ok (Apart query)) = replicate 96 no_cell
images_told (Ok (Mapped images)) = images
images_told (Ok Never) = replicate 96 no_cell
images_told (Err refusal) = replicate 96 no_cell

-- The verdict of a comparison with these bytes, for buffers with so much room
abbrev pub comparison_fits : ℕ → ℕ → List ℕ → Result Verdict Refusal → Reply (ℕ × List ℕ)
comparison_fits words room schema c = with_mapping words (verdict_reply c) >>= λ number. with_part room (number, part_told schema c)

-- What a comparison returns and leaves: the verdict, the mapping's words, the bytes of the query with their length
abbrev pub ComparisonGiven : Reply (ℕ × List ℕ) → List Cell → ℕ → List ℕ → List ℕ → ℕ → ℕ → ℕ → List ℕ → List ℕ → ℕ → Type 0
ComparisonGiven result images said mapping part size number said_after mapping_after part_after size_after =
    (number ≡ returned result) × (said_after ≡ leaves result (λ t. t.0) said)
    × (mapping_after ≡ leaves result (λ _. over mapping 0 (mapping_words images)) mapping)
    × (part_after ≡ leaves result (λ t. over part 0 t.1) part) × (size_after ≡ leaves result (λ t. length t.1) size)

-- A comparison of two places of the record of a file: a refusal of the file, or what comparing promises. Which mapping is free
abbrev pub Comparing : Reply Record → ℕ → ℕ → Reply (ℕ × List ℕ) → List Cell → ℕ → ℕ → Type 0
Comparing (refused n) p q result images words room = result ≡ refused n
Comparing (gives r) p q result images words room =
    (c : Result Verdict Refusal) × Compared r p q c × ComparisonShape c × (images ≡ images_told c) × (result ≡ comparison_fits words room (schema_of r) c)

-- What `spernevan_compare` promises: a comparison of the two places, returned and left as above
pub record CompareGives (file : List ℕ) (p q said : ℕ) (mapping part : List ℕ) (size number said_after : ℕ) (mapping_after part_after : List ℕ) (size_after : ℕ) : Type 0 where
  pub result : Reply (ℕ × List ℕ)
  pub images : List Cell
  pub comparing : Comparing (read_file file) p q result images (length mapping) (length part)
  pub given : ComparisonGiven result images said mapping part size number said_after mapping_after part_after size_after

-- ---- checking a mapping

-- Whether what was read off some words is a mapping from the query of place q to that of place p, all as they are read through the pairs of codes: words that
-- stand for no images are none, nor are images with words after them
abbrev pub reading_maps : Record → ℕ → ℕ → Reading (List Cell) → Bool
reading_maps r p q none = false
reading_maps r p q (got images []) = maps_to (query_at r q) (query_at r p) (images_at r q images)
reading_maps r p q (got images (word ∷ words)) = false

-- Whether words are such a mapping. `WordsMapExact` says what this means
abbrev pub words_map : Record → ℕ → ℕ → List ℕ → Bool
words_map r p q words = reading_maps r p q (images_in words)

-- What `spernevan_check` says: a refusal of the file, then of the places, else whether the words are a mapping
abbrev pub checked_in : List ℕ → ℕ → ℕ → List ℕ → Reply Bool
checked_in file p q words = read_file file >>= λ r. reply (pair_refusal r p q) (words_map r p q words)

-- Yes and no as numbers
abbrev pub bit : Bool → ℕ
bit b = cond b 1 0

-- The words stand for images that are a mapping from the query of place q to that of place p, all as they are read
abbrev pub WordsMap : Record → ℕ → ℕ → List ℕ → Type 0
WordsMap r p q words = (images : List Cell) × (images_in words ≡ got images []) × answer.IsMapping (query_at r q) (query_at r p) (image_at (images_at r q images))

-- The test says yes exactly to such words. Proved in `proofs/Checks`
abbrev pub WordsMapExact : Type 0
WordsMapExact = (r : Record) (p q : ℕ) (words : List ℕ) → (words_map r p q words ≡ true) ↔ WordsMap r p q words
