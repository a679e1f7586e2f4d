-- Mappings as words. A mapping is 192 words: for each of 96 variables a tag (0 constant, 1 variable) and a number.
use Rattle.std.specs.Prelude.{Bool, true, cond, ◌&&◌, ℕ, eqb, leb}
use mathlib.Core.List.{List, [], ◌∷◌, flat_map}
use Rattle.query.specs.declared.Entry.{Entry}
use Rattle.query.specs.declared.Entry.TheVariants.{Constant, Variable}
use Rattle.query.specs.declared.Cell.{Cell}
use Rattle.format.specs.Format.{Reading, none, got_if, get_times}
use Rattle.format.specs.Parts.{entry_from}

-- The tag and the number of an entry
abbrev pub entry_words : Entry → List ℕ
entry_words (Constant n) = 0 ∷ n ∷ []
entry_words (Variable v) = 1 ∷ v ∷ []

-- The words of some cells
abbrev pub mapping_words : List Cell → List ℕ
mapping_words cells = flat_map (λ c. entry_words c.entry) cells

-- Whether a tag and a number stand for an entry: the tag is 0, or it is 1 and the number at most 255
abbrev pub is_image : ℕ → ℕ → Bool
is_image tag n = cond (eqb tag 0) true (eqb tag 1 && leb n 255)

-- An entry is read off the front of some words
unfoldable pub get_image : List ℕ → Reading Cell
get_image [] = none
get_image (tag ∷ []) = none
get_image (tag ∷ n ∷ words) = got_if (is_image tag n) (entry_from tag n) words

-- The images of 96 variables are read off the front of some words
abbrev pub images_in : List ℕ → Reading (List Cell)
images_in words = get_times get_image 96 words
