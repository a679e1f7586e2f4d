-- The lines of a place and of a refused file, as bytes (SPECIFICATION, The listing program).
-- First entries, then the lines, then the text of a place. For every width, row count, variable and constant: the limits are the record's.
use Rattle.std.specs.Prelude.{cond, ℕ, suc, max, eqb, length}
use mathlib.Core.List.{List, [], ◌∷◌, ◌++◌, flat_map}
use Rattle.lists.specs.Numbers.{numbers_where}
use Rattle.printing.specs.Decimal.{decimal, field}
use Rattle.theory.specs.Query as theory

-- ---- entries

-- "v"
abbrev pub v_word : List ℕ
v_word = 118 ∷ []

-- An entry: a constant is its number, a variable `v` and its number
unfoldable pub entry_text : theory.Entry → List ℕ
entry_text (theory.constant n) = decimal n
entry_text (theory.variable v) = field v_word v

-- " "
abbrev pub space : List ℕ
space = 32 ∷ []

-- Each entry after a space
unfoldable pub entries_text : List theory.Entry → List ℕ
entries_text entries = flat_map (λ e. space ++ entry_text e) entries

-- The byte that ends a line
abbrev pub newline : List ℕ
newline = 10 ∷ []

-- ---- the line of a place

-- "place "
abbrev pub place_word : List ℕ
place_word = 112 ∷ 108 ∷ 97 ∷ 99 ∷ 101 ∷ 32 ∷ []

-- " rows "
abbrev pub rows_word : List ℕ
rows_word = 32 ∷ 114 ∷ 111 ∷ 119 ∷ 115 ∷ 32 ∷ []

-- " kept "
abbrev pub kept_word : List ℕ
kept_word = 32 ∷ 107 ∷ 101 ∷ 112 ∷ 116 ∷ 32 ∷ []

-- " never"
abbrev pub never_word : List ℕ
never_word = 32 ∷ 110 ∷ 101 ∷ 118 ∷ 101 ∷ 114 ∷ []

-- " replaced "
abbrev pub replaced_word : List ℕ
replaced_word = 32 ∷ 114 ∷ 101 ∷ 112 ∷ 108 ∷ 97 ∷ 99 ∷ 101 ∷ 100 ∷ 32 ∷ []

-- `place p rows m kept n replaced k`
unfoldable pub place_line : ℕ → ℕ → ℕ → ℕ → List ℕ
place_line place rows kept count =
    field place_word place ++ (field rows_word rows ++ (field kept_word kept ++ (field replaced_word count ++ newline)))

-- `place p rows m never replaced k`
unfoldable pub never_line : ℕ → ℕ → ℕ → List ℕ
never_line place rows count = field place_word place ++ (field rows_word rows ++ (never_word ++ (field replaced_word count ++ newline)))

-- ---- the lines of the head, the rows and the mapping

-- "head"
abbrev pub head_word : List ℕ
head_word = 104 ∷ 101 ∷ 97 ∷ 100 ∷ []

-- `head` and the head's entries
unfoldable pub head_line : List theory.Entry → List ℕ
head_line head = head_word ++ (entries_text head ++ newline)

-- "row "
abbrev pub row_word : List ℕ
row_word = 114 ∷ 111 ∷ 119 ∷ 32 ∷ []

-- `row`, its relation and its entries
unfoldable pub row_line : theory.Row theory.Entry → List ℕ
row_line row = field row_word row.relation ++ (entries_text row.values ++ newline)

-- A line for each row
unfoldable pub rows_text : List (theory.Row theory.Entry) → List ℕ
rows_text rows = flat_map row_line rows

-- "map"
abbrev pub map_word : List ℕ
map_word = 109 ∷ 97 ∷ 112 ∷ []

-- " v"
abbrev pub next_word : List ℕ
next_word = 32 ∷ 118 ∷ []

-- "="
abbrev pub equals : List ℕ
equals = 61 ∷ []

-- ` v1=7`: a variable and its image
unfoldable pub image_text : ℕ → theory.Entry → List ℕ
image_text v image = field next_word v ++ (equals ++ entry_text image)

-- The image of each of some variables
unfoldable pub images_text : (ℕ → theory.Entry) → List ℕ → List ℕ
images_text image variables = flat_map (λ v. image_text v (image v)) variables

-- `map` and the image of each variable
unfoldable pub map_line : (ℕ → theory.Entry) → List ℕ → List ℕ
map_line image variables = map_word ++ (images_text image variables ++ newline)

-- ---- the variables that occur

-- The least number above each of a list
unfoldable pub least_above : List ℕ → ℕ
least_above [] = 0
least_above (n ∷ ns) = max (suc n) (least_above ns)

-- The variables that occur in a query, ascending, each once
unfoldable pub occurring : theory.Query → List ℕ
occurring q = numbers_where (λ v. theory.member v (theory.variables q)) 0 (least_above (theory.variables q))

-- ---- the text of a place and of a refused file

-- The lines of a place: of its number, the source query, the result of its reduction, the count and the mapping. A result without rows is never
unfoldable pub place_text : ℕ → theory.Query → theory.Query → ℕ → (ℕ → theory.Entry) → List ℕ
place_text place source result count image =
    cond (eqb (length result.rows) 0) (never_line place (length source.rows) count)
    (place_line place (length source.rows) (length result.rows) count
    ++ (head_line result.head ++ (rows_text result.rows ++ map_line image (occurring source))))

-- "refused "
abbrev pub refused_word : List ℕ
refused_word = 114 ∷ 101 ∷ 102 ∷ 117 ∷ 115 ∷ 101 ∷ 100 ∷ 32 ∷ []

-- The line of a refused file: `refused n`
unfoldable pub refused_text : ℕ → List ℕ
refused_text n = field refused_word n ++ newline
