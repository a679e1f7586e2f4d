-- Entries, rows and queries, for any number of columns, rows, variables and constants. The limits of SPECIFICATION, Limits, are the record's, not the theory's.
-- What a query means is in `Answer`.
use Rattle.std.specs.Prelude.{◌≡◌, Bool, true, false, cond, ◌&&◌, ℕ, ◌<◌, eqb, length, get_or, replicate}
use mathlib.Core.List.{List, [], ◌∷◌, ◌++◌, map, Memᴰ}

infix 25 ◌∈◌
-- x stands in the list xs. A proof of it is a position
abbrev pub ◌∈◌ {ℓ} : {A : Type ℓ} → A → List A → Type ℓ
x ∈ xs = Memᴰ x xs

-- A list without the element at one position
unfoldable pub without : {A : Type 0} {x : A} (xs : List A) → x ∈ xs → List A
without {A = A} [] x'' = elim x'' [ ]
without (y ∷ xs) (Memᴰ.head e) = xs
without (y ∷ xs) (Memᴰ.tail at) = y ∷ without xs at

-- An entry is a constant or a variable, each by its number
pub data Entry : Type 0 where
  constant : ℕ → Entry
  variable : ℕ → Entry

-- A row over A: the number of its relation and one value a column
pub record Row (A : Type 0) : Type 0 where
  pub relation : ℕ
  pub values : List A

-- A query: its head and its rows. Without rows it is the never query, of whose head only the length means anything
pub record Query : Type 0 where
  pub head : List Entry
  pub rows : List (Row Entry)

-- The never query with a head of n entries. An entry not in use is constant 0
abbrev pub never : ℕ → Query
never n = record { head = replicate n (constant 0); rows = [] }

-- Whether two entries are the same constant or the same variable
unfoldable pub same_entry : Entry → Entry → Bool
same_entry (constant m) (constant n) = eqb m n
same_entry (constant m) (variable w) = false
same_entry (variable v) (constant n) = false
same_entry (variable v) (variable w) = eqb v w

-- The value of a row in column c. A row of its relation's width has one; z stands in where a shorter row has none
abbrev pub column : {A : Type 0} → A → Row A → ℕ → A
column z r c = get_or r.values c z

-- A function applied to each value of a row
abbrev pub map_row : {A B : Type 0} → (A → B) → Row A → Row B
map_row f r = record { relation = r.relation; values = map f r.values }

-- A function applied to each entry of a query, in the head and in the rows
abbrev pub map_query : (Entry → Entry) → Query → Query
map_query f q = record { head = map f q.head; rows = map (map_row f) q.rows }

-- The entries of the rows, row by row
unfoldable pub row_entries : List (Row Entry) → List Entry
row_entries [] = []
row_entries (r ∷ rs) = r.values ++ row_entries rs

-- The variables among some entries, each as often as it stands there
unfoldable pub variables_of : List Entry → List ℕ
variables_of [] = []
variables_of (constant n ∷ es) = variables_of es
variables_of (variable v ∷ es) = v ∷ variables_of es

-- The variables of a query, in the head and in the rows
abbrev pub variables : Query → List ℕ
variables q = variables_of (q.head ++ row_entries q.rows)

-- Whether the number n stands in a list
unfoldable pub member : ℕ → List ℕ → Bool
member n [] = false
member n (m ∷ ms) = cond (eqb n m) true (member n ms)

-- Whether each number of the first list stands in the second
unfoldable pub subset : List ℕ → List ℕ → Bool
subset [] ns = true
subset (m ∷ ms) ns = member m ns && subset ms ns

-- A list without repeats: of equal numbers the last stays
unfoldable pub distinct : List ℕ → List ℕ
distinct [] = []
distinct (n ∷ ns) = cond (member n ns) (distinct ns) (n ∷ distinct ns)

-- How many different variables a query has
abbrev pub variable_count : Query → ℕ
variable_count q = length (distinct (variables q))

-- A schema gives each relation its width, relations being numbered from 0. A row fits it if its relation is known and it has a value for each column
abbrev pub FitsSchema : {A : Type 0} → List ℕ → Row A → Type 0
FitsSchema widths r = (r.relation < length widths) × (length r.values ≡ get_or widths r.relation 0)

-- The rows of a query fit a schema
abbrev pub RowsFit : List ℕ → Query → Type 0
RowsFit widths q = (r : Row Entry) → r ∈ q.rows → FitsSchema widths r

-- A well-formed query: its rows fit the schema, and each variable of its head stands in a row
pub record WellFormed (widths : List ℕ) (q : Query) : Type 0 where
  pub rows_fit : RowsFit widths q
  pub head-safe : (v : ℕ) → v ∈ variables_of q.head → v ∈ variables_of (row_entries q.rows)
