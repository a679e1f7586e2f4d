-- Examples of the listing (SPECIFICATION, The listing program) as facts of the definitions: the four lines of a place, and one of each other kind. In ASCII.
use mathlib.Core.Path.{◌≡◌, refl}
use mathlib.Core.List.{[], ◌∷◌, ◌++◌, flat_map}
use Prim.Native.Nat.{ℕ, zero, suc}
use Rattle.theory.specs.Query as theory
use Rattle.theory.specs.Query.{constant, variable, variables_of, row_entries, member}
use Rattle.lists.specs.Numbers.{numbers_where}
use Rattle.text.specs.Text.{entry_text, entries_text, place_line, never_line, head_line, row_line, rows_text, image_text, images_text, map_line}
use Rattle.text.specs.Text.{least_above, occurring, place_text, refused_text}
use Rattle.printing.specs.Decimal.{digits, decimal}

-- The stored query: head v0 v1 v2, rows v0 v1 v2 and v0 7 v3
abbrev source : theory.Query
source =
    record {
      head = variable 0 ∷ variable 1 ∷ variable 2 ∷ [];
      rows =
          record { relation = 0; values = variable 0 ∷ variable 1 ∷ variable 2 ∷ [] }
          ∷ record { relation = 0; values = variable 0 ∷ constant 7 ∷ variable 3 ∷ [] } ∷ [];
    }

-- Its reduction where the first column determines the second: head v0 7 v2, row v0 7 v2
abbrev result : theory.Query
result =
    record {
      head = variable 0 ∷ constant 7 ∷ variable 2 ∷ [];
      rows = record { relation = 0; values = variable 0 ∷ constant 7 ∷ variable 2 ∷ [] } ∷ [];
    }

-- The mapping: v0 to v0, v1 to 7, v2 and v3 to v2
abbrev image : ℕ → theory.Entry
image zero = variable 0
image (suc zero) = constant 7
image (suc (suc zero)) = variable 2
image (suc (suc (suc zero))) = variable 2
image (suc (suc (suc (suc v)))) = constant 0

-- `place 0 rows 2 kept 1 replaced 1`, `head v0 7 v2`, `row 0 v0 7 v2`, `map v0=v0 v1=7 v2=v2 v3=v2`
example : place_text 0 source result 1 image
    ≡ (112 ∷ 108 ∷ 97 ∷ 99 ∷ 101 ∷ 32 ∷ 48 ∷ 32 ∷ 114 ∷ 111 ∷ 119 ∷ 115 ∷ 32 ∷ 50 ∷ 32 ∷ 107 ∷ 101 ∷ 112 ∷ 116 ∷ 32 ∷ 49 ∷ 32 ∷ 114 ∷ 101 ∷ 112 ∷ 108 ∷ 97
    ∷ 99 ∷ 101 ∷ 100 ∷ 32 ∷ 49 ∷ 10 ∷ [])
    ++ (104 ∷ 101 ∷ 97 ∷ 100 ∷ 32 ∷ 118 ∷ 48 ∷ 32 ∷ 55 ∷ 32 ∷ 118 ∷ 50 ∷ 10 ∷ [])
    ++ (114 ∷ 111 ∷ 119 ∷ 32 ∷ 48 ∷ 32 ∷ 118 ∷ 48 ∷ 32 ∷ 55 ∷ 32 ∷ 118 ∷ 50 ∷ 10 ∷ [])
    ++ (109 ∷ 97 ∷ 112 ∷ 32 ∷ 118 ∷ 48 ∷ 61 ∷ 118 ∷ 48 ∷ 32 ∷ 118 ∷ 49 ∷ 61 ∷ 55 ∷ 32 ∷ 118 ∷ 50 ∷ 61 ∷ 118 ∷ 50 ∷ 32 ∷ 118 ∷ 51 ∷ 61 ∷ 118 ∷ 50 ∷ 10 ∷ [])
unfolding digits decimal entry_text entries_text place_line never_line head_line row_line rows_text image_text images_text map_line
    numbers_where least_above occurring place_text refused_text variables_of row_entries member flat_map
example = refl

-- `place 3 rows 2 never replaced 0`
never : place_text 3 source (theory.never 1) 0 image
    ≡ 112 ∷ 108 ∷ 97 ∷ 99 ∷ 101 ∷ 32 ∷ 51 ∷ 32 ∷ 114 ∷ 111 ∷ 119 ∷ 115 ∷ 32 ∷ 50 ∷ 32 ∷ 110 ∷ 101 ∷ 118 ∷ 101 ∷ 114 ∷ 32 ∷ 114 ∷ 101 ∷ 112 ∷ 108 ∷ 97 ∷ 99
    ∷ 101 ∷ 100 ∷ 32 ∷ 48 ∷ 10 ∷ []
unfolding digits decimal entry_text entries_text place_line never_line head_line row_line rows_text image_text images_text map_line
    numbers_where least_above occurring place_text refused_text variables_of row_entries member flat_map
never = refl

-- An empty head: `head`
empty-head : head_line []
    ≡ 104 ∷ 101 ∷ 97 ∷ 100 ∷ 10 ∷ []
unfolding head_line entries_text flat_map
empty-head = refl

-- No variables: `map`
empty-mapping : map_line image []
    ≡ 109 ∷ 97 ∷ 112 ∷ 10 ∷ []
unfolding map_line images_text flat_map
empty-mapping = refl

-- `refused 14`
refused : refused_text 14
    ≡ 114 ∷ 101 ∷ 102 ∷ 117 ∷ 115 ∷ 101 ∷ 100 ∷ 32 ∷ 49 ∷ 52 ∷ 10 ∷ []
unfolding refused_text decimal digits
refused = refl

-- A number of several digits and a variable: `head 1900 v95`
several-digits : head_line (constant 1900 ∷ variable 95 ∷ [])
    ≡ 104 ∷ 101 ∷ 97 ∷ 100 ∷ 32 ∷ 49 ∷ 57 ∷ 48 ∷ 48 ∷ 32 ∷ 118 ∷ 57 ∷ 53 ∷ 10 ∷ []
unfolding head_line entries_text entry_text decimal digits flat_map
several-digits = refl
