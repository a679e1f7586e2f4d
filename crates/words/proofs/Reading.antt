-- A database as it is read: as many rows as there are, each in its place and of its width. Assumes nothing.
use mathlib.Core.Path.{◌≡◌, ◌∙◌, subst}
use mathlib.Core.List.Memᴰ
use mathlib.Core.List.{[]}
use Prim.Native.Nat.{ℕ}
use mathlib.Core.List.{List}
use lib.ListN.{length, drop, get_or-map}
use Rattle.std.proofs.lemmas.List.{length-map, drop-map}
use Rattle.theory.specs.Query.{Row, map_row, FitsSchema}
use Rattle.theory.specs.Database.{Database, Sound}
use Rattle.theory.specs.Codes.{CodePair, read_code, read_database}
use Rattle.words.specs.Broken.{nth_row}

module _ (codes : List CodePair) (D : Database) where
  pub read-length : length (read_database codes D) ≡ length D
  read-length = length-map D (map_row (read_code codes))

  pub read-row : (n : ℕ) → nth_row (read_database codes D) n ≡ map_row (read_code codes) (nth_row D n)
  read-row n = get_or-map (map_row (read_code codes)) D n (record { relation = 0; values = [] })

  pub read-drop : (n : ℕ) → drop n (read_database codes D) ≡ read_database codes (drop n D)
  read-drop n = drop-map (map_row (read_code codes)) n D

-- A sound database stays one
pub read-fits : (codes : List CodePair) (schema : List ℕ) (r : Row ℕ) → FitsSchema schema r → FitsSchema schema (map_row (read_code codes) r)
read-fits codes schema r fits = (fits.0, length-map r.values (read_code codes) ∙ fits.1)

pub read-sound : (codes : List CodePair) (schema : List ℕ) (D : Database) → Sound schema D → Sound schema (read_database codes D)
read-sound codes schema D sound r at =
    let from = Memᴰ.of_map (map_row (read_code codes)) D at in
    subst (FitsSchema schema) from.2 (read-fits codes schema from.0 (sound from.0 from.1))
