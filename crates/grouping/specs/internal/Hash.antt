-- Two hashes of a row's left values: its bucket and its tag. Only that they are functions of them is used.
use Rattle.std.specs.Prelude.{List, [], ◌∷◌, ℕ, ◌+◌, ◌*◌, ◌/◌, ◌%◌}
use Rattle.theory.specs.Query.{Row, column}
use Rattle.theory.specs.Database.{Dependency}

-- The hash h, with the row's values in the given columns mixed in by a factor
unfoldable pub hash_from : ℕ → List ℕ → ℕ → Row ℕ → ℕ
hash_from factor [] h r = h
hash_from factor (c ∷ cs) h r = hash_from factor cs ((h * factor + column 0 r c) % 4294967296) r

-- The bucket of a hash: neighbours stay neighbours, and hashes with the same remainder are spread
abbrev pub spread : ℕ → ℕ → ℕ
spread buckets h = (h + h / buckets * 2654435761) % buckets

-- The bucket of a row, by its left values
abbrev pub bucket_for : ℕ → Dependency → Row ℕ → ℕ
bucket_for buckets d r = spread buckets (hash_from 1000003 d.left 0 r)

-- The tag of a row, by its left values
abbrev pub tag_of : Dependency → Row ℕ → ℕ
tag_of d r = hash_from 2654435761 d.left 0 r
