-- One list written over another.
use Rattle.std.specs.Prelude.{List, ◌++◌, ℕ, ◌+◌, length, take, drop, replicate}

-- A list with another written over it from a position on
abbrev pub over : {A : Type 0} → List A → ℕ → List A → List A
over under at xs = take at under ++ xs ++ drop (at + length xs) under

-- Some values in an array of n, blank after them
unfoldable pub pad : {A : Type 0} → ℕ → A → List A → List A
pad n blank xs = over (replicate n blank) 0 xs
