-- A walk over the rows of the words, row by row.
use Rattle.std.specs.Prelude.{◌≡◌, List, ℕ, ◌+◌, ◌≤◌, ◌<◌, length, Option, None, Some}
use Rattle.words.specs.internal.Rows.{Next}
use Rattle.words.specs.declared.Position.{Position}

-- A walk at a place gives the row there and goes on to the next one, or gives none at the end
abbrev pub Steps : List ℕ → List ℕ → Position → Option Position → Position → Type 0
Steps schema words p None q = (length words ≤ p.at) × (q ≡ p)
Steps schema words p (Some r) q = (r ≡ p) × (p.at < length words) × Next schema words p.at q.at × (q.number ≡ p.number + 1)
