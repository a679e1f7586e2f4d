-- What looking up a place gives: its index, or the refusal that comes first.
use Rattle.std.specs.Prelude.{[], ◌∷◌, ℕ}
use Rattle.refusals.specs.Refusals.{first_holding, Reply, reply}
use Rattle.record.specs.declared.Record.{Record}
use Rattle.record.specs.Calls.{unknown_place, vacant, filled}

-- The index of a place
abbrev pub place_at : ℕ → Reply ℕ
place_at place = reply (first_holding (unknown_place place ∷ [])) place

-- The index of a place to be read or dropped
abbrev pub filled_place : Record → ℕ → Reply ℕ
filled_place r place = reply (first_holding (unknown_place place ∷ vacant r place ∷ [])) place

-- The index of a place to be filled
abbrev pub vacant_place : Record → ℕ → Reply ℕ
vacant_place r place = reply (first_holding (unknown_place place ∷ filled r place ∷ [])) place
