-- What the views and the rule come to. Each statement is proved in `proofs/Meaning`.
use Rattle.std.specs.Prelude.{◌≡◌, true, List, ℕ, ◌≤◌, get_or}
use Rattle.query.specs.Types.{Query}
use Rattle.query.specs.View.{query_of}
use Rattle.query.specs.Rule.{good_up_to, shaped_for}
use Rattle.query.specs.Stored.{stored_form}

-- A good query is the stored form of the query that it stands for, whatever room for rows it has
abbrev pub StoredBack : Type 0
StoredBack =
    (most : ℕ) (schema : List ℕ) → ((i : ℕ) → get_or schema i 0 ≤ 8) → (q : Query) → shaped_for most q ≡ true → good_up_to most schema q ≡ true
    → stored_form most (query_of schema q) ≡ q

-- So it is determined by the query that it stands for
abbrev pub StoredUnique : Type 0
StoredUnique =
    (most : ℕ) (schema : List ℕ) → ((i : ℕ) → get_or schema i 0 ≤ 8) → (a b : Query) → shaped_for most a ≡ true → shaped_for most b ≡ true
    → good_up_to most schema a ≡ true → good_up_to most schema b ≡ true → query_of schema a ≡ query_of schema b → a ≡ b
