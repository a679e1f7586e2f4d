-- The survivor by arithmetic (SPECIFICATION, The chase): each entry has a key, and of two entries that must be equal, and are not both constants, the one
-- with the smaller key survives. What survives is defined in `theory/specs/Chase`; here stand the keys, and that they tell the same. Proved in `proofs/Keys`.
use Rattle.std.specs.Prelude.{◌≡◌, ◌≢◌, ◌⊎◌, Bool, true, false, ◌&&◌, cond, ℕ, ◌+◌, ◌<◌}
use Rattle.query.specs.declared.Entry as stored
use Rattle.query.specs.View.{entry_of}
use Rattle.query.specs.Rule.{good_entry}
use Rattle.theory.specs.Query.{Entry, constant, variable, Query}
use Rattle.theory.specs.Chase.{in_head}
use Rattle.theory.specs.ChaseTheorems.{Survives}

-- The key of an entry, by what stands in the head: a constant's is its number, that of a variable in the head 2,147,483,648 plus its number, that of another
-- variable 2,147,483,744 plus its number
abbrev pub key : (ℕ → Bool) → Entry → ℕ
key shown (constant n) = n
key shown (variable v) = cond (shown v) (2147483648 + v) (2147483744 + v)

-- The first and the last key of each kind
pub record KeyExamples : Type 0 where
  pub constants : (shown : ℕ → Bool) → (key shown (constant 0) ≡ 0) × (key shown (constant 2147483647) ≡ 2147483647)
  pub heads : (key (λ v. true) (variable 0) ≡ 2147483648) × (key (λ v. true) (variable 95) ≡ 2147483743)
  pub others : (key (λ v. false) (variable 0) ≡ 2147483744) × (key (λ v. false) (variable 95) ≡ 2147483839)

-- Entry e of a query has a smaller key than another, which is a variable, and takes its place
pub record Wins (q : Query) (e other : Entry) : Type 0 where
  pub gone : ℕ
  pub is-variable : other ≡ variable gone
  pub smaller : key (in_head q) e < key (in_head q) other
  pub survives : Survives q e gone

-- Whether an entry is a constant
abbrev pub is_constant : Entry → Bool
is_constant (constant n) = true
is_constant (variable v) = false

-- Of two different entries within the limits that are not both constants the one with the smaller key survives
abbrev pub SmallerKeySurvives : Type 0
SmallerKeySurvives =
    (q : Query) (a b : stored.Entry) → good_entry a ≡ true → good_entry b ≡ true → entry_of a ≢ entry_of b
    → is_constant (entry_of a) && is_constant (entry_of b) ≡ false → Wins q (entry_of a) (entry_of b) ⊎ Wins q (entry_of b) (entry_of a)
