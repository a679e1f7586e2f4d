-- What the functions behind the two calls promise: the lookup of two places.
use Rattle.std.specs.Prelude.{ℕ}
use Rattle.refusals.specs.Refusals.{Reply, gives, reply}
use Rattle.record.specs.declared.Record.{Record}
use Rattle.comparison.specs.Comparison.{pair_refusal}

-- Two places that are found
abbrev pub both : ℕ → ℕ → Reply (ℕ × ℕ)
both p q = gives (p, q)

-- Two places looked up, or the refusal
abbrev pub looked_up : Record → ℕ → ℕ → Reply (ℕ × ℕ)
looked_up r p q = reply {A = ℕ × ℕ} (pair_refusal r p q) (p, q)
