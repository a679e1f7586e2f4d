-- A step of a walk over the rows, in the terms of the words that are walked over. Assumes nothing.
use mathlib.Core.Path.{◌≡◌, ◌∙◌}
use mathlib.Core.List.{List}
use Prim.Native.Nat.{ℕ, ◌+◌, ◌≤◌, ◌<◌}
use lib.ListN.{length}
use Rattle.std.specs.Prelude.{None, Some}
use Rattle.words.specs.declared.Position.{Position}
use Rattle.words.specs.internal.Rows.{Next}
use Rattle.words.specs.internal.Walk.{Steps}

-- The walk at p gave the row r and stands at q
pub record Stepped (schema words S W : List ℕ) (p r q : Position) : Type 0 where
  pub schema-same : S ≡ schema
  pub words-same : W ≡ words
  pub row : r ≡ p
  pub inside : p.at < length words
  pub next : Next schema words p.at q.at
  pub number : q.number ≡ p.number + 1

module _ {schema words S W S' W' : List ℕ} {p q : Position} (e : S ≡ schema) (f : W ≡ words) where
  pub stepped : {r : Position} → Steps S W p (Some r) q × (S' ≡ S) × (W' ≡ W) → Stepped schema words S' W' p r q
  stepped h =
      let s = rw (e, f) at h.0 in
      record { schema-same = h.1 ∙ e; words-same = h.2 ∙ f; row = s.0; inside = s.1; next = s.2; number = s.3 }

  pub ended : Steps S W p None q × (S' ≡ S) × (W' ≡ W) → length words ≤ p.at
  ended h = rw f at h.0.0
