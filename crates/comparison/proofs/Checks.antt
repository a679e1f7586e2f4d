-- What the equation of a check tells: refused with the number that comes first, or yes with a mapping, or no without one. Assumes nothing.
use mathlib.Core.Path.{◌≡◌, refl, sym, ap, ◌∙◌}
use mathlib.Core.Logic.{◌⊎◌, inl, inr}
use mathlib.Core.Bool.{Bool, true, false}
use mathlib.Core.List.{List}
use mathlib.Core.Option.{Option, none, some}
use Prim.Native.Nat.{ℕ}
use native.Mathlib.Omega.{arith}
use Rattle.refusals.specs.Refusals.{gives, reply}
use Rattle.query.specs.declared.Cell.{Cell}
use Rattle.record.specs.declared.Record.{Record}
use Rattle.record.specs.Calls.{query_at}
use Rattle.theory.specs.Answer.{IsMapping}
use Rattle.minimization.specs.Checking.{image_at, maps_to}
use Rattle.minimization.proofs.Checking.{maps-to-exact}
use Rattle.std.specs.Prelude.{Result, Ok, Err}
use Rattle.refusals.specs.declared.Refusal.{Refusal}
use Rattle.refusals.specs.Refusal.{reply_of}
use Rattle.refusals.proofs.Refusals.{refused-gives}
use Rattle.comparison.specs.Comparison.{pair_refusal, images_at, CheckedMapping}

true-false : true ≡ false → ⊥
true-false e = let z : ◌≡◌ {A = ℕ} 0 1 = cc in omega arith

-- What a check stands for determines it
ok_case : (c : Result Bool Refusal) (b : Bool) → reply_of c ≡ gives b → c ≡ Ok b
ok_case (Ok a) b e = cc
ok_case (Err why) b e = absurd (refused-gives e)

module _ (r : Record) (p q : ℕ) (images : List Cell) (c : Result Bool Refusal) (is : CheckedMapping r p q images c) where
  pub checked_refused : (n : ℕ) → pair_refusal r p q ≡ some n → (b : Bool) → c ≡ Ok b → ⊥
  checked_refused n e b f =
      refused-gives
      (sym (is ∙ ap (λ (o : Option ℕ). reply o (maps_to (query_at r q) (query_at r p) (images_at r q images))) e) ∙ ap reply_of f)

  pub checked-decided : pair_refusal r p q ≡ none
      → ((c ≡ Ok true) × IsMapping (query_at r q) (query_at r p) (image_at (images_at r q images)))
      ⊎ ((c ≡ Ok false) × (IsMapping (query_at r q) (query_at r p) (image_at (images_at r q images)) → ⊥))
  checked-decided e = go (maps_to (query_at r q) (query_at r p) (images_at r q images)) refl
    where
      says : reply_of c ≡ gives (maps_to (query_at r q) (query_at r p) (images_at r q images))
      says = is ∙ ap (λ (o : Option ℕ). reply o (maps_to (query_at r q) (query_at r p) (images_at r q images))) e

      go : (b : Bool) → maps_to (query_at r q) (query_at r p) (images_at r q images) ≡ b
          → ((c ≡ Ok true) × IsMapping (query_at r q) (query_at r p) (image_at (images_at r q images)))
          ⊎ ((c ≡ Ok false) × (IsMapping (query_at r q) (query_at r p) (image_at (images_at r q images)) → ⊥))
      go true f = inl (ok_case c true (says ∙ ap gives f), (maps-to-exact (query_at r q) (query_at r p) (images_at r q images)).0 f)
      go false f = inr (ok_case c false (says ∙ ap gives f), λ m. absurd (true-false (sym ((maps-to-exact (query_at r q) (query_at r p) (images_at r q images)).1 m) ∙ f)))
