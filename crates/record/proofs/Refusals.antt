-- The first condition that holds: what a test that holds or fails makes of it, and what the lookup of a place tells. For any list of conditions.
use mathlib.Core.Path.{◌≡◌, sym, ap, ◌∙◌}
use mathlib.Core.Logic.{⊎_elim}
use mathlib.Core.Bool.{true, false, not}
use mathlib.Core.List.{[], ◌∷◌}
use mathlib.Core.Option.{some}
use Prim.Native.Nat.{ℕ, ◌≤◌, ◌<◌}
use lib.Dec.{ltb}
use borrow.Author.Tests.{ltb-true, ltb-false, lt-ltb, le-ltb, not-true, not-false}
use Rattle.record.specs.declared.Record.{Record}
use Rattle.refusals.specs.Refusals.{first_holding, refused, gives}
use Rattle.record.specs.Calls.{unknown_place, vacant, filled, is_filled}
use Rattle.record.specs.internal.Lookup.{place_at, filled_place, vacant_place}
use Rattle.refusals.proofs.Refusals.{first_goes, none-holds, some_holds, nothing-holds, reply-gives, reply-refused}

-- ---- the lookups

module _ (place : ℕ) where
  pub place-high : 8 ≤ place → refused 7 ≡ place_at place
  unfolding first_holding
  place-high h = rw (le-ltb place 8 h)

  pub place-low : place < 8 → gives place ≡ place_at place
  unfolding first_holding
  place-low h = rw (lt-ltb place 8 h)

module _ (r : Record) (place : ℕ) where
  pub filled-high : 8 ≤ place → refused 7 ≡ filled_place r place
  unfolding first_holding
  filled-high h = rw (le-ltb place 8 h)

  pub filled-yes : place < 8 → is_filled r place ≡ true → gives place ≡ filled_place r place
  unfolding first_holding
  filled-yes h e = rw (lt-ltb place 8 h, e)

  pub filled-no : place < 8 → is_filled r place ≡ false → refused 11 ≡ filled_place r place
  unfolding first_holding
  filled-no h e = rw (lt-ltb place 8 h, e)

  pub vacant-high : 8 ≤ place → refused 7 ≡ vacant_place r place
  unfolding first_holding
  vacant-high h = rw (le-ltb place 8 h)

  pub vacant-yes : place < 8 → is_filled r place ≡ false → gives place ≡ vacant_place r place
  unfolding first_holding
  vacant-yes h e = rw (lt-ltb place 8 h, e)

  pub vacant-no : place < 8 → is_filled r place ≡ true → refused 12 ≡ vacant_place r place
  unfolding first_holding
  vacant-no h e = rw (lt-ltb place 8 h, e)

  -- What an index tells
  pub filled_at : (at : ℕ) → filled_place r place ≡ gives at → (at ≡ place) × (place < 8) × (is_filled r place ≡ true)
  filled_at at e =
      let f = reply-gives (first_holding (unknown_place place ∷ vacant r place ∷ [])) place at e in
      let g = none-holds (not (ltb place 8)) 7 (vacant r place ∷ []) f.0 in
      let h = none-holds (not (is_filled r place)) 11 [] g.1 in
      (sym f.1, ltb-true place 8 (not-false _ g.0), not-false _ h.0)

  pub vacant-at : (at : ℕ) → vacant_place r place ≡ gives at → (at ≡ place) × (place < 8) × (is_filled r place ≡ false)
  vacant-at at e =
      let f = reply-gives (first_holding (unknown_place place ∷ filled r place ∷ [])) place at e in
      let g = none-holds (not (ltb place 8)) 7 (filled r place ∷ []) f.0 in
      let h = none-holds (is_filled r place) 12 [] g.1 in
      (sym f.1, ltb-true place 8 (not-false _ g.0), h.0)

pub place-at : (place at : ℕ) → place_at place ≡ gives at → (at ≡ place) × (place < 8)
place-at place at e =
    let f = reply-gives (first_holding (unknown_place place ∷ [])) place at e in
    (sym f.1, ltb-true place 8 (not-false _ (none-holds (not (ltb place 8)) 7 [] f.0).0))

-- What a refusal tells
pub place-refused : (place n : ℕ) → place_at place ≡ refused n → (8 ≤ place) × (n ≡ 7)
place-refused place n e =
    ⊎_elim (λ h. (ltb-false place 8 (not-true _ h.0), sym h.1)) (λ h. absurd (nothing-holds n h.1))
    (some_holds (not (ltb place 8)) 7 [] n (reply-refused (first_holding (unknown_place place ∷ [])) place n e))

pub vacant-refused : (r : Record) (place n : ℕ) → place < 8 → vacant_place r place ≡ refused n → (is_filled r place ≡ true) × (n ≡ 12)
vacant-refused r place n low e =
    let o : first_holding (filled r place ∷ []) ≡ some n =
    sym (first_goes (not (ltb place 8)) 7 (filled r place ∷ []) (ap not (lt-ltb place 8 low)))
    ∙ reply-refused (first_holding (unknown_place place ∷ filled r place ∷ [])) place n e
    in
    ⊎_elim (λ h. (h.0, sym h.1)) (λ h. absurd (nothing-holds n h.1)) (some_holds (is_filled r place) 12 [] n o)
