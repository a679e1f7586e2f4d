-- The record with every place but one dropped: it is good, holds the same query at that place, has another place vacant, and so its reduction is accepted.
-- Assumes nothing.
use mathlib.Core.Path.{◌≡◌, refl, sym, ap, ◌∙◌}
use mathlib.Core.Bool.{Bool, true, false, cond, not}
use mathlib.Core.List.{[], ◌∷◌}
use mathlib.Core.Option.{none}
use Prim.Native.Nat.{ℕ, ◌<◌}
use native.Mathlib.Omega.{arith}
use lib.Dec.{eqb, ltb}
use lib.ListN.{length, get_or, replicate, length-replicate, get_or-replicate}
use lib.Seq.{get_or-set_same, get_or-set_other}
use borrow.Author.Tests.{eqb-true, eqb-false, lt-ltb}
use Rattle.query.specs.declared.Place.{Place}
use Rattle.record.specs.declared.Record.{Record}
use Rattle.theory.specs.Codes.{read_query}
use Rattle.record.specs.View.{schema_of, codes_of}
use Rattle.query.specs.View.{query_of}
use Rattle.query.specs.Rule.{good_place, no_place}
use Rattle.record.specs.Rule.{good_record}
use Rattle.refusals.specs.Refusals.{first_holding, bad_record, no_such_place, place_vacant, place_filled}
use Rattle.record.specs.Calls.{unknown_place, vacant, filled, is_filled, query_at}
use Rattle.lists.proofs.Tests.{every_set, every-replicate}
use Rattle.record.proofs.Good.{good-record, make-record}
use Rattle.record.proofs.Stored.{place-good}
use Rattle.record.proofs.Kept.{empty-place}
use Rattle.refusals.proofs.Refusals.{first_goes}
use Rattle.reduction.specs.Reduced.{reduction_refusal}
use Rattle.report.specs.internal.Places.{alone_in, other_place}

pub other-low : (place : ℕ) → other_place place < 8
other-low place = go (eqb place 0)
  where
    go : (t : Bool) → cond t 1 0 < 8
    go true = omega arith
    go false = omega arith

other_differs : (place : ℕ) → other_place place ≡ place → ⊥
other_differs place e = go (eqb place 0) refl e
  where
    go : (t : Bool) → eqb place 0 ≡ t → cond t 1 0 ≡ place → ⊥
    go true p h = let z : place ≡ 0 = eqb-true place 0 p in omega arith
    go false p h = eqb-false place 0 p (sym h)

first_holding-none : first_holding [] ≡ none
unfolding first_holding
first_holding-none = refl

module _ (r : Record) (place : ℕ) (low : place < 8) where
  -- The place is as it was, and the other is vacant
  pub alone-place : get_or (alone_in r place).places place no_place ≡ get_or r.places place no_place
  alone-place = get_or-set_same (replicate 8 no_place) place (get_or r.places place no_place) no_place (rw (length-replicate 8 no_place) low)

  alone-other : get_or (alone_in r place).places (other_place place) no_place ≡ no_place
  alone-other =
      get_or-set_other (replicate 8 no_place) place (other_place place) (get_or r.places place no_place) no_place (other_differs place)
      ∙ get_or-replicate 8 (other_place place) no_place no_place (other-low place)

  pub alone-query : query_at (alone_in r place) place ≡ query_at r place
  alone-query = ap (λ (p : Place). read_query (codes_of r) (query_of (schema_of r) p.query)) alone-place

  module _ (good : good_record r ≡ true) (long : length r.places ≡ 8) where
    pub alone-good : good_record (alone_in r place) ≡ true
    alone-good =
        let g = good-record r good in
        make-record (alone_in r place)
        (record {
          relations = g.relations;
          coded = g.coded;
          codes = g.codes;
          no-codes = g.no-codes;
          held = g.held;
          dependencies = g.dependencies;
          joined = g.joined;
          joins = g.joins;
          places =
              every_set (good_place (schema_of r)) (replicate 8 no_place) place (get_or r.places place no_place)
              (every-replicate (good_place (schema_of r)) 8 no_place (empty-place (schema_of r)))
              (place-good r good place no_place (rw long low));
        })

    -- Its reduction into the other place is accepted
    pub alone-accepted : is_filled r place ≡ true → reduction_refusal (alone_in r place) place (other_place place) ≡ none
    unfolding reduction_refusal
    alone-accepted held =
        let a : Record = alone_in r place in
        let t : ℕ = other_place place in
        first_goes (not (good_record a)) bad_record (unknown_place place ∷ unknown_place t ∷ vacant a place ∷ filled a t ∷ []) (ap not alone-good)
        ∙ first_goes (not (ltb place 8)) no_such_place (unknown_place t ∷ vacant a place ∷ filled a t ∷ []) (ap not (lt-ltb place 8 low))
        ∙ first_goes (not (ltb t 8)) no_such_place (vacant a place ∷ filled a t ∷ []) (ap not (lt-ltb t 8 (other-low place)))
        ∙ first_goes (not (is_filled a place)) place_vacant (filled a t ∷ []) (ap not (ap (λ (p : Place). p.filled) alone-place ∙ held))
        ∙ first_goes (is_filled a t) place_filled [] (ap (λ (p : Place). p.filled) alone-other)
        ∙ first_holding-none
