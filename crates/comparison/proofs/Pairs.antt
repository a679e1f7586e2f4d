-- The refusals of a call on two places: `pair_refusal` by the test that decides it, in the order of SPECIFICATION, Refusals, and what it tells where none holds;
-- then those of a comparison.
-- Assumes nothing.
use mathlib.Core.Path.{◌≡◌, refl, sym, ap, ap₂, ◌∙◌}
use mathlib.Core.Logic.{⊎_elim}
use mathlib.Core.Bool.{true, false, not, cond}
use mathlib.Core.List.{[], ◌∷◌}
use mathlib.Core.Option.{Option, none, some, or_else}
use Prim.Native.Nat.{ℕ, ◌<◌}
use native.Mathlib.Omega.{arith}
use lib.Dec.{eqb, ltb}
use borrow.Author.Tests.{ltb-true, eqb-true, lt-ltb, le-ltb, eq-eqb, ne_eqb, not-true, not-false}
use Rattle.query.specs.Types.{Query}
use Rattle.record.specs.declared.Record.{Record}
use Rattle.record.specs.Rule.{good_record}
use Rattle.refusals.specs.Refusals.{first_holding, refused, gives, reply}
use Rattle.record.specs.Calls.{unknown_place, vacant, is_filled, stored_at}
use Rattle.record.specs.internal.Lookup.{place_at, filled_place}
use Rattle.refusals.proofs.Refusals.{first_goes, some_holds, none-holds, nothing-holds, holds-append, reply-gives, reply-refused}
use Rattle.record.proofs.Refusals.{place-refused, filled_at}
use Rattle.theory.specs.Query as theory
use Rattle.joins.specs.JoinChase.{Outcome, chased, overflow}
use Rattle.comparison.specs.internal.Pairs.{both, looked_up}
use Rattle.comparison.specs.Comparison.{pair_conditions, pair_refusal, outcome_at, overflows, comparison_refusal}

-- A place below 8 that is refused is vacant
pub filled-refused : (r : Record) (place n : ℕ) → place < 8 → filled_place r place ≡ refused n → (is_filled r place ≡ false) × (n ≡ 11)
filled-refused r place n low e =
    let o : first_holding (vacant r place ∷ []) ≡ some n =
    sym (first_goes (not (ltb place 8)) 7 (vacant r place ∷ []) (ap not (lt-ltb place 8 low)))
    ∙ reply-refused (first_holding (unknown_place place ∷ vacant r place ∷ [])) place n e
    in
    ⊎_elim (λ h. (not-true _ h.0, sym h.1)) (λ h. absurd (nothing-holds n h.1)) (some_holds (not (is_filled r place)) 11 [] n o)

module _ (r : Record) (p q : ℕ) where
  pub pair-broken : good_record r ≡ false → refused 14 ≡ looked_up r p q
  unfolding pair_refusal first_holding
  pair-broken e = rw e

  module _ (good : good_record r ≡ true) where
    pub first_above : (n : ℕ) → place_at p ≡ refused n → refused n ≡ looked_up r p q
    unfolding pair_refusal first_holding
    first_above n e =
        let f = place-refused p n e in
        rw (good, le-ltb p 8 f.0, f.1)

    module _ (low-p : p < 8) where
      pub second_above : (n : ℕ) → place_at q ≡ refused n → refused n ≡ looked_up r p q
      unfolding pair_refusal first_holding
      second_above n e =
          let f = place-refused q n e in
          rw (good, lt-ltb p 8 low-p, le-ltb q 8 f.0, f.1)

      module _ (low-q : q < 8) where
        pub first-vacant : (n : ℕ) → filled_place r p ≡ refused n → refused n ≡ looked_up r p q
        unfolding pair_refusal first_holding
        first-vacant n e =
            let f = filled-refused r p n low-p e in
            rw (good, lt-ltb p 8 low-p, lt-ltb q 8 low-q, f.0, f.1)

        module _ (filled-p : is_filled r p ≡ true) where
          pub second-vacant : (n : ℕ) → filled_place r q ≡ refused n → refused n ≡ looked_up r p q
          unfolding pair_refusal first_holding
          second-vacant n e =
              let f = filled-refused r q n low-q e in
              rw (good, lt-ltb p 8 low-p, lt-ltb q 8 low-q, filled-p, f.0, f.1)

          module _ (filled-q : is_filled r q ≡ true) where
            pub heads-differ : ((stored_at r p).arity ≡ (stored_at r q).arity → ⊥) → refused 8 ≡ looked_up r p q
            unfolding pair_refusal first_holding
            heads-differ e =
                rw (good, lt-ltb p 8 low-p, lt-ltb q 8 low-q, filled-p, filled-q, ne_eqb (stored_at r p).arity (stored_at r q).arity e)

            pub pair-stands : (stored_at r p).arity ≡ (stored_at r q).arity → both p q ≡ looked_up r p q
            unfolding pair_refusal first_holding
            pair-stands e =
                rw (good, lt-ltb p 8 low-p, lt-ltb q 8 low-q, filled-p, filled-q, eq-eqb (stored_at r p).arity (stored_at r q).arity e)

-- The same of two places that were found, with the queries stored there
module _ (r : Record) (p q : ℕ) (good : good_record r ≡ true) (a b : ℕ) (at_p : filled_place r p ≡ gives a) (at-q : filled_place r q ≡ gives b)
    (x y : Query)
    (is_x : x ≡ stored_at r a) (is_y : y ≡ stored_at r b) where
  arity-p : (stored_at r p).arity ≡ x.arity
  arity-p = ap (λ (k : ℕ). (stored_at r k).arity) (sym (filled_at r p a at_p).0) ∙ ap (λ (z : Query). z.arity) (sym is_x)

  arity-q : (stored_at r q).arity ≡ y.arity
  arity-q = ap (λ (k : ℕ). (stored_at r k).arity) (sym (filled_at r q b at-q).0) ∙ ap (λ (z : Query). z.arity) (sym is_y)

  pub found-differ : (x.arity ≡ y.arity → ⊥) → refused 8 ≡ looked_up r p q
  found-differ e =
      let f = filled_at r p a at_p in
      let g = filled_at r q b at-q in
      heads-differ r p q good f.1 g.1 f.2 g.2 (λ same. e (sym arity-p ∙ same ∙ arity-q))

  pub found-stand : x.arity ≡ y.arity → both a b ≡ looked_up r p q
  found-stand e =
      let f = filled_at r p a at_p in
      let g = filled_at r q b at-q in
      ap₂ both f.0 g.0 ∙ pair-stands r p q good f.1 g.1 f.2 g.2 (arity-p ∙ e ∙ sym arity-q)

-- What it tells that two places are not refused
pub record Standing (r : Record) (p q : ℕ) : Type 0 where
  pub good : good_record r ≡ true
  pub low-p : p < 8
  pub low-q : q < 8
  pub filled-p : is_filled r p ≡ true
  pub filled-q : is_filled r q ≡ true
  pub same-arity : (stored_at r p).arity ≡ (stored_at r q).arity

pub standing : (r : Record) (p q : ℕ) → pair_refusal r p q ≡ none → Standing r p q
unfolding pair_refusal
standing r p q e =
    let a = none-holds (not (good_record r)) 14 _ e in
    let b = none-holds (not (ltb p 8)) 7 _ a.1 in
    let d = none-holds (not (ltb q 8)) 7 _ b.1 in
    let f = none-holds (not (is_filled r p)) 11 _ d.1 in
    let g = none-holds (not (is_filled r q)) 11 _ f.1 in
    let h = none-holds (not (eqb (stored_at r p).arity (stored_at r q).arity)) 8 _ g.1 in
    record {
      good = not-false _ a.0;
      low-p = ltb-true p 8 (not-false _ b.0);
      low-q = ltb-true q 8 (not-false _ d.0);
      filled-p = not-false _ f.0;
      filled-q = not-false _ g.0;
      same-arity = eqb-true (stored_at r p).arity (stored_at r q).arity (not-false _ h.0);
    }

-- A pair that gives places was not refused, and gives the two
pub paired-places : (o : Option ℕ) (p q a b : ℕ) → reply {A = ℕ × ℕ} o (p, q) ≡ both a b → (o ≡ none) × (p ≡ a) × (q ≡ b)
paired-places o p q a b e =
    let k = reply-gives {A = ℕ × ℕ} o (p, q) (a, b) e in
    (k.0, ap (λ (x : ℕ × ℕ). x.0) k.1, ap (λ (x : ℕ × ℕ). x.1) k.1)

-- ---- the refusals of a comparison

module _ (r : Record) (p q : ℕ) where
  asks-pair : (o : Option ℕ) → pair_refusal r p q ≡ o → comparison_refusal r p q ≡ or_else o (first_holding ((overflows (outcome_at r p), 17) ∷ []))
  unfolding pair_refusal comparison_refusal
  asks-pair o e =
      holds-append (pair_conditions r p q) ((overflows (outcome_at r p), 17) ∷ [])
      ∙ ap (λ (x : Option ℕ). or_else x (first_holding ((overflows (outcome_at r p), 17) ∷ []))) e

  -- Two places that are refused are refused with the same number
  pub compare-pair : (n : ℕ) → pair_refusal r p q ≡ some n → comparison_refusal r p q ≡ some n
  unfolding or_else
  compare-pair n e = asks-pair (some n) e

  -- Two that are not: by the end of the chase
  pub compare-over : pair_refusal r p q ≡ none → outcome_at r p ≡ overflow → comparison_refusal r p q ≡ some 17
  unfolding or_else first_holding
  compare-over e ends = asks-pair none e ∙ ap (λ (o : Outcome). cond (overflows o) (some 17) none) ends

  pub compare-ends : pair_refusal r p q ≡ none → (C : theory.Query) → outcome_at r p ≡ chased C → comparison_refusal r p q ≡ none
  unfolding or_else first_holding
  compare-ends e C ends = asks-pair none e ∙ ap (λ (o : Outcome). cond (overflows o) (some 17) none) ends

  -- A comparison that is not refused is of places that are not
  pub compare-stands : comparison_refusal r p q ≡ none → pair_refusal r p q ≡ none
  compare-stands e = go (pair_refusal r p q) refl
    where
      go : (o : Option ℕ) → pair_refusal r p q ≡ o → pair_refusal r p q ≡ none
      go none f = f
      go (some n) f = let z : none ≡ some n = sym e ∙ compare-pair n f in let y : ◌≡◌ {A = ℕ} 0 1 = cc in absurd (omega arith)
