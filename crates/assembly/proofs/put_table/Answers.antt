use mathlib.Core.Path.{◌≡◌, sym, ap, refl, ◌∙◌}
use mathlib.Core.List.{List, ◌∷◌, ◌++◌, map}
use Prim.Native.Nat.{ℕ, ◌+◌, ◌*◌, ◌-◌, ◌≤◌, ◌<◌}
use native.Mathlib.Omega.{arith}
use lib.ListN.{length, drop, get_or, length-append, length-drop, length-map}
use Rattle.query.specs.declared.Place.{Place}
use Rattle.query.specs.Rule.{good_place}
use Rattle.lists.specs.Over.{over}
use Rattle.format.specs.Bytes.{bytes_of}
use Rattle.format.specs.File.{table_of, put_place}
use Rattle.lists.proofs.Over.{over-nil, over-length, over-over}
use Rattle.lists.proofs.Tests.{every-get_or}
use Rattle.query.proofs.Shape.{past_place}
use Rattle.format.proofs.Numbers.{length-bytes}
use Rattle.format.proofs.Directory.{length-table}
use Rattle.limits.specs.internal.Schema.{widths_in}
use Rattle.assembly.proofs.FirstPlaces.{parts_next, parts-end}
use Rattle.assembly.proofs.put_table.Invariants.{parts_from, At}
use Rattle.assembly.proofs.put_table.Goals as goal

parts-left : (schema : List ℕ) (places : List Place) (k : ℕ) → length (parts_from schema places k) ≡ length places - k
parts-left schema places k = length-map (drop k places) (put_place schema) ∙ length-drop k places

table-cons : (due : ℕ) (p : List ℕ) (ps : List (List ℕ)) → table_of due (p ∷ ps) ≡ bytes_of 2 due ++ bytes_of 2 (length p) ++ table_of (due + length p) ps
unfolding table_of
table-cons due p ps = refl

module _ (schema before : List ℕ) (at start : ℕ) (places : List Place) (buffer : List ℕ) (due k : ℕ)
    (room : at + 4 * length places ≤ length before)
    (f : At schema before at start places buffer due k) (h : k < length places) where
  room-first : at + 4 * k + 2 ≤ length buffer
  room-first = omega (arith, f.long)

  module _ (first : List ℕ) (e₁ : first ≡ over buffer (at + 4 * k) (bytes_of 2 due)) where
    first-long : length first ≡ length buffer
    first-long = ap length e₁ ∙ over-length buffer (bytes_of 2 due) (at + 4 * k) (omega (arith, length-bytes 2 due, room-first))

    goes_on : (size : ℕ) → size ≡ length (put_place schema (get_or places k past_place)) → size ≤ 534 → (second : List ℕ)
        → second ≡ over first (at + 4 * k + 2) (bytes_of 2 size)
        → At schema before at start places second (due + size) (k + 1)
    goes_on size es small second e₂ =
        let p : List ℕ = put_place schema (get_or places k past_place) in
        let ps : List (List ℕ) = parts_from schema places (k + 1) in
        let more : List ℕ = table_of (due + length p) ps in
        let pair : List ℕ = bytes_of 2 due ++ bytes_of 2 (length p) in
        let ld : length (bytes_of 2 due) ≡ 2 = length-bytes 2 due in
        let lp : length (bytes_of 2 (length p)) ≡ 2 = length-bytes 2 (length p) in
        let lq : length pair ≡ 4 = length-append (bytes_of 2 due) (bytes_of 2 (length p)) ∙ omega arith in
        let lm : length more ≡ 4 * (length places - (k + 1)) = length-table (due + length p) ps ∙ ap (λ (j : ℕ). 4 * j) (parts-left schema places (k + 1)) in
        let long = f.long in
        let split : table_of due (parts_from schema places k) ≡ pair ++ more = ap (table_of due) (parts_next schema places k h) ∙ table-cons due p ps in
        let n₁ : at + 4 * k + 2 ≡ at + 4 * k + length (bytes_of 2 due) = omega arith in
        let two : second ≡ over buffer (at + 4 * k) pair =
        e₂ ∙ ap (λ (b : List ℕ). over b (at + 4 * k + 2) (bytes_of 2 size)) e₁
        ∙ ap (λ (s : ℕ). over (over buffer (at + 4 * k) (bytes_of 2 due)) (at + 4 * k + 2) (bytes_of 2 s)) es
        ∙ ap (λ (j : ℕ). over (over buffer (at + 4 * k) (bytes_of 2 due)) j (bytes_of 2 (length p))) n₁
        ∙ over-over buffer (at + 4 * k) (bytes_of 2 due) (bytes_of 2 (length p)) (omega arith) in
        let n₂ : at + 4 * k + length pair ≡ at + 4 * (k + 1) = omega arith in
        let three : over buffer (at + 4 * k) (pair ++ more) ≡ over second (at + 4 * (k + 1)) more =
        sym (ap (λ (b : List ℕ). over b (at + 4 * (k + 1)) more) two ∙ ap (λ (j : ℕ). over (over buffer (at + 4 * k) pair) j more) (sym n₂)
        ∙ over-over buffer (at + 4 * k) pair more (omega arith)) in
        record {
          few = omega arith;
          small = omega (arith, f.small);
          long = ap length two ∙ over-length buffer pair (at + 4 * k) (omega arith) ∙ long;
          rest = f.rest ∙ ap (over buffer (at + 4 * k)) split ∙ three ∙ ap (λ (s : ℕ). over second (at + 4 * (k + 1)) (table_of (due + s) ps)) (sym es);
        }

ended : (schema before : List ℕ) (at start : ℕ) (places : List Place) (buffer : List ℕ) (due k : ℕ) → At schema before at start places buffer due k
    → length places ≤ k → buffer ≡ over before at (table_of start (map (put_place schema) places))
unfolding table_of
ended schema before at start places buffer due k f h =
    sym (f.rest ∙ ap (λ (ps : List (List ℕ)). over buffer (at + 4 * k) (table_of due ps)) (parts-end schema places k h) ∙ over-nil buffer (at + 4 * k))

pub place_length-size-requires : goal.place_length-size-requires
place_length-size-requires c =
    record {
      place_value =
          every-get_or (good_place (widths_in c.args.schema)) c.args.places.now c.loop-k.k past_place c.requires.places_value c.loop-k-test.true;
    }

pub loop-k-preserved : goal.loop-k-preserved
loop-k-preserved c =
    goes_on (widths_in c.args.schema) c.args.buffer.now c.args.at c.args.start
    c.args.places.now c.loop-k.buffer c.loop-k.due c.loop-k.k c.requires.in_bounds
    c.loop-k.invariant c.loop-k-test.true c.put_word.new.buffer c.put_word.ensures
    c.place_length-size.result c.place_length-size.ensures.0 c.place_length-size.ensures.1
    c.put_word-in-loop-k.new.buffer c.put_word-in-loop-k.ensures

pub returns : goal.returns
returns c =
    ended (widths_in c.args.schema) c.args.buffer.now c.args.at c.args.start
    c.args.places.now c.loop-k.buffer c.loop-k.due c.loop-k.k c.loop-k.invariant c.loop-k-test.false
