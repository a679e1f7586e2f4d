-- The lines of a filled place: what its reduction in the record without the other places gives may be listed, and is its lines. Assumes nothing.
use mathlib.Core.Path.{◌≡◌, sym, ap, ap₂, ◌∙◌, subst, subst₂}
use mathlib.Core.Logic.{◌≢◌}
use mathlib.Core.Bool.{true}
use mathlib.Core.List.{List, []}
use mathlib.Core.Option.{none}
use Prim.Native.Nat.{ℕ, ◌+◌, ◌≤◌, ◌<◌}
use native.Mathlib.Omega.{arith}
use lib.ListN.{length, get_or, length-set, length-replicate}
use lib.Seq.{get_or-set_same}
use Rattle.query.specs.Types.{Query}
use Rattle.query.specs.declared.Place.{Place}
use Rattle.record.specs.declared.Record.{Record}
use Rattle.record.specs.View.{schema_of, codes_of, dependencies_of}
use Rattle.query.specs.View.{query_of, images_of}
use Rattle.lists.specs.Tests.{every}
use Rattle.query.specs.Rule.{good_cell, good_query, head_safe, no_place}
use Rattle.record.specs.Rule.{good_record}
use Rattle.record.specs.Calls.{is_filled, stored_at, query_at}
use Rattle.query.proofs.Good.{good-query}
use Rattle.record.proofs.Good.{good-record}
use Rattle.record.proofs.Stored as stored
use Rattle.reduction.specs.declared.Reduced.{Reduced}
use Rattle.reduction.specs.Reduced.{reduction_refusal, ReducesTo, IsReduced}
use Rattle.text.specs.Text.{place_text}
use Rattle.limits.specs.internal.Schema.{widths_in}
use Rattle.limits.specs.declared.schema.Schema.{Schema}
use Rattle.text.specs.internal.Listable.{place_room, Listable}
use Rattle.printing.specs.internal.Writing.{WrittenAt}
use Rattle.text.proofs.Bound.{place_short}
use Rattle.theory.specs.Query as theory
use Rattle.theory.specs.Answer.{IsMapping}
use Rattle.report.specs.internal.Places.{LinesWritten, alone_in, other_place}
use Rattle.report.proofs.Images.{images-good}
use Rattle.report.proofs.ReadText.{text-read}
use Rattle.report.proofs.OnePlace.{other-low, alone-query, alone-accepted}

module _ (r : Record) (place : ℕ) (low : place < 8) (good : good_record r ≡ true) (long : length r.places ≡ 8) (held : is_filled r place ≡ true)
    (other : ℕ) (other-is : other ≡ other_place place) (single : Record) (single-is : single ≡ alone_in r place) (o : Reduced)
    (is-reduced : IsReduced single place other o) (source : Query) (source_is : source ≡ stored_at r place)
    (result : Query) (result-is : result ≡ stored_at o.«record» other) where
  -- ---- the reduction is accepted

  alone-reduced : IsReduced (alone_in r place) place (other_place place) o
  alone-reduced =
      subst (λ (x : Record). IsReduced x place (other_place place) o) single-is (subst (λ (n : ℕ). IsReduced single place n o) other-is is-reduced)

  result-stored : result ≡ stored_at o.«record» (other_place place)
  result-stored = result-is ∙ ap (λ (n : ℕ). stored_at o.«record» n) other-is

  accepted : reduction_refusal (alone_in r place) place (other_place place) ≡ none
  accepted = alone-accepted r place low good long held

  -- ---- the result

  same-schema : schema_of o.«record» ≡ schema_of r
  same-schema = ap (λ (x : Record). schema_of x) (alone-reduced.accepted accepted).stored

  alone-long : length (alone_in r place).places ≡ 8
  alone-long = simp (length-set, length-replicate)

  places-long : length o.«record».places ≡ 8
  places-long = ap (λ (x : Record). length x.places) (alone-reduced.accepted accepted).stored ∙ simp (length-set, length-replicate)

  result-filled : is_filled o.«record» (other_place place) ≡ true
  result-filled =
      ap (λ (x : Record). is_filled x (other_place place)) (alone-reduced.accepted accepted).stored
      ∙ ap (λ (p : Place). p.filled)
      (get_or-set_same (alone_in r place).places (other_place place) _ no_place
      (rw alone-long (other-low place)))

  result-good : good_query (schema_of r) result ≡ true
  result-good =
      ap (λ (q : Query). good_query (schema_of r) q) result-stored
      ∙ subst (λ (s : List ℕ). good_query s (stored_at o.«record» (other_place place)) ≡ true) same-schema
      (stored.filled-parts (schema_of o.«record») (get_or o.«record».places (other_place place) no_place)
      (stored.place-good o.«record» (alone-reduced.accepted accepted).good (other_place place) no_place (rw places-long (other-low place))) result-filled).0

  source-kept : (good_query (schema_of r) (stored_at r place) ≡ true) × (head_safe (schema_of r) (stored_at r place) ≡ true)
  source-kept = stored.filled-parts (schema_of r) (get_or r.places place no_place) (stored.place-good r good place no_place (rw long low)) held

  source-good : good_query (schema_of r) source ≡ true
  source-good = ap (λ (q : Query). good_query (schema_of r) q) source_is ∙ source-kept.0

  source-safe : head_safe (schema_of r) source ≡ true
  source-safe = ap (λ (q : Query). head_safe (schema_of r) q) source_is ∙ source-kept.1

  -- The query at the target is the result
  target_is : query_at o.«record» (other_place place) ≡ query_of (schema_of r) result
  target_is = (alone-reduced.accepted accepted).as-stored ∙ ap (λ (q : Query). query_of (schema_of r) q) (sym result-stored)

  reduces : ReducesTo (codes_of r) (schema_of r) (dependencies_of r) (query_at r place) (query_of (schema_of r) result) o.count (images_of o.images)
  reduces =
      subst₂ (λ (S T : theory.Query). ReducesTo (codes_of r) (schema_of r) (dependencies_of r) S T o.count (images_of o.images))
      (alone-query r place low) target_is (alone-reduced.accepted accepted).reduces

  good-images : every good_cell o.images ≡ true
  good-images =
      images-good (schema_of r) (stored.narrow r good) result result-good (query_at r place) o.images reduces.mapping
      (λ e. (alone-reduced.accepted accepted).no-mapping (ap (λ (q : theory.Query). q.rows) target_is ∙ e))

  -- ---- the lines

  -- What is given may be listed
  pub listable : (schema : Schema) → widths_in schema ≡ schema_of r → (buffer : List ℕ) (at : ℕ) → at + place_room ≤ length buffer
      → Listable buffer at place schema source result o.images
  listable schema same buffer at room =
      record {
        room = room;
        place-known = low;
        source-good = rw same source-good;
        source-safe = rw same source-safe;
        result-good = rw same result-good;
        images-good = good-images;
      }

  -- What is written are the lines of the place
  pub lines-written : length source.relations ≡ 12 → length result.relations ≡ 12 → o.count < 256
      → (before : List ℕ) (at : ℕ) (after : List ℕ) (next : ℕ)
      → WrittenAt before at (place_text place (query_of (schema_of r) source) (query_of (schema_of r) result) o.count (images_of o.images)) after next
      → LinesWritten r place before at after next
  lines-written source-long result-long small before at after next w =
      record {
        text = place_text place (query_of (schema_of r) source) (query_of (schema_of r) result) o.count (images_of o.images);
        lines =
            record {
              images = images_of o.images;
              mapping = subst (λ (T : theory.Query). T.rows ≢ [] → IsMapping (query_at r place) T (images_of o.images)) reduces.given reduces.mapping;
              text =
                  ap (λ (q : Query). place_text place (query_of (schema_of r) q) (query_of (schema_of r) result) o.count (images_of o.images)) source_is
                  ∙ sym (text-read (codes_of r) place (query_of (schema_of r) (stored_at r place)) (query_of (schema_of r) result) o.count (images_of o.images))
                  ∙ ap₂ (λ (T : theory.Query) (n : ℕ). place_text place (query_at r place) T n (images_of o.images)) reduces.given reduces.counted;
            };
        short =
            place_short r.relations r.widths (good-record r good).relations place source result o.count o.images low source-good result-good
            (omega (arith, (good-query 12 (schema_of r) source source-good).size))
            (omega (arith, (good-query 12 (schema_of r) result result-good).size)) small good-images;
        written = w;
      }
