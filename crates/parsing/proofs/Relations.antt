-- The front of part 0 by its bytes: the count of relations, then so many widths.
use mathlib.Core.Path.{◌≡◌, refl, sym, ap, ◌∙◌}
use mathlib.Core.Bool.{Bool, true, false, ◌&&◌, and-false}
use mathlib.Core.List.{List, [], ◌∷◌, ◌++◌}
use Prim.Native.Nat.{ℕ, zero, suc, ◌-◌, ◌≤◌, ◌<◌}
use lib.Dec.{leb, leb-zero, leb-suc-zero, leb-suc-suc}
use lib.ListN.{length, take, drop, replicate}
use lib.Seq.{length-take-le}
use borrow.Author.Tests.{le-leb, lt-leb}
use Rattle.lists.specs.Tests.{between, every, is_zero}
use Rattle.lists.specs.Over.{pad}
use Rattle.lists.proofs.Loops.{replicate-drop}
use Rattle.lists.proofs.Over.{pad-is}
use Rattle.std.specs.Prelude.{Option, None, Some, is_some, IfSome}
use Rattle.query.specs.Rule.{good_relations}
use Rattle.limits.specs.declared.schema.Schema.{Schema}
use Rattle.record_calls.proofs.Outcomes.{widths-judged}
use Rattle.format.specs.Format.{Reading, none, got, got_if, then_read, map_reading, get_byte, get_times, byte, padded}
use Rattle.format.specs.Parts.{relations}
use Rattle.parsing.proofs.Counted.{sequence-none, sequence-got, byte-read}

map-if : {A B : Type 0} (f : A → B) (t : Bool) (a : A) (rest : List ℕ) → map_reading f (got_if t a rest) ≡ got_if t (f a) rest
unfolding map_reading got_if
map-if f true a rest = refl
map-if f false a rest = refl

-- What is read next where a byte passes its test
then-if : {A B : Type 0} (t u : Bool) (a : A) (b : B) (rest left : List ℕ) (next : A → List ℕ → Reading B) → next a rest ≡ got_if u b left
    → then_read (got_if t a rest) next ≡ got_if (t && u) b left
unfolding then_read got_if
then-if true u a b rest left next e = e
then-if false u a b rest left next e = refl

and-swap : (s t u : Bool) → t && (s && u) ≡ s && (t && u)
and-swap true t u = refl
and-swap false t u = and-false t

-- n bytes that pass a test, one after another
times-bytes : (test : ℕ → Bool) (n : ℕ) (bytes : List ℕ)
    → get_times (get_byte test) n bytes ≡ got_if (leb n (length bytes) && every test (take n bytes)) (take n bytes) (drop n bytes)
unfolding get_times get_byte then_read got_if every
times-bytes test zero bytes = rw (leb-zero (length bytes))
times-bytes test (suc n) [] = rw leb-suc-zero
times-bytes test (suc n) (b ∷ bytes) =
    let t : Bool = leb n (length bytes) && every test (take n bytes) in
    then-if (test b) t b (b ∷ take n bytes) bytes (drop n bytes) (λ x rest. map_reading (λ xs. x ∷ xs) (get_times (get_byte test) n rest))
    (ap (map_reading (λ xs. b ∷ xs)) (times-bytes test n bytes) ∙ map-if (λ xs. b ∷ xs) t (take n bytes) (drop n bytes))
    ∙ ap (λ (u : Bool). got_if u (b ∷ take n bytes) (drop n bytes)) (and-swap (leb n (length bytes)) (test b) (every test (take n bytes)))
    ∙ ap (λ (u : Bool). got_if (u && (test b && every test (take n bytes))) (b ∷ take n bytes) (drop n bytes)) (sym (leb-suc-suc n (length bytes)))

padded-widths : (bytes : List ℕ) → pad 8 0 bytes ≡ bytes ++ replicate (8 - length bytes) 0
padded-widths bytes = pad-is 8 0 bytes ∙ ap (λ (blanks : List ℕ). bytes ++ blanks) (replicate-drop (length bytes) 8 0)

module _ (part : List ℕ) where
  -- A part without a good count
  pub no-relations : get_byte (between 1 8) part ≡ none → none ≡ relations.get part
  unfolding relations byte
  no-relations e = sym (sequence-none (byte (between 1 8)) (λ n. padded 8 0 is_zero n (byte (between 1 8))) part e)

  module _ (n : ℕ) (front : List ℕ) (e : get_byte (between 1 8) part ≡ got n front) where
    -- The part by its count and the bytes after it
    widths-read : relations.get part
        ≡ got_if (leb n (length front) && every (between 1 8) (take n front)) (n, pad 8 0 (take n front)) (drop n front)
    unfolding relations byte padded
    widths-read =
        let t : Bool = leb n (length front) && every (between 1 8) (take n front) in
        sequence-got (byte (between 1 8)) (λ n. padded 8 0 is_zero n (byte (between 1 8))) part n front e
        ∙ ap (λ (o : Reading (List ℕ)). map_reading (λ b. (n, b)) (map_reading (pad 8 0) o)) (times-bytes (between 1 8) n front)
        ∙ ap (map_reading (λ b. (n, b))) (map-if (pad 8 0) t (take n front) (drop n front))
        ∙ map-if (λ b. (n, b)) t (pad 8 0 (take n front)) (drop n front)

    pub widths-short : length front < n → none ≡ relations.get part
    unfolding got_if
    widths-short h = sym (widths-read ∙ rw (lt-leb n (length front) h))

    -- as many bytes as the count says, and zeros after them
    module _ (h : n ≤ length front) (ws : List ℕ) (is : ws ≡ take n front ++ replicate (8 - length (take n front)) 0) where
      judged : good_relations n ws ≡ every (between 1 8) (take n front)
      judged =
          let l : length (take n front) ≡ n = length-take-le n front h in
          let b : between 1 8 n ≡ true = byte-read (between 1 8) part n front e in
          ap (good_relations n) is ∙ ap (λ (k : ℕ). good_relations k (take n front ++ replicate (8 - length (take n front)) 0)) (sym l)
          ∙ widths-judged (take n front) (8 - length (take n front)) ∙ rw (l, b)

      relations-read : relations.get part ≡ got_if (good_relations n ws) (n, ws) (drop n front)
      relations-read =
          let padded-is : pad 8 0 (take n front) ≡ ws = padded-widths (take n front) ∙ sym is in
          widths-read ∙ rw (le-leb n (length front) h, judged, padded-is)

      -- The schema of these widths, if they are good
      module _ (r : Option Schema) (t : is_some r ≡ good_relations n ws) where
        pub no-schema : r ≡ None → none ≡ relations.get part
        unfolding got_if
        no-schema none-is =
            let f : good_relations n ws ≡ false = sym t ∙ ap is_some none-is in
            sym (relations-read ∙ rw f)

        pub schema-read : IfSome r (λ s. (s.relations ≡ n) × (s.widths ≡ ws)) → (s : Schema) → r ≡ Some s → (rest : List ℕ) → rest ≡ drop n front
            → got (s.relations, s.widths) rest ≡ relations.get part
        unfolding got_if
        schema-read fields s some-is rest er =
            let g : good_relations n ws ≡ true = sym t ∙ ap is_some some-is in
            let f : (s.relations ≡ n) × (s.widths ≡ ws) = rw some-is at fields in
            rw (f.0, f.1, er) (sym (relations-read ∙ rw g))
