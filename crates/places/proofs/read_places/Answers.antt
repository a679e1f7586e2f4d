use borrow.Author.Tests.{eq-eqb, ne_eqb}
use mathlib.Core.Path.{◌≡◌, sym, ap, refl, ◌∙◌, subst}
use mathlib.Core.Bool.{Bool, true, false}
use mathlib.Core.List.{List, ◌∷◌}
use Prim.Native.Nat.{ℕ, zero, suc, ◌+◌, ◌*◌, ◌-◌, ◌≤◌, ◌<◌}
use native.Mathlib.Omega.{arith}
use lib.Dec.{eqb}
use lib.ListN.{length, drop, set, replicate, length-set}
use Rattle.query.specs.declared.Place.{Place}
use Rattle.std.specs.Prelude.{Result, Ok, Err}
use Rattle.query.specs.Rule.{no_place}
use Rattle.refusals.specs.Refusals.{Reply, gives, refused, ◌>>=◌}
use Rattle.format.specs.File.{stretch, stretches, read_place, none_left, read_places}
use Rattle.lists.proofs.Over.{over-nil, over-set}
use Rattle.lists.proofs.Over.{pad-over}
use Rattle.limits.specs.internal.Schema.{widths_in}
use Rattle.refusals.specs.declared.Refusal.{Refusal}
use Rattle.refusals.specs.Refusal.{number_of, reply_of}
use Rattle.places.specs.internal.Read.{all_places}
use Rattle.format.proofs.Stretches.{table_at, stretches-cons, stretch-fits}
use Rattle.std.proofs.lemmas.Result.{err_from_is_err_and}
use Rattle.places.proofs.read_places.Invariants.{places_over, At}
use Rattle.places.proofs.read_places.Goals as goal

starts : (o : Reply (List Place)) → all_places o ≡ places_over (replicate 8 no_place) 0 o
starts (gives ps) = ap gives (pad-over 8 no_place ps)
starts (refused m) = refl

begins : (schema file : List ℕ) (n : ℕ) (p : Place) → p ≡ no_place → 2 ≤ n → At schema file n (replicate 8 p) 2
begins schema file n p e h =
    subst (λ (p : Place). At schema file n (replicate 8 p) 2) (sym e)
    (record { low = omega arith; high = h; long = refl; rest = starts (read_places schema (stretches (n - 2) file (drop 10 file))) })

none-zero : (file table : List ℕ) → none_left (stretches 0 file table) ≡ true
unfolding stretches none_left
none-zero file table = refl

none-suc : (m : ℕ) (file table : List ℕ) → none_left (stretches (suc m) file table) ≡ false
unfolding stretches none_left
none-suc m file table = refl

-- whether the part is the last
last-part : (n k : ℕ) (file table : List ℕ) → k < n → none_left (stretches (n - (k + 1)) file table) ≡ eqb (k + 1) n
last-part n k file table h = go (n - (k + 1)) refl
  where
    go : (m : ℕ) → n - (k + 1) ≡ m → none_left (stretches m file table) ≡ eqb (k + 1) n
    go zero e = none-zero file table ∙ sym (eq-eqb (k + 1) n (omega arith))
    go (suc m) e = none-suc m file table ∙ sym (ne_eqb (k + 1) n (λ z. omega arith))

-- one part more
split : (schema : List ℕ) (p : List ℕ) (ps : List (List ℕ)) (place : Place) → read_place schema (none_left ps) p ≡ gives place
    → read_places schema (p ∷ ps) ≡ (read_places schema ps >>= (λ places. gives (place ∷ places)))
unfolding read_places ◌>>=◌
split schema p ps place e = rw e

split-refused : (schema : List ℕ) (p : List ℕ) (ps : List (List ℕ)) (m : ℕ) → read_place schema (none_left ps) p ≡ refused m
    → read_places schema (p ∷ ps) ≡ refused m
unfolding read_places ◌>>=◌
split-refused schema p ps m e = rw e

stored : (places : List Place) (i : ℕ) (place : Place) (o : Reply (List Place)) → i < length places
    → places_over places i (o >>= (λ ps. gives (place ∷ ps))) ≡ places_over (set places i place) (suc i) o
unfolding ◌>>=◌
stored places i place (gives ps) h = ap gives (sym (over-set places i place ps h))
stored places i place (refused m) h = refl

module _ (schema file : List ℕ) (n : ℕ) (places : List Place) (k : ℕ) (f : At schema file n places k) (h : k < n) (few : n ≤ 10)
    (p : List ℕ) (ep : p ≡ stretch file (table_at file k)) (r : Result Place Refusal) (er : reply_of r ≡ read_place schema (eqb (k + 1) n) p) where
  others : List (List ℕ)
  others = stretches (n - (k + 1)) file (table_at file (k + 1))

  this : read_places schema (stretches (n - k) file (table_at file k)) ≡ read_places schema (p ∷ others)
  unfolding others
  this = ap (read_places schema) (stretches-cons file n 0 k h ∙ ap {B = List (List ℕ)} (λ q. q ∷ stretches (n - (k + 1)) file (table_at file (k + 1))) (sym ep))

  last : read_place schema (none_left others) p ≡ read_place schema (eqb (k + 1) n) p
  unfolding others
  last = ap (λ (t : Bool). read_place schema t p) (last-part n k file (table_at file (k + 1)) h)

  goes_on : (place : Place) → r ≡ Ok place → At schema file n (set places (k - 2) place) (k + 1)
  unfolding others
  goes_on place g =
      let low = f.low in
      let long = f.long in
      let o : read_place schema (eqb (k + 1) n) p ≡ gives place = sym er ∙ ap reply_of g in
      let m : suc (k - 2) ≡ k + 1 - 2 = omega arith in
      record {
        low = omega arith;
        high = omega arith;
        long = length-set places (k - 2) place ∙ f.long;
        rest = f.rest ∙ ap (places_over places (k - 2)) (this ∙ split schema p others place (last ∙ o))
            ∙ stored places (k - 2) place (read_places schema others) (omega arith)
            ∙ ap (λ (i : ℕ). places_over (set places (k - 2) place) i (read_places schema others)) m;
      }

  stops : (why : Refusal) → r ≡ Err why → refused (number_of why) ≡ all_places (read_places schema (stretches (n - 2) file (drop 10 file)))
  stops why g =
      let m : ℕ = number_of why in
      let o : read_place schema (eqb (k + 1) n) p ≡ refused m = sym er ∙ ap reply_of g in
      sym (f.rest ∙ ap (places_over places (k - 2)) (this ∙ split-refused schema p others m (last ∙ o)))

ended : (schema file : List ℕ) (n : ℕ) (places : List Place) (k : ℕ) → At schema file n places k → n ≤ k
    → gives places ≡ all_places (read_places schema (stretches (n - 2) file (drop 10 file)))
unfolding read_places stretches
ended schema file n places k f h =
    let m : n - k ≡ 0 = omega arith in
    sym (f.rest ∙ ap (λ (j : ℕ). places_over places (k - 2) (read_places schema (stretches j file (table_at file k)))) m
    ∙ ap gives (over-nil places (k - 2)))

pub loop-k-init : goal.loop-k-init
loop-k-init c =
    begins (widths_in c.args.schema)
    c.args.file.now c.args.n c.no_place-blank.result c.no_place-blank.ensures c.requires.le_n.0

pub part-requires : goal.part-requires
part-requires c =
    record {
      k_in_bounds = omega (arith, c.requires.le_n.2);
      file_in_bounds = stretch-fits c.args.file.now c.args.n (2 + 4 * c.args.n) c.loop-k.k c.loop-k-test.true c.requires.file_value;
    }

pub returns-in_err-places : goal.returns-in_err-places
returns-in_err-places c =
    let left = err_from_is_err_and c.from_residual.result c.from_residual.ensures.1 in
    rw (left.1, left.2)
    (stops (widths_in c.args.schema) c.args.file.now c.args.n c.loop-k.places c.loop-k.k
    c.loop-k.invariant c.loop-k-test.true c.requires.le_n.1 c.part.result.now c.part.ensures
    c.read_place.result c.read_place.ensures c.in_err-places.field-0.0 c.in_err-places.was)

pub loop-k-preserved : goal.loop-k-preserved
loop-k-preserved c =
    goes_on (widths_in c.args.schema)
    c.args.file.now c.args.n c.loop-k.places c.loop-k.k c.loop-k.invariant c.loop-k-test.true
    c.requires.le_n.1 c.part.result.now c.part.ensures c.read_place.result
    c.read_place.ensures c.in_ok-places.field-0 c.in_ok-places.was

pub returns : goal.returns
returns c =
    ended (widths_in c.args.schema)
    c.args.file.now c.args.n c.loop-k.places c.loop-k.k c.loop-k.invariant c.loop-k-test.false
