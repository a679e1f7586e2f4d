-- The file that an accepted call leaves is read as the record after the call. Assumes nothing.
use mathlib.Core.Path.{◌≡◌, refl, sym, ap, subst, ◌∙◌}
use mathlib.Core.Bool.{Bool, true, false, cond, not, ◌&&◌}
use mathlib.Core.List.{List, [], ◌∷◌, ◌++◌, append-nil}
use mathlib.Core.Option.{Option, none, some}
use Prim.Native.Nat.{ℕ, ◌+◌, ◌-◌}
use native.Mathlib.Omega.{arith}
use lib.Dec.{eqb, leb, ltb}
use lib.ListN.{length, take, drop, replicate, length-append, length-replicate, length-set}
use lib.Seq.{take_at}
use borrow.Author.Tests.{leb-true, eq-eqb, not-false}
use Rattle.query.specs.declared.Cell.{Cell}
use Rattle.query.specs.Types.{Query}
use Rattle.query.specs.declared.Dependency.{Dependency}
use Rattle.query.specs.declared.JoinDependency.{JoinDependency}
use Rattle.query.specs.declared.CodePair.{CodePair}
use Rattle.query.specs.declared.Place.{Place}
use Rattle.record.specs.declared.Record.{Record}
use Rattle.record.specs.View.{schema_of}
use Rattle.query.specs.View.{query_of, as_query}
use Rattle.lists.specs.Tests.{between, every}
use Rattle.query.specs.Rule.{good_dependency, good_join, good_query, head_safe, no_place, shaped_query, shaped_join, place_with}
use Rattle.record.specs.Rule.{good_record}
use Rattle.record_calls.specs.Calls.{blank_record, empty_record, open_record, drop_query}
use Rattle.record_calls.proofs.Meaning.{open-keeps, drop_keeps}
use Rattle.refusals.specs.Refusal.{number_of}
use Rattle.refusals.specs.Refusals.{◌>>=◌, bad_query, buffer_too_short, too_many_rows, first_holding, gives, refused, reply, Reply}
use Rattle.record.specs.Calls.{query_at, concluded, broken_record, unknown_place, vacant, filled}
use Rattle.record.specs.Calls.{with_place, with_dependency, add_dependency, put_query}
use Rattle.record.specs.Calls.{with_code, add_code_conditions, add_code, with_join, add_join_conditions, add_join}
use Rattle.refusals.proofs.Refusals.{none-holds, refused-gives}
use Rattle.lists.proofs.Tests.{and_left, and_right, every_set}
use Rattle.record.proofs.Good.{good-record}
use Rattle.record.proofs.Meaning.{add-code-keeps, add-keeps, add-join-keeps, put_keeps}
use Rattle.lists.specs.Over.{over}
use Rattle.lists.proofs.Over.{length-pad}
use Rattle.query.proofs.Good.{good-join}
use Rattle.format.specs.Bytes.{Bytes}
use Rattle.format.specs.Format.{got}
use Rattle.format.specs.Parts.{query_for, query}
use Rattle.format.specs.File.{complete, is_vacant, safe_query, read_place, read_file, file_of, shaped}
use Rattle.format.proofs.Directory.{cond-ok}
use Rattle.format.proofs.Parts.{Narrow, query-lawful}
use Rattle.format.proofs.Results.{bind_ok, complete-get}
use Rattle.format.proofs.Rules.{good-narrow, query-good, good-query}
use Rattle.format.proofs.RoundTrip.{sound-record, file-written-back, record-read-back}
use Rattle.std.specs.Prelude.{Result, Ok, Err}
use Rattle.refusals.specs.declared.Refusal.{Refusal}
use Rattle.comparison.specs.declared.Verdict.{Verdict}
use Rattle.comparison.specs.declared.Verdict.TheVariants as verdict
use Rattle.comparison.specs.Comparison.{outcome_at, chased_at, verdict_on, verdict_of, Compared, ComparisonShape}
use Rattle.comparison.proofs.Pairs.{compare-over, compare-ends}
use Rattle.joins.specs.JoinChase as join
use Rattle.minimization.specs.Search as search
use Rattle.reduction.specs.declared.Reduced.{Reduced}
use Rattle.lent_numbers.specs.Lent.{returned, fitted, Wrote}
use Rattle.record_on_files.specs.Records.{result_of, file_fitted, join_with, put_part}
use Rattle.reduction_on_files.specs.Shortening.{ReductionGiven, Reducing}
use Rattle.comparison_on_files.specs.Queries.{comparison_fits, ComparisonGiven, Comparing}
use Rattle.files_left.specs.Legible.{FileLeft, WriteLeft, OpenLeft, AddCodeLeft, AddLeft, AddJoinLeft, PutLeft, DropLeft, ReduceLeft, CompareLeft}
use Rattle.lent_numbers.proofs.Lent.{goes_on}
use Rattle.comparison_on_files.proofs.Verdicts.{comparison-apart, comparison-contained, comparison-never, comparison-refused}

-- ---- records that are written whole

-- A record that is good and whose arrays are as long as its types say
abbrev Whole : Record → Type 0
Whole r = (good_record r ≡ true) × (shaped r ≡ true)

-- The first bytes of a buffer with the file of such a record over them
over-read : (r : Record) → Whole r → (out out_after : List ℕ) (size_after : ℕ) → out_after ≡ over out 0 (file_of r) → size_after ≡ length (file_of r)
    → read_file (take size_after out_after) ≡ gives r
over-read r w out out_after size_after b n =
    let same : take size_after out_after ≡ file_of r = rw (b, n) (take_at (file_of r) (drop (0 + length (file_of r)) out) (length (file_of r)) refl) in
    ap read_file same ∙ record-read-back r w.0 w.1

fitted-read : (r : Record) → Whole r → (file : List ℕ) → file_of r ≡ file → (fits : Bool) (out : List ℕ) (size : ℕ) (out_after : List ℕ) (size_after : ℕ)
    → Wrote (cond fits (gives file) (refused buffer_too_short)) out size 0 out_after size_after → read_file (take size_after out_after) ≡ gives r
fitted-read r w file e true out size out_after size_after g = over-read r w out out_after size_after (g.1 ∙ ap (over out 0) (sym e)) (g.2 ∙ ap length (sym e))
fitted-read r w file e false out size out_after size_after g = let z : ◌≡◌ {A = ℕ} 0 10 = g.0 in absurd (omega arith)

stored-left : (x : Reply Record) → ((r : Record) → x ≡ gives r → Whole r) → FileLeft x (λ room. file_fitted room x)
stored-left x keeps r e out size out_after size_after g =
    fitted-read r (keeps r e) (file_of r) refl (leb (length (file_of r)) (length out)) out size out_after size_after
    (subst (λ (y : Reply (List ℕ)). Wrote y out size 0 out_after size_after) (goes_on e (λ r. fitted (length out) (file_of r))) g)

-- ---- the record after each call

-- the record of a call that is done
done-of : (a : Reply (Unit {0})) (x y : Record) → result_of (a, x) ≡ gives y → (a ≡ gives tt) × (x ≡ y)
unfolding ◌>>=◌
done-of (gives tt) x y e = (refl, cc)
done-of (refused n) x y e = absurd (refused-gives e)

-- A call whose record after it is good, and whole if it is done
outcome-whole : (said : Reply (Unit {0}) × Record) (r : Record) → result_of said ≡ gives r → (said.0 ≡ gives tt → Whole said.1) → Whole r
outcome-whole said r e keeps = let k = done-of said.0 said.1 r e in subst Whole k.1 (keeps k.0)

concluded-shaped : (x : Option ℕ) (given after : Record) → (concluded x given after).0 ≡ gives tt → (x ≡ none → shaped after ≡ true)
    → shaped (concluded x given after).1 ≡ true
concluded-shaped none given after e s = s refl
concluded-shaped (some n) given after e s = absurd (refused-gives e)

read_whole : (file : List ℕ) → Bytes file → (r : Record) → read_file file ≡ gives r → Whole r
read_whole file hb r e = let k = file-written-back file r hb e in (k.0, k.1)

-- A record's arrays, one by one
shaped_from : (r : Record) → length r.widths ≡ 8 → length r.codes ≡ 16 → length r.dependencies ≡ 32 → length r.joins ≡ 4 → every shaped_join r.joins ≡ true
    → length r.places ≡ 8 → every (λ p. shaped_query p.query) r.places ≡ true → shaped r ≡ true
shaped_from r w c d j s p q = rw (w, c, d, j, s, p, q)

-- no test but one can refuse, and it did not
unrefused : (fit : Bool) → cond {A = Option ℕ} (not fit) (some 3) none ≡ none → fit ≡ true
unrefused true e = refl
unrefused false e = let z : ◌≡◌ {A = ℕ} 0 1 = cc in absurd (omega arith)

open-shaped : (widths : List ℕ) → (open_record widths).0 ≡ gives tt → shaped (open_record widths).1 ≡ true
unfolding open_record first_holding every
open-shaped widths e =
    let few : Bool = between 1 8 (length widths) in
    let fit : Bool = few && every (between 1 8) widths in
    concluded-shaped (cond (not fit) (some 3) none) blank_record (empty_record (length widths) (widths ++ replicate (8 - length widths) 0)) e
    (λ clear.
    let most = leb-true (length widths) 8 (and_right (leb 1 (length widths)) (leb (length widths) 8)
    (and_left few (every (between 1 8) widths) (unrefused fit clear))) in
    let long : length (widths ++ replicate (8 - length widths) 0) ≡ 8 = rw (length-append, length-replicate) (omega arith) in
    shaped_from (empty_record (length widths) (widths ++ replicate (8 - length widths) 0)) long refl refl refl refl refl refl)

module _ (r : Record) (w : Whole r) where
  queries : every (λ p. shaped_query p.query) r.places ≡ true
  queries =
      and_right
      (eqb (length r.widths) 8 && eqb (length r.codes) 16 && eqb (length r.dependencies) 32 && eqb (length r.joins) 4 && every shaped_join r.joins
      && eqb (length r.places) 8)
      (every (λ p. shaped_query p.query) r.places) w.1

  code-shaped : (p : CodePair) → shaped (with_code r p) ≡ true
  code-shaped p =
      let k = sound-record r w.0 w.1 in
      shaped_from (with_code r p) k.widths-long (length-set r.codes r.coded p ∙ k.codes-long) k.dependencies-long k.joins_long k.sets-long
      k.places-long queries

  dependency-shaped : (d : Dependency) → shaped (with_dependency r d) ≡ true
  dependency-shaped d =
      let k = sound-record r w.0 w.1 in
      shaped_from (with_dependency r d) k.widths-long k.codes-long (length-set r.dependencies r.held d ∙ k.dependencies-long) k.joins_long k.sets-long
      k.places-long queries

  join-shaped : (j : JoinDependency) → shaped_join j ≡ true → shaped (with_join r j) ≡ true
  join-shaped j s =
      let k = sound-record r w.0 w.1 in
      shaped_from (with_join r j) k.widths-long k.codes-long k.dependencies-long (length-set r.joins r.joined j ∙ k.joins_long)
      (every_set shaped_join r.joins r.joined j k.sets-long s) k.places-long queries

  place-shaped : (place : ℕ) (p : Place) → shaped_query p.query ≡ true → shaped (with_place r place p) ≡ true
  place-shaped place p s =
      let k = sound-record r w.0 w.1 in
      shaped_from (with_place r place p) k.widths-long k.codes-long k.dependencies-long k.joins_long k.sets-long (length-set r.places place p ∙ k.places-long)
      (every_set (λ p. shaped_query p.query) r.places place p queries s)

  add-code-shaped : (p : CodePair) → (add_code r p).0 ≡ gives tt → shaped (add_code r p).1 ≡ true
  unfolding add_code
  add-code-shaped p e = concluded-shaped (first_holding (add_code_conditions r p)) r (with_code r p) e (λ _. code-shaped p)

  add-shaped : (d : Dependency) → (add_dependency r d).0 ≡ gives tt → shaped (add_dependency r d).1 ≡ true
  unfolding add_dependency
  add-shaped d e =
      concluded-shaped (first_holding (broken_record r ∷ (not (good_dependency (schema_of r) d), 4) ∷ (eqb r.held 32, 13) ∷ [])) r (with_dependency r d) e
      (λ _. dependency-shaped d)

  -- one that is added has at most 4 sets
  add-join-shaped : (relation : ℕ) (sets : List ℕ) → (add_join r (join_with relation sets)).0 ≡ gives tt
      → shaped (add_join r (join_with relation sets)).1 ≡ true
  unfolding add_join
  add-join-shaped relation sets e =
      let j : JoinDependency = join_with relation sets in
      let fit : Bool = good_join (schema_of r) j in
      let full : (Bool × ℕ) = (eqb r.joined 4, 16) in
      concluded-shaped (first_holding (add_join_conditions r j)) r (with_join r j) e
      (λ clear.
      let a = none-holds (not (good_record r)) 14 ((not fit, 15) ∷ full ∷ []) clear in
      let b = none-holds (not fit) 15 (full ∷ []) a.1 in
      join-shaped j (eq-eqb (length j.sets) 4 (length-pad 4 0 sets (good-join (schema_of r) j (not-false fit b.0)).most)))

  put-shaped : (place : ℕ) (q : Query) → shaped_query q ≡ true → (put_query r place q).0 ≡ gives tt → shaped (put_query r place q).1 ≡ true
  unfolding put_query
  put-shaped place q s e =
      concluded-shaped
      (first_holding
      (broken_record r ∷ unknown_place place ∷ (not (good_query (schema_of r) q), 5) ∷ (not (head_safe (schema_of r) q), 6) ∷ filled r place ∷ []))
      r (with_place r place (place_with q)) e (λ _. place-shaped place (place_with q) s)

  drop-shaped : (place : ℕ) → (drop_query r place).0 ≡ gives tt → shaped (drop_query r place).1 ≡ true
  unfolding drop_query
  drop-shaped place e =
      concluded-shaped (first_holding (broken_record r ∷ unknown_place place ∷ vacant r place ∷ [])) r (with_place r place no_place) e
      (λ _. place-shaped place no_place refl)

  -- A query part that is read
  part-shaped : (part : List ℕ) (p : Place) → Bytes part → read_place (schema_of r) true part ≡ gives p → shaped_query p.query ≡ true
  unfolding read_place safe_query
  part-shaped part p hb e = go (is_vacant part) e
    where
      schema : List ℕ
      schema = schema_of r

      narrow : Narrow schema
      narrow = good-narrow r.relations r.widths (good-record r w.0).relations

      go : (t : Bool) → cond t (refused bad_query) (complete bad_query ((query schema).get part) >>= safe_query schema) ≡ gives p → shaped_query p.query ≡ true
      go true e = absurd (refused-gives e)
      go false e =
          let (q, g, s) = bind_ok (complete bad_query ((query schema).get part)) (safe_query schema) p e in
          let (safe, s₁) = cond-ok (head_safe schema q) (gives (place_with q)) 6 p s in
          let same : place_with q ≡ p = cc in
          let (good, put) = complete-get bad_query (query schema) (query-lawful 12 schema narrow) part q hb g in
          subst (λ (x : Place). shaped_query x.query ≡ true) same (good-query 12 schema q good).0

  put_whole : (place : ℕ) (part : List ℕ) → Bytes part → (after : Record) → put_part place part r ≡ gives after → Whole after
  put_whole place part hb after e =
      let (low, e₁) = cond-ok (ltb place 8) (read_place (schema_of r) true part >>= λ p. result_of (put_query r place p.query)) 7 after e in
      let (p, e₂, e₃) = bind_ok (read_place (schema_of r) true part) (λ p. result_of (put_query r place p.query)) after e₁ in
      outcome-whole (put_query r place p.query) after e₃ (λ a. (put_keeps r place p.query a, put-shaped place p.query (part-shaped part p hb e₂) a))

-- ---- the theorems

pub write-left : WriteLeft
write-left file hb r e out size out_after size_after g =
    fitted-read r (read_whole file hb r e) file (file-written-back file r hb e).2 (leb (length file) (length out)) out size out_after size_after
    (subst (λ (y : Reply (List ℕ)). Wrote y out size 0 out_after size_after) (goes_on e (λ _. fitted (length out) file)) g)

pub open-left : OpenLeft
open-left widths =
    stored-left (result_of (open_record widths)) (λ r e. outcome-whole (open_record widths) r e (λ a. (open-keeps widths a, open-shaped widths a)))

-- A call on the record of a file
after_read : (file : List ℕ) → Bytes file → (next : Record → Reply Record) → ((r after : Record) → Whole r → next r ≡ gives after → Whole after)
    → FileLeft (read_file file >>= next) (λ room. file_fitted room (read_file file >>= next))
after_read file hb next keeps =
    stored-left (read_file file >>= next) (λ after e. let (r, e₁, e₂) = bind_ok (read_file file) next after e in keeps r after (read_whole file hb r e₁) e₂)

pub add_left : AddLeft
add_left file hb relation left right =
    let d : Dependency = record { relation = relation; left = left; right = right } in
    after_read file hb (λ r. result_of (add_dependency r d))
    (λ r after w e. outcome-whole (add_dependency r d) after e (λ a. (add-keeps r d (sound-record r w.0 w.1).dependencies-long a, add-shaped r w d a)))

pub add-code-left : AddCodeLeft
add-code-left file hb old current =
    let p : CodePair = record { old = old; current = current } in
    after_read file hb (λ r. result_of (add_code r p))
    (λ r after w e. outcome-whole (add_code r p) after e (λ a. (add-code-keeps r p (sound-record r w.0 w.1).codes-long a, add-code-shaped r w p a)))

pub add-join-left : AddJoinLeft
add-join-left file hb relation sets =
    let j : JoinDependency = join_with relation sets in
    after_read file hb (λ r. result_of (add_join r j))
    (λ r after w e.
    outcome-whole (add_join r j) after e (λ a. (add-join-keeps r j (sound-record r w.0 w.1).joins_long a, add-join-shaped r w relation sets a)))

pub put-left : PutLeft
put-left file hb place part hp = after_read file hb (put_part place part) (λ r after w e. put_whole r w place part hp after e)

pub drop-left : DropLeft
drop-left file hb place =
    after_read file hb (λ r. result_of (drop_query r place))
    (λ r after w e. outcome-whole (drop_query r place) after e (λ a. (drop_keeps r place a, drop-shaped r w place a)))

pub reduce-left : ReduceLeft
unfolding ◌>>=◌
reduce-left file source target r e clear out size count mapping out_after size_after count_after mapping_after g =
    let (o, is, shape, same) = subst (λ (x : Reply Record). Reducing x source target g.result (length out) (length mapping)) e g.reducing in
    let fits : Bool = leb 192 (length mapping) && leb (length (file_of o.«record»)) (length out) in
    let known : g.result ≡ cond fits (gives o) (refused buffer_too_short) = same ∙ rw (is.accepted clear).done refl in
    let w : Whole o.«record» = ((is.accepted clear).good, shape.0) in
    (o, is, go o w fits (subst (λ (x : Reply Reduced). ReductionGiven x out size count mapping 0 out_after size_after count_after mapping_after) known g.given))
  where
    go : (o : Reduced) → Whole o.«record» → (fits : Bool)
        → ReductionGiven (cond fits (gives o) (refused buffer_too_short)) out size count mapping 0 out_after size_after count_after mapping_after
        → read_file (take size_after out_after) ≡ gives o.«record»
    go o w true k = over-read o.«record» w out out_after size_after k.1 k.2
    go o w false k = let z : ◌≡◌ {A = ℕ} 0 10 = k.0 in absurd (omega arith)

pub compare-left : CompareLeft
compare-left file hb p q r e clear said mapping part size mapping_after part_after size_after g =
    let (c, is, shape, pictures, same) = subst (λ (x : Reply Record). Comparing x p q g.result g.images (length mapping) (length part)) e g.comparing
    in
    let k = subst (λ (x : Reply (ℕ × List ℕ)). Given x g.images) same g.given in
    go c is shape g.images k
  where
    Given : Reply (ℕ × List ℕ) → List Cell → Type 0
    Given x images = ComparisonGiven x images said mapping part size 0 0 mapping_after part_after size_after

    -- a verdict that is given, with bytes
    given_back : (n : ℕ) (bytes : List ℕ) (images : List Cell) (fits : Bool) → Given (cond fits (gives (n, bytes)) (refused buffer_too_short)) images
        → (n ≡ 0) × (take size_after part_after ≡ bytes)
    given_back n bytes images true k =
        (sym k.1, rw (k.3, k.4) (take_at bytes (drop (0 + length bytes) part) (length bytes) refl))
    given_back n bytes images false k = let z : ◌≡◌ {A = ℕ} 0 10 = k.0 in absurd (omega arith)

    found : ℕ
    found = verdict_on (chased_at r p).rows (search.mappable (query_at r q) (chased_at r p))

    -- one that is refused returns no 0: by how the chase ends
    not-refused : (n : ℕ) → ◌≡◌ {A = Reply ℕ} (refused n) (verdict_of r p q) → (o : join.Outcome) → outcome_at r p ≡ o → (late : Bool)
        → ◌≡◌ {A = ℕ} 0 (cond (eqb n too_many_rows && late) buffer_too_short n) → ⊥
    not-refused n says join.overflow ends late e =
        let over : ◌≡◌ {A = Reply ℕ} (refused n) (refused 17) = says ∙ ap (λ (x : Option ℕ). reply x found) (compare-over r p q clear ends) in
        let number : n ≡ 17 = ap returned over in
        zero-not late (subst (λ (k : ℕ). ◌≡◌ {A = ℕ} 0 (cond (eqb k too_many_rows && late) buffer_too_short k)) number e)
      where
        zero-not : (late : Bool) → ◌≡◌ {A = ℕ} 0 (cond (eqb 17 too_many_rows && late) buffer_too_short 17) → ⊥
        zero-not true z = omega arith
        zero-not false z = omega arith
    not-refused n says (join.chased C) ends late e =
        refused-gives (says ∙ ap (λ (x : Option ℕ). reply x found) (compare-ends r p q clear C ends))

    go : (c : Result Verdict Refusal) → Compared r p q c → ComparisonShape c → (images : List Cell)
        → Given (comparison_fits (length mapping) (length part) (schema_of r) c) images
        → (chased : Query) × ((query_for 24 (schema_of r)).get (take size_after part_after) ≡ got chased []) × (query_of (schema_of r) chased ≡ chased_at r p)
    go (Ok (verdict.Apart query)) is shape images k =
        let chased : Query = as_query query in
        let bytes = (query_for 24 (schema_of r)).put chased in
        let same = (given_back 0 bytes images (leb 192 (length mapping) && leb (length bytes) (length part))
        (subst (λ (x : Reply (ℕ × List ℕ)). Given x images) (comparison-apart (length mapping) (length part) (schema_of r) query) k)).1 in
        let narrow = good-narrow r.relations r.widths (good-record r (read_whole file hb r e).0).relations in
        let shown = is.chased query refl in (
          chased,
          ap (query_for 24 (schema_of r)).get (same ∙ sym (append-nil bytes))
              ∙ (query-lawful 24 (schema_of r) narrow).get-put chased [] (query-good 24 (schema_of r) chased shape shown.1),
          shown.0,
        )
    go (Ok (verdict.Mapped found)) is shape images k =
        let z = (given_back 1 [] images (leb 192 (length mapping) && leb 0 (length part))
        (subst (λ (x : Reply (ℕ × List ℕ)). Given x images) (comparison-contained (length mapping) (length part) (schema_of r) found) k)).0 in absurd (omega arith)
    go (Ok verdict.Never) is shape images k =
        let z = (given_back 2 [] images (leb 192 (length mapping) && leb 0 (length part))
        (subst (λ (x : Reply (ℕ × List ℕ)). Given x images) (comparison-never (length mapping) (length part) (schema_of r)) k)).0 in absurd (omega arith)
    go (Err why) is shape images k =
        absurd
        (not-refused (number_of why) is.verdict (outcome_at r p) refl (ltb (length mapping) 192)
        (subst (λ (x : Reply (ℕ × List ℕ)). Given x images) (comparison-refused (length mapping) (length part) (schema_of r) why) k).0)
