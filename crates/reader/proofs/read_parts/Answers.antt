-- `read_parts` meets its contract: each part is read as the format reads it, and the first fault decides. Assumes nothing.
use mathlib.Core.Path.{◌≡◌, sym, ap, refl, ◌∙◌}
use mathlib.Core.List.{List, [], ◌∷◌}
use Prim.Native.Nat.{ℕ, ◌+◌, ◌*◌, ◌-◌, ◌≤◌}
use native.Mathlib.Omega.{arith}
use lib.ListN.{take, drop}
use Rattle.std.specs.Prelude.{Option as Maybe, None, Some, Result, Ok, Err, ok_or}
use Rattle.std.proofs.lemmas.Result.{err_from_is_err_and}
use denote.Ref.{Bor}
use Rattle.refusals.specs.Refusals.{◌>>=◌, bad_code, bad_dependency, bad_join, bad_relations, gives, refused, Reply}
use Rattle.refusals.specs.declared.Refusal.{Refusal}
use Rattle.refusals.specs.declared.Refusal.TheVariants as refusal
use Rattle.refusals.specs.Refusal.{number_of, reply_of}
use Rattle.query.specs.declared.Dependency.{Dependency}
use Rattle.query.specs.declared.JoinDependency.{JoinDependency}
use Rattle.query.specs.declared.CodePair.{CodePair}
use Rattle.query.specs.declared.Place.{Place}
use Rattle.record.specs.declared.Record.{Record}
use Rattle.query.specs.Rule.{no_place}
use Rattle.lists.specs.Over.{pad}
use Rattle.limits.specs.declared.schema.Schema.{Schema}
use Rattle.limits.specs.internal.Schema.{widths_in}
use Rattle.format.specs.Format.{Reading, none, got}
use Rattle.format.specs.Parts.{relations, codes, dependencies, joins}
use Rattle.format.specs.File.{complete, front, stretch, stretches, read_codes, read_joins, read_places, record_with, read_parts, read_all}
use Rattle.parsing.specs.internal.Read.{value_given, relations_read, reading_of}
use Rattle.parsing.proofs.Values.{reply-bad, reply-some}
use Rattle.places.specs.internal.Read.{all_places}
use Rattle.format.proofs.Stretches.{table_at, first_two, stretch-fits}
use Rattle.reader.proofs.read_parts.Goals as goal

-- ---- what an answer in place of none tells

found : {T : Type 0} (o : Maybe T) (e : Refusal) (x : T) → ok_or o e ≡ Ok x → o ≡ Some x
found None e x h = cc
found (Some y) e x h = let same : y ≡ x = cc in ap (λ z. Some z) same

missing : {T : Type 0} (o : Maybe T) (e w : Refusal) → ok_or o e ≡ Err w → (o ≡ None) × (w ≡ e)
missing None e w h = (refl, cc)
missing (Some y) e w h = cc

-- ---- the answers of the part readers

complete-refused : {A : Type 0} (m : ℕ) (o : Reading A) (n : ℕ) → complete m o ≡ refused n → complete m o ≡ refused m
unfolding complete
complete-refused m none n e = refl
complete-refused m (got a []) n e = cc
complete-refused m (got a (b ∷ rest)) n e = refl

codes-refused : (bytes : List ℕ) (n : ℕ) → read_codes bytes ≡ refused n → read_codes bytes ≡ refused bad_code
unfolding read_codes
codes-refused [] n e = cc
codes-refused (b ∷ bytes) n e = complete-refused bad_code (codes.get (b ∷ bytes)) n e

joins-refused : (schema bytes : List ℕ) (n : ℕ) → read_joins schema bytes ≡ refused n → read_joins schema bytes ≡ refused bad_join
unfolding read_joins
joins-refused schema [] n e = cc
joins-refused schema (b ∷ bytes) n e = complete-refused bad_join ((joins schema).get (b ∷ bytes)) n e

places-refused : (o : Reply (List Place)) (n : ℕ) → refused n ≡ all_places o → o ≡ refused n
places-refused (gives ps) n e = cc
places-refused (refused m) n e = sym e

-- ---- the parts by their results

module _ (part0 part1 : List ℕ) (parts : List (List ℕ)) where
  bad-relations-part : relations.get part0 ≡ none → read_parts part0 part1 parts ≡ refused bad_relations
  unfolding read_parts ◌>>=◌ front
  bad-relations-part w = rw w

  module _ (rs : ℕ × List ℕ) (more : List ℕ) (w₀ : relations.get part0 ≡ got rs more) where
    bad-codes-part : read_codes more ≡ refused bad_code → read_parts part0 part1 parts ≡ refused bad_code
    unfolding read_parts ◌>>=◌ front
    bad-codes-part w = rw (w₀, w)

    module _ (cs : ℕ × List CodePair) (w₁ : read_codes more ≡ gives cs) where
      bad-dependencies-part : (dependencies (take rs.0 rs.1)).get part1 ≡ none → read_parts part0 part1 parts ≡ refused bad_dependency
      unfolding read_parts ◌>>=◌ front
      bad-dependencies-part w = rw (w₀, w₁, w)

      module _ (ds : ℕ × List Dependency) (rest : List ℕ) (w₂ : (dependencies (take rs.0 rs.1)).get part1 ≡ got ds rest) where
        bad-joins-part : read_joins (take rs.0 rs.1) rest ≡ refused bad_join → read_parts part0 part1 parts ≡ refused bad_join
        unfolding read_parts ◌>>=◌ front
        bad-joins-part w = rw (w₀, w₁, w₂, w)

        module _ (js : ℕ × List JoinDependency) (w₃ : read_joins (take rs.0 rs.1) rest ≡ gives js) where
          on-places : read_parts part0 part1 parts ≡ (read_places (take rs.0 rs.1) parts >>= (λ ps. gives (record_with rs cs ds js ps)))
          unfolding read_parts ◌>>=◌ front
          on-places = rw (w₀, w₁, w₂, w₃)

          bad-places-part : (n : ℕ) → read_places (take rs.0 rs.1) parts ≡ refused n → read_parts part0 part1 parts ≡ refused n
          unfolding ◌>>=◌
          bad-places-part n w = on-places ∙ rw w

          -- the record with these places
          abbrev with_places : List Place → Record
          with_places ps =
              record {
                relations = rs.0;
                widths = rs.1;
                coded = cs.0;
                codes = cs.1;
                held = ds.0;
                dependencies = ds.1;
                joined = js.0;
                joins = js.1;
                places = ps;
              }

          parts-read : (ps : List Place) → gives ps ≡ all_places (read_places (take rs.0 rs.1) parts) → gives (with_places ps) ≡ read_parts part0 part1 parts
          unfolding ◌>>=◌
          parts-read ps e = same (read_places (take rs.0 rs.1) parts) e ∙ sym on-places
            where
              same : (o : Reply (List Place)) → gives ps ≡ all_places o → gives (with_places ps) ≡ (o >>= (λ ps. gives (record_with rs cs ds js ps)))
              same (gives qs) e = let is : ps ≡ pad 8 no_place qs = cc in λ i. gives (with_places (is i))
              same (refused m) e = cc

-- ---- the whole file, part by part

module _ (file : List ℕ) (n : ℕ) (low : 2 ≤ n) where
  abbrev others : List (List ℕ)
  others = stretches (n - 2) file (drop 10 file)

  module _ (part0 part1 : List ℕ) (e₀ : part0 ≡ stretch file (table_at file 0)) (e₁ : part1 ≡ stretch file (table_at file 1)) where
    all : read_all (stretches n file (drop 2 file)) ≡ read_parts part0 part1 others
    unfolding read_all
    all = ap read_all (first_two file n low) ∙ rw (e₀, e₁)

  -- where part 0 decides, whatever part 1 is
  module _ (part0 : List ℕ) (e₀ : part0 ≡ stretch file (table_at file 0)) (first : Maybe (Schema × Bor (List ℕ)))
      (er : relations_read first ≡ relations.get part0) where
    abbrev next : List ℕ
    next = stretch file (table_at file 1)

    refuses-relations : (w : Refusal) → ok_or first refusal.BadRelations ≡ Err w → refused (number_of w) ≡ read_all (stretches n file (drop 2 file))
    refuses-relations w g =
        let (lacks, is) = missing first refusal.BadRelations w g in
        ap (λ (w : Refusal). refused (number_of w)) is
        ∙ sym (all part0 next e₀ refl ∙ bad-relations-part part0 next others (sym er ∙ ap relations_read lacks))

    module _ (s : Schema) (more : Bor (List ℕ)) (g₀ : ok_or first refusal.BadRelations ≡ Ok (s, more)) where
      relations-got : relations.get part0 ≡ got (s.relations, s.widths) more.now
      relations-got = sym er ∙ ap relations_read (found first refusal.BadRelations (s, more) g₀)

      module _ (second : Maybe (ℕ × List CodePair)) (ec : second ≡ value_given (read_codes more.now)) where
        refuses-codes : (w : Refusal) → ok_or second refusal.BadCode ≡ Err w → refused (number_of w) ≡ read_all (stretches n file (drop 2 file))
        refuses-codes w g =
            let (lacks, is) = missing second refusal.BadCode w g in
            let (m, bad) = reply-bad (read_codes more.now) (sym lacks ∙ ec) in
            ap (λ (w : Refusal). refused (number_of w)) is
            ∙ sym (all part0 next e₀ refl
            ∙ bad-codes-part part0 next others (s.relations, s.widths) more.now relations-got (codes-refused more.now m bad))

        module _ (cs : ℕ × List CodePair) (g₁ : ok_or second refusal.BadCode ≡ Ok cs) where
          codes-read : read_codes more.now ≡ gives cs
          codes-read = reply-some (read_codes more.now) cs (sym (found second refusal.BadCode cs g₁) ∙ ec)

          module _ (part1 : List ℕ) (e₁ : part1 ≡ stretch file (table_at file 1)) (third : Maybe ((ℕ × List Dependency) × Bor (List ℕ)))
              (ed : reading_of third ≡ (dependencies (widths_in s)).get part1) where
            refuses-dependencies : (w : Refusal) → ok_or third refusal.BadDependency ≡ Err w
                → refused (number_of w) ≡ read_all (stretches n file (drop 2 file))
            refuses-dependencies w g =
                let (lacks, is) = missing third refusal.BadDependency w g in
                ap (λ (w : Refusal). refused (number_of w)) is
                ∙ sym (all part0 part1 e₀ e₁
                ∙ bad-dependencies-part part0 part1 others (s.relations, s.widths) more.now relations-got cs codes-read (sym ed ∙ ap reading_of lacks))

            module _ (ds : ℕ × List Dependency) (rest : Bor (List ℕ)) (g₂ : ok_or third refusal.BadDependency ≡ Ok (ds, rest)) where
              dependencies-read : (dependencies (widths_in s)).get part1 ≡ got ds rest.now
              dependencies-read = sym ed ∙ ap reading_of (found third refusal.BadDependency (ds, rest) g₂)

              module _ (fourth : Maybe (ℕ × List JoinDependency)) (ej : fourth ≡ value_given (read_joins (widths_in s) rest.now)) where
                refuses-joins : (w : Refusal) → ok_or fourth refusal.BadJoin ≡ Err w → refused (number_of w) ≡ read_all (stretches n file (drop 2 file))
                refuses-joins w g =
                    let (lacks, is) = missing fourth refusal.BadJoin w g in
                    let (m, bad) = reply-bad (read_joins (widths_in s) rest.now) (sym lacks ∙ ej) in
                    ap (λ (w : Refusal). refused (number_of w)) is
                    ∙ sym (all part0 part1 e₀ e₁
                    ∙ bad-joins-part part0 part1 others (s.relations, s.widths) more.now relations-got cs codes-read ds rest.now dependencies-read
                    (joins-refused (widths_in s) rest.now m bad))

                module _ (js : ℕ × List JoinDependency) (g₃ : ok_or fourth refusal.BadJoin ≡ Ok js) where
                  joins-read : read_joins (widths_in s) rest.now ≡ gives js
                  joins-read = reply-some (read_joins (widths_in s) rest.now) js (sym (found fourth refusal.BadJoin js g₃) ∙ ej)

                  module _ (fifth : Result (List Place) Refusal) (ep : reply_of fifth ≡ all_places (read_places (widths_in s) others)) where
                    refuses-places : (w : Refusal) → fifth ≡ Err w → refused (number_of w) ≡ read_all (stretches n file (drop 2 file))
                    refuses-places w g =
                        sym (all part0 part1 e₀ e₁
                        ∙ bad-places-part part0 part1 others (s.relations, s.widths) more.now relations-got cs codes-read ds rest.now dependencies-read js
                        joins-read (number_of w)
                        (places-refused (read_places (widths_in s) others) (number_of w) (ap reply_of (sym g) ∙ ep)))

                    reads : (ps : List Place) → fifth ≡ Ok ps
                        → gives (record {
                          relations = s.relations;
                          widths = s.widths;
                          coded = cs.0;
                          codes = cs.1;
                          held = ds.0;
                          dependencies = ds.1;
                          joined = js.0;
                          joins = js.1;
                          places = ps;
                        })
                        ≡ read_all (stretches n file (drop 2 file))
                    reads ps g =
                        parts-read part0 part1 others (s.relations, s.widths) more.now relations-got cs codes-read ds rest.now dependencies-read js
                        joins-read ps (ap reply_of (sym g) ∙ ep)
                        ∙ sym (all part0 part1 e₀ e₁)

-- ---- what holds at each place

pub part-requires-clause-file_in_bounds : goal.part-requires-clause-file_in_bounds
part-requires-clause-file_in_bounds c =
    stretch-fits c.args.file.now c.args.n (2 + 4 * c.args.n) 0 (omega (arith, c.requires.le_n.0)) c.requires.file_value

pub returns-in_err-schema : goal.returns-in_err-schema
returns-in_err-schema c =
    let left = err_from_is_err_and c.from_residual.result c.from_residual.ensures.1 in
    rw (left.1, left.2)
    (refuses-relations c.args.file.now c.args.n c.requires.le_n.0 c.part.result.now c.part.ensures c.read_relations.result c.read_relations.ensures
    c.in_err-schema.field-0.0 (sym c.ok_or.ensures.value ∙ c.in_err-schema.was))

pub returns-in_err-coded : goal.returns-in_err-coded
returns-in_err-coded c =
    let left = err_from_is_err_and c.from_residual-in_err-coded.result c.from_residual-in_err-coded.ensures.1 in
    rw (left.1, left.2)
    (refuses-codes c.args.file.now c.args.n c.requires.le_n.0 c.part.result.now c.part.ensures c.read_relations.result c.read_relations.ensures
    c.in_ok-schema.schema c.in_ok-schema.more (sym c.ok_or.ensures.value ∙ c.in_ok-schema.was)
    c.read_codes.result c.read_codes.ensures c.in_err-coded.field-0.0 (sym c.ok_or-2.ensures.value ∙ c.in_err-coded.was))

pub part-requires-2-clause-file_in_bounds : goal.part-requires-2-clause-file_in_bounds
part-requires-2-clause-file_in_bounds c =
    stretch-fits c.args.file.now c.args.n (2 + 4 * c.args.n) 1 (omega (arith, c.requires.le_n.0)) c.requires.file_value

pub returns-in_err-functional : goal.returns-in_err-functional
returns-in_err-functional c =
    let left = err_from_is_err_and c.from_residual-in_err-functional.result c.from_residual-in_err-functional.ensures.1 in
    rw (left.1, left.2)
    (refuses-dependencies c.args.file.now c.args.n c.requires.le_n.0 c.part.result.now c.part.ensures c.read_relations.result c.read_relations.ensures
    c.in_ok-schema.schema c.in_ok-schema.more (sym c.ok_or.ensures.value ∙ c.in_ok-schema.was)
    c.read_codes.result c.read_codes.ensures (c.in_ok-coded.coded, c.in_ok-coded.codes) (sym c.ok_or-2.ensures.value ∙ c.in_ok-coded.was)
    c.part-2.result.now c.part-2.ensures
    c.read_dependencies.result c.read_dependencies.ensures
    c.in_err-functional.field-0.0 (sym c.ok_or-3.ensures.value ∙ c.in_err-functional.was))

pub returns-in_err-joined : goal.returns-in_err-joined
returns-in_err-joined c =
    let left = err_from_is_err_and c.from_residual-in_err-joined.result c.from_residual-in_err-joined.ensures.1 in
    rw (left.1, left.2)
    (refuses-joins c.args.file.now c.args.n c.requires.le_n.0 c.part.result.now c.part.ensures c.read_relations.result c.read_relations.ensures
    c.in_ok-schema.schema c.in_ok-schema.more (sym c.ok_or.ensures.value ∙ c.in_ok-schema.was)
    c.read_codes.result c.read_codes.ensures (c.in_ok-coded.coded, c.in_ok-coded.codes) (sym c.ok_or-2.ensures.value ∙ c.in_ok-coded.was)
    c.part-2.result.now c.part-2.ensures
    c.read_dependencies.result c.read_dependencies.ensures
    c.in_ok-functional.functional.0 c.in_ok-functional.functional.1 (sym c.ok_or-3.ensures.value ∙ c.in_ok-functional.was)
    c.read_joins.result c.read_joins.ensures c.in_err-joined.field-0.0 (sym c.ok_or-4.ensures.value ∙ c.in_err-joined.was))

pub returns-in_err-places : goal.returns-in_err-places
returns-in_err-places c =
    let left = err_from_is_err_and c.from_residual-in_err-places.result c.from_residual-in_err-places.ensures.1 in
    rw (left.1, left.2)
    (refuses-places c.args.file.now c.args.n c.requires.le_n.0 c.part.result.now c.part.ensures c.read_relations.result c.read_relations.ensures
    c.in_ok-schema.schema c.in_ok-schema.more (sym c.ok_or.ensures.value ∙ c.in_ok-schema.was)
    c.read_codes.result c.read_codes.ensures (c.in_ok-coded.coded, c.in_ok-coded.codes) (sym c.ok_or-2.ensures.value ∙ c.in_ok-coded.was)
    c.part-2.result.now c.part-2.ensures
    c.read_dependencies.result c.read_dependencies.ensures
    c.in_ok-functional.functional.0 c.in_ok-functional.functional.1 (sym c.ok_or-3.ensures.value ∙ c.in_ok-functional.was)
    c.read_joins.result c.read_joins.ensures (c.in_ok-joined.joined, c.in_ok-joined.joins) (sym c.ok_or-4.ensures.value ∙ c.in_ok-joined.was)
    c.read_places.result c.read_places.ensures c.in_err-places.field-0.0 c.in_err-places.was)

pub returns : goal.returns
returns c =
    reads c.args.file.now c.args.n c.requires.le_n.0 c.part.result.now c.part.ensures c.read_relations.result c.read_relations.ensures
    c.in_ok-schema.schema c.in_ok-schema.more (sym c.ok_or.ensures.value ∙ c.in_ok-schema.was)
    c.read_codes.result c.read_codes.ensures (c.in_ok-coded.coded, c.in_ok-coded.codes) (sym c.ok_or-2.ensures.value ∙ c.in_ok-coded.was)
    c.part-2.result.now c.part-2.ensures
    c.read_dependencies.result c.read_dependencies.ensures
    c.in_ok-functional.functional.0 c.in_ok-functional.functional.1 (sym c.ok_or-3.ensures.value ∙ c.in_ok-functional.was)
    c.read_joins.result c.read_joins.ensures (c.in_ok-joined.joined, c.in_ok-joined.joins) (sym c.ok_or-4.ensures.value ∙ c.in_ok-joined.was)
    c.read_places.result c.read_places.ensures c.in_ok-places.places c.in_ok-places.was
