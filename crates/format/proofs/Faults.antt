-- Reading refuses with the first fault of the file, in the order of `specs/Faults`. Assumes nothing.
use mathlib.Core.Path.{◌≡◌, refl, sym, ap, ◌∙◌}
use mathlib.Core.Bool.{Bool, true, false, cond, not}
use mathlib.Core.List.{List, [], ◌∷◌}
use Prim.Native.Nat.{ℕ, ◌+◌, ◌-◌, ◌*◌, ◌≤◌}
use native.Mathlib.Omega.{arith}
use lib.Dec.{leb}
use lib.ListN.{length, take, drop}
use borrow.Author.Tests.{leb-true}
use Rattle.query.specs.Types.{Query}
use Rattle.query.specs.declared.Dependency.{Dependency}
use Rattle.query.specs.declared.JoinDependency.{JoinDependency}
use Rattle.query.specs.declared.CodePair.{CodePair}
use Rattle.query.specs.Rule.{head_safe, no_query, no_place, place_with}
use Rattle.query.specs.declared.Place.{Place}
use Rattle.record.specs.declared.Record.{Record}
use Rattle.refusals.specs.Refusals.{bad_code, bad_dependency, bad_directory, bad_join, bad_offsets, bad_query, bad_relations, unsafe_head, refusal_in}
use Rattle.refusals.specs.Refusals.{Condition, first_holding, Reply, refused, gives, ◌>>=◌}
use Rattle.lists.proofs.Tests.{and-iff}
use Rattle.format.specs.Bytes.{number}
use Rattle.format.specs.Format.{Reading, none, got}
use Rattle.format.specs.Parts.{relations, codes, dependencies, joins, query}
use Rattle.format.specs.File.{chained, complete, directory, is_vacant, none_left, read_all, read_file, read_parts, read_place, read_places}
use Rattle.format.specs.File.{front, no_codes, read_codes, no_joins, read_joins, record_with}
use Rattle.format.specs.File.{safe_query, stretches, table_fits}
use Rattle.format.specs.Faults.{is_whole, is_read, rest_of, are_codes, are_joins, value_or, part_at, schema_in, relations_fault, codes_fault, dependencies_fault}
use Rattle.format.specs.Faults.{joins_fault, query_fault, head_fault, place_conditions}
use Rattle.format.specs.Faults.{read_conditions}
use Rattle.format.specs.Faults.{FirstFault, WholeWritten}
use Rattle.format.proofs.Results.{complete-get, complete-put}
use Rattle.format.proofs.Stretches.{first_two}

-- What is done with a value and cannot be refused changes no refusal
refusal-kept : {A B : Type 0} (o : Reply A) (f : A → B) → refusal_in (o >>= (λ a. gives (f a))) ≡ refusal_in o
unfolding ◌>>=◌
refusal-kept (gives a) f = refl
refusal-kept (refused n) f = refl

-- ---- a query part

module _ {B : Type 0} (next : Place → Reply B) (rest : List Condition) (h : (p : Place) → refusal_in (next p) ≡ first_holding rest) where
  vacant-first : (last : Bool) → refusal_in (cond last (refused bad_query) (gives no_place) >>= next)
      ≡ first_holding ((last, bad_query) ∷ (false, unsafe_head) ∷ rest)
  unfolding ◌>>=◌ first_holding
  vacant-first true = refl
  vacant-first false = h no_place

  head_first : (q : Query) (t : Bool)
      → refusal_in (cond t (gives (place_with q)) (refused unsafe_head) >>= next) ≡ first_holding ((false, bad_query) ∷ (not t, unsafe_head) ∷ rest)
  unfolding ◌>>=◌ first_holding
  head_first q true = h (place_with q)
  head_first q false = refl

  module _ (schema : List ℕ) where
    query-first : (o : Reading Query) → refusal_in (complete bad_query o >>= safe_query schema >>= next)
        ≡ first_holding ((not (is_whole o), bad_query) ∷ (not (head_safe schema (value_or no_query o)), unsafe_head) ∷ rest)
    unfolding ◌>>=◌ first_holding complete is_whole value_or safe_query
    query-first none = refl
    query-first (got q []) = head_first q (head_safe schema q)
    query-first (got q (b ∷ bytes)) = refl

    place-first : (last : Bool) (part : List ℕ)
        → refusal_in (read_place schema last part >>= next) ≡ first_holding (query_fault schema last part ∷ head_fault schema part ∷ rest)
    unfolding read_place
    place-first last part = go (is_vacant part)
      where
        go : (v : Bool) → refusal_in (cond v (cond last (refused bad_query) (gives no_place)) (complete bad_query ((query schema).get part) >>= safe_query schema) >>=
            next)
            ≡ first_holding
            ((cond v last (not (is_whole ((query schema).get part))), bad_query)
            ∷ (cond v false (not (head_safe schema (value_or no_query ((query schema).get part)))), unsafe_head)
            ∷ rest)
        go true = vacant-first last
        go false = query-first ((query schema).get part)

-- ---- all parts

places-first : (schema : List ℕ) (parts : List (List ℕ)) → refusal_in (read_places schema parts) ≡ first_holding (place_conditions schema parts)
unfolding read_places place_conditions first_holding
places-first schema [] = refl
places-first schema (p ∷ ps) =
    place-first (λ place. read_places schema ps >>= (λ places. gives (place ∷ places))) (place_conditions schema ps)
    (λ place. refusal-kept (read_places schema ps) (λ places. place ∷ places) ∙ places-first schema ps) schema (none_left ps) p

module _ (part1 : List ℕ) (parts : List (List ℕ)) where
  module _ (rs : ℕ × List ℕ) (cs : ℕ × List CodePair) (schema : List ℕ) where
    joins-whole : (ds : ℕ × List Dependency) (o : Reading (ℕ × List JoinDependency))
        → refusal_in (complete bad_join o >>= (λ js. read_places schema parts >>= (λ places. gives (record_with rs cs ds js places))))
        ≡ first_holding ((not (is_whole o), bad_join) ∷ place_conditions schema parts)
    unfolding ◌>>=◌ first_holding complete is_whole
    joins-whole ds none = refl
    joins-whole ds (got js []) = refusal-kept (read_places schema parts) (record_with rs cs ds js) ∙ places-first schema parts
    joins-whole ds (got js (b ∷ bytes)) = refl

    joins-first : (ds : ℕ × List Dependency) (bytes : List ℕ)
        → refusal_in (read_joins schema bytes >>= (λ js. read_places schema parts >>= (λ places. gives (record_with rs cs ds js places))))
        ≡ first_holding ((not (are_joins schema bytes), bad_join) ∷ place_conditions schema parts)
    unfolding ◌>>=◌ first_holding read_joins are_joins
    joins-first ds [] = refusal-kept (read_places schema parts) (record_with rs cs ds no_joins) ∙ places-first schema parts
    joins-first ds (b ∷ bytes) = joins-whole ds ((joins schema).get (b ∷ bytes))

    dependencies-first : (o : Reading (ℕ × List Dependency))
        → refusal_in (front bad_dependency o >>=
        (λ ds. read_joins schema ds.1 >>= (λ js. read_places schema parts >>= (λ places. gives (record_with rs cs ds.0 js places)))))
        ≡ first_holding ((not (is_read o), bad_dependency) ∷ (not (are_joins schema (rest_of o)), bad_join) ∷ place_conditions schema parts)
    unfolding ◌>>=◌ first_holding front is_read rest_of
    dependencies-first none = refl
    dependencies-first (got ds rest) = joins-first ds rest

  module _ (rs : ℕ × List ℕ) (schema : List ℕ) where
    -- what is read after the pairs of codes, and its faults
    abbrev after-codes : ℕ × List CodePair → Reply Record
    after-codes cs =
        front bad_dependency ((dependencies schema).get part1)
        >>= (λ ds. read_joins schema ds.1 >>= (λ js. read_places schema parts >>= (λ places. gives (record_with rs cs ds.0 js places))))

    abbrev others : List Condition
    others = dependencies_fault schema part1 ∷ joins_fault schema part1 ∷ place_conditions schema parts

    codes-whole : (o : Reading (ℕ × List CodePair))
        → refusal_in (complete bad_code o >>= after-codes) ≡ first_holding ((not (is_whole o), bad_code) ∷ others)
    unfolding ◌>>=◌ first_holding complete is_whole
    codes-whole none = refl
    codes-whole (got cs []) = dependencies-first rs cs schema ((dependencies schema).get part1)
    codes-whole (got cs (b ∷ bytes)) = refl

    codes-first : (bytes : List ℕ) → refusal_in (read_codes bytes >>= after-codes) ≡ first_holding ((not (are_codes bytes), bad_code) ∷ others)
    unfolding ◌>>=◌ first_holding read_codes are_codes
    codes-first [] = dependencies-first rs no_codes schema ((dependencies schema).get part1)
    codes-first (b ∷ bytes) = codes-whole (codes.get (b ∷ bytes))

  relations-first : (o : Reading (ℕ × List ℕ))
      → refusal_in (front bad_relations o >>= (λ rs. read_codes rs.1 >>= after-codes rs.0 (take rs.0.0 rs.0.1)))
      ≡ first_holding ((not (is_read o), bad_relations) ∷ (not (are_codes (rest_of o)), bad_code)
      ∷ others (value_or (0, []) o) (take (value_or (0, []) o).0 (value_or (0, []) o).1))
  unfolding ◌>>=◌ first_holding front is_read rest_of value_or
  relations-first none = refl
  relations-first (got rs rest) = codes-first rs (take rs.0 rs.1) rest

parts_first : (part0 part1 : List ℕ) (parts : List (List ℕ)) → refusal_in (read_all (part0 ∷ part1 ∷ parts))
    ≡ first_holding
    (relations_fault part0 ∷ codes_fault part0 ∷ dependencies_fault (schema_in part0) part1 ∷ joins_fault (schema_in part0) part1
    ∷ place_conditions (schema_in part0) parts)
unfolding read_all read_parts
parts_first part0 part1 parts = relations-first part1 parts (relations.get part0)

-- ---- the file

module _ (file : List ℕ) where
  -- how many parts the directory says there are
  abbrev count : ℕ
  count = number 2 file

  abbrev schema : List ℕ
  schema = schema_in (part_at file 0)

  -- the conditions of the parts
  abbrev conditions : List Condition
  conditions =
      relations_fault (part_at file 0) ∷ codes_fault (part_at file 0) ∷ dependencies_fault schema (part_at file 1) ∷ joins_fault schema (part_at file 1)
      ∷ place_conditions schema (stretches (count - 2) file (drop 10 file))

  few : table_fits file ≡ true → 2 ≤ count
  few e =
      let k : (leb 2 (length file) ≡ true) × (((leb 2 count ≡ true) × (leb count 10 ≡ true)) × (leb (2 + 4 * count) (length file) ≡ true)) =
      simp and-iff at e in
      leb-true 2 count k.1.0.0

  all_first : 2 ≤ count → refusal_in (read_all (stretches count file (drop 2 file))) ≡ first_holding conditions
  all_first h =
      ap (λ (ps : List (List ℕ)). refusal_in (read_all ps)) (first_two file count h)
      ∙ parts_first (part_at file 0) (part_at file 1) (stretches (count - 2) file (drop 10 file))

  offsets-first : 2 ≤ count → (c : Bool)
      → refusal_in (cond c (gives (stretches count file (drop 2 file))) (refused bad_offsets) >>= read_all) ≡ first_holding ((not c, bad_offsets) ∷ conditions)
  unfolding ◌>>=◌ first_holding
  offsets-first h true = all_first h
  offsets-first h false = refl

  -- whether the pairs keep the rule of offsets
  abbrev kept : Bool
  kept = chained count (2 + 4 * count) (length file) (drop 2 file)

  table-first : (t : Bool) → table_fits file ≡ t
      → refusal_in (cond t (cond kept (gives (stretches count file (drop 2 file))) (refused bad_offsets)) (refused bad_directory) >>= read_all)
      ≡ first_holding ((not t, bad_directory) ∷ (not kept, bad_offsets) ∷ conditions)
  unfolding ◌>>=◌ first_holding
  table-first true e = offsets-first (few e) kept
  table-first false e = refl

pub first-fault : FirstFault
unfolding read_file directory read_conditions
first-fault file = table-first file (table_fits file) refl

-- ---- what it means that bytes are read whole

whole-complete : {A : Type 0} (o : Reading A) → is_whole o ≡ true → (a : A) × (complete 0 o ≡ gives a)
unfolding is_whole complete
whole-complete none e = let z : ◌≡◌ {A = ℕ} 0 1 = cc in absurd (omega arith)
whole-complete (got a []) e = (a, refl)
whole-complete (got a (b ∷ rest)) e = let z : ◌≡◌ {A = ℕ} 0 1 = cc in absurd (omega arith)

complete-whole : {A : Type 0} (o : Reading A) (a : A) → complete 0 o ≡ gives a → is_whole o ≡ true
unfolding is_whole complete
complete-whole none a e = let z : ◌≡◌ {A = ℕ} 0 1 = cc in absurd (omega arith)
complete-whole (got c []) a e = refl
complete-whole (got c (b ∷ rest)) a e = let z : ◌≡◌ {A = ℕ} 0 1 = cc in absurd (omega arith)

pub whole-written : WholeWritten
whole-written A f lawful bytes hb = (
  λ e. let (a, c) = whole-complete (f.get bytes) e in let (good, same) = complete-get 0 f lawful bytes a hb c in (a, good, same),
  λ w. complete-whole (f.get bytes) w.0 (ap (λ (b : List ℕ). complete 0 (f.get b)) (sym w.2) ∙ complete-put 0 f lawful w.0 w.1),
)
