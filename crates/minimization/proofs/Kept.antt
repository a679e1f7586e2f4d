-- The rows that are kept are a result of reduction, in any order. Once a row cannot go it cannot go later either, so trying each row once gives a core.
-- Assumes nothing.
use mathlib.Core.Path.{◌≡◌, refl, sym, ◌∙◌, ap, subst}
use mathlib.Core.Logic.{◌≢◌}
use mathlib.Core.Bool.{Bool, true, false, cond}
use mathlib.Core.List.Memᴰ
use mathlib.Core.List.{List, [], ◌∷◌, ◌++◌}
use Prim.Native.Nat.{ℕ, suc, ◌+◌, ◌<◌}
use native.Mathlib.Numerals.{add-one}
use lib.ListN.{length, get_or, take, drop}
use lib.Seq.{append_snoc}
use Rattle.std.proofs.lemmas.List.{drop_more}
use Rattle.std.proofs.Math.Seq.{take-suc}
use Rattle.theory.specs.Query.{Entry, Row, Query, ◌∈◌, without}
use Rattle.theory.specs.Database.{Dependency}
use Rattle.theory.specs.Answer.{Mapping}
use Rattle.theory.specs.Chase.{chase}
use Rattle.minimization.specs.Reduction.{Reduction}
use Rattle.minimization.specs.Search.{mappable}
use Rattle.minimization.specs.Kept.{kept_after, kept, row_before, insert_row, sorted, reduced}
use Rattle.theory.proofs.Lists.{list_cases}
use Rattle.theory.proofs.Members.{◌⊆◌, cons-part, insert-part}
use Rattle.theory.proofs.Carry.{mapping-compose, mapping-self, mapping-part, mapping-target}
use Rattle.minimization.proofs.Reduction.{reduction-reordered}
use Rattle.minimization.proofs.Search.{mappable-exact, mappable-false}

-- ---- 1. the rows that are kept

-- The query with other rows
abbrev pub with_rows : Query → List (Row Entry) → Query
with_rows q rows = record { head = q.head; rows = rows }

-- `later` is some of the rows, q can be mapped into it and those before, and not without one of it
record Keeps (before : List (Row Entry)) (q : Query) (rows later : List (Row Entry)) : Type 0 where
  some-of : later ⊆ rows
  receives : Mapping q (with_rows q (before ++ later))
  needed : (r : Row Entry) (at : r ∈ later) → Mapping q (with_rows q (before ++ without later at)) → ⊥

-- One more row is tried
module _ (before : List (Row Entry)) (q : Query) (r : Row Entry) (rows later : List (Row Entry)) (some : q.rows ≢ [])
    (keeps : Keeps (before ++ (r ∷ [])) q rows later) where
  goes : Mapping q (with_rows q (before ++ later)) → Keeps before q (r ∷ rows) later
  goes f = record {
    some-of = λ s at. Memᴰ.tail (keeps.some-of s at);
    receives = f;
    needed = λ s at g.
        keeps.needed s at
        (subst (λ all. Mapping q (with_rows q all)) (sym (append_snoc before r (without later at)))
        (mapping-part q q (with_rows q (before ++ without later at)) (with_rows q (before ++ r ∷ without later at)) refl some (λ t there. there) refl
        (insert-part before r (without later at)) g));
  }

  stays : (Mapping q (with_rows q (before ++ later)) → ⊥) → Keeps before q (r ∷ rows) (r ∷ later)
  unfolding without
  stays none = record {
    some-of = cons-part r keeps.some-of;
    receives = subst (λ all. Mapping q (with_rows q all)) (append_snoc before r later) keeps.receives;
    needed = needed;
  }
    where
      needed : (s : Row Entry) (at : s ∈ r ∷ later) → Mapping q (with_rows q (before ++ without (r ∷ later) at)) → ⊥
      needed s (Memᴰ.head same) f = none f
      needed s (Memᴰ.tail at) f = keeps.needed s at (subst (λ all. Mapping q (with_rows q all)) (sym (append_snoc before r (without later at))) f)

kept-after : (before : List (Row Entry)) (q : Query) (rows : List (Row Entry)) → q.rows ≢ [] → Mapping q (with_rows q (before ++ rows))
    → Keeps before q rows (kept_after before q rows)
unfolding kept_after
kept-after before q [] some f = record { some-of = λ r at. at; receives = f; needed = λ r at. absurd (Memᴰ.not-nil at) }
kept-after before q (r ∷ rows) some f =
    go (mappable q (with_rows q (before ++ later))) refl
    (kept-after (before ++ (r ∷ [])) q rows some (subst (λ all. Mapping q (with_rows q all)) (sym (append_snoc before r rows)) f))
  where
    later : List (Row Entry)
    later = kept_after (before ++ (r ∷ [])) q rows

    go : (b : Bool) → mappable q (with_rows q (before ++ later)) ≡ b → Keeps (before ++ (r ∷ [])) q rows later
        → Keeps before q (r ∷ rows) (cond b later (r ∷ later))
    go true can keeps = goes before q r rows later some keeps ((mappable-exact q (with_rows q (before ++ later))).0 can)
    go false cannot keeps = stays before q r rows later some keeps (mappable-false q (with_rows q (before ++ later)) cannot)

-- A query that can be mapped into rows can be mapped into what is kept of them
pub kept-receives : (before : List (Row Entry)) (q : Query) (rows : List (Row Entry)) → q.rows ≢ [] → Mapping q (with_rows q (before ++ rows))
    → Mapping q (with_rows q (before ++ kept_after before q rows))
kept-receives before q rows some f = (kept-after before q rows some f).receives

-- Row i is tried after those that follow it
pub kept-step : (q : Query) (i : ℕ) (z : Row Entry) (later : List (Row Entry)) → i < length q.rows
    → kept_after (take (i + 1) q.rows) q (drop (i + 1) q.rows) ≡ later
    → kept_after (take i q.rows) q (drop i q.rows) ≡ cond (mappable q (with_rows q (take i q.rows ++ later))) later (get_or q.rows i z ∷ later)
unfolding kept_after
kept-step q i z later h same =
    ap (kept_after (take i q.rows) q) (drop_more q.rows i z h)
    ∙ ap (λ after. cond (mappable q (with_rows q (take i q.rows ++ after))) after (get_or q.rows i z ∷ after))
    (ap (λ before. kept_after before q (drop (i + 1) q.rows)) (sym (take-suc q.rows i z h) ∙ ap (λ k. take k q.rows) (sym (add-one i))) ∙ same)

-- Of a query with rows
kept-keeps : (q : Query) → q.rows ≢ [] → Keeps [] q q.rows (kept q)
kept-keeps q some = kept-after [] q q.rows some (mapping-self q some)

-- Never keeps none
kept-never : (q : Query) → q.rows ≡ [] → kept q ≡ []
unfolding kept_after
kept-never q none = ap (kept_after [] q) none

-- Of the chased query they make a result
pub kept-reduction : (ds : List Dependency) (S : Query) → Reduction ds S (with_rows (chase ds S).query (kept (chase ds S).query))
kept-reduction ds S = list_cases q.rows never nonempty
  where
    q : Query
    q = (chase ds S).query

    never : q.rows ≡ [] → Reduction ds S (with_rows q (kept q))
    never none = record {
      head = refl;
      rows = λ r at. absurd (Memᴰ.not-nil (subst (λ rows. r ∈ rows) (kept-never q none) at));
      receives = λ some. absurd (some none);
      core = λ r at f. absurd (Memᴰ.not-nil (subst (λ rows. r ∈ rows) (kept-never q none) at));
    }

    nonempty : q.rows ≢ [] → Reduction ds S (with_rows q (kept q))
    nonempty some =
        let keeps = kept-keeps q some in
        record {
          head = refl;
          rows = keeps.some-of;
          receives = λ some'. keeps.receives;
          core = λ r at f. keeps.needed r at (mapping-compose q (with_rows q (kept q)) (with_rows q (without (kept q) at)) keeps.receives f);
        }

-- ---- 2. the order

-- A row put into sorted rows stands there, with the others and no more
insert-row : (r : Row Entry) (rows : List (Row Entry)) → (insert_row r rows ⊆ r ∷ rows) × (r ∷ rows ⊆ insert_row r rows) × (length (insert_row r rows) ≡ suc (length rows))
unfolding insert_row
insert-row r [] = (λ s at. at, λ s at. at, refl)
insert-row r (s ∷ rows) = go (row_before s r) (insert-row r rows)
  where
    go : (b : Bool) → (insert_row r rows ⊆ r ∷ rows) × (r ∷ rows ⊆ insert_row r rows) × (length (insert_row r rows) ≡ suc (length rows))
        → (cond b (s ∷ insert_row r rows) (r ∷ s ∷ rows) ⊆ r ∷ s ∷ rows) × (r ∷ s ∷ rows ⊆ cond b (s ∷ insert_row r rows) (r ∷ s ∷ rows))
        × (length (cond b (s ∷ insert_row r rows) (r ∷ s ∷ rows)) ≡ suc (suc (length rows)))
    go false later = (λ t at. at, λ t at. at, refl)
    go true later = (
      λ t at. into t at,
      λ t at. back t at,
      ap suc later.2,
    )
      where
        into : (t : Row Entry) → t ∈ s ∷ insert_row r rows → t ∈ r ∷ s ∷ rows
        into t (Memᴰ.head same) = Memᴰ.tail (Memᴰ.head same)
        into t (Memᴰ.tail at) = swap (later.0 t at)
          where
            swap : t ∈ r ∷ rows → t ∈ r ∷ s ∷ rows
            swap (Memᴰ.head same) = Memᴰ.head same
            swap (Memᴰ.tail there) = Memᴰ.tail (Memᴰ.tail there)

        back : (t : Row Entry) → t ∈ r ∷ s ∷ rows → t ∈ s ∷ insert_row r rows
        back t (Memᴰ.head same) = Memᴰ.tail (later.1 t (Memᴰ.head same))
        back t (Memᴰ.tail (Memᴰ.head same)) = Memᴰ.head same
        back t (Memᴰ.tail (Memᴰ.tail there)) = Memᴰ.tail (later.1 t (Memᴰ.tail there))

-- Rows in their order are the same rows, and as many
pub sorted-rows : (rows : List (Row Entry)) → (rows ⊆ sorted rows) × (sorted rows ⊆ rows) × (length (sorted rows) ≡ length rows)
unfolding sorted
sorted-rows [] = (λ r at. at, λ r at. at, refl)
sorted-rows (r ∷ rows) =
    let later = sorted-rows rows in
    let more = insert-row r (sorted rows) in
    (λ s at. more.1 s (cons-part r later.0 s at), λ s at. cons-part r later.1 s (more.0 s at), more.2 ∙ ap suc later.2)

pub sorted-length : (rows : List (Row Entry)) → length (sorted rows) ≡ length rows
sorted-length rows = (sorted-rows rows).2

-- ---- 3. the result

-- The result that is given is a result of reduction
pub reduced-reduction : (ds : List Dependency) (S : Query) → Reduction ds S (reduced ds S)
reduced-reduction ds S =
    let q = (chase ds S).query in
    let same = sorted-rows (kept q) in
    reduction-reordered ds S (with_rows q (kept q)) (reduced ds S) (record { head = refl; into = same.0; back = same.1; size = same.2 }) (kept-reduction ds S)

-- Of a query with rows some are kept
pub kept-some : (q : Query) → q.rows ≢ [] → kept q ≢ []
kept-some q some = mapping-target q (with_rows q (kept q)) (kept-keeps q some).receives
