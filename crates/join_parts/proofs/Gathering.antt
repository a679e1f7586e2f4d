-- The rows of a part, copied one by one from its chain. Assumes nothing.
use mathlib.Core.Path.{◌≡◌, sym, ◌∙◌, ap, ap₂, subst}
use mathlib.Core.Bool.{true}
use mathlib.Core.Logic.{⊎_elim}
use mathlib.Core.List.Memᴰ
use mathlib.Core.List.{List, [], ◌∷◌, ◌++◌}
use Prim.Native.Nat.{ℕ, zero, suc, ◌+◌, ◌-◌, ◌≤◌, ◌<◌}
use native.Mathlib.Numerals.{add-one}
use native.Mathlib.Omega.{arith}
use lib.ListN.{length, take, drop, get_or, drop_of_length-le}
use Rattle.lists.proofs.Positions.{get_or-in}
use Rattle.lists.proofs.Tests.{below-or-past}
use Rattle.theory.specs.Query.{Row, map_row, ◌∈◌}
use Rattle.theory.specs.Database.{Database, Sound}
use Rattle.theory.proofs.Lists.{mem-cases}
use Rattle.theory.proofs.Members.{map-part}
use Rattle.words.specs.Broken.{nth_row}
use Rattle.words.specs.internal.Rows.{span_at}
use Rattle.words.specs.Words.{words_of, Spells, database_of, spells_rows}
use Rattle.words.proofs.Spelling.{rows-spelled, rows-only, spells-means, read-relation}
use Rattle.join_lookup.specs.internal.Starts.{start_of, row_count, Known}
use Rattle.join_lookup.proofs.Starting.{start-less, start-end, start-inside, start-next, start-relation, of_room, start-written}
use Rattle.join_parts.specs.declared.Partition.{Partition}
use Rattle.theory.specs.Codes.{CodePair}
use Rattle.theory.specs.Codes.{read_code}
use Rattle.words.proofs.Reading.{read-row}
use Rattle.join_parts.specs.internal.Parts.{InPart, LinksTo, Last, Chained, PartOf}

-- The rows of part b from position `row` on are at the end of the buffer, from word `start` on, and the link leads to the last one before
pub record Gathered (codes : List CodePair) (schema words : List ℕ) (x : Partition) (b link start : ℕ) (buffer : List ℕ) : Type 0 where
  pub row : ℕ
  pub inside : row ≤ row_count schema words
  pub last : Last codes schema words x b row link
  pub ends : start ≤ length buffer
  pub room : start_of schema words row + length buffer ≤ start + length words
  pub copied : Database
  pub spelled : drop start buffer ≡ words_of copied
  pub rows : (r : Row ℕ) → r ∈ copied → r ∈ database_of schema words
  pub whole : (p : ℕ) → row ≤ p → p < row_count schema words → InPart codes schema words x b p → nth_row (database_of schema words) p ∈ copied

module _ (codes : List CodePair) (schema words : List ℕ) (good : spells_rows schema words ≡ true) (x : Partition) (k : Known schema x.index) (b : ℕ) where
  pub gathered-none : (link : ℕ) (buffer : List ℕ) → Last codes schema words x b (row_count schema words) link
      → Gathered codes schema words x b link (length buffer) buffer
  unfolding words_of
  gathered-none link buffer last =
      record {
        row = row_count schema words;
        inside = omega arith;
        last = last;
        ends = omega arith;
        room = omega (arith, start-end schema words good);
        copied = [];
        spelled = drop_of_length-le buffer {i = length buffer} (omega arith);
        rows = λ r at. absurd (Memᴰ.not-nil at);
        whole = λ p low high. absurd (omega arith);
      }

  -- The row that a link leads to
  record Led (m link : ℕ) : Type 0 where
    pub row : ℕ
    pub before : row < m
    pub place : link ≡ start_of schema words row + 1
    pub in_part : InPart codes schema words x b row
    pub passed : (p : ℕ) → row < p → p < m → InPart codes schema words x b p → ⊥

  led : (m link : ℕ) → Last codes schema words x b m link → (link ≡ 0 → ⊥) → Led m link
  led m link l some = go l.rows l.inside l.links l.passed
    where
      go : (n : ℕ) → n ≤ m → LinksTo codes schema words x b n link → ((p : ℕ) → n ≤ p → p < m → InPart codes schema words x b p → ⊥) → Led m link
      go zero low to passed = absurd (some to)
      go (suc q) low to passed =
          record { row = q; before = omega arith; place = to.0; in_part = to.1; passed = λ p h. passed p (omega arith) }

  -- A link of 0 leads to none
  led-none : (m link : ℕ) → Last codes schema words x b m link → link ≡ 0 → (p : ℕ) → p < m → InPart codes schema words x b p → ⊥
  led-none m link l none p h in_part = go l.rows l.links l.passed
    where
      go : (n : ℕ) → LinksTo codes schema words x b n link → ((p : ℕ) → n ≤ p → p < m → InPart codes schema words x b p → ⊥) → ⊥
      go zero to passed = passed p (omega arith) h in_part
      go (suc q) to passed = absurd (let e = to.0 in omega arith)

  -- The link of the row that a link leads to is less
  led-less : (m link after : ℕ) → Last codes schema words x b m after → link ≡ start_of schema words m + 1 → after < link
  led-less m link after l e = go l.rows l.inside l.links
    where
      go : (n : ℕ) → n ≤ m → LinksTo codes schema words x b n after → after < link
      go zero low to = omega (arith, to, e)
      go (suc q) low to = let i = start-less schema words q m (omega arith) in omega (arith, to.0, e)

  module _ (link start : ℕ) (buffer : List ℕ) (g : Gathered codes schema words x b link start buffer) (some : link ≡ 0 → ⊥) where
    next : Led g.row link
    next = led g.row link g.last some

    abbrev at : ℕ
    at = start_of schema words next.row

    next-low : next.row < row_count schema words
    next-low = omega (arith, next.before, g.inside)

    next-place : link - 1 ≡ at
    next-place = let e = next.place in omega arith

    pub next-room : link - 1 + (x.index.width + 1) ≤ length words
    next-room = omega (arith, next-place, of_room codes schema words good x.index k next.row next-low next.in_part.0)

    next-width : get_or schema (get_or words at 0) 0 ≡ x.index.width
    next-width = ap (λ (r : ℕ). get_or schema r 0) (sym (start-relation codes schema words good next.row next-low) ∙ next.in_part.0) ∙ sym k.width

    -- The row's end is not behind where the copied ones begin
    next-end : at + 1 + x.index.width ≤ start_of schema words g.row
    next-end =
        let after : start_of schema words (suc next.row) ≡ at + 1 + x.index.width =
        (start-next schema words good next.row next-low).place ∙ ap (λ (w : ℕ). at + 1 + w) next-width in
        ⊎_elim
        (λ less. let i = start-less schema words (suc next.row) g.row less in omega (arith, after, i))
        (λ past.
        let e : suc next.row ≡ g.row = omega (arith, next.before) in
        let same : start_of schema words (suc next.row) ≡ start_of schema words g.row = ap (start_of schema words) e in
        omega (arith, after, same))
        (below-or-past (suc next.row) g.row)

    pub next-fits : length words ≤ length buffer → x.index.width + 1 ≤ start
    next-fits long = omega (arith, next-end, g.room)

    module _ (heads links : List ℕ) (c : Chained codes schema words x (row_count schema words) heads links) where
      next-last : Last codes schema words x b next.row (get_or links (link - 1) 0)
      next-last =
          subst (λ (n : ℕ). Last codes schema words x b next.row (get_or links n 0)) (sym next-place) (c.link next.row next-low b next.in_part)

      pub next-less : get_or links (link - 1) 0 < link
      next-less = led-less next.row link (get_or links (link - 1) 0) next-last next.place

      -- The row as it is written, and its words
      abbrev written : Row ℕ
      written = nth_row (database_of schema words) next.row

      written-is : written ≡ span_at x.index.width words at
      written-is = start-written schema words good next.row next-low ∙ ap (λ (w : ℕ). span_at w words at) next-width

      next-words : take (x.index.width + 1) (drop (link - 1) words) ≡ written.relation ∷ written.values
      next-words =
          let inside = start-inside schema words good next.row next-low in
          ap (λ (n : ℕ). take n (drop (link - 1) words)) (add-one x.index.width) ∙ ap (λ (n : ℕ). take (suc x.index.width) (drop n words)) next-place
          ∙ ap (take (suc x.index.width)) (read-relation schema words at inside)
          ∙ ap (λ (r : Row ℕ). r.relation ∷ r.values) (sym written-is)

      pub gathered-next : length words ≤ length buffer → (buffer' : List ℕ) → length buffer' ≡ length buffer
          → drop (start - (x.index.width + 1)) buffer' ≡ take (x.index.width + 1) (drop (link - 1) words) ++ drop start buffer
          → Gathered codes schema words x b (get_or links (link - 1) 0) (start - (x.index.width + 1)) buffer'
      unfolding words_of
      gathered-next long buffer' size put =
          record {
            row = next.row;
            inside = omega (arith, next-low);
            last = next-last;
            ends = omega (arith, size, g.ends);
            room = omega (arith, size, next-end, g.room, next-fits long);
            copied = written ∷ g.copied;
            spelled = put ∙ ap₂ {C = List ℕ} (λ (l m : List ℕ). l ++ m) next-words g.spelled;
            rows =
                λ r there. mem-cases there
                (λ here. Memᴰ.cast here (get_or-in (database_of schema words) next.row (record { relation = 0; values = [] }) next-low)) (g.rows r);
            whole =
                λ p low high in_part. ⊎_elim
                (λ more. ⊎_elim (λ less. absurd (next.passed p more less in_part)) (λ past. Memᴰ.tail (g.whole p past high in_part)) (below-or-past p g.row))
                (λ only. let e : p ≡ next.row = omega arith in Memᴰ.head (ap (nth_row (database_of schema words)) e)) (below-or-past next.row p);
          }

  -- With a link of 0 the whole part is copied
  pub gathered-all : (link start : ℕ) (buffer : List ℕ) → Gathered codes schema words x b link start buffer → link ≡ 0
      → PartOf codes schema words x b (drop start buffer)
  gathered-all link start buffer g none =
      let sound : Sound schema g.copied = λ r there. (rows-spelled schema words good).1 r (g.rows r there) in
      let spells : Spells schema (drop start buffer) g.copied = (sym g.spelled, sound) in
      let is : database_of schema (drop start buffer) ≡ g.copied = rows-only schema (drop start buffer) g.copied spells in
      record {
        spelled = (spells-means schema (drop start buffer)).1 (g.copied, spells);
        rows = map-part (map_row (read_code codes)) (λ r there. g.rows r (subst (λ (D : Database). r ∈ D) is there));
        whole =
            λ p high in_part.
            let there = subst (λ (D : Database). nth_row (database_of schema words) p ∈ D) (sym is)
            (⊎_elim (λ less. absurd (led-none g.row link g.last none p less in_part)) (λ past. g.whole p past high in_part) (below-or-past p g.row)) in
            Memᴰ.cast (read-row codes (database_of schema words) p) (Memᴰ.map (map_row (read_code codes)) there);
      }
