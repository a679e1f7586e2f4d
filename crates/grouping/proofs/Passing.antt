-- Passing the rows one by one: how the table of leaders and what is known of the groups go on. Assumes nothing.
use mathlib.Core.Path.{◌≡◌, refl, ap, ap₂, sym, subst, ◌∙◌}
use mathlib.Core.Bool.{Bool, true, false, false≢true}
use mathlib.Core.List.{List, [], ◌∷◌}
use Prim.Native.Nat.{ℕ, zero, suc, ◌+◌, ◌-◌, ◌*◌, ◌≤◌, ◌<◌}
use native.Mathlib.Omega.{arith}
use lib.Dec.{eqb}
use borrow.Author.Tests.{eqb-true, eqb-false}
use lib.ListN.{length, take, drop, get_or, set, length-set, length-drop, drop_of_length-le}
use lib.Seq.{get_or-drop, drop-drop, drop-length, take_all}
use Rattle.theory.specs.Query.{Row, column, map_row}
use Rattle.theory.specs.Database.{Database}
use Rattle.query.specs.View.{dependency_of}
use Rattle.query.specs.declared.Dependency.{Dependency}
use Rattle.theory.specs.Codes.{CodePair, read_code, read_database}
use Rattle.words.specs.Words.{spells_rows, rows_from, database_of, database_read}
use Rattle.words.specs.internal.Rows.{span_read, row_at, row_read, Next}
use mathlib.Core.Option.{none}
use Rattle.theory.specs.Chase.{first_pair}
use Rattle.words.specs.Testing.{numbered_from, first_pair_from}
use Rattle.words.specs.internal.Found.{From}
use Rattle.std.specs.Prelude.{Option, None, Some}
use Rattle.words.specs.internal.Walk.{Steps}
use Rattle.words.proofs.Spelling.{next_row}
use Rattle.words.proofs.Reading.{read-length, read-row, read-drop}
use Rattle.words.proofs.Search.{pair_end}
use Rattle.grouping.specs.internal.Hash.{bucket_for, tag_of}
use Rattle.grouping.specs.internal.Chains.{Chained}
use Rattle.grouping.specs.internal.Leaders.{sought_of, link_of, position_of, right_in, tag_in, with_leader, leader_of, key_of, LeaderFor}
use Rattle.grouping.specs.internal.Groups.{Together, Groups, KeyBelow, Key}
use Rattle.words.specs.Broken.{nth_row}
use Rattle.grouping.specs.internal.Walked.{RowBegins, Walked, Skips, SkipsTo, Located}
use Rattle.words.specs.declared.Position.{Position}
use Rattle.grouping.specs.declared.Sought.{Sought}
use Rattle.grouping.specs.declared.Walk.{Walk}
use Rattle.grouping.proofs.Entering.{enter-length, enter-below, enter-link, enter-number, enter-right, enter-tag}
use Rattle.grouping.proofs.Chains.{chained-none, chained-agree, chained_more}
use Rattle.grouping.proofs.Leading.{groups-start, groups-other, groups-member, groups-full, groups-new, key-other, key-new, pairs-skip}

-- there are no more rows than words
pub rows_few : (schema : List ℕ) (due : ℕ) (words : List ℕ) → length (rows_from schema due words) ≤ length words
unfolding rows_from
rows_few schema due [] = omega arith
rows_few schema zero (relation ∷ words) = let i : length (rows_from schema (get_or schema relation 0) words) ≤ length words = rows_few schema
    (get_or schema relation 0) words in omega arith
rows_few schema (suc due) (word ∷ words) = let i : length (rows_from schema due words) ≤ length words = rows_few schema due words in omega arith

module _ (schema words : List ℕ) where
  -- ---- rows in their places

  -- the first row
  pub placed-start : spells_rows schema words ≡ true → RowBegins schema words 0 0
  placed-start good = record { from = record { inside = omega arith; counted = omega arith; good = good }; read = refl }

  -- the row after the one at `at`
  pub placed-next : (at after n : ℕ) → RowBegins schema words at n → Next schema words at after → RowBegins schema words after (n + 1)
  placed-next at after n p next =
      record {
        from = record { inside = next.fits; counted = omega (arith, next.place, p.from.counted); good = next.good };
        read = sym (drop-drop 1 n (database_of schema words)) ∙ ap (drop 1) (p.read ∙ next.read);
      }

  -- the row at `at`
  pub placed_row : (at after n : ℕ) → RowBegins schema words at n → Next schema words at after → nth_row (database_of schema words) n ≡ row_at schema words at
  placed_row at after n p next =
      let z : Row ℕ = record { relation = 0; values = [] } in
      let e : n + 0 ≡ n = omega arith in
      ap (λ (m : ℕ). get_or (database_of schema words) m z) (sym e) ∙ sym (get_or-drop n (database_of schema words) 0 z)
      ∙ ap (λ (l : Database). get_or l 0 z) (p.read ∙ next.read)

  -- the row at `at` as it is read
  pub placed_read : (codes : List CodePair) (at after n : ℕ) → RowBegins schema words at n → Next schema words at after
      → nth_row (database_read codes schema words) n ≡ row_read codes schema words at
  placed_read codes at after n p next =
      read-row codes (database_of schema words) n ∙ ap (map_row (read_code codes)) (placed_row at after n p next)

  -- no more rows than n where the words end
  pub all-placed : (at n : ℕ) → RowBegins schema words at n → length words ≤ at → length (database_of schema words) ≤ n
  unfolding rows_from
  all-placed at n p end =
      let none : drop n (database_of schema words) ≡ [] = p.read ∙ ap (λ (l : List ℕ). database_of schema l) (drop_of_length-le words {i = at} end) in
      let size : length (drop n (database_of schema words)) ≡ length (database_of schema words) - n = length-drop n (database_of schema words) in
      let zero-size : length (drop n (database_of schema words)) ≡ 0 = ap (λ (l : Database). length l) none in
      omega arith

-- The row at `at`, at position n, is of the dependency's relation
pub record Member (schema words : List ℕ) (d : Dependency) (at n : ℕ) : Type 0 where
  pub placed : RowBegins schema words at n
  pub inside : at < length words
  pub relation : get_or words at 0 ≡ d.relation

module _ (codes : List CodePair) (schema words : List ℕ) (d : Dependency) where
  module _ (at n : ℕ) (m : Member schema words d at n) where
    member-next : Next schema words at (at + 1 + get_or schema d.relation 0)
    member-next =
        next_row schema words at m.inside (at + 1 + get_or schema d.relation 0) m.placed.from.good
        (ap (λ (r : ℕ). at + 1 + get_or schema r 0) (sym m.relation))

    pub member-room : at + 1 + get_or schema d.relation 0 ≤ length words
    member-room = member-next.fits

    pub member-row : nth_row (database_read codes schema words) n ≡ span_read codes (get_or schema d.relation 0) words at
    member-row =
        placed_read schema words codes at (at + 1 + get_or schema d.relation 0) n m.placed member-next
        ∙ ap (λ (r : ℕ). span_read codes (get_or schema r 0) words at) m.relation

  -- ---- one more row

  pub row_room : (row : Position) (w : Walk) (H N : List ℕ) → Walked codes schema words d row w H N → row.at < length words → get_or words row.at 0 ≡ d.relation
      → row.at + 1 + get_or schema d.relation 0 ≤ length words
  row_room row w H N h inside relation = member-room row.at row.number (record { placed = h.placed; inside = inside; relation = relation })

  module _ (row : Position) (w : Walk) (H N : List ℕ) (h : Walked codes schema words d row w H N) (after : ℕ) (next : Next schema words row.at after) where
    -- no leader is new
    walked_on : (p : ℕ) (b : Bool)
        → Groups (length H) (dependency_of d) (database_read codes schema words) (row.number + 1) p w.count (position_of N)
        → (b ≡ true → (p ≡ length words) × KeyBelow (dependency_of d) (database_read codes schema words) (row.number + 1))
        → Walked codes schema words d (record { at = after; number = row.number + 1 }) (record { count = w.count; least = p; key = b }) H N
    walked_on p b groups key =
        record {
          bucket = h.bucket;
          placed = placed-next schema words row.at after row.number h.placed next;
          few = omega (arith, h.few);
          table = h.table;
          groups = groups;
          key = key;
        }

    -- the row is of another relation
    pub walked-other : (get_or words row.at 0 ≡ d.relation → ⊥)
        → Walked codes schema words d (record { at = after; number = row.number + 1 }) (record { count = w.count; least = w.least; key = w.key }) H N
    walked-other other =
        let D : Database = database_read codes schema words in
        let n : ℕ = row.number in
        let differs : (nth_row D n).relation ≡ d.relation → ⊥ =
        λ e. other (sym (ap (λ (r : Row ℕ). r.relation) (placed_read schema words codes row.at after n h.placed next)) ∙ e) in
        walked_on w.least w.key
        (groups-other (length H) (dependency_of d) D n w.least w.count (position_of N) h.groups differs)
        (λ t. ((h.key t).0, key-other (length H) (dependency_of d) D n w.least w.count (position_of N) h.groups differs (h.key t).1))

    module _ (relation : get_or words row.at 0 ≡ d.relation) where
      member : Member schema words d row.at row.number
      member = record { placed = h.placed; inside = omega (arith, next.place, next.fits); relation = relation }

      -- the row, as it is compared with the leaders
      module _ (q : Sought) (is : q ≡ sought_of (length H) (dependency_of d) (span_read codes (get_or schema d.relation 0) words row.at)) where
        row_is : q ≡ sought_of (length H) (dependency_of d) (nth_row (database_read codes schema words) row.number)
        row_is = is ∙ ap (sought_of (length H) (dependency_of d)) (sym (member-row row.at row.number member))

        bucket-is : q.bucket ≡ bucket_for (length H) (dependency_of d) (nth_row (database_read codes schema words) row.number)
        bucket-is = ap (λ (x : Sought). x.bucket) row_is

        tag_is : q.tag ≡ tag_of (dependency_of d) (nth_row (database_read codes schema words) row.number)
        tag_is = ap (λ (x : Sought). x.tag) row_is

        right_is : q.right ≡ column 0 (nth_row (database_read codes schema words) row.number) d.right
        right_is = ap (λ (x : Sought). x.right) row_is

        -- leader s is that of its group
        grouped : (s : ℕ) → s < w.count → LeaderFor (key_of (dependency_of d) (database_read codes schema words) (length H) N) N q s
            → Together (length H) (dependency_of d) (leader_of (database_read codes schema words) N s) (nth_row (database_read codes schema words) row.number)
        grouped s below leads = (leads.0 ∙ bucket-is, sym (h.table.tags s below) ∙ leads.1 ∙ tag_is)

        -- and has its right value
        pub walked_same : (s : ℕ) → s < w.count → LeaderFor (key_of (dependency_of d) (database_read codes schema words) (length H) N) N q s
            → right_in N s ≡ q.right
            → Walked codes schema words d (record { at = after; number = row.number + 1 }) (record { count = w.count; least = w.least; key = false }) H N
        walked_same s below leads same =
            walked_on w.least false
            (groups-member (length H) (dependency_of d) (database_read codes schema words) row.number w.least w.count (position_of N) h.groups
            w.least s (omega arith) below (grouped s below leads) (λ _. sym (h.table.rights s below) ∙ same ∙ right_is))
            (λ t. absurd (false≢true t))

        -- and may have another
        pub walked-differ : (s : ℕ) → s < w.count → LeaderFor (key_of (dependency_of d) (database_read codes schema words) (length H) N) N q s
            → (p : ℕ) → p ≤ w.least → p ≤ position_of N s
            → Walked codes schema words d (record { at = after; number = row.number + 1 }) (record { count = w.count; least = p; key = false }) H N
        walked-differ s below leads p left right =
            walked_on p false
            (groups-member (length H) (dependency_of d) (database_read codes schema words) row.number w.least w.count (position_of N) h.groups
            p s left below (grouped s below leads) (λ i. absurd (omega arith)))
            (λ t. absurd (false≢true t))

        module _ (absent : (s : ℕ) → s < w.count → LeaderFor (key_of (dependency_of d) (database_read codes schema words) (length H) N) N q s → ⊥) where
          alone : (s : ℕ) → s < w.count
              → Together (length H) (dependency_of d) (leader_of (database_read codes schema words) N s) (nth_row (database_read codes schema words) row.number)
              → ⊥
          alone s below t = absent s below (t.0 ∙ sym bucket-is, h.table.tags s below ∙ t.1 ∙ sym tag_is)

          -- it would be a leader, and there is no room for it
          pub walked-full : (p : ℕ) → p ≤ w.least → p ≤ row.number
              → Walked codes schema words d (record { at = after; number = row.number + 1 }) (record { count = w.count; least = p; key = false }) H N
          walked-full p left right =
              walked_on p false
              (groups-full (length H) (dependency_of d) (database_read codes schema words) row.number w.least w.count (position_of N) h.groups
              p left right alone)
              (λ t. absurd (false≢true t))

          -- it is a leader
          module _ (inside : q.bucket < length H) (room : 4 * w.count + 3 < length N) where
            heads : List ℕ
            heads = set H q.bucket (w.count + 1)

            nodes : List ℕ
            nodes = with_leader N w.count (get_or H q.bucket 0) row.number q

            old-word : (i : ℕ) → i < 4 * w.count → get_or nodes i 0 ≡ get_or N i 0
            unfolding nodes
            old-word = enter-below N w.count (get_or H q.bucket 0) row.number q

            old-number : (s : ℕ) → s < w.count → position_of nodes s ≡ position_of N s
            old-number s low = old-word (4 * s + 1) (omega arith)

            new-number : position_of nodes w.count ≡ row.number
            unfolding nodes
            new-number = enter-number N w.count (get_or H q.bucket 0) row.number q room

            -- what holds of the words of the leaders before it, and of its own, holds of all
            all-leaders : (f : ℕ → ℕ) (g : Row ℕ → ℕ) → ((s : ℕ) → s < w.count → f s ≡ g (leader_of (database_read codes schema words) N s))
                → f w.count ≡ g (nth_row (database_read codes schema words) row.number)
                → (s : ℕ) → s < w.count + 1 → (t : Bool) → eqb s w.count ≡ t → f s ≡ g (leader_of (database_read codes schema words) nodes s)
            all-leaders f g old new s below true e =
                subst (λ (x : ℕ). f x ≡ g (leader_of (database_read codes schema words) nodes x)) (sym (eqb-true s w.count e))
                (new ∙ ap (λ (x : ℕ). g (nth_row (database_read codes schema words) x)) (sym new-number))
            all-leaders f g old new s below false e =
                let apart : s ≡ w.count → ⊥ = eqb-false s w.count e in
                let low : s < w.count = omega arith in
                old s low ∙ ap (λ (x : ℕ). g (nth_row (database_read codes schema words) x)) (sym (old-number s low))

            new-chained : Chained (key_of (dependency_of d) (database_read codes schema words) (length heads) nodes) heads (link_of nodes) (w.count + 1)
            unfolding heads nodes
            new-chained =
                let D : Database = database_read codes schema words in
                let size : length heads ≡ length H = length-set H q.bucket (w.count + 1) in
                let K : ℕ → ℕ = key_of (dependency_of d) D (length H) N in
                let K' : ℕ → ℕ = key_of (dependency_of d) D (length heads) nodes in
                chained_more K' H (link_of N) w.count
                (chained-agree K H (link_of N) w.count h.table.chained K'
                (λ s low. ap₂ {C = ℕ} (λ (x y : ℕ). bucket_for x (dependency_of d) (nth_row D y)) (sym size) (sym (old-number s low))))
                q.bucket inside (ap₂ {C = ℕ} (λ (x y : ℕ). bucket_for x (dependency_of d) (nth_row D y)) size new-number ∙ sym bucket-is) (link_of nodes)
                (λ s low. old-word (4 * s) (omega arith))
                (enter-link N w.count (get_or H q.bucket 0) row.number q room)

            new-key : w.key ≡ true → (w.least ≡ length words) × KeyBelow (dependency_of d) (database_read codes schema words) (row.number + 1)
            new-key t =
                let all : w.least ≡ length words = (h.key t).0 in
                let low : row.number ≤ w.least = omega (arith, h.placed.from.counted, h.placed.from.inside) in (
                  all,
                  key-new (length H) (dependency_of d) (database_read codes schema words) row.number w.least w.count (position_of N) h.groups low alone
                      (h.key t).1,
                )

            new-groups : Groups (length heads) (dependency_of d) (database_read codes schema words) (row.number + 1) w.least (w.count + 1) (position_of nodes)
            unfolding heads
            new-groups =
                subst
                (λ (x : ℕ). Groups x (dependency_of d) (database_read codes schema words) (row.number + 1) w.least (w.count + 1) (position_of nodes))
                (sym (length-set H q.bucket (w.count + 1)))
                (groups-new (length H) (dependency_of d) (database_read codes schema words) row.number w.least w.count (position_of N) h.groups
                (position_of nodes) old-number new-number alone)

            pub walked-new : Walked codes schema words d
                (record { at = after; number = row.number + 1 }) (record { count = w.count + 1; least = w.least; key = w.key })
                (set H q.bucket (w.count + 1)) (with_leader N w.count (get_or H q.bucket 0) row.number q)
            unfolding heads nodes
            walked-new =
                let some : 0 < length H = h.bucket in
                let size_h : length heads ≡ length H = length-set H q.bucket (w.count + 1) in
                let size_n : length nodes ≡ length N = enter-length N w.count (get_or H q.bucket 0) row.number q in
                record {
                  bucket = omega arith;
                  placed = placed-next schema words row.at after row.number h.placed next;
                  few = omega (arith, h.few);
                  table = record {
                    stored = omega arith;
                    rights = λ s low.
                        all-leaders (right_in nodes) (λ (r : Row ℕ). column 0 r d.right)
                        (λ t l. old-word (4 * t + 2) (omega arith) ∙ h.table.rights t l)
                        (enter-right N w.count (get_or H q.bucket 0) row.number q room ∙ right_is) s low (eqb s w.count) refl;
                    tags = λ s low.
                        all-leaders (tag_in nodes) (tag_of (dependency_of d)) (λ t l. old-word (4 * t + 3) (omega arith) ∙ h.table.tags t l)
                        (enter-tag N w.count (get_or H q.bucket 0) row.number q room ∙ tag_is) s low (eqb s w.count) refl;
                    chained = new-chained;
                  };
                  groups = new-groups;
                  key = new-key;
                }

  -- ---- from the first row to the last

  -- no row is passed
  pub walked_start : (H N : List ℕ) → spells_rows schema words ≡ true → 0 < length H → ((b : ℕ) → b < length H → get_or H b 0 ≡ 0)
      → Walked codes schema words d (record { at = 0; number = 0 }) (record { count = 0; least = length words; key = true }) H N
  walked_start H N good bucket clear =
      record {
        bucket = bucket;
        placed = placed-start schema words good;
        few = omega arith;
        table = record {
          stored = omega arith;
          rights = λ s low. absurd (omega arith);
          tags = λ s low. absurd (omega arith);
          chained = chained-none (key_of (dependency_of d) (database_read codes schema words) (length H) N) H (link_of N) clear;
        };
        groups = groups-start (length H) (dependency_of d) (database_read codes schema words) (length words) (position_of N);
        key = λ t. (refl, λ i j before below. absurd (omega arith));
      }

  -- all rows are passed
  all-passed : (row : Position) (w : Walk) (H N : List ℕ) → Walked codes schema words d row w H N → length words ≤ row.at
      → length (database_read codes schema words) ≤ row.number
  all-passed row w H N h end = omega (arith, read-length codes (database_of schema words), all-placed schema words row.at row.number h.placed end)

  -- no row before one that is not beyond the least is the first of a broken pair
  pub walked_end : (row : Position) (w : Walk) (H N : List ℕ) → Walked codes schema words d row w H N → length words ≤ row.at → (p : Position)
      → RowBegins schema words p.at p.number → p.number ≤ w.least → Skips codes schema words d p
  walked_end row w H N h end p placed low =
      let all : length (database_read codes schema words) ≤ row.number = all-passed row w H N h end in
      record {
        from = placed.from;
        same = λ m.
            pairs-skip (dependency_of d) m p.number (database_read codes schema words)
            (λ k j before below first. h.groups.kept k j before (omega arith) (omega arith))
            ∙ ap (λ (l : Database). first_pair_from (dependency_of d) (m + p.number) l)
            (read-drop codes (database_of schema words) p.number ∙ ap (read_database codes) placed.read);
      }

  -- and the left columns told them apart
  pub walked-key : (row : Position) (w : Walk) (H N : List ℕ) → Walked codes schema words d row w H N → length words ≤ row.at → w.key ≡ true
      → Key (dependency_of d) (database_read codes schema words)
  walked-key row w H N h end t =
      let all : length (database_read codes schema words) ≤ row.number = all-passed row w H N h end in
      λ i j before below. (h.key t).1 i j before (omega arith)

  -- where the least is beyond the last row, none is
  pub walked-none : (row : Position) (w : Walk) (H N : List ℕ) → Walked codes schema words d row w H N → length words ≤ row.at
      → length (database_of schema words) ≤ w.least → (n : ℕ) → first_pair_from (dependency_of d) n (database_read codes schema words) ≡ none
  unfolding first_pair numbered_from
  walked-none row w H N h end low n =
      let D : Database = database_read codes schema words in
      let all : length D ≤ row.number = all-passed row w H N h end in
      let size : length D ≡ length (database_of schema words) = read-length codes (database_of schema words) in
      pairs-skip (dependency_of d) n (length D) D (λ k j before below first. h.groups.kept k j before (omega arith) (omega arith))
      ∙ ap (λ (l : Database). first_pair_from (dependency_of d) (n + length D) l) (drop-length D)

  -- no row is skipped
  pub skips-first : spells_rows schema words ≡ true → Skips codes schema words d (record { at = 0; number = 0 })
  skips-first good =
      record {
        from = (placed-start schema words good).from;
        same = λ m. let e : m ≡ m + 0 = omega arith in ap (λ (x : ℕ). first_pair_from (dependency_of d) x (database_read codes schema words)) e;
      }

module _ (codes : List CodePair) (schema words : List ℕ) (d : Dependency) where
  -- ---- along a walk over the rows

  -- what is known of a row's end is known where the walk goes on
  pub walked-next : (p r q : Position) (w : Walk) (H N : List ℕ) → r ≡ p → Next schema words p.at q.at → q.number ≡ p.number + 1
      → ((after : ℕ) → Next schema words r.at after → Walked codes schema words d (record { at = after; number = r.number + 1 }) w H N)
      → Walked codes schema words d q w H N
  walked-next p r q w H N e next number f =
      subst (λ (n : ℕ). Walked codes schema words d (record { at = q.at; number = n }) w H N) (ap (λ (x : Position). x.number + 1) e ∙ sym number)
      (f q.at (subst (λ (x : Position). Next schema words x.at q.at) (sym e) next))

  -- the first row, where nothing is known
  pub skips-start : spells_rows schema words ≡ true → (S W S' W' : List ℕ) (p q : Position) (r : Option Position) → W ≡ words → p ≡ record { at = 0; number = 0 }
      → Steps S W p r q × (S' ≡ S) × (W' ≡ W) → SkipsTo codes schema words d r
  skips-start good S W S' W' p q None f e h =
      let end : length words ≤ 0 = subst (λ (x : Position). length words ≤ x.at) e (rw f at h.0.0) in
      λ n. pair_end codes schema words (dependency_of d) 0 n end
  skips-start good S W S' W' p q (Some r) f e h =
      let is : r ≡ record { at = 0; number = 0 } = h.0.0 ∙ e in (
        subst (λ (x : Position). Skips codes schema words d x) (sym is) (skips-first codes schema words d good),
        subst (λ (x : Position). x.at < length words) (sym h.0.0) (rw f at h.0.1),
      )

  -- all rows are passed: the row at the least position, or none
  pub skips-located : (row : Position) (w : Walk) (H N : List ℕ) → Walked codes schema words d row w H N → length words ≤ row.at → (r : Option Position)
      → Located schema words w.least r → SkipsTo codes schema words d r
  skips-located row w H N h end None low = walked-none codes schema words d row w H N h end low
  skips-located row w H N h end (Some p) found = (walked_end codes schema words d row w H N h end p found.0 (omega (arith, found.1)), found.2)

-- the words from `at` on
pub rest_all : (words : List ℕ) (at : ℕ) → take (length words - at) (drop at words) ≡ drop at words
rest_all words at = let size : length (drop at words) ≡ length words - at = length-drop at words in take_all (length words - at) (drop at words) (omega arith)

-- from the rows of a part of the words to those of all words
pub skips-on : (codes : List CodePair) (schema words : List ℕ) (d : Dependency) (at i : ℕ) (p : Position) → From schema words at i
    → Skips codes schema (drop at words) d p
    → From schema words (at + p.at) (i + p.number)
    × (first_pair_from (dependency_of d) i (database_read codes schema (drop at words)) ≡ first_pair_from (dependency_of d) (i + p.number)
    (database_read codes schema (drop (at + p.at) words)))
skips-on codes schema words d at i p f k =
    let e : drop p.at (drop at words) ≡ drop (at + p.at) words = drop-drop p.at at words in
    let size : length (drop at words) ≡ length words - at = length-drop at words in
    let inside : p.at ≤ length (drop at words) = k.from.inside in
    let low : at ≤ length words = f.inside in
    let counted : p.number ≤ p.at = k.from.counted in
    let before : i ≤ at = f.counted in (
      record { inside = omega arith; counted = omega arith; good = subst (λ (l : List ℕ). spells_rows schema l ≡ true) e k.from.good },
      k.same i ∙ ap (λ (l : List ℕ). first_pair_from (dependency_of d) (i + p.number) (database_read codes schema l)) e,
    )
