-- Two rows of words, column by column: the left set of a dependency is taken from its mask bit by bit. Assumes nothing.
use mathlib.Core.Path.{◌≡◌, refl, ap, sym, ◌∙◌}
use mathlib.Core.Bool.{Bool, true, false, not, ◌&&◌, ◌||◌, false≢true}
use mathlib.Core.List.{List, ◌∷◌}
use Prim.Native.Nat.{ℕ, zero, suc, ◌+◌, ◌-◌, ◌/◌, ◌%◌, ◌^◌, ◌≤◌, ◌<◌}
use native.Mathlib.Nat.{div-lt_iff_lt-mul, div-div-eq-div-mul, pow-suc}
use native.Mathlib.Numerals.{add-one}
use native.Mathlib.Omega.{arith}
use lib.Dec.{eqb}
use borrow.Author.Tests.{eqb-true, eqb-false, eq-eqb, ne_eqb}
use lib.ListN.{length, take, drop, get_or, get_or-map, set, length-drop, length-set}
use lib.Seq.{ext_get_or, get_or-take, get_or-drop, length-take-le, get_or-set_same, get_or-set_other}
use mathlib.Core.Logic.{⊎_elim}
use Rattle.lists.proofs.Tests.{below-or-past}
use Rattle.std.proofs.lemmas.List as lists
use Rattle.std.specs.List.{list_all, range_with_len}
use Rattle.theory.specs.Query.{constant, column, map_row, same_entry}
use Rattle.theory.specs.Chase.{agree, breaks}
use Rattle.theory.specs.Codes.{CodePair, read_code}
use Rattle.query.specs.View.{columns_from, columns_of, dependency_of}
use Rattle.query.specs.declared.Dependency.{Dependency}
use Rattle.query.proofs.Stored.{no-columns}
use Rattle.words.specs.internal.Rows.{span_read, agree_rows}
use Rattle.words.specs.Testing.{breaks_rows}

-- ---- the columns of a mask

-- a mask below 2 ^ width has no columns from `width` on
pub columns-short : (start n width mask : ℕ) → width ≤ n → mask < 2 ^ width → columns_from start n mask ≡ columns_from start width mask
unfolding columns_from
columns-short start n zero mask h below =
    let z : mask ≡ 0 = omega arith in ap (λ (m : ℕ). columns_from start n m) z ∙ no-columns start n
columns-short start zero (suc width) mask h below = absurd (omega arith)
columns-short start (suc n) (suc width) mask h below =
    let half : mask / 2 < 2 ^ width = (div-lt_iff_lt-mul {k = 2} {x = mask} {y = 2 ^ width} (omega arith)).1 (rw (pow-suc 2 width) at below) in
    rw (columns-short (suc start) n width (mask / 2) (omega arith) half)

-- the first bit is set, or it is not
pub columns-set : (start n mask : ℕ) → mask % 2 ≡ 1 → columns_from start (suc n) mask ≡ start ∷ columns_from (suc start) n (mask / 2)
unfolding columns_from
columns-set start n mask h = rw (eq-eqb (mask % 2) 1 h)

pub columns-clear : (start n mask : ℕ) → (mask % 2 ≡ 1 → ⊥) → columns_from start (suc n) mask ≡ columns_from (suc start) n (mask / 2)
unfolding columns_from
columns-clear start n mask h = rw (ne_eqb (mask % 2) 1 h)

-- the mask without its first columns, one column on
pub next-column : (mask c : ℕ) → mask / 2 ^ c / 2 ≡ mask / 2 ^ (c + 1)
next-column mask c = div-div-eq-div-mul mask (2 ^ c) 2 ∙ ap (λ (k : ℕ). mask / k) (sym (pow-suc 2 c) ∙ ap (λ (n : ℕ). 2 ^ n) (sym (add-one c)))

-- ---- the columns of a row

-- column c of the row at a word, as it is read
pub span-value : (codes : List CodePair) (width : ℕ) (words : List ℕ) (at c : ℕ) → c < width → at + 1 + width ≤ length words
    → column 0 (span_read codes width words at) c ≡ read_code codes (get_or words (at + 1 + c) 0)
span-value codes width words at c h room =
    let e : suc at + c ≡ at + 1 + c = omega arith in
    let size : length (drop (suc at) words) ≡ length words - suc at = length-drop (suc at) words in
    let due : length (take width (drop (suc at) words)) ≡ width = length-take-le width (drop (suc at) words) (omega arith) in
    lists.get_or-map (read_code codes) (take width (drop (suc at) words)) c 0 0 (omega arith)
    ∙ ap (read_code codes) (get_or-take width (drop (suc at) words) c 0 h ∙ get_or-drop (suc at) words c 0 ∙ ap (λ (n : ℕ). get_or words n 0) e)

pub span-column : (codes : List CodePair) (width : ℕ) (words : List ℕ) (at c : ℕ) → c < width → at + 1 + width ≤ length words
    → column (constant 0) (map_row constant (span_read codes width words at)) c ≡ constant (read_code codes (get_or words (at + 1 + c) 0))
span-column codes width words at c h room =
    get_or-map constant (span_read codes width words at).values c 0 ∙ ap constant (span-value codes width words at c h room)

-- The values of the row at a word, read up to column c
pub record ReadTo (codes : List CodePair) (words : List ℕ) (at : ℕ) (row : List ℕ) (c : ℕ) : Type 0 where
  pub size : length row ≡ 8
  pub done : (d : ℕ) → d < c → get_or row d 0 ≡ read_code codes (get_or words (at + 1 + d) 0)

module _ (codes : List CodePair) (words : List ℕ) (at : ℕ) (row : List ℕ) (c : ℕ) where
  pub read-more : (x : ℕ) → ReadTo codes words at row c → c < 8 → x ≡ read_code codes (get_or words (at + 1 + c) 0)
      → ReadTo codes words at (set row c x) (c + 1)
  read-more x r low is =
      record {
        size = length-set row c x ∙ r.size;
        done =
            λ d less. ⊎_elim
            (λ before. get_or-set_other row c d x 0 (λ same. omega arith) ∙ r.done d before)
            (λ past.
            let same : d ≡ c = omega arith in
            ap (λ (n : ℕ). get_or (set row c x) n 0) same ∙ get_or-set_same row c x 0 (omega (arith, r.size)) ∙ is
            ∙ ap (λ (n : ℕ). read_code codes (get_or words (at + 1 + n) 0)) (sym same)) (below-or-past d c);
      }

  pub read-all : (width : ℕ) → ReadTo codes words at row c → width ≤ c → width ≤ 8 → at + 1 + width ≤ length words
      → take width row ≡ (span_read codes width words at).values
  read-all width r past narrow room =
      let size : length (take width row) ≡ width = length-take-le width row (omega (arith, r.size)) in
      let rest : length (drop (suc at) words) ≡ length words - suc at = length-drop (suc at) words in
      let due : length (take width (drop (suc at) words)) ≡ width = length-take-le width (drop (suc at) words) (omega arith) in
      let same : length (span_read codes width words at).values ≡ width = lists.length-map (take width (drop (suc at) words)) (read_code codes) ∙ due in
      ext_get_or 0 (take width row) (span_read codes width words at).values (size ∙ sym same)
      (λ d low.
      let less : d < width = omega arith in
      get_or-take width row d 0 less ∙ r.done d (omega arith) ∙ sym (span-value codes width words at d less room))

module _ (codes : List CodePair) (width : ℕ) (words : List ℕ) (a b : ℕ) (room-a : a + 1 + width ≤ length words) (room-b : b + 1 + width ≤ length words) where
  -- whether the two rows agree on the columns of a mask that starts at column c
  pub agree_from : ℕ → ℕ → Bool
  agree_from c mask =
      agree (columns_from c (width - c) mask) (map_row constant (span_read codes width words a)) (map_row constant (span_read codes width words b))

  -- the two rows have the same value in a column exactly when their words there are equal
  pub same-column : (c : ℕ) → c < width
      → same_entry (column (constant 0) (map_row constant (span_read codes width words a)) c)
      (column (constant 0) (map_row constant (span_read codes width words b)) c)
      ≡ eqb (read_code codes (get_or words (a + 1 + c) 0)) (read_code codes (get_or words (b + 1 + c) 0))
  unfolding same_entry
  same-column c h = rw (span-column codes width words a c h room-a, span-column codes width words b c h room-b)

  pub agree-start : (mask : ℕ) → width ≤ 8 → mask < 2 ^ width
      → agree (columns_of mask) (map_row constant (span_read codes width words a)) (map_row constant (span_read codes width words b)) ≡ agree_from 0 mask
  unfolding agree_from
  agree-start mask h below =
      let e : width - 0 ≡ width = omega arith in
      rw (e, columns-short 0 8 width mask h below)

  pub agree-skip : (c mask : ℕ) → c < width → (mask % 2 ≡ 1 → ⊥) → agree_from c mask ≡ agree_from (c + 1) (mask / 2)
  unfolding agree_from
  agree-skip c mask h clear =
      let e : width - c ≡ suc (width - (c + 1)) = omega arith in
      let f : c + 1 ≡ suc c = omega arith in
      rw (e, columns-clear c (width - (c + 1)) mask clear, f)

  pub agree_same : (c mask : ℕ) → c < width → mask % 2 ≡ 1 → read_code codes (get_or words (a + 1 + c) 0) ≡ read_code codes (get_or words (b + 1 + c) 0)
      → agree_from c mask ≡ agree_from (c + 1)
      (mask / 2)
  unfolding agree_from agree
  agree_same c mask h bit same =
      let e : width - c ≡ suc (width - (c + 1)) = omega arith in
      let f : c + 1 ≡ suc c = omega arith in
      rw (
        e,
        columns-set c (width - (c + 1)) mask bit,
        f,
        same-column c h,
        eq-eqb (read_code codes (get_or words (a + 1 + c) 0))
            (read_code codes (get_or words (b + 1 + c) 0)) same,
      )

  pub agree_differ : (c mask : ℕ) → c < width → mask % 2 ≡ 1 → (read_code codes (get_or words (a + 1 + c) 0) ≡ read_code codes (get_or words (b + 1 + c) 0) → ⊥)
      → agree_from c mask ≡ false
  unfolding agree_from agree
  agree_differ c mask h bit differ =
      let e : width - c ≡ suc (width - (c + 1)) = omega arith in
      rw (
        e,
        columns-set c (width - (c + 1)) mask bit,
        same-column c h,
        ne_eqb (read_code codes (get_or words (a + 1 + c) 0))
            (read_code codes (get_or words (b + 1 + c) 0)) differ,
      )

  -- past column c, where a column of the mask is the same in both rows
  pub agree-next : (mask c : ℕ) → c < width
      → (eqb (mask / 2 ^ c % 2) 1 ≡ true → read_code codes (get_or words (a + 1 + c) 0) ≡ read_code codes (get_or words (b + 1 + c) 0))
      → agree_from c (mask / 2 ^ c) ≡ agree_from (c + 1) (mask / 2 ^ (c + 1))
  agree-next mask c h same = go (eqb (mask / 2 ^ c % 2) 1) refl ∙ ap (λ (m : ℕ). agree_from (c + 1) m) (next-column mask c)
    where
      go : (x : Bool) → eqb (mask / 2 ^ c % 2) 1 ≡ x → agree_from c (mask / 2 ^ c) ≡ agree_from (c + 1) (mask / 2 ^ c / 2)
      go true e = agree_same c (mask / 2 ^ c) h (eqb-true (mask / 2 ^ c % 2) 1 e) (same e)
      go false e = agree-skip c (mask / 2 ^ c) h (λ is. absurd (false≢true (sym e ∙ eq-eqb (mask / 2 ^ c % 2) 1 is)))

  pub agree-end : (c mask : ℕ) → width ≤ c → agree_from c mask ≡ true
  unfolding agree_from agree columns_from
  agree-end c mask h = let e : width - c ≡ 0 = omega arith in rw e

  -- Whether each of n columns from c on is not of the mask or the same in both rows
  pub agree_all : (mask c n : ℕ) → n ≡ width - c
      → list_all (λ k. not (eqb (mask / 2 ^ k % 2) 1) || eqb (read_code codes (get_or words (a + 1 + k) 0)) (read_code codes (get_or words (b + 1 + k) 0)))
      (range_with_len c n)
      ≡ agree_from c (mask / 2 ^ c)
  agree_all mask c zero size = sym (agree-end c (mask / 2 ^ c) (omega arith))
  agree_all mask c (suc n) size =
      go (eqb (mask / 2 ^ c % 2) 1) refl (eqb (read_code codes (get_or words (a + 1 + c) 0)) (read_code codes (get_or words (b + 1 + c) 0))) refl
      (agree_all mask (c + 1) n (omega arith))
    where
      go : (t : Bool) → eqb (mask / 2 ^ c % 2) 1 ≡ t → (u : Bool)
          → eqb (read_code codes (get_or words (a + 1 + c) 0)) (read_code codes (get_or words (b + 1 + c) 0)) ≡ u → {rest : Bool}
          → rest ≡ agree_from (c + 1) (mask / 2 ^ (c + 1)) → (not t || u) && rest ≡ agree_from c (mask / 2 ^ c)
      go true e true f later = later ∙ sym (agree-next mask c (omega arith) (λ _. eqb-true _ _ f))
      go true e false f later = sym (agree_differ c (mask / 2 ^ c) (omega arith) (eqb-true (mask / 2 ^ c % 2) 1 e) (eqb-false _ _ f))
      go false e u f later = later ∙ sym (agree-next mask c (omega arith) (λ set. absurd (false≢true (sym e ∙ set))))

  -- two rows of the dependency's relation break it when they agree on the left and differ on the right
  pub breaks-spans : (d : Dependency) → get_or words a 0 ≡ d.relation → get_or words b 0 ≡ d.relation → d.right < width
      → breaks_rows (dependency_of d) (span_read codes width words a) (span_read codes width words b)
      ≡ agree_rows (dependency_of d) (span_read codes width words a) (span_read codes width words b) && not
      (eqb (read_code codes (get_or words (a + 1 + d.right) 0)) (read_code codes (get_or words (b + 1 + d.right) 0)))
  unfolding breaks
  breaks-spans d ra rb right = rw (eq-eqb (get_or words a 0) d.relation ra, eq-eqb (get_or words b 0) d.relation rb, same-column d.right right)
