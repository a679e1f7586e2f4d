-- The hash is a function of the left values, and it is taken from the mask bit by bit. Assumes nothing.
use mathlib.Core.Path.{◌≡◌, refl, ap, sym, ◌∙◌}
use mathlib.Core.Logic.{◌⊎◌, ⊎_elim}
use mathlib.Core.List.Memᴰ
use mathlib.Core.List.{List, [], ◌∷◌}
use Prim.Native.Nat.{ℕ, zero, suc, ◌+◌, ◌-◌, ◌*◌, ◌/◌, ◌%◌, ◌^◌, ◌≤◌, ◌<◌}
use native.Mathlib.Nat.{mod-lt, div-lt_iff_lt-mul, pow-suc}
use native.Mathlib.Omega.{arith}
use lib.ListN.{length, get_or}
use Rattle.theory.specs.Query.{Row, column}
use Rattle.theory.specs.Database.{Dependency, Agree}
use Rattle.theory.specs.Codes.{CodePair, read_code}
use Rattle.query.specs.View.{columns_from, columns_of}
use Rattle.query.proofs.Stored.{no-columns}
use Rattle.words.specs.internal.Rows.{span_read}
use Rattle.words.proofs.Columns.{columns-short, columns-set, columns-clear, span-value}
use Rattle.grouping.specs.internal.Hash.{hash_from, spread}
use Rattle.grouping.specs.internal.Groups.{Together}

-- rows with the same values in the columns have the same hash
pub hash-agree : (factor : ℕ) (cs : List ℕ) (h : ℕ) (r s : Row ℕ) → Agree 0 cs r s → hash_from factor cs h r ≡ hash_from factor cs h s
unfolding hash_from
hash-agree factor [] h r s a = refl
hash-agree factor (c ∷ cs) h r s a =
    ap (λ (x : ℕ). hash_from factor cs ((h * factor + x) % 4294967296) r) (a c (Memᴰ.head refl))
    ∙ hash-agree factor cs ((h * factor + column 0 s c) % 4294967296) r s (λ b m. a b (Memᴰ.tail m))

-- so they are in one group
pub together-agree : (buckets : ℕ) (d : Dependency) (r s : Row ℕ) → Agree 0 d.left r s → Together buckets d r s
together-agree buckets d r s a = (ap (spread buckets) (hash-agree 1000003 d.left 0 r s a), hash-agree 2654435761 d.left 0 r s a)

-- a mask that is not 0 has a column below n, and what is left of it without its first bit is below n - 1
pub mask-some : (n mask : ℕ) → mask < 2 ^ n → (mask ≡ 0 → ⊥) → 0 < n
mask-some zero mask below left = absurd (left (omega arith))
mask-some (suc n) mask below left = omega arith

pub mask-half : (n mask : ℕ) → 0 < n → mask < 2 ^ n → mask / 2 < 2 ^ (n - 1)
mask-half zero mask some below = absurd (omega arith)
mask-half (suc n) mask some below =
    let e : suc n - 1 ≡ n = omega arith in
    rw e ((div-lt_iff_lt-mul {k = 2} {x = mask} {y = 2 ^ n} (omega arith)).1 (rw (pow-suc 2 n) at below))

module _ (codes : List CodePair) (factor width : ℕ) (words : List ℕ) (a : ℕ) where
  -- the hash with the columns of a mask that starts at column c
  pub hash_at : ℕ → ℕ → ℕ → ℕ
  hash_at c mask h = hash_from factor (columns_from c (width - c) mask) h (span_read codes width words a)

  pub hash-start : (mask : ℕ) → width ≤ 8 → mask < 2 ^ width → hash_from factor (columns_of mask) 0 (span_read codes width words a) ≡ hash_at 0 mask 0
  unfolding hash_at
  hash-start mask h below =
      let e : width - 0 ≡ width = omega arith in
      rw (e, columns-short 0 8 width mask h below)

  pub hash-skip : (c mask h : ℕ) → c < width → (mask % 2 ≡ 1 → ⊥) → hash_at c mask h ≡ hash_at (c + 1) (mask / 2) h
  unfolding hash_at
  hash-skip c mask h l clear =
      let e : width - c ≡ suc (width - (c + 1)) = omega arith in
      let f : c + 1 ≡ suc c = omega arith in
      rw (e, columns-clear c (width - (c + 1)) mask clear, f)

  pub hash-mix : (c mask h : ℕ) → c < width → a + 1 + width ≤ length words → mask % 2 ≡ 1
      → hash_at c mask h ≡ hash_at (c + 1) (mask / 2) ((h * factor + read_code codes (get_or words (a + 1 + c) 0)) % 4294967296)
  unfolding hash_at hash_from
  hash-mix c mask h l room bit =
      let e : width - c ≡ suc (width - (c + 1)) = omega arith in
      let f : c + 1 ≡ suc c = omega arith in
      rw (e, columns-set c (width - (c + 1)) mask bit, f)
      (ap (λ (x : ℕ). hash_from factor (columns_from (suc c) (width - suc c) (mask / 2)) ((h * factor + x) % 4294967296) (span_read codes width words a))
      (span-value codes width words a c l room))

  pub hash-end : (c mask h : ℕ) → mask ≡ 0 → hash_at c mask h ≡ h
  unfolding hash_at hash_from
  hash-end c mask h e = rw (e, no-columns c (width - c))

  -- one column passed: its value is mixed in if it is in the mask
  abbrev pub Mixed : ℕ → ℕ → ℕ → ℕ → Type 0
  Mixed c mask h new = ((mask % 2 ≡ 1) × (new ≡ (h * factor + read_code codes (get_or words (a + 1 + c) 0)) % 4294967296)) ⊎ ((mask % 2 ≡ 1 → ⊥) × (new ≡ h))

  pub hash-on : (c mask h new : ℕ) → c < width → a + 1 + width ≤ length words → Mixed c mask h new → hash_at c mask h ≡ hash_at (c + 1) (mask / 2) new
  hash-on c mask h new l room =
      ⊎_elim (λ w. hash-mix c mask h l room w.0 ∙ ap (hash_at (c + 1) (mask / 2)) (sym w.1))
      (λ w. hash-skip c mask h l w.0 ∙ ap (hash_at (c + 1) (mask / 2)) (sym w.1))

  pub hash-low : (c mask h new : ℕ) → h < 4294967296 → Mixed c mask h new → new < 4294967296
  hash-low c mask h new l =
      ⊎_elim (λ w. let e : new ≡ (h * factor + read_code codes (get_or words (a + 1 + c) 0)) % 4294967296 = w.1 in
      omega (arith, mod-lt (h * factor + read_code codes (get_or words (a + 1 + c) 0)) {m = 4294967296} (omega arith)))
      (λ w. let e : new ≡ h = w.1 in omega arith)
