-- A byte and an entry at the front of some bytes, by tests on them.
use mathlib.Core.Path.{◌≡◌, refl, ap, ◌∙◌}
use mathlib.Core.Bool.{Bool, true, false}
use mathlib.Core.List.{List, [], ◌∷◌}
use Prim.Native.Nat.{ℕ, ◌≤◌, ◌<◌}
use native.Mathlib.Omega.{arith}
use lib.ListN.{length, get_or, drop}
use borrow.Author.Tests.{le-leb, lt-leb}
use Rattle.lists.specs.Tests.{between}
use Rattle.format.specs.Format.{none, got, got_if, get_byte}
use Rattle.format.specs.Bytes.{number}
use Rattle.format.specs.Parts.{entry, is_entry, entry_from}
use Rattle.query.specs.declared.Entry.TheVariants.{Constant, Variable}
use Rattle.parsing.proofs.Values.{if-good, if-bad}
use lib.Dec.{leb}

-- ---- limits

pub within : (low high b : ℕ) → low ≤ b → b ≤ high → between low high b ≡ true
within low high b l h = rw (le-leb low b l, le-leb b high h)

pub below : (low high b : ℕ) → b < low → between low high b ≡ false
below low high b l = rw (lt-leb low b l)

pub above : (low high b : ℕ) → high < b → between low high b ≡ false
above low high b h = rw (lt-leb b high h) (mathlib.Core.Bool.and-false (leb low b))

-- ---- a byte

module _ (test : ℕ → Bool) where
  pub no-byte : (s : List ℕ) → length s ≡ 0 → none ≡ get_byte test s
  unfolding get_byte
  no-byte [] e = refl
  no-byte (b ∷ s) e = absurd (omega arith)

  module _ (s : List ℕ) (b : ℕ) (rest : List ℕ) (is : s ≡ b ∷ rest) where
    pub byte-bad : test b ≡ false → none ≡ get_byte test s
    unfolding get_byte got_if
    byte-bad t = rw (is, t)

    pub byte-good : test b ≡ true → got b rest ≡ get_byte test s
    unfolding get_byte got_if
    byte-good t = rw (is, t)

-- ---- an entry

pub entry-short : (s : List ℕ) → length s < 5 → none ≡ entry.get s
unfolding entry got_if
entry-short s h = rw (lt-leb 5 (length s) h)

pub constant-good : (tag n : ℕ) → tag ≡ 0 → n ≤ 2147483647 → is_entry tag n ≡ true
constant-good tag n z h = rw (z, le-leb n 2147483647 h)

pub constant-bad : (tag n : ℕ) → tag ≡ 0 → 2147483647 < n → is_entry tag n ≡ false
constant-bad tag n z h = rw (z, lt-leb n 2147483647 h)

pub variable-good : (tag n : ℕ) → tag ≡ 1 → n ≤ 95 → is_entry tag n ≡ true
variable-good tag n z h = rw (z, le-leb n 95 h)

pub variable-bad : (tag n : ℕ) → tag ≡ 1 → 95 < n → is_entry tag n ≡ false
variable-bad tag n z h = rw (z, lt-leb n 95 h)

pub tag-bad : (tag n : ℕ) → (tag ≡ 0 → ⊥) → (tag ≡ 1 → ⊥) → is_entry tag n ≡ false
tag-bad tag n z o = rw (lt-leb tag 1 (omega (arith, z, o)))

-- an entry of which there are 5 bytes
module _ (s : List ℕ) (n : ℕ) (h : 5 ≤ length s) (e : n ≡ number 4 (drop 1 s)) where
  entry_is : entry.get s ≡ got_if (is_entry (get_or s 0 0) n) (entry_from (get_or s 0 0) n) (drop 5 s)
  unfolding entry
  entry_is = rw (le-leb 5 (length s) h, e)

  pub no-entry : is_entry (get_or s 0 0) n ≡ false → none ≡ entry.get s
  no-entry t = if-bad (entry.get s) (is_entry (get_or s 0 0) n) (entry_from (get_or s 0 0) n) (drop 5 s) entry_is t

  module _ (rest : List ℕ) (er : rest ≡ drop 5 s) where
    pub constant-entry : get_or s 0 0 ≡ 0 → n ≤ 2147483647 → got (record { entry = Constant n }) rest ≡ entry.get s
    constant-entry z l =
        if-good (entry.get s) (is_entry (get_or s 0 0) n) (record { entry = Constant n }) rest (drop 5 s)
        (entry_is ∙ ap (λ (tag : ℕ). got_if (is_entry (get_or s 0 0) n) (entry_from tag n) (drop 5 s)) z)
        (constant-good (get_or s 0 0) n z l) er

    pub variable-entry : get_or s 0 0 ≡ 1 → n ≤ 95 → got (record { entry = Variable n }) rest ≡ entry.get s
    variable-entry z l =
        if-good (entry.get s) (is_entry (get_or s 0 0) n) (record { entry = Variable n }) rest (drop 5 s)
        (entry_is ∙ ap (λ (tag : ℕ). got_if (is_entry (get_or s 0 0) n) (entry_from tag n) (drop 5 s)) z)
        (variable-good (get_or s 0 0) n z l) er
