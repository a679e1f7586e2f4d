-- Pairs of codes by their bytes: one at the front of some bytes, and what is left of part 0 after the widths.
use mathlib.Core.Path.{◌≡◌, refl, sym, ap, ◌∙◌}
use mathlib.Core.Bool.{Bool, true, false}
use mathlib.Core.List.{List, [], ◌∷◌}
use Prim.Native.Nat.{ℕ, ◌≤◌, ◌<◌}
use native.Mathlib.Omega.{arith}
use lib.ListN.{length, drop}
use borrow.Author.Tests.{le-leb, lt-leb}
use Rattle.std.specs.Prelude.{None, Some}
use Rattle.query.specs.declared.CodePair.{CodePair}
use Rattle.query.specs.Rule.{good_codes}
use Rattle.refusals.specs.Refusals.{bad_code}
use Rattle.format.specs.Format.{none, got, got_if, read_if, such_that}
use Rattle.format.specs.Parts.{pair_at, code_pair, code_pairs, codes}
use Rattle.format.specs.File.{complete, no_codes, read_codes}
use Rattle.parsing.specs.internal.Read.{value_given}

-- ---- one pair

pub pair-short : (s : List ℕ) → length s < 8 → none ≡ code_pair.get s
unfolding code_pair got_if
pair-short s h = rw (lt-leb 8 (length s) h)

pub pair-found : (s : List ℕ) → 8 ≤ length s → (p : CodePair) → p ≡ pair_at s → (rest : List ℕ) → rest ≡ drop 8 s → got p rest ≡ code_pair.get s
unfolding code_pair got_if
pair-found s h p is rest er = rw (le-leb 8 (length s) h, is, er)

-- ---- what is left of part 0

pub no-bytes : (part : List ℕ) → length part ≡ 0 → Some no_codes ≡ value_given (read_codes part)
unfolding read_codes
no-bytes [] e = refl
no-bytes (b ∷ part) e = absurd (omega arith)

-- Bytes are to be those of pairs of codes
some_bytes : (part : List ℕ) → (length part ≡ 0 → ⊥) → read_codes part ≡ complete bad_code (codes.get part)
unfolding read_codes
some_bytes [] e = absurd (e refl)
some_bytes (b ∷ part) e = refl

-- Bytes are left, whether the pairs keep the rule or not
not-whole : (cs : ℕ × List CodePair) (rest : List ℕ) → (length rest ≡ 0 → ⊥) → (t : Bool) → value_given (complete bad_code (got_if t cs rest)) ≡ None
unfolding complete got_if
not-whole cs rest more false = refl
not-whole cs [] more true = absurd (more refl)
not-whole cs (b ∷ rest) more true = refl

module _ (part : List ℕ) (some : length part ≡ 0 → ⊥) where
  pub no-pairs : code_pairs.get part ≡ none → None ≡ value_given (read_codes part)
  unfolding codes such_that read_if complete
  no-pairs e = sym (ap value_given (some_bytes part some) ∙ rw e)

  module _ (cs : ℕ × List CodePair) where
    pub bytes-after : (rest : List ℕ) → code_pairs.get part ≡ got cs rest → (length rest ≡ 0 → ⊥) → None ≡ value_given (read_codes part)
    unfolding codes such_that read_if
    bytes-after rest e more = sym (ap value_given (some_bytes part some) ∙ rw e (not-whole cs rest more (good_codes cs.0 cs.1)))

    pub codes-judged : (rest : List ℕ) → code_pairs.get part ≡ got cs rest → length rest ≡ 0 → (t : Bool) → good_codes cs.0 cs.1 ≡ t
        → value_given (complete bad_code (got_if t cs [])) ≡ value_given (read_codes part)
    unfolding codes such_that read_if
    codes-judged [] e l t is = sym (ap value_given (some_bytes part some) ∙ rw (e, is))
    codes-judged (b ∷ rest) e l t is = absurd (omega arith)

    pub codes-bad : (rest : List ℕ) → code_pairs.get part ≡ got cs rest → length rest ≡ 0 → good_codes cs.0 cs.1 ≡ false → None ≡ value_given (read_codes part)
    unfolding complete got_if
    codes-bad rest e l is = codes-judged rest e l false is

    pub codes-found : (rest : List ℕ) → code_pairs.get part ≡ got cs rest → length rest ≡ 0 → good_codes cs.0 cs.1 ≡ true → Some cs ≡ value_given (read_codes part)
    unfolding complete got_if
    codes-found rest e l is = codes-judged rest e l true is
