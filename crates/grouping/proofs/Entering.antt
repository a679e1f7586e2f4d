-- Entering a leader: its four words are new, and those of the leaders before it stay. Assumes nothing.
use mathlib.Core.Path.{◌≡◌, ◌∙◌}
use mathlib.Core.List.{List}
use Prim.Native.Nat.{ℕ, ◌+◌, ◌*◌, ◌<◌}
use native.Mathlib.Omega.{arith}
use lib.ListN.{length, get_or, set, length-set}
use lib.Seq.{get_or-set_same, get_or-set_other}
use Rattle.grouping.specs.internal.Leaders.{link_of, position_of, right_in, tag_in, with_leader}
use Rattle.grouping.specs.declared.Sought.{Sought}

module _ (N : List ℕ) (s link number : ℕ) (q : Sought) where
  one : List ℕ
  one = set N (4 * s) link

  two : List ℕ
  two = set one (4 * s + 1) number

  three : List ℕ
  three = set two (4 * s + 2) q.right

  size-one : length one ≡ length N
  unfolding one
  size-one = length-set N (4 * s) link

  size-two : length two ≡ length N
  unfolding two
  size-two = length-set one (4 * s + 1) number ∙ size-one

  size-three : length three ≡ length N
  unfolding three
  size-three = length-set two (4 * s + 2) q.right ∙ size-two

  pub enter-length : length (with_leader N s link number q) ≡ length N
  unfolding one two three
  enter-length = length-set three (4 * s + 3) q.tag ∙ size-three

  pub enter-below : (i : ℕ) → i < 4 * s → get_or (with_leader N s link number q) i 0 ≡ get_or N i 0
  unfolding one two three
  enter-below i h =
      get_or-set_other three (4 * s + 3) i q.tag 0 (λ (e : i ≡ 4 * s + 3). absurd (omega arith))
      ∙ get_or-set_other two (4 * s + 2) i q.right 0 (λ (e : i ≡ 4 * s + 2). absurd (omega arith))
      ∙ get_or-set_other one (4 * s + 1) i number 0 (λ (e : i ≡ 4 * s + 1). absurd (omega arith))
      ∙ get_or-set_other N (4 * s) i link 0 (λ (e : i ≡ 4 * s). absurd (omega arith))

  module _ (room : 4 * s + 3 < length N) where
    pub enter-link : link_of (with_leader N s link number q) s ≡ link
    unfolding one two three
    enter-link =
        get_or-set_other three (4 * s + 3) (4 * s) q.tag 0 (λ (e : 4 * s ≡ 4 * s + 3). absurd (omega arith))
        ∙ get_or-set_other two (4 * s + 2) (4 * s) q.right 0 (λ (e : 4 * s ≡ 4 * s + 2). absurd (omega arith))
        ∙ get_or-set_other one (4 * s + 1) (4 * s) number 0 (λ (e : 4 * s ≡ 4 * s + 1). absurd (omega arith))
        ∙ get_or-set_same N (4 * s) link 0 (omega arith)

    pub enter-number : position_of (with_leader N s link number q) s ≡ number
    unfolding one two three
    enter-number =
        get_or-set_other three (4 * s + 3) (4 * s + 1) q.tag 0 (λ (e : 4 * s + 1 ≡ 4 * s + 3). absurd (omega arith))
        ∙ get_or-set_other two (4 * s + 2) (4 * s + 1) q.right 0 (λ (e : 4 * s + 1 ≡ 4 * s + 2). absurd (omega arith))
        ∙ get_or-set_same one (4 * s + 1) number 0 (omega (arith, size-one))

    pub enter-right : right_in (with_leader N s link number q) s ≡ q.right
    unfolding one two three
    enter-right =
        get_or-set_other three (4 * s + 3) (4 * s + 2) q.tag 0 (λ (e : 4 * s + 2 ≡ 4 * s + 3). absurd (omega arith))
        ∙ get_or-set_same two (4 * s + 2) q.right 0 (omega (arith, size-two))

    pub enter-tag : tag_in (with_leader N s link number q) s ≡ q.tag
    unfolding one two three
    enter-tag = get_or-set_same three (4 * s + 3) q.tag 0 (omega (arith, size-three))
