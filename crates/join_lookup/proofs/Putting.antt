-- A row's values put in the columns of a set, one by one. Assumes nothing.
use mathlib.Core.Path.{◌≡◌, sym, ap, ◌∙◌}
use mathlib.Core.Logic.{⊎_elim}
use mathlib.Core.List.{List}
use Prim.Native.Nat.{ℕ, ◌+◌, ◌/◌, ◌%◌, ◌^◌, ◌<◌}
use native.Mathlib.Omega.{arith}
use lib.ListN.{get_or, set, length, length-set}
use lib.Seq.{get_or-set_same, get_or-set_other}
use Rattle.lists.proofs.Tests.{below-or-past}
use Rattle.theory.specs.Codes.{CodePair}
use Rattle.theory.specs.Codes.{read_code}
use Rattle.join_lookup.proofs.Bits.{BitOf}

-- The columns of the set before column c are the row's, the others are as they were
pub record PutIn (codes : List CodePair) (words : List ℕ) (at mask : ℕ) (values row : List ℕ) (c : ℕ) : Type 0 where
  pub size : length row ≡ 8
  pub new : (d : ℕ) → d < c → BitOf mask d → get_or row d 0 ≡ read_code codes (get_or words (at + 1 + d) 0)
  pub old : (d : ℕ) → (BitOf mask d → ⊥) → get_or row d 0 ≡ get_or values d 0

pub put-here : (codes : List CodePair) (words : List ℕ) (at mask : ℕ) (values row : List ℕ) (c x : ℕ) → PutIn codes words at mask values row c → c < 8
    → BitOf mask c
    → x ≡ read_code codes (get_or words (at + 1 + c) 0) → PutIn codes words at mask values (set row c x) (c + 1)
put-here codes words at mask values row c x p h bit e =
    record {
      size = length-set row c x ∙ p.size;
      new =
          λ d l b. ⊎_elim
          (λ low. get_or-set_other row c d x 0 (λ same. omega arith) ∙ p.new d low b)
          (λ high. let same : d ≡ c = omega arith in
          ap (λ (n : ℕ). get_or (set row c x) n 0) same ∙ get_or-set_same row c x 0 (omega (arith, p.size)) ∙ e
          ∙ ap (λ (n : ℕ). read_code codes (get_or words (at + 1 + n) 0)) (sym same)) (below-or-past d c);
      old = λ d clear. get_or-set_other row c d x 0 (λ same. clear (ap (λ (n : ℕ). mask / 2 ^ n % 2) same ∙ bit)) ∙ p.old d clear;
    }

pub put-not : (codes : List CodePair) (words : List ℕ) (at mask : ℕ) (values row : List ℕ) (c : ℕ) → PutIn codes words at mask values row c → (BitOf mask c → ⊥)
    → PutIn codes words at mask values row (c + 1)
put-not codes words at mask values row c p clear =
    record {
      size = p.size;
      new =
          λ d l b. ⊎_elim (λ low. p.new d low b)
          (λ high. let same : d ≡ c = omega arith in absurd (clear (ap (λ (n : ℕ). mask / 2 ^ n % 2) (sym same) ∙ b))) (below-or-past d c);
      old = p.old;
    }
