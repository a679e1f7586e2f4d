-- The code of an entry: how it is decoded, which codes are a constant's and which a variable's, and that it tells entries within the limits apart.
-- Assumes nothing.
use mathlib.Core.Path.{◌≡◌, refl, sym, ◌∙◌, ap}
use mathlib.Core.Bool.{Bool, true, false, cond}
use Prim.Native.Nat.{ℕ, ◌+◌, ◌-◌, ◌%◌, ◌≤◌, ◌<◌}
use native.Mathlib.Omega.{arith}
use lib.Dec.{ltb}
use borrow.Author.Tests.{ltb-true, ltb-false, lt-ltb, le-ltb}
use Rattle.theory.specs.Query as theory
use Rattle.theory.specs.Answer.{value_of}
use Rattle.theory.specs.Containment.{freeze}
use Rattle.query.specs.declared.Entry.TheVariants.{Constant, Variable}
use Rattle.query.specs.internal.Code.{decoded}
use Rattle.query.proofs.Stored.{Within}

-- ---- decoding

pub decoded-constant : (n : ℕ) → n < 2147483648 → decoded n ≡ Constant n
decoded-constant n h = ap (λ (t : Bool). cond t (Constant n) (Variable ((n - 2147483648) % 256))) (lt-ltb n 2147483648 h)

pub decoded-variable : (n : ℕ) → 2147483648 ≤ n → decoded n ≡ Variable ((n - 2147483648) % 256)
decoded-variable n h = ap (λ (t : Bool). cond t (Constant n) (Variable ((n - 2147483648) % 256))) (le-ltb n 2147483648 h)

-- A constant's code is below 2,147,483,648, a variable's is not
variable-constant : (v n : ℕ) → Variable v ≡ Constant n → ⊥
variable-constant v n e = let z : ◌≡◌ {A = ℕ} 0 1 = cc in omega arith

pub code-constant : (code n : ℕ) → decoded code ≡ Constant n → code < 2147483648
code-constant code n e = go (ltb code 2147483648) refl
  where
    go : (t : Bool) → ltb code 2147483648 ≡ t → code < 2147483648
    go true p = ltb-true code 2147483648 p
    go false p = absurd (variable-constant _ n (sym (decoded-variable code (ltb-false code 2147483648 p)) ∙ e))

pub code-variable : (code v : ℕ) → decoded code ≡ Variable v → (2147483648 ≤ code) × ((code - 2147483648) % 256 ≡ v)
code-variable code v e = go (ltb code 2147483648) refl
  where
    number : (w : ℕ) → Variable w ≡ Variable v → w ≡ v
    number w p = cc

    go : (t : Bool) → ltb code 2147483648 ≡ t → (2147483648 ≤ code) × ((code - 2147483648) % 256 ≡ v)
    go true p = absurd (variable-constant v code (sym e ∙ decoded-constant code (ltb-true code 2147483648 p)))
    go false p =
        let large : 2147483648 ≤ code = ltb-false code 2147483648 p in
        (large, number ((code - 2147483648) % 256) (sym (decoded-variable code large) ∙ e))

-- ---- entries of the theory

-- Entries within the limits that have one code are one
pub code_same : (x y : theory.Entry) → Within x → Within y → freeze 2147483648 x ≡ freeze 2147483648 y → x ≡ y
code_same (theory.constant m) (theory.constant n) h k e = ap theory.constant e
code_same (theory.constant m) (theory.variable w) h k e = let z : m ≡ 2147483648 + w = e in absurd (omega arith)
code_same (theory.variable v) (theory.constant n) h k e = let z : 2147483648 + v ≡ n = e in absurd (omega arith)
code_same (theory.variable v) (theory.variable w) h k e = let z : 2147483648 + v ≡ 2147483648 + w = e in ap theory.variable (omega arith)

-- An entry with a constant's code keeps its value under every assignment
pub code_fixed : (f : ℕ → theory.Entry) (x : theory.Entry) → freeze 2147483648 x < 2147483648 → value_of theory.constant f x ≡ x
code_fixed f (theory.constant n) h = refl
code_fixed f (theory.variable v) h = let z : 2147483648 + v < 2147483648 = h in absurd (omega arith)

-- The code of an entry within the limits is below 2,147,483,744
pub code_below : (x : theory.Entry) → Within x → freeze 2147483648 x < 2147483744
code_below (theory.constant n) h = omega arith
code_below (theory.variable v) h = omega arith
