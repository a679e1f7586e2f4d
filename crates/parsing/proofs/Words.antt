-- Little-endian numbers at a position, byte by byte and half by half.
use mathlib.Core.Path.{◌≡◌, ap, ◌∙◌}
use mathlib.Core.List.{List}
use Prim.Native.Nat.{ℕ, ◌+◌, ◌*◌}
use native.Mathlib.Omega.{arith}
use native.Mathlib.Nat.{add-zero}
use lib.ListN.{get_or, drop}
use lib.Seq.{get_or-drop, drop-drop}
use Rattle.format.specs.Bytes.{number}

pub number-two : (s : List ℕ) (at : ℕ) → number 2 (drop at s) ≡ get_or s at 0 + 256 * get_or s (at + 1) 0
unfolding number
number-two s at =
    let a : get_or (drop at s) 0 0 ≡ get_or s at 0 = get_or-drop at s 0 0 ∙ ap (λ (n : ℕ). get_or s n 0) (add-zero at) in
    let b : get_or (drop 1 (drop at s)) 0 0 ≡ get_or s (at + 1) 0 = get_or-drop 1 (drop at s) 0 0 ∙ get_or-drop at s 1 0 in
    rw (a, b) (omega arith)

halves : (s : List ℕ) → number 4 s ≡ number 2 s + 65536 * number 2 (drop 2 s)
unfolding number
halves s = rw (drop-drop 1 1 s, drop-drop 1 2 s) (omega arith)

pub number-four : (s : List ℕ) (at : ℕ) → number 4 (drop at s) ≡ number 2 (drop at s) + 65536 * number 2 (drop (at + 2) s)
number-four s at =
    let h : number 4 (drop at s) ≡ number 2 (drop at s) + 65536 * number 2 (drop 2 (drop at s)) = halves (drop at s) in
    h ∙ rw (drop-drop 2 at s)
