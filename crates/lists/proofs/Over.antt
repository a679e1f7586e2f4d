-- Laws of one list written over another: nothing, a store, adjacent runs; values in an array of blanks.
use mathlib.Core.Path.{◌≡◌, refl, sym, ap, ◌∙◌}
use mathlib.Core.List.{List, [], ◌∷◌, ◌++◌, append_assoc, append-nil}
use Prim.Native.Nat.{ℕ, suc, ◌+◌, ◌≤◌, ◌<◌}
use native.Mathlib.Nat.{add-zero, zero-add}
use native.Mathlib.Omega.{arith}
use lib.ListN.{length, take, drop, set, replicate, length-append, length-take, length-drop, length-replicate, take-append-drop}
use lib.Seq.{take_at, drop_at, take-suc-set, drop-set-lt, drop-drop}
use Rattle.lists.specs.Over.{over, pad}

module _ {A : Type 0} where
  -- With nothing over it a list is itself
  pub over-nil : (xs : List A) (i : ℕ) → over xs i [] ≡ xs
  over-nil xs i = rw (append-nil, add-zero) (take-append-drop i xs)

  -- A list is as long as before
  pub over-length : (xs ys : List A) (i : ℕ) → i + length ys ≤ length xs → length (over xs i ys) ≡ length xs
  over-length xs ys i h = simp (length-append, length-take, length-drop) (omega arith)

  -- A store at i, and the rest over it from i + 1 on
  pub over-set : (xs : List A) (i : ℕ) (x : A) (ys : List A) → i < length xs → over (set xs i x) (suc i) ys ≡ over xs i (x ∷ ys)
  over-set xs i x ys h =
      let e : take (suc i) (set xs i x) ≡ take i xs ++ (x ∷ []) = take-suc-set xs i x h in
      let n : suc i + length ys ≡ i + suc (length ys) = omega arith in
      let d : drop (suc i + length ys) (set xs i x) ≡ drop (i + suc (length ys)) xs = rw n (drop-set-lt (i + suc (length ys)) xs i x (omega arith)) in
      rw (e, d, append_assoc (take i xs) (x ∷ []) ys)

  -- Adjacent runs join
  pub over-over : (xs : List A) (i : ℕ) (ys zs : List A) → i + length ys + length zs ≤ length xs → over (over xs i ys) (i + length ys) zs ≡ over xs i (ys ++ zs)
  over-over xs i ys zs h =
      let l : length (take i xs ++ ys) ≡ i + length ys = length-append (take i xs) ys ∙ simp length-take (omega arith) in
      let t : take (i + length ys) (over xs i ys) ≡ take i xs ++ ys = take_at (take i xs ++ ys) (drop (i + length ys) xs) (i + length ys) l in
      let n : i + length ys + length zs ≡ i + length (ys ++ zs) = rw length-append (omega arith) in
      let d : drop (i + length ys + length zs) (over xs i ys) ≡ drop (i + length (ys ++ zs)) xs =
      sym (drop-drop (length zs) (i + length ys) (over xs i ys))
      ∙ ap (λ (r : List A). drop (length zs) r) (drop_at (take i xs ++ ys) (drop (i + length ys) xs) (i + length ys) l)
      ∙ drop-drop (length zs) (i + length ys) xs
      ∙ ap (λ (n : ℕ). drop n xs) n in
      rw (t, d, append_assoc (take i xs) ys zs)

  -- ---- an array that begins with some values

  -- The blanks follow the values
  pub pad-is : (n : ℕ) (blank : A) (xs : List A) → pad n blank xs ≡ xs ++ drop (length xs) (replicate n blank)
  unfolding pad
  pad-is n blank xs = rw zero-add

  -- The values are written over blanks
  pub pad-over : (n : ℕ) (blank : A) (xs : List A) → pad n blank xs ≡ over (replicate n blank) 0 xs
  unfolding pad
  pad-over n blank xs = refl

  pub length-pad : (n : ℕ) (blank : A) (xs : List A) → length xs ≤ n → length (pad n blank xs) ≡ n
  length-pad n blank xs h = ap length (pad-is n blank xs) ∙ simp (length-append, length-drop, length-replicate) (omega arith)
