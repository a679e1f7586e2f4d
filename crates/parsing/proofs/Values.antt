-- What the answer of a reader says of the format's reading.
use Rattle.std.proofs.Common.{◌≡◌, refl, sym, ap, ◌∙◌, true, false, Bool, List, ℕ, ◌-◌, None, Some, length, take, drop, arith, length-drop}
use lib.Seq.{take_all}
use Rattle.format.specs.Format.{Reading, none, got, got_if}
use Rattle.refusals.specs.Refusals.{Reply, gives, refused}
use Rattle.parsing.specs.internal.Read.{value_given}

-- The bytes from a position to the end, as a slice takes them
pub to_end : (k : ℕ) (s : List ℕ) → take (length s - k) (drop k s) ≡ drop k s
to_end k s = take_all (length s - k) (drop k s) (omega (arith, length-drop k s))

-- A good value, and one that is not
pub if-good : {A : Type 0} (o : Reading A) (t : Bool) (a : A) (rest left : List ℕ) → o ≡ got_if t a left → t ≡ true → rest ≡ left → got a rest ≡ o
unfolding got_if
if-good o t a rest left e h is = ap (got a) is ∙ sym (e ∙ ap (λ u. got_if u a left) h)

pub if-bad : {A : Type 0} (o : Reading A) (t : Bool) (a : A) (left : List ℕ) → o ≡ got_if t a left → t ≡ false → none ≡ o
unfolding got_if
if-bad o t a left e h = sym (e ∙ ap (λ u. got_if u a left) h)

pub reply-bad : {A : Type 0} (o : Reply A) → None ≡ value_given o → (n : ℕ) × (o ≡ refused n)
reply-bad (gives a) e = cc
reply-bad (refused n) e = (n, refl)

pub reply-some : {A : Type 0} (o : Reply A) (a : A) → Some a ≡ value_given o → o ≡ gives a
reply-some (gives b) a e = let same : b ≡ a = cc in ap (λ c. gives c) same
reply-some (refused n) a e = cc
