-- Formats: which values are good, how they are written as bytes, and how they are read off the front of some bytes.
-- The two laws of a format are `Lawful`; that they hold is in `proofs/`.
use Rattle.std.specs.Prelude.{◌≡◌, Bool, true, false, ◌&&◌, ℕ, zero, suc, eqb, length, take}
use mathlib.Core.List.{List, [], ◌∷◌, ◌++◌, flat_map}
use Rattle.lists.specs.Tests.{in_use}
use Rattle.lists.specs.Over.{pad}
use Rattle.format.specs.Bytes.{Bytes}

-- What is read off the front of some bytes: nothing good, or a value and the bytes after it
pub data Reading (A : Type 0) : Type 0 where
  none : Reading A
  got : A → List ℕ → Reading A

-- Go on with the value and the rest, if something good was read
unfoldable pub then_read : {A B : Type 0} → Reading A → (A → List ℕ → Reading B) → Reading B
then_read none next = none
then_read (got a rest) next = next a rest

-- The same reading with another value
unfoldable pub map_reading : {A B : Type 0} → (A → B) → Reading A → Reading B
map_reading f none = none
map_reading f (got a rest) = got (f a) rest

-- A value and the rest, if a test passes
unfoldable pub got_if : {A : Type 0} → Bool → A → List ℕ → Reading A
got_if true a rest = got a rest
got_if false a rest = none

-- The same reading, if its value passes a test
unfoldable pub read_if : {A : Type 0} → (A → Bool) → Reading A → Reading A
read_if test none = none
read_if test (got a rest) = got_if (test a) a rest

-- A format: the good values, their bytes, and a reader
pub record Format (A : Type 0) : Type 0 where
  pub good : A → Bool
  pub put : A → List ℕ
  pub get : List ℕ → Reading A

-- The two laws of a format: what is written is read back, and what is read was good and is written as the same bytes
pub record Lawful {A : Type 0} (f : Format A) : Type 0 where
  pub get-put : (a : A) (rest : List ℕ) → f.good a ≡ true → f.get (f.put a ++ rest) ≡ got a rest
  pub put-get : (bytes : List ℕ) (a : A) (rest : List ℕ) → Bytes bytes → f.get bytes ≡ got a rest → (f.good a ≡ true) × (f.put a ++ rest ≡ bytes)

-- A byte that passes a test is read off the front
unfoldable pub get_byte : (ℕ → Bool) → List ℕ → Reading ℕ
get_byte test [] = none
get_byte test (b ∷ bytes) = got_if (test b) b bytes

-- A byte that passes a test
unfoldable pub byte : (ℕ → Bool) → Format ℕ
byte test = record { good = test; put = λ b. b ∷ []; get = get_byte test }

-- One value and then another, whose format the first decides
unfoldable pub sequence : {A B : Type 0} → Format A → (A → Format B) → Format (A × B)
sequence f g =
    record {
      good = λ p. f.good p.0 && (g p.0).good p.1;
      put = λ p. f.put p.0 ++ (g p.0).put p.1;
      get = λ bytes. then_read (f.get bytes) (λ a rest. map_reading (λ b. (a, b)) ((g a).get rest));
    }

-- n values are read one after the other
unfoldable pub get_times : {A : Type 0} → (List ℕ → Reading A) → ℕ → List ℕ → Reading (List A)
get_times get zero bytes = got [] bytes
get_times get (suc n) bytes = then_read (get bytes) (λ x rest. map_reading (λ xs. x ∷ xs) (get_times get n rest))

-- An array whose first n elements are in use, those alone being written
unfoldable pub padded : {A : Type 0} → ℕ → A → (A → Bool) → ℕ → Format A → Format (List A)
padded total blank is_blank n f =
    record {
      good = λ xs. eqb (length xs) total && in_use n f.good is_blank xs;
      put = λ xs. flat_map f.put (take n xs);
      get = λ bytes. map_reading (pad total blank) (get_times f.get n bytes);
    }

-- Values of A held as values of B, those of the right shape
unfoldable pub via : {A B : Type 0} → (B → Bool) → (A → B) → (B → A) → Format A → Format B
via shaped hold release f =
    record {
      good = λ b. shaped b && f.good (release b);
      put = λ b. f.put (release b);
      get = λ bytes. map_reading hold (f.get bytes);
    }

-- The values of a format that pass a further test
unfoldable pub such_that : {A : Type 0} → (A → Bool) → Format A → Format A
such_that test f = record { good = λ a. f.good a && test a; put = f.put; get = λ bytes. read_if test (f.get bytes) }
