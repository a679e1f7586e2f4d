-- What an exported call does with its result: the number that it returns, and what it leaves in the buffers and numbers that it is lent.
use Rattle.std.specs.Prelude.{◌≡◌, cond, List, ℕ, leb, length}
use Rattle.refusals.specs.Refusals.{buffer_too_short, gives, refused, Reply}
use Rattle.lists.specs.Over.{over}

-- The number that a call returns: 0 where it is accepted, else that of the refusal (SPECIFICATION, Refusals)
abbrev pub returned : {A : Type 0} → Reply A → ℕ
returned (gives a) = 0
returned (refused n) = n

-- What a call leaves in what it is lent: a value of its result, and what was there where it is refused
abbrev pub leaves : {A B : Type 0} → Reply A → (A → B) → B → B
leaves (gives a) value before = value a
leaves (refused n) value before = before

-- Bytes for a buffer with so much room. Refused: buffer_too_short, they are longer than it. Every call asks this last of all
abbrev pub fitted : ℕ → List ℕ → Reply (List ℕ)
fitted room bytes = cond (leb (length bytes) room) (gives bytes) (refused buffer_too_short)

-- What a call that gives bytes returns and leaves: the bytes over the start of the buffer, and their length
abbrev pub Wrote : Reply (List ℕ) → List ℕ → ℕ → ℕ → List ℕ → ℕ → Type 0
Wrote result buffer count number after count_after =
    (number ≡ returned result) × (after ≡ leaves result (λ bytes. over buffer 0 bytes) buffer) × (count_after ≡ leaves result length count)
