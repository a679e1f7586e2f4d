-- What reading and writing come to together, in the words of the two calls' contracts. Each statement is proved in `proofs/RoundTrip`.
-- `Bytes` and `shaped` hold of every value that the calls can be given: bytes are below 256, and arrays as long as their types say.
use Rattle.std.specs.Prelude.{◌≡◌, true, List, ℕ, ◌≤◌, length, take, drop}
use Rattle.record.specs.declared.Record.{Record}
use Rattle.record.specs.Rule.{good_record}
use Rattle.refusals.specs.Refusals.{gives}
use Rattle.format.specs.Bytes.{Bytes}
use Rattle.format.specs.File.{read_file, read_outcome, shaped}
use Rattle.writer.specs.Write.{written, after_writing}

-- Reading these bytes is done and gives this record
abbrev pub Reads : List ℕ → Record → Type 0
Reads bytes r = read_outcome (read_file bytes) ≡ (gives tt, r)

-- Writing this record into this buffer answers this length
abbrev pub Writes : Record → List ℕ → ℕ → Type 0
Writes r buffer n = written r buffer ≡ gives n

-- A file that is read is written back as the same bytes into every buffer that has room, and the bytes after it stay
abbrev pub WrittenBack : Type 0
WrittenBack =
    (bytes buffer : List ℕ) (r : Record) → Bytes bytes → Reads bytes r → length bytes ≤ length buffer
    → Writes r buffer (length bytes)
    × (take (length bytes) (after_writing r buffer) ≡ bytes)
    × (drop (length bytes) (after_writing r buffer) ≡ drop (length bytes) buffer)

-- A record that is written is read back as the same record, so every written file is accepted
abbrev pub ReadBack : Type 0
ReadBack = (r : Record) (buffer : List ℕ) (n : ℕ) → shaped r ≡ true → Writes r buffer n → Reads (take n (after_writing r buffer)) r

-- A record that reading gives keeps the record's rule, so refusal 14 passes it, and its arrays are as long as its types say
abbrev pub ReadGood : Type 0
ReadGood = (bytes : List ℕ) (r : Record) → Bytes bytes → Reads bytes r → (good_record r ≡ true) × (shaped r ≡ true)

-- A written file has at most 4,574 bytes
abbrev pub WrittenShort : Type 0
WrittenShort = (r : Record) (buffer : List ℕ) (n : ℕ) → shaped r ≡ true → Writes r buffer n → n ≤ 4574

-- A record that keeps the rule is written into every buffer of 4,574 bytes
abbrev pub RoomEnough : Type 0
RoomEnough = (r : Record) (buffer : List ℕ) → good_record r ≡ true → shaped r ≡ true → 4574 ≤ length buffer → (n : ℕ) × Writes r buffer n
