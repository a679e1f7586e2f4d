-- Runs of stores are one list written over another; and a loop that writes values one after the other.
use mathlib.Core.Path.{◌≡◌, refl, sym, ap, ◌∙◌}
use mathlib.Core.List.{List, [], ◌∷◌, ◌++◌, flat_map, append_assoc}
use Prim.Native.Nat.{ℕ, ◌+◌, ◌-◌, ◌/◌, ◌%◌, ◌≤◌, ◌<◌}
use native.Mathlib.Numerals.{add-one}
use native.Mathlib.Omega.{arith}
use borrow.Rule.Slice.PartMut.{put_mid, Post-is}
use lib.ListN.{length, get_or, take, drop, set, length-append, drop_of_length-le}
use lib.Seq.{sets-eq, drop-cons}
use Rattle.lists.specs.Over.{over}
use Rattle.format.specs.Bytes.{bytes_of}
use Rattle.query.specs.declared.Cell.{Cell}
use Rattle.format.specs.Parts.{entry}
use Rattle.format.proofs.Numbers.{length-bytes}
use Rattle.format.proofs.Lengths.{length-entry}
use Rattle.lists.proofs.Over.{over-nil, over-set, over-over, over-length}

pub two-stores : (d : List ℕ) (at a b : ℕ) → at + 2 ≤ length d → set (set d at a) (at + 1) b ≡ over d at (a ∷ b ∷ [])
two-stores d at a b h = rw add-one (sets-eq (a ∷ b ∷ []) d at h)

-- a byte and then a run
pub byte-and-run : (d : List ℕ) (at a : ℕ) (run next : List ℕ) → at < length d → next ≡ over (set d at a) (at + 1) run → next ≡ over d at (a ∷ run)
byte-and-run d at a run next h e = e ∙ ap (λ (n : ℕ). over (set d at a) n run) (add-one at) ∙ over-set d at a run h

-- a slice that is written as a whole
pub put-over : (xs ys : List ℕ) (a e : ℕ) → a ≤ e → length ys ≡ e - a → put_mid a (e - a) xs ys ≡ over xs a ys
put-over xs ys a e h l =
    let n : e ≡ a + length ys = omega arith in
    ap (λ (z : List ℕ). take a xs ++ (ys ++ z)) (Post-is a e xs h ∙ ap (λ (k : ℕ). drop k xs) n)
    ∙ sym (append_assoc (take a xs) ys (drop (a + length ys) xs))

-- the bytes of 16 and of 32 bits
pub word-bytes : (n : ℕ) → n % 65536 % 256 ∷ n % 65536 / 256 % 256 ∷ [] ≡ bytes_of 2 n
unfolding bytes_of
word-bytes n =
    let a : n % 65536 % 256 ≡ n % 256 = omega arith in
    let b : n % 65536 / 256 % 256 ≡ n / 256 % 256 = omega arith in
    λ i. a i ∷ b i ∷ []

pub wide-bytes : (n : ℕ) → n % 256 ∷ n / 256 % 256 ∷ n / 65536 % 256 ∷ n / 16777216 % 256 ∷ [] ≡ bytes_of 4 n
unfolding bytes_of
wide-bytes n =
    let c : n / 65536 % 256 ≡ n / 256 / 256 % 256 = omega arith in
    let d : n / 16777216 % 256 ≡ n / 256 / 256 / 256 % 256 = omega arith in
    λ i. n % 256 ∷ n / 256 % 256 ∷ c i ∷ d i ∷ []

-- an entry takes 5 bytes
pub length-cell : (c : Cell) → length (entry.put c) ≡ 5
unfolding entry
length-cell c = length-entry c.entry

-- ---- a loop that writes values

-- The buffer with all of xs written is the present one with those from i on
pub record Writing {A : Type 0} (put : A → List ℕ) (before : List ℕ) (start : ℕ) (xs : List A) (buffer : List ℕ) (at i : ℕ) : Type 0 where
  pub long : length buffer ≡ length before
  pub room : at + length (flat_map put (drop i xs)) ≤ length buffer
  pub end : at + length (flat_map put (drop i xs)) ≡ start + length (flat_map put xs)
  pub rest : over before start (flat_map put xs) ≡ over buffer at (flat_map put (drop i xs))

pub writing-starts : {A : Type 0} (put : A → List ℕ) (before : List ℕ) (start : ℕ) (xs : List A) → start + length (flat_map put xs) ≤ length before
    → Writing put before start xs before start 0
writing-starts put before start xs h = record { long = refl; room = h; end = refl; rest = refl }

module _ {A : Type 0} {put : A → List ℕ} {before : List ℕ} {start : ℕ} {xs : List A} {buffer : List ℕ} {at i : ℕ} (w : Writing put before start xs buffer at i)
  where
    put_next : (d : A) → i < length xs → flat_map put (drop i xs) ≡ put (get_or xs i d) ++ flat_map put (drop (i + 1) xs)
    unfolding flat_map
    put_next d h = rw (drop-cons xs i d h, add-one)

    -- there is room for the next value
    pub writing-room : (d : A) → i < length xs → at + length (put (get_or xs i d)) ≤ length buffer
    writing-room d h =
        let l : length (flat_map put (drop i xs)) ≡ length (put (get_or xs i d)) + length (flat_map put (drop (i + 1) xs)) =
        ap length (put_next d h) ∙ length-append (put (get_or xs i d)) (flat_map put (drop (i + 1) xs)) in
        omega (arith, w.room)

    pub writing-turns : (d : A) (next : List ℕ) (to : ℕ) → i < length xs → next ≡ over buffer at (put (get_or xs i d)) → to ≡ at + length (put (get_or xs i d))
        → Writing put before start xs next to (i + 1)
    writing-turns d next to h e t =
        let one : List ℕ = put (get_or xs i d) in
        let more : List ℕ = flat_map put (drop (i + 1) xs) in
        let l : length (flat_map put (drop i xs)) ≡ length one + length more = ap length (put_next d h) ∙ length-append one more in
        let room = w.room in
        let ln : length next ≡ length buffer = ap length e ∙ over-length buffer one at (omega arith) in
        record {
          long = ln ∙ w.long;
          room = omega arith;
          end = omega (arith, w.end);
          rest = w.rest ∙ ap (over buffer at) (put_next d h) ∙ sym (rw (e, t) (over-over buffer at one more (omega arith)));
        }

    pub writing-ends : length xs ≤ i → (buffer ≡ over before start (flat_map put xs)) × (at ≡ start + length (flat_map put xs))
    unfolding flat_map
    writing-ends h =
        let e : drop i xs ≡ [] = drop_of_length-le xs {i = i} h in
        let z : flat_map put (drop i xs) ≡ [] = ap (flat_map put) e in
        let l : length (flat_map put (drop i xs)) ≡ 0 = ap length z in
        (sym (w.rest ∙ ap (over buffer at) z ∙ over-nil buffer at), omega (arith, w.end))

-- ---- pieces one after the other

-- The buffer with the pieces written so far, and the position after them
pub record Run (before : List ℕ) (start : ℕ) (done buffer : List ℕ) (at : ℕ) : Type 0 where
  pub long : length buffer ≡ length before
  pub reached : start + length done ≡ at
  pub written : buffer ≡ over before start done

pub run-starts : (before : List ℕ) (start : ℕ) → Run before start [] before start
run-starts before start = record { long = refl; reached = native.Mathlib.Nat.add-zero start; written = sym (over-nil before start) }

pub run-turns : {before : List ℕ} {start : ℕ} {done buffer : List ℕ} {at : ℕ} → Run before start done buffer at → (more next : List ℕ) (to : ℕ)
    → at + length more ≤ length before
    → next ≡ over buffer at more → to ≡ at + length more → Run before start (done ++ more) next to
run-turns {before} {start} {done} {buffer} {at} r more next to room e t =
    let reached = r.reached in
    let l : length (done ++ more) ≡ length done + length more = length-append done more in
    let two : next ≡ over before start (done ++ more) =
    e ∙ ap (λ (b : List ℕ). over b at more) r.written ∙ ap (λ (n : ℕ). over (over before start done) n more) (sym r.reached)
    ∙ over-over before start done more (omega arith) in
    record {
      long = ap length two ∙ over-length before (done ++ more) start (omega arith);
      reached = omega arith;
      written = two;
    }

-- 16 bits more
pub word-run : {before : List ℕ} {start : ℕ} {done buffer : List ℕ} {at : ℕ} → Run before start done buffer at → (v : ℕ) (next : List ℕ)
    → at + 2 ≤ length before
    → next ≡ over buffer at (bytes_of 2 v) → Run before start (done ++ bytes_of 2 v) next (at + 2)
word-run r v next room e = run-turns r (bytes_of 2 v) next _ (rw (length-bytes 2 v) room) e (rw (length-bytes 2 v))
