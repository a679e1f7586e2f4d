-- Laws of writing: bytes that are written one part after another are written. A function that writes starts with `started`, goes on by `wrote` at each part
-- and ends with `finished`; `part-fits` is what the next part asks. Assumes nothing.
use mathlib.Core.Path.{◌≡◌, refl, sym, ap, ◌∙◌, subst}
use mathlib.Core.List.{List, [], ◌++◌, append_assoc, append-nil}
use Prim.Native.Nat.{ℕ, ◌+◌, ◌≤◌}
use native.Mathlib.Nat.{add-zero}
use native.Mathlib.Omega.{arith}
use lib.ListN.{length, length-append}
use Rattle.lists.specs.Over.{over}
use Rattle.lists.proofs.Over.{over-nil, over-length, over-over}
use Rattle.printing.specs.internal.Writing.{Fits, WrittenAt}

-- ---- what is written so far

-- From `first` on, in the buffer `given`, some of `text` is written, which makes it `buffer` with `at` the next position, and `rest` is still to be written
pub record Progress (given : List ℕ) (first : ℕ) (text rest buffer : List ℕ) (at : ℕ) : Type 0 where
  pub done : List ℕ
  pub parts : done ++ rest ≡ text
  pub fits : Fits given first text
  pub written : WrittenAt given first done buffer at

module _ {given : List ℕ} {first : ℕ} {text : List ℕ} where
  pub started : Fits given first text → Progress given first text text given first
  started f =
      record {
        done = [];
        parts = refl;
        fits = f;
        written = record { buffer = sym (over-nil given first); position = sym (add-zero first) };
      }

  room-left : {rest buffer : List ℕ} {at : ℕ} → Progress given first text rest buffer at → (at + length rest ≤ length buffer) × (length buffer ≡ length given)
  room-left {rest} {buffer} p =
      let l : length p.done + length rest ≡ length text = sym (length-append p.done rest) ∙ ap (λ (l : List ℕ). length l) p.parts in
      let f : first + length text ≤ length given = p.fits.room in
      let same : length buffer ≡ length given = ap (λ (l : List ℕ). length l) p.written.buffer ∙ over-length given p.done first (omega arith) in
      (omega (arith, p.written.position), same)

  -- a writer keeps the buffer's length
  pub same_size : {rest buffer : List ℕ} {at : ℕ} → Progress given first text rest buffer at → length buffer ≡ length given
  same_size p = (room-left p).1

  -- the next part fits
  pub part-fits : {rest buffer : List ℕ} {at : ℕ} → Progress given first text rest buffer at → (s t : List ℕ) → rest ≡ s ++ t → Fits buffer at s
  part-fits {rest} p s t e =
      let l : length rest ≡ length s + length t = ap (λ (l : List ℕ). length l) e ∙ length-append s t in
      record { room = omega (arith, (room-left p).0) }

  -- when the next part is written, what comes after it is left
  pub wrote : {rest buffer buffer' : List ℕ} {at at' : ℕ} {s : List ℕ} → Progress given first text rest buffer at → (t : List ℕ) → rest ≡ s ++ t
      → WrittenAt buffer at s buffer' at'
      → Progress given first text t buffer' at'
  wrote {rest} {buffer} {buffer'} {at} {at'} {s} p t e w =
      let l : length p.done + length rest ≡ length text = sym (length-append p.done rest) ∙ ap (λ (l : List ℕ). length l) p.parts in
      let m : length rest ≡ length s + length t = ap (λ (l : List ℕ). length l) e ∙ length-append s t in
      let n : length (p.done ++ s) ≡ length p.done + length s = length-append p.done s in
      let f : first + length p.done + length s ≤ length given = omega (arith, p.fits.room) in
      record {
        done = p.done ++ s;
        parts = append_assoc p.done s t ∙ ap (λ (r : List ℕ). p.done ++ r) (sym e) ∙ p.parts;
        fits = p.fits;
        written =
            record {
              buffer =
                  w.buffer ∙ ap (λ (b : List ℕ). over b at s) p.written.buffer
                  ∙ ap (λ (i : ℕ). over (over given first p.done) i s) p.written.position
                  ∙ over-over given first p.done s f;
              position = omega (arith, w.position, p.written.position, n);
            };
      }

  -- when nothing is left, all is written
  pub finished : {buffer : List ℕ} {at : ℕ} → Progress given first text [] buffer at → WrittenAt given first text buffer at
  finished {buffer} {at} p = subst (λ (d : List ℕ). WrittenAt given first d buffer at) (sym (append-nil p.done) ∙ p.parts) p.written

  -- what is left may be written in another way
  pub left_as : {rest rest' buffer : List ℕ} {at : ℕ} → Progress given first text rest buffer at → rest ≡ rest' → Progress given first text rest' buffer at
  left_as {buffer = buffer} {at} p e = subst (λ (r : List ℕ). Progress given first text r buffer at) e p

  -- the buffer and the position may be had in another way
  pub moved : {rest buffer buffer' : List ℕ} {at at' : ℕ} → Progress given first text rest buffer at → buffer' ≡ buffer → at' ≡ at
      → Progress given first text rest buffer' at'
  moved {rest} {buffer' = buffer'} {at} p e i =
      subst (λ (k : ℕ). Progress given first text rest buffer' k) (sym i) (subst (λ (b : List ℕ). Progress given first text rest b at) (sym e) p)

  -- all that is left fits, and when it is written, all is written
  pub rest-fits : {rest buffer : List ℕ} {at : ℕ} → Progress given first text rest buffer at → Fits buffer at rest
  rest-fits {rest} p = part-fits p rest [] (sym (append-nil rest))

  pub wrote-rest : {rest buffer buffer' : List ℕ} {at at' : ℕ} → Progress given first text rest buffer at → WrittenAt buffer at rest buffer' at'
      → WrittenAt given first text buffer' at'
  wrote-rest {rest} p w = finished (wrote p [] (sym (append-nil rest)) w)
