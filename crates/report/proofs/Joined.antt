-- Lines of places one after the other: what is written of the first places, then of the next, is written of both. Assumes nothing.
use mathlib.Core.Path.{◌≡◌, sym, ap, ◌∙◌, subst}
use mathlib.Core.Bool.{true, false}
use mathlib.Core.List.{List, [], ◌∷◌, ◌++◌, append_assoc, append-nil}
use Prim.Native.Nat.{ℕ, ◌+◌, ◌*◌, ◌≤◌, ◌<◌}
use native.Mathlib.Nat.{add-zero}
use native.Mathlib.Omega.{arith}
use lib.ListN.{length, length-append}
use Rattle.record.specs.declared.Record.{Record}
use Rattle.record.specs.Calls.{is_filled}
use Rattle.lists.specs.Numbers.{numbers_where}
use Rattle.text.specs.internal.Listable.{place_room}
use Rattle.lists.specs.Over.{over}
use Rattle.printing.specs.internal.Writing.{WrittenAt}
use Rattle.lists.proofs.Numbers.{where-append, where-one, where-not}
use Rattle.lists.proofs.Over.{over-nil, over-length, over-over}
use Rattle.report.specs.Report.{AllLines, nil, cons}
use Rattle.report.specs.internal.Places.{LinesWritten, PartWritten}

-- ---- lines

lines-append : {r : Record} {ps qs s t : List ℕ} → AllLines r ps s → AllLines r qs t → AllLines r (ps ++ qs) (s ++ t)
lines-append nil b = b
lines-append {r} {ps} {qs} {s} {t} (cons {place} {places} {lines} {rest} l a) b =
    subst (λ (text : List ℕ). AllLines r (place ∷ (places ++ qs)) text) (sym (append_assoc lines rest t)) (cons l (lines-append a b))

-- ---- what is written

written-join : (d : List ℕ) (i : ℕ) (s : List ℕ) (d' : List ℕ) (k : ℕ) (t e : List ℕ) (n : ℕ) → WrittenAt d i s d' k → WrittenAt d' k t e n
    → i + length s + length t ≤ length d → WrittenAt d i (s ++ t) e n
written-join d i s d' k t e n w v h =
    record {
      buffer =
          v.buffer ∙ ap (λ (b : List ℕ). over b k t) w.buffer ∙ ap (λ (j : ℕ). over (over d i s) j t) w.position ∙ over-over d i s t h;
      position = let l : length (s ++ t) ≡ length s + length t = length-append s t in omega (arith, v.position, w.position);
    }

written-nothing : (d : List ℕ) (i : ℕ) → WrittenAt d i [] d i
written-nothing d i = record { buffer = sym (over-nil d i); position = sym (add-zero i) }

-- No place is written at the start
pub part-started : (r : Record) (start : ℕ) (d : List ℕ) (i : ℕ) → PartWritten r start 0 d i d i
unfolding numbers_where
part-started r start d i = record { text = []; lines = nil; short = omega arith; written = written-nothing d i }

-- The lines of a filled place, and none of a vacant one
pub part_filled : (r : Record) (place : ℕ) (d : List ℕ) (i : ℕ) (e : List ℕ) (n : ℕ) → is_filled r place ≡ true → LinesWritten r place d i e n
    → PartWritten r place 1 d i e n
part_filled r place d i e n filled w =
    record {
      text = w.text;
      lines =
          subst (λ (ps : List ℕ). AllLines r ps w.text) (sym (where-one (is_filled r) place filled))
          (subst (λ (text : List ℕ). AllLines r (place ∷ []) text) (append-nil w.text) (cons w.lines nil));
      short = omega (arith, w.short);
      written = w.written;
    }

pub part-vacant : (r : Record) (place : ℕ) (d : List ℕ) (i : ℕ) → is_filled r place ≡ false → PartWritten r place 1 d i d i
part-vacant r place d i vacant =
    record {
      text = [];
      lines = subst (λ (ps : List ℕ). AllLines r ps []) (sym (where-not (is_filled r) place vacant)) nil;
      short = omega arith;
      written = written-nothing d i;
    }

module _ (r : Record) (k : ℕ) (d e : List ℕ) (n : ℕ) (w : PartWritten r 0 k d 0 e n) (large : 8 * place_room ≤ length d) where
  -- The buffer keeps its length
  pub part-size : k ≤ 8 → length e ≡ length d
  part-size h = ap (λ (l : List ℕ). length l) w.written.buffer ∙ over-length d w.text 0 (omega (arith, w.short))

  -- One more place
  pub part-more : k < 8 → (e' : List ℕ) (n' : ℕ) → PartWritten r k 1 e n e' n' → PartWritten r 0 (k + 1) d 0 e' n'
  part-more h e' n' v =
      let z : 0 + k ≡ k = omega arith in
      let both : numbers_where (is_filled r) 0 (k + 1) ≡ numbers_where (is_filled r) 0 k ++ numbers_where (is_filled r) k 1 =
      where-append (is_filled r) 0 k 1 ∙ ap (λ (i : ℕ). numbers_where (is_filled r) 0 k ++ numbers_where (is_filled r) i 1) z in
      let l : length (w.text ++ v.text) ≡ length w.text + length v.text = length-append w.text v.text in
      record {
        text = w.text ++ v.text;
        lines = subst (λ (ps : List ℕ). AllLines r ps (w.text ++ v.text)) (sym both) (lines-append w.lines v.lines);
        short = omega (arith, w.short, v.short);
        written = written-join d 0 w.text e n v.text e' n' w.written v.written (omega (arith, w.short, v.short));
      }
