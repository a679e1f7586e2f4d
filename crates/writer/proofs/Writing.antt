-- What writing answers and leaves, by cases, and what its answers tell.
use mathlib.Core.Path.{◌≡◌, refl, sym, ◌∙◌}
use mathlib.Core.Logic.{⊎_elim}
use mathlib.Core.Bool.{true, false, not}
use mathlib.Core.List.{List, [], ◌∷◌}
use Prim.Native.Nat.{ℕ, ◌≤◌, ◌<◌}
use native.Mathlib.Omega.{arith}
use lib.Dec.{ltb}
use lib.ListN.{length}
use borrow.Author.Tests.{ltb-true, ltb-false, lt-ltb, le-ltb, not-true, not-false}
use Rattle.refusals.specs.Refusals.{first_holding, bad_record, buffer_too_short, refused, gives}
use Rattle.refusals.proofs.Refusals.{none-holds, some_holds, nothing-holds, reply-gives, reply-refused}
use Rattle.record.specs.declared.Record.{Record}
use Rattle.record.specs.Rule.{good_record}
use Rattle.lists.specs.Over.{over}
use Rattle.format.specs.File.{file_of}
use Rattle.writer.specs.Write.{writing_refusal, written, after_writing}

module _ (r : Record) (buffer : List ℕ) where
  -- a bad record is refused
  pub bad-refused : good_record r ≡ false → (refused bad_record ≡ written r buffer) × (buffer ≡ after_writing r buffer)
  unfolding written after_writing writing_refusal first_holding
  bad-refused e = rw e (refl, refl)

  module _ (good : good_record r ≡ true) where
    -- a file longer than the buffer is refused
    pub long-refused : length buffer < length (file_of r) → (refused buffer_too_short ≡ written r buffer) × (buffer ≡ after_writing r buffer)
    unfolding written after_writing writing_refusal first_holding
    long-refused h = rw (good, lt-ltb (length buffer) (length (file_of r)) h) (refl, refl)

    -- one that fits is written
    pub fits-written : length (file_of r) ≤ length buffer → (gives (length (file_of r)) ≡ written r buffer) × (over buffer 0 (file_of r) ≡ after_writing r buffer)
    unfolding written after_writing writing_refusal first_holding
    fits-written h = rw (good, le-ltb (length buffer) (length (file_of r)) h) (refl, refl)

  -- Where a length is answered, the record is good and its file fits
  pub written-fits : (n : ℕ) → written r buffer ≡ gives n → (good_record r ≡ true) × (length (file_of r) ≤ length buffer) × (n ≡ length (file_of r))
  unfolding written writing_refusal
  written-fits n e =
      let f = reply-gives (writing_refusal r (length buffer)) (length (file_of r)) n e in
      let g = none-holds (not (good_record r)) bad_record ((ltb (length buffer) (length (file_of r)), buffer_too_short) ∷ []) f.0 in
      let h = none-holds (ltb (length buffer) (length (file_of r))) buffer_too_short [] g.1 in
      (not-false _ g.0, ltb-false (length buffer) (length (file_of r)) h.0, sym f.1)

  -- Where a good record is refused, its file is too long
  pub refused-long : (n : ℕ) → good_record r ≡ true → written r buffer ≡ refused n → (length buffer < length (file_of r)) × (n ≡ buffer_too_short)
  unfolding written writing_refusal
  refused-long n good e =
      let long : (ltb (length buffer) (length (file_of r)) ≡ true) × (buffer_too_short ≡ n) =
      ⊎_elim (λ h. let k : true ≡ false = sym good ∙ not-true _ h.0 in let z : ◌≡◌ {A = ℕ} 0 1 = cc in absurd (omega arith))
      (λ h. ⊎_elim (λ k. k) (λ k. absurd (nothing-holds n k.1)) (some_holds (ltb (length buffer) (length (file_of r))) buffer_too_short [] n h.1))
      (some_holds (not (good_record r)) bad_record ((ltb (length buffer) (length (file_of r)), buffer_too_short) ∷ []) n
      (reply-refused (writing_refusal r (length buffer)) (length (file_of r)) n e)) in
      (ltb-true (length buffer) (length (file_of r)) long.0, sym long.1)
