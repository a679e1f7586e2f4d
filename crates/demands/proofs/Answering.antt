-- Demand 2 from the calls' own contracts. Assumes nothing.
use mathlib.Core.Path.{◌≡◌, refl, sym, ap, ◌∙◌}
use mathlib.Core.Logic.{⊎_elim}
use mathlib.Core.Bool.{true, false}
use mathlib.Core.List.{List, [], ◌∷◌, ◌++◌}
use mathlib.Core.Option.{Option, none}
use Prim.Native.Nat.{ℕ, ◌≤◌, ◌<◌}
use lib.ListN.{length, take, drop, take-append-drop, get_or-eq_default}
use native.Mathlib.Omega.{arith}
use Rattle.record.specs.declared.Record.{Record}
use Rattle.record.specs.Calls.{outcome_reply, is_filled, query_at}
use Rattle.refusals.specs.declared.Refusal.{Refusal}
use Rattle.refusals.specs.Refusal.{reply_of}
use Rattle.comparison.specs.Comparison.{comparison_refusal, verdict_on, chased_at, Compared}
use Rattle.refusals.specs.Refusals.{over_unless, Reply, gives, refused, reply}
use Rattle.refusals.proofs.Refusals.{refused-gives}
use Rattle.query.specs.declared.Place.{Place}
use Rattle.query.specs.Rule.{no_place}
use Rattle.lists.proofs.Tests.{below-or-past}
use Rattle.passes.specs.Evaluated.{answer_words}
use Rattle.database.specs.Calls.{too_long, evaluation_refusal, place_answers, evaluated, buffer_then}
use Rattle.admission.proofs.Admitted.{none-asked}
use Rattle.database.proofs.Meaning.{place-ascending, place-answers, place-current}
use Rattle.minimization.specs.Search as search
use Rattle.record.specs.declared.Outcome.{Outcome}
use Rattle.std.specs.Prelude.{Result, Ok, Err}
use Rattle.comparison.specs.declared.Verdict.{Verdict}
use Rattle.comparison.specs.declared.Verdict.TheVariants.{Never, Mapped, Apart}
use Rattle.format.specs.Bytes.{Bytes}
use Rattle.format.specs.File.{read_file, read_outcome, file_of, shaped}
use Rattle.writer.specs.Write.{written, after_writing}
use Rattle.file.proofs.RoundTrip.{written_back, read_back}
use Rattle.writer.proofs.Writing.{fits-written, written-fits}
use Rattle.lists.proofs.Over.{over-length}
use Rattle.demands.specs.Demand2.{Decides, Evaluates, FileComesBack, RecordComesBack, RecordComesBackAlone}
use native.Mathlib.Nat.{zero-add}

module _ (r : Record) (p q : ℕ) where
  -- A comparison of places that are not refused is not refused
  not-refused : (why : Refusal) → Compared r p q (Err why) → comparison_refusal r p q ≡ none → ⊥
  not-refused why compared accepted =
      refused-gives
      (compared.verdict
      ∙ ap (λ (o : Option ℕ). reply o (verdict_on (chased_at r p).rows (search.mappable (query_at r q) (chased_at r p)))) accepted)

-- What a comparison answers is decided over the databases that have no old code
pub decides : (r : Record) (p q : ℕ) (c : Result Verdict Refusal) → Compared r p q c → Decides r p q c
decides r p q (Ok Never) compared =
    record {
      exactly = λ accepted. (λ said D legal t a. compared.contained said D legal.legal.obeys t a, λ within. tt);
      shown = λ accepted no. absurd (no tt);
    }
decides r p q (Ok (Mapped images)) compared =
    record {
      exactly = λ accepted. (λ said D legal t a. compared.contained said D legal.legal.obeys t a, λ within. tt);
      shown = λ accepted no. absurd (no tt);
    }
decides r p q (Ok (Apart query)) compared =
    let example = compared.apart query refl in
    record {
      exactly = λ accepted. (λ said. absurd said, λ within. example.no_answer (within _ example.within _ example.answer));
      shown = λ accepted no. (query, refl, example);
    }
decides r p q (Err why) compared =
    record {
      exactly = λ accepted. absurd (not-refused r p q why compared accepted);
      shown = λ accepted no. absurd (not-refused r p q why compared accepted);
    }

true-false : true ≡ false → ⊥
true-false e = let z : ◌≡◌ {A = ℕ} 0 1 = cc in omega arith

-- A filled place is one of the places
filled-inside : (r : Record) (place : ℕ) → is_filled r place ≡ true → place < length r.places
filled-inside r place e = ⊎_elim (λ h. h) past (below-or-past place (length r.places))
  where
    past : length r.places ≤ place → place < length r.places
    past h =
        let blank : is_filled r place ≡ false = ap (λ (p : Place). p.filled) (get_or-eq_default r.places no_place {n = place} h) in
        absurd (true-false (sym e ∙ blank))

pub evaluates : (r : Record) (place : ℕ) (words before after : List ℕ) (a : Result ℕ Refusal)
    → reply_of a ≡ evaluated r place words (length before) → after ≡ buffer_then r place words before → Evaluates r place words before after a
unfolding evaluated buffer_then evaluation_refusal
evaluates r place words before after a is-a is-after =
    let n = length (place_answers r place words) in
    let found = answer_words (place_answers r place words) in
    record {
      count = λ e. is-a ∙ ap (λ (o : Option ℕ). reply o n) e;
      written = λ e. is-after ∙ ap (λ (o : Option ℕ). over_unless o found before) e;
      ascends = place-ascending r place words;
      exactly = λ e.
          let k = none-asked r place words (too_long r place words (length before) ∷ []) e in
          place-answers r place words k.0 (filled-inside r place k.2) k.2;
      current = λ e.
          let k = none-asked r place words (too_long r place words (length before) ∷ []) e in
          place-current r place words k.0 (filled-inside r place k.2) k.2;
    }

-- ---- files

-- What a reading that is done gives
reads-gives : (x : Reply Record) (r : Record) → read_outcome x ≡ (gives tt, r) → x ≡ gives r
reads-gives (gives s) r e = ap (λ (p : Reply (Unit {0}) × Record). gives p.1) e
reads-gives (refused n) r e = absurd (refused-gives (ap (λ (p : Reply (Unit {0}) × Record). p.0) e))

module _ (file before after : List ℕ) (s : Record) (is : read_file file ≡ gives s) where
  -- A file whose record is written back
  pub record-again : (w : Result ℕ Refusal) → Bytes file → reply_of w ≡ written s before → after ≡ after_writing s before
      → FileComesBack file before after w
  record-again w bytes says left r reads room =
      let same : s ≡ r = ap (λ (x : Reply (Unit {0}) × Record). x.1) (ap read_outcome (sym is) ∙ reads) in
      let back = written_back file before r bytes reads room in
      let buffer = left ∙ ap (λ (x : Record). after_writing x before) same in (
        says ∙ ap (λ (x : Record). written x before) same ∙ back.0,
        sym (take-append-drop (length file) after)
            ∙ ap (λ (l : List ℕ). l ++ drop (length file) after) (ap (take (length file)) buffer ∙ back.1)
            ∙ ap (λ (l : List ℕ). file ++ l) (ap (drop (length file)) buffer ∙ back.2)
            ∙ ap (λ (n : ℕ). file ++ drop n before) (sym (zero-add (length file))),
      )

module _ (file before after : List ℕ) (o : Outcome) (is : outcome_reply o ≡ read_outcome (read_file file)) where
  -- A file whose record is written back
  pub written-again : (w : Result ℕ Refusal) → Bytes file → reply_of w ≡ written o.«record» before → after ≡ after_writing o.«record» before
      → FileComesBack file before after w
  written-again w bytes says left r reads room =
      let same : o.«record» ≡ r = ap (λ (x : Reply (Unit {0}) × Record). x.1) (is ∙ reads) in
      record-again file before after o.«record» (reads-gives (read_file file) r reads ∙ ap (λ (x : Record). gives x) (sym same)) w bytes says left r
      reads room

module _ (r : Record) (before after : List ℕ) (o : Outcome) where
  -- A record whose file is read back
  pub read_again : shaped r ≡ true → (n : ℕ) → written r before ≡ gives n → after ≡ after_writing r before
      → outcome_reply o ≡ read_outcome (read_file (take n after)) → RecordComesBack r before o
  read_again shape n says left is m writes = is ∙ ap (λ (l : List ℕ). read_outcome (read_file (take n l))) left ∙ read_back r before n shape says

module _ (r : Record) (before after : List ℕ) (o : Result Record Refusal) where
  -- A record whose file is read back alone
  pub read-again-alone : shaped r ≡ true → (n : ℕ) → written r before ≡ gives n → after ≡ after_writing r before
      → reply_of o ≡ read_file (take n after) → RecordComesBackAlone r before o
  read-again-alone shape n says left is m writes =
      is ∙ ap (λ (l : List ℕ). read_file (take n l)) left ∙ reads-gives _ r (read_back r before n shape says)

-- What is written lies in the buffer
pub inside : (r : Record) (before after : List ℕ) (n : ℕ) → written r before ≡ gives n → after ≡ after_writing r before → n ≤ length after
inside r before after n says left =
    let (good, fits, long) = written-fits r before n says in
    let kept : length after ≡ length before =
    ap length (left ∙ sym (fits-written r before good fits).1) ∙ over-length before (file_of r) 0 (omega (arith, fits)) in
    omega (arith, fits, long, kept)
