-- What reducing leaves. Assumes nothing.
use mathlib.Core.Path.{◌≡◌, refl, sym, subst, ◌∙◌}
use mathlib.Core.Bool.{Bool, true, false, cond}
use mathlib.Core.List.{List}
use Prim.Native.Nat.{ℕ, ◌≤◌, ◌<◌}
use lib.Dec.{leb}
use lib.ListN.{length}
use borrow.Author.Tests.{le-leb, lt-leb}
use Rattle.refusals.specs.Refusals.{◌>>=◌, buffer_too_short, gives, refused, Reply}
use Rattle.record.specs.declared.Record.{Record}
use Rattle.std.specs.Prelude.{Result, Ok, Err}
use Rattle.lent_numbers.specs.Lent.{returned}
use Rattle.record.specs.Rule.{good_record}
use Rattle.refusals.specs.declared.Refusal.{Refusal}
use Rattle.refusals.specs.Refusal.{number_of, reply_of}
use Rattle.lists.specs.Over.{over}
use Rattle.format.specs.File.{read_file, file_of}
use Rattle.writer.specs.Write.{written, after_writing}
use Rattle.writer.proofs.Writing.{fits-written, long-refused, written-fits, refused-long}
use Rattle.reduction.specs.declared.Reduced.{Reduced}
use Rattle.reduction.specs.Reduced.{IsReduced}
use Rattle.mapping_words.specs.Images.{mapping_words}
use Rattle.reduction_on_files.specs.Shortening.{reduction_fits, ReductionGiven, ReducedShape, Reducing, ReduceGives}

-- ---- what a reduction leaves

module _ (o : Reduced) (out : List ℕ) (size count : ℕ) (mapping : List ℕ) where
  reduction-same : {x y : Reply Reduced} → x ≡ y → (number : ℕ) (out' : List ℕ) (size' count' : ℕ) (mapping' : List ℕ)
      → ReductionGiven y out size count mapping number out' size' count' mapping' → ReductionGiven x out size count mapping number out' size' count' mapping'
  reduction-same p number out' size' count' mapping' w =
      subst (λ (z : Reply Reduced). ReductionGiven z out size count mapping number out' size' count' mapping') (sym p) w

  pub reduction-none : {x : Reply Reduced} {n : ℕ} → x ≡ refused n → ReductionGiven x out size count mapping n out size count mapping
  reduction-none {n = n} p = reduction-same p n out size count mapping (refl, refl, refl, refl, refl)

  -- A refusal that is handed on, and everything as it was
  pub reduction-handed : {x : Reply Reduced} (said : Result (Unit {0}) Refusal) (why : Refusal) → (e : Refusal) × (said ≡ Err e) × (e ≡ why)
      → x ≡ refused (number_of why) → ReductionGiven x out size count mapping (returned (reply_of said)) out size count mapping
  reduction-handed said why left p = rw (left.1, left.2) (reduction-none p)

  pub reduction-refused : (why : Refusal) → o.answer ≡ Err why → reduction_fits (length out) (length mapping) o ≡ refused (number_of why)
  unfolding ◌>>=◌
  reduction-refused why e = rw e

  module _ (done : o.answer ≡ Ok tt) where
    pub reduction-short : length mapping < 192 → reduction_fits (length out) (length mapping) o ≡ refused buffer_too_short
    unfolding ◌>>=◌
    reduction-short h = rw (done, lt-leb 192 (length mapping) h)

    module _ (h : 192 ≤ length mapping) where
      roomy : (t : Bool) → leb (length (file_of o.«record»)) (length out) ≡ t
          → reduction_fits (length out) (length mapping) o ≡ cond t (gives o) (refused buffer_too_short)
      unfolding ◌>>=◌
      roomy t e = rw (done, le-leb 192 (length mapping) h, e)

      -- its file is written
      pub reduction-stored : (n : ℕ) (out' : List ℕ) (mapping' : List ℕ) → written o.«record» out ≡ gives n → out' ≡ after_writing o.«record» out
          → mapping' ≡ over mapping 0 (mapping_words o.images)
          → ReductionGiven (reduction_fits (length out) (length mapping) o) out size count mapping 0 out' n o.count mapping'
      reduction-stored n out' mapping' w b m =
          let (good, fits, long) = written-fits o.«record» out n w in
          reduction-same (roomy true (le-leb _ _ fits)) 0 out' n o.count mapping'
          (refl, b ∙ sym (fits-written o.«record» out good fits).1, long, refl, m)

      -- or too long
      pub reduction-long : (n : ℕ) (out' : List ℕ) → good_record o.«record» ≡ true → written o.«record» out ≡ refused n
          → out' ≡ after_writing o.«record» out → ReductionGiven (reduction_fits (length out) (length mapping) o) out size count mapping n out' size count mapping
      reduction-long n out' good w b =
          let (long, short) = refused-long o.«record» out n good w in
          reduction-same (roomy false (lt-leb _ _ long)) n out' size count mapping (short, b ∙ sym (long-refused o.«record» out good long).1, refl, refl, refl)

-- ---- the exported call

module _ (file : List ℕ) (source target : ℕ) (out : List ℕ) (size count : ℕ) (mapping : List ℕ) where
  pub reduce-done : (r : Record) → read_file file ≡ gives r → (o : Reduced) → IsReduced r source target o → ReducedShape o
      → (number : ℕ) (out' : List ℕ) (size' count' : ℕ) (mapping' : List ℕ)
      → ReductionGiven (reduction_fits (length out) (length mapping) o) out size count mapping number out' size' count' mapping'
      → ReduceGives file source target out size count mapping number out' size' count' mapping'
  reduce-done r e o is shape number out' size' count' mapping' w =
      record {
        result = reduction_fits (length out) (length mapping) o;
        reducing =
            subst (λ (x : Reply Record). Reducing x source target (reduction_fits (length out) (length mapping) o) (length out) (length mapping)) (sym e)
            (o, is, shape, refl);
        given = w;
      }

  pub reduce-refused : (said : Result (Unit {0}) Refusal) (why : Refusal) → (e : Refusal) × (said ≡ Err e) × (e ≡ why) → read_file file ≡ refused (number_of why)
      → ReduceGives file source target out size count mapping (returned (reply_of said)) out size count mapping
  reduce-refused said why left a =
      let n : ℕ = number_of why in
      rw (left.1, left.2)
      (record {
        result = refused n;
        reducing = subst (λ (x : Reply Record). Reducing x source target (refused n) (length out) (length mapping)) (sym a) refl;
        given = (refl, refl, refl, refl, refl);
      })
