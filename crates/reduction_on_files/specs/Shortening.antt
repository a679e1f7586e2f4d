-- Reducing, on files. How a mapping is words is in `mapping_words/specs/Images`.
use Rattle.std.specs.Prelude.{◌≡◌, true, cond, ◌&&◌, List, ℕ, leb, length}
use Rattle.refusals.specs.Refusals.{◌>>=◌, buffer_too_short, gives, refused, Reply}
use Rattle.record.specs.declared.Record.{Record}
use Rattle.refusals.specs.Refusal.{reply_of}
use Rattle.lists.specs.Over.{over}
use Rattle.format.specs.File.{read_file, file_of, shaped}
use Rattle.mapping_words.specs.Images.{mapping_words}
use Rattle.reduction.specs.declared.Reduced.{Reduced}
use Rattle.reduction.specs.Reduced.{IsReduced}
use Rattle.lent_numbers.specs.Lent.{returned, leaves}

-- A reduction for buffers with so much room. Refused, after the refusals of the reduction itself: buffer_too_short, its file is longer than the one buffer,
-- or the other has no room for a mapping. The file is that of the record after the reduction `o`: only `o`'s mapping is free
abbrev pub reduction_fits : ℕ → ℕ → Reduced → Reply Reduced
reduction_fits room words o =
    reply_of o.answer >>= λ _. cond (leb 192 words && leb (length (file_of o.«record»)) room) (gives o) (refused buffer_too_short)

-- What a reduction returns and leaves: the file of the record after it with its length, the count of replacements, and the mapping's words
abbrev pub ReductionGiven : Reply Reduced → List ℕ → ℕ → ℕ → List ℕ → ℕ → List ℕ → ℕ → ℕ → List ℕ → Type 0
ReductionGiven result out size count mapping number out_after size_after count_after mapping_after =
    (number ≡ returned result) × (out_after ≡ leaves result (λ o. over out 0 (file_of o.«record»)) out)
    × (size_after ≡ leaves result (λ o. length (file_of o.«record»)) size) × (count_after ≡ leaves result (λ o. o.count) count)
    × (mapping_after ≡ leaves result (λ o. over mapping 0 (mapping_words o.images)) mapping)

-- The arrays of a reduction are as long as their types say: without it, shorter ones that read the same would do
abbrev pub ReducedShape : Reduced → Type 0
ReducedShape o = (shaped o.«record» ≡ true) × (length o.images ≡ 96)

-- A reduction of a place of the record of a file: a refusal of the file, or what reducing promises. Which mapping is free, all else is not
abbrev pub Reducing : Reply Record → ℕ → ℕ → Reply Reduced → ℕ → ℕ → Type 0
Reducing (refused n) source target result room words = result ≡ refused n
Reducing (gives r) source target result room words = (o : Reduced) × IsReduced r source target o × ReducedShape o × (result ≡ reduction_fits room words o)

-- What `spernevan_reduce` promises: the reduction of the source place, with some mapping, returned and left as above
pub record ReduceGives (file : List ℕ) (source target : ℕ) (out : List ℕ) (size count : ℕ) (mapping : List ℕ) (number : ℕ) (out_after : List ℕ) (size_after count_after : ℕ) (mapping_after : List ℕ) : Type 0 where
  pub result : Reply Reduced
  pub reducing : Reducing (read_file file) source target result (length out) (length mapping)
  pub given : ReductionGiven result out size count mapping number out_after size_after count_after mapping_after
