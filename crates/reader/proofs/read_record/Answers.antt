-- `read_record` meets its contract: the directory gives the parts, and these the record. Assumes nothing.
use Rattle.std.proofs.Common.{sym, ap, ◌∙◌, List, ℕ}
use Rattle.std.proofs.lemmas.Result.{err_from_is_err_and}
use Rattle.refusals.specs.Refusals.{Reply, ◌>>=◌}
use Rattle.refusals.specs.Refusal.{number_of}
use Rattle.format.specs.File.{directory, read_all, read_file}
use Rattle.reader.proofs.Directories.{accepts, refuses}
use Rattle.reader.proofs.read_record.Goals as goal

pub read_parts-requires : goal.read_parts-requires
read_parts-requires c =
    let a = accepts c.args.file.now c.in_ok-n.n c.in_ok-n.ensures in
    record { le_n = (a.low, a.high, a.fits); file_value = a.chain }

pub returns : goal.returns
unfolding read_file ◌>>=◌
returns c =
    let a = accepts c.args.file.now c.in_ok-n.n c.in_ok-n.ensures in
    c.read_parts.ensures ∙ sym (ap (λ (o : Reply (List (List ℕ))). o >>= read_all) a.parts)

pub returns-in_err-n : goal.returns-in_err-n
unfolding read_file ◌>>=◌
returns-in_err-n c =
    let left = err_from_is_err_and c.from_residual.result c.from_residual.ensures.1 in
    rw (left.1, left.2)
    (sym (ap (λ (o : Reply (List (List ℕ))). o >>= read_all) (refuses (directory c.args.file.now) (number_of c.in_err-n.field-0.0) c.in_err-n.ensures)))
