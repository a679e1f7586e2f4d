use mathlib.Core.Path.{sym, ap, ◌∙◌}
use mathlib.Core.Bool.{true, false}
use lib.ListN.{drop}
use Rattle.refusals.specs.Refusals.{gives}
use Rattle.reader.specs.internal.Read.{directory_read}
use Rattle.format.proofs.Stretches.{length-stretches}
use Rattle.reader.proofs.Directories.{too_short, too_few, too_many, cut-table, full-table}
use Rattle.reader.proofs.read_directory.Goals as goal

pub returns-then-file-lt2 : goal.returns-then-file-lt2
returns-then-file-lt2 c =
    sym (ap directory_read (too_short c.args.file.now c.if-file-lt2.true))

pub returns-then-n-lt2 : goal.returns-then-n-lt2
returns-then-n-lt2 c =
    sym (ap directory_read (too_few c.args.file.now c.word16-n.result c.word16-n.ensures.0 c.if-n-lt2.true))

pub returns-then-n-gt10 : goal.returns-then-n-gt10
returns-then-n-gt10 c =
    sym (ap directory_read (too_many c.args.file.now c.word16-n.result c.word16-n.ensures.0 c.if-n-gt10.true))

pub returns-then-file-n : goal.returns-then-file-n
returns-then-file-n c =
    sym (ap directory_read (cut-table c.args.file.now c.word16-n.result c.word16-n.ensures.0 c.if-file-n.true))

pub returns-then-chain : goal.returns-then-chain
returns-then-chain c =
    let n = c.word16-n.result in
    let file = c.args.file.now in
    ap gives (sym (length-stretches n file (drop 2 file)))
    ∙ sym (ap directory_read (full-table c.args.file.now c.word16-n.result c.word16-n.ensures.0 c.if-n-lt2.false
    c.if-n-gt10.false c.if-file-n.false true (sym c.chain.ensures ∙ c.if-chain.true)))

pub returns : goal.returns
returns c =
    sym (ap directory_read (full-table c.args.file.now c.word16-n.result c.word16-n.ensures.0 c.if-n-lt2.false
    c.if-n-gt10.false c.if-file-n.false false (sym c.chain.ensures ∙ c.if-chain.false)))
