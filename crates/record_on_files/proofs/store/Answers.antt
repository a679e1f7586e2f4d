-- `store` writes the file of a record and its length. Assumes nothing.
use Rattle.refusals.specs.Refusal.{reply_of}
use Rattle.record_on_files.proofs.Files.{wrote-fitted}
use Rattle.record_on_files.proofs.store.Goals as goal

pub returns : goal.returns
returns c =
    let s = c in
    let w = c.write_good.ensures in
    let l = c.leave_count.ensures in
    wrote-fitted s.args.given s.args.out.now _ w.1 s.args.size.now s.requires (reply_of c.write_good.result) w.0 _ _
    l.value l.count_after
