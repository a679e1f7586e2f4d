-- `listing::write_long` takes no more of its buffer than has been read into it. Assumes nothing.
use Rattle.std.proofs.Common.{rules, ◌≡◌, sym, ◌+◌, ◌≤◌, ◌++◌, length, length-append, arith}
use lib.Seq.{length-take-le}
use Rattle.listing.proofs.write_long.Goals as goal

pub slice_bounds-write_listing-end : goal.slice_bounds-write_listing-end
slice_bounds-write_listing-end c =
    let first : length c.copy_from_slice.new.self ≡ 4575 = search rules in
    let more : c.in_ok-more.more ≤ length c.read_full.new.buffer = search rules in
    sym (length-take-le (4575 + c.in_ok-more.more) (c.copy_from_slice.new.self ++ c.read_full.new.buffer) (rw length-append (omega arith)))
