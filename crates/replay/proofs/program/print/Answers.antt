-- `program::print` is safe: what it lends to `write` is within the line. Assumes nothing.
use Rattle.std.proofs.Common.{◌≡◌, sym, arith, length}
use Rattle.std.proofs.Common.{rules}
use lib.Seq.{length-take-le}
use Rattle.replay.proofs.program.print.Goals as goal

pub slice_bounds-bytes-end : goal.slice_bounds-bytes-end
slice_bounds-bytes-end c = let h : length c.byte-ended.result.bytes ≡ 160 = search rules in omega arith

pub slice_bounds-write-end : goal.slice_bounds-write-end
slice_bounds-write-end c = let h : length c.byte-ended.result.bytes ≡ 160 = search rules in sym (length-take-le c.byte-ended.result.used c.byte-ended.result.bytes (omega arith))
