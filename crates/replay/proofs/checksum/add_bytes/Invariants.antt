-- `checksum::add_bytes` adds every byte. The invariant: the first `i` are added. Assumes nothing.
use Rattle.std.proofs.Common.{◌≡◌, ◌≤◌, length, take}
use Rattle.replay.specs.Checksum.{all_added}
use Rattle.replay.proofs.checksum.add_bytes.Given as goal

abbrev pub invariant-loop-b : goal.invariant-loop-b
invariant-loop-b l = (l.b-index ≤ length l.bytes) × (l.all ≡ all_added l.sum (take l.b-index l.bytes))
