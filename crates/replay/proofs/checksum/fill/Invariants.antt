-- `checksum::fill` fills the memory with made-up bytes. The invariant: the first `i` are filled, and the sum is the seed after them. Assumes nothing.
use Rattle.std.proofs.Common.{◌≡◌, ◌≤◌, length, take}
use Rattle.replay.specs.Checksum.{seed_after, made_up}
use Rattle.replay.proofs.checksum.fill.Given as goal

abbrev pub invariant-loop-i : goal.invariant-loop-i
invariant-loop-i l =
    ((length l.memory ≡ length l.initial.memory) × (l.i ≤ length l.initial.memory)) × ((l.sum ≡ seed_after l.seed l.i) × (take l.i l.memory ≡ made_up l.seed l.i))
