-- `lent_bytes::run::put_slice` meets its contract. The invariant of its loop: the first i bytes of `src` are written at the place. Assumes
-- nothing.
use Rattle.std.proofs.Common.{◌≡◌, length}
use Rattle.lent_bytes.specs.LentBytes.{part, put}
use Rattle.lent_bytes.proofs.run.put_slice.Given as goal

abbrev pub invariant-loop-i : goal.invariant-loop-i
invariant-loop-i l = (l.dst ≡ put l.initial.dst l.at (part l.src 0 l.i)) × (length l.dst ≡ length l.initial.dst)
