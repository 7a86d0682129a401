-- `text_pieces::hex::put_hex` meets its contract. The invariant of its loop: the digits of the first i bytes are written. The measure is how many bytes
-- are left. Assumes nothing.
use Rattle.std.proofs.Common.{◌≡◌, ◌+◌, ◌*◌, ◌≤◌, length, take}
use Rattle.text_pieces.specs.Text.{hex_text}
use Rattle.text_pieces.specs.Private.{Wrote}
use Rattle.text_pieces.proofs.hex.put_hex.Given as goal

abbrev pub invariant-loop-byte : goal.invariant-loop-byte
invariant-loop-byte l = (l.byte-index ≤ length l.bytes) × ((l.place ≡ l.at + 2 * l.byte-index) × (Wrote l.initial.out l.at (hex_text (take l.byte-index l.bytes)) l.place l.out × (length l.out ≡ length l.initial.out)))
