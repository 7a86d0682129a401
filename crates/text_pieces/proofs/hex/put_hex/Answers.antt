-- `text_pieces::hex::put_hex` meets its contract.
use Rattle.std.proofs.Common.{refl, ap, ◌∙◌, ◌+◌, arith, set, length-set}
use lib.Seq.{take_all}
use Rattle.text_pieces.specs.Text.{hex_text}
use Rattle.text_pieces.specs.TextLaws.{wrote_nothing, wrote_as, hex_written}
use Rattle.text_pieces.proofs.hex.put_hex.Goals as goal

pub loop-byte-init : goal.loop-byte-init
loop-byte-init c = let a = c.args in (omega arith, (omega arith, (wrote_nothing a.out.now a.at, refl)))

pub bounds-out-place-in-loop-byte : goal.bounds-out-place-in-loop-byte
bounds-out-place-in-loop-byte c = simp length-set (omega arith)

pub loop-byte-preserved : goal.loop-byte-preserved
loop-byte-preserved c = let a = c.args in let turn = c.loop-byte in (
  omega arith,
  (
    omega arith,
    (
      hex_written a.bytes.now turn.byte-index (omega arith) (omega arith) (omega arith) turn.invariant.1.1.0 c.hex_char.ensures c.hex_char-in-loop-byte.ensures,
      length-set (set turn.out turn.place c.hex_char.result) (turn.place + 1) c.hex_char-in-loop-byte.result ∙ length-set turn.out turn.place c.hex_char.result ∙ turn.invariant.1.1.1,
    ),
  ),
)

pub shape_of-out : goal.shape_of-out
shape_of-out c = c.loop-byte.invariant.1.1.1

pub returns : goal.returns
returns c = let a = c.args in let last = c.loop-byte in
    wrote_as (ap hex_text (take_all last.byte-index a.bytes.now (omega arith))) last.invariant.1.1.0
