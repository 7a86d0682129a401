-- `text_pieces::piece::put_number` meets its contract. A blank, and the digits behind it. Assumes nothing.
use Rattle.std.proofs.Common.{arith, length-set}
use Rattle.decimal.specs.Ascii.{blank}
use Rattle.text_pieces.specs.TextLaws.{wrote_more, wrote_byte}
use Rattle.text_pieces.proofs.piece.put_number.Goals as goal

pub put_decimal-requires : goal.put_decimal-requires
put_decimal-requires c = let a = c.args in let h = length-set a.out.now a.at blank in omega arith

pub returns : goal.returns
returns c =
    let a = c.args in
    let digits = c.put_decimal.ensures in
    wrote_more (wrote_byte a.out.now a.at blank (omega arith)) (omega arith) (record { behind = digits.0; leaves = digits.1 })
