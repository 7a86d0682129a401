-- `trace_lines::event::hex_digit` meets its contract: by the ranges of its arms. Assumes nothing.
use Rattle.std.proofs.Common.{sym, arith}
use Rattle.trace_lines.proofs.Hex.{hex_decimal, hex_letter, hex_below, hex_between, hex_above}
use Rattle.trace_lines.proofs.event.hex_digit.Goals as goal

pub returns-in-48-to-57 : goal.returns-in-48-to-57
returns-in-48-to-57 c = sym (hex_decimal c.args.b (omega arith) (omega arith))

pub returns-in-97-to-102 : goal.returns-in-97-to-102
returns-in-97-to-102 c = sym (hex_letter c.args.b (omega arith) (omega arith))

pub returns-in_default : goal.returns-in_default
returns-in_default c = sym (hex_below c.args.b (omega arith))

pub returns-in_default-2 : goal.returns-in_default-2
returns-in_default-2 c = sym (hex_between c.args.b (omega arith) (omega arith))

pub returns-in_default-3 : goal.returns-in_default-3
returns-in_default-3 c = sym (hex_above c.args.b (omega arith))
