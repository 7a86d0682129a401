-- `decimal::zero_alone` meets its contract: by what stands behind the zero. Assumes nothing.
use Rattle.std.proofs.Common.{sym, ◌+◌, arith, get_or}
use Rattle.decimal.specs.DecimalLaws.{digits_none, digits_end, below_digits, above_digits}
use Rattle.decimal.proofs.Loops.{zero_then_none, zero_then_digit}
use Rattle.decimal.proofs.zero_alone.Goals as goal

pub returns-then-text-next : goal.returns-then-text-next
returns-then-text-next c = let a = c.args in let t = a.text.now in
    sym (zero_then_none t a.at (omega arith) c.requires.1 (digits_end t (a.at + 1) (omega arith)))

pub returns-in-48-to-57 : goal.returns-in-48-to-57
returns-in-48-to-57 c = let a = c.args in let t = a.text.now in
    sym (zero_then_digit t a.at (omega arith) c.requires.1 (omega arith) (omega arith) (omega arith))

pub returns-in_default : goal.returns-in_default
returns-in_default c = let a = c.args in let t = a.text.now in
    sym (zero_then_none t a.at (omega arith) c.requires.1 (digits_none t (a.at + 1) (omega arith) (below_digits (get_or t (a.at + 1) 0) (omega arith))))

pub returns-in_default-2 : goal.returns-in_default-2
returns-in_default-2 c = let a = c.args in let t = a.text.now in
    sym (zero_then_none t a.at (omega arith) c.requires.1 (digits_none t (a.at + 1) (omega arith) (above_digits (get_or t (a.at + 1) 0) (omega arith))))
