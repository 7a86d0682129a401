-- `decimal::scan` meets its contract: by the first byte at the place. Assumes nothing.
use Rattle.std.proofs.Common.{sym, ◌∙◌, arith, get_or}
use Rattle.decimal.specs.Decimal.{scan_of}
use Rattle.decimal.specs.DecimalLaws.{digits_none, digits_end, below_digits, above_digits}
use Rattle.decimal.proofs.Loops.{zero_any, run_number}
use Rattle.decimal.proofs.scan.Goals as goal

pub returns-then-text-at : goal.returns-then-text-at
unfolding scan_of
returns-then-text-at c = let a = c.args in let t = a.text.now in rw (digits_end t a.at (omega arith))

pub returns-in-48 : goal.returns-in-48
unfolding scan_of
returns-in-48 c = let a = c.args in let t = a.text.now in
    c.zero_alone.ensures ∙ sym (zero_any t a.at (omega arith) (omega arith) a.most)

pub returns-in-49-to-57 : goal.returns-in-49-to-57
unfolding scan_of
returns-in-49-to-57 c = let a = c.args in let t = a.text.now in
    c.run_of_digits.ensures ∙ sym (run_number t a.at a.most (omega arith) (omega arith) (omega arith))

pub returns-in_default : goal.returns-in_default
unfolding scan_of
returns-in_default c = let a = c.args in let t = a.text.now in
    rw (digits_none t a.at (omega arith) (below_digits (get_or t a.at 0) (omega arith)))

pub returns-in_default-2 : goal.returns-in_default-2
unfolding scan_of
returns-in_default-2 c = let a = c.args in let t = a.text.now in
    rw (digits_none t a.at (omega arith) (above_digits (get_or t a.at 0) (omega arith)))
