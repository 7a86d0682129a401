-- `trace_lines::event::key_spelled` meets its contract.
use Rattle.std.proofs.Common.{mul-le-mul_right, ◌≡◌, sym, ap, ◌∙◌, ℕ, arith, length-set}
use lib.ListN.{length-replicate}
use Rattle.lent_bytes.specs.LentBytes.{put}
use Rattle.trace_lines.specs.Lines.{key_size, all_spelled}
use Rattle.trace_lines.proofs.Hex.{rest, rest_all, spelled_turn, spelled_stop, spelled_end, written_start, written_turn, written_end, key_bad, key_good}
use Rattle.trace_lines.proofs.event.key_spelled.Goals as goal

pub loop-i-init : goal.loop-i-init
loop-i-init c = let a = c.args in let t = a.line.now in
    (ap all_spelled (sym (rest_all t a.step)), (written_start t a.step, (omega arith, length-replicate {A = ℕ} key_size 0)))

pub overflow_mul-step : goal.overflow_mul-step
overflow_mul-step c = omega (arith, mul-le-mul_right c.loop-i.i c.requires)

pub overflow_add-step : goal.overflow_add-step
overflow_add-step c = omega (arith, mul-le-mul_right c.loop-i.i c.requires)

pub hex_byte-byte-requires : goal.hex_byte-byte-requires
hex_byte-byte-requires c = omega (arith, mul-le-mul_right c.loop-i.i c.requires)

pub returns-then-byte-ge256 : goal.returns-then-byte-ge256
returns-then-byte-ge256 c = let a = c.args in let t = a.line.now in let l = c.loop-i in
    c.no_key.ensures ∙ sym (key_bad t a.step (l.invariant.0 ∙ spelled_stop t a.step l.i (omega arith) (omega (arith, c.hex_byte-byte.ensures))))

pub loop-i-preserved : goal.loop-i-preserved
loop-i-preserved c = let a = c.args in let t = a.line.now in let l = c.loop-i in (
  l.invariant.0 ∙ spelled_turn t a.step l.i (omega arith) (omega (arith, c.hex_byte-byte.ensures)),
  (
    rw c.hex_byte-byte.ensures (sym (written_turn t a.step l.bytes l.i l.invariant.1.1.1 (omega arith)) ∙ l.invariant.1.0),
    (omega arith, length-set l.bytes l.i c.hex_byte-byte.result ∙ l.invariant.1.1.1),
  ),
)

pub returns : goal.returns
returns c = let a = c.args in let t = a.line.now in let l = c.loop-i in
    let e : l.i ≡ key_size = omega arith in
    sym (key_good t a.step l.bytes (l.invariant.0 ∙ ap (λ (i : ℕ). all_spelled (rest t a.step i)) e ∙ spelled_end t a.step)
    (sym (written_end t a.step l.bytes) ∙ ap (λ (i : ℕ). put l.bytes i (rest t a.step i)) (sym e) ∙ l.invariant.1.0))
