-- `trace_lines::settings::parse_settings` meets its contract: by whether the line ends behind the ninth field. Assumes nothing.
use Rattle.std.proofs.Common.{true, false, ◌≡◌, ◌≤◌, arith}
use Rattle.trace_lines.specs.Lines.{ends_line, largest32, largest64, settings_of, interval, burst, rate, burst_bytes, threshold, ban_duration, max_tracked, max_messages, max_bytes}
use Rattle.trace_lines.specs.LinesLaws.{field_bound, next_field, ends_told}
use Rattle.trace_lines.proofs.settings.parse_settings.Goals as goal

pub returns-then-not-ends : goal.returns-then-not-ends
unfolding settings_of
returns-then-not-ends c =
    let line = c.args.line.now in
    let e0 : c.scan-interval.result ≡ interval line = c.scan-interval.ensures in
    let e1 : c.field-burst.result ≡ burst line = next_field line largest32 e0 c.field-burst.ensures in
    let e2 : c.field-rate.result ≡ rate line = next_field line largest64 e1 c.field-rate.ensures in
    let e3 : c.field-burst_bytes.result ≡ burst_bytes line = next_field line largest64 e2 c.field-burst_bytes.ensures in
    let e4 : c.field-threshold.result ≡ threshold line = next_field line largest32 e3 c.field-threshold.ensures in
    let e5 : c.field-ban_duration.result ≡ ban_duration line = next_field line largest64 e4 c.field-ban_duration.ensures in
    let e6 : c.field-max_tracked.result ≡ max_tracked line = next_field line largest64 e5 c.field-max_tracked.ensures in
    let e7 : c.field-max_messages.result ≡ max_messages line = next_field line largest32 e6 c.field-max_messages.ensures in
    let e8 : c.field-max_bytes.result ≡ max_bytes line = next_field line largest64 e7 c.field-max_bytes.ensures in
    let t : ends_line line (max_bytes line) ≡ false = ends_told line e8 c.ends.ensures c.if-not-ends.true in
    rw t

pub overflow_cast-result : goal.overflow_cast-result
overflow_cast-result c =
    let line = c.args.line.now in
    let b : c.value-2.result ≤ largest32 = rw (c.value-2.ensures, c.field-burst.ensures) (field_bound line c.scan-interval.result largest32 (omega arith)) in
    omega (arith, b)

pub overflow_cast-result-2 : goal.overflow_cast-result-2
overflow_cast-result-2 c =
    let line = c.args.line.now in
    let b : c.value-5.result ≤ largest32 = rw (c.value-5.ensures, c.field-threshold.ensures) (field_bound line c.field-burst_bytes.result largest32 (omega arith)) in
    omega (arith, b)

pub overflow_cast-result-3 : goal.overflow_cast-result-3
overflow_cast-result-3 c =
    let line = c.args.line.now in
    let b : c.value-8.result ≤ largest32 = rw (c.value-8.ensures, c.field-max_messages.ensures) (field_bound line c.field-max_tracked.result largest32 (omega arith)) in
    omega (arith, b)

pub returns : goal.returns
unfolding settings_of
returns c =
    let line = c.args.line.now in
    let e0 : c.scan-interval.result ≡ interval line = c.scan-interval.ensures in
    let e1 : c.field-burst.result ≡ burst line = next_field line largest32 e0 c.field-burst.ensures in
    let e2 : c.field-rate.result ≡ rate line = next_field line largest64 e1 c.field-rate.ensures in
    let e3 : c.field-burst_bytes.result ≡ burst_bytes line = next_field line largest64 e2 c.field-burst_bytes.ensures in
    let e4 : c.field-threshold.result ≡ threshold line = next_field line largest32 e3 c.field-threshold.ensures in
    let e5 : c.field-ban_duration.result ≡ ban_duration line = next_field line largest64 e4 c.field-ban_duration.ensures in
    let e6 : c.field-max_tracked.result ≡ max_tracked line = next_field line largest64 e5 c.field-max_tracked.ensures in
    let e7 : c.field-max_messages.result ≡ max_messages line = next_field line largest32 e6 c.field-max_messages.ensures in
    let e8 : c.field-max_bytes.result ≡ max_bytes line = next_field line largest64 e7 c.field-max_bytes.ensures in
    let t : ends_line line (max_bytes line) ≡ true = ends_told line e8 c.ends.ensures c.if-not-ends.false in
    rw (c.value.ensures, c.value-2.ensures, c.value-3.ensures, c.value-4.ensures, c.value-5.ensures, c.value-6.ensures, c.value-7.ensures, c.value-8.ensures, c.value-9.ensures, e0, e1, e2, e3, e4, e5, e6, e7, e8, t)
