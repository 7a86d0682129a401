-- Laws of the byte bucket: at most one outcome for each call, a sound bucket is never refused, and a refusal leaves the bucket.
-- Assumes nothing.
use Rattle.std.specs.Prelude.{◌≡◌, Bool, true, ℕ, min}
use Rattle.std.proofs.Common.{arith}
use Rattle.std.specs.Prelude.{Result, Ok, Err}
use Rattle.refusal.specs.declared.Refusal.{Refusal}
use Rattle.bucket_terms.specs.declared.answer.NotGiven.TheVariants as NotGiven
use Rattle.refusal.specs.OneOutcomeLaws.{one_outcome}
use Rattle.bucket_terms.specs.declared.limit.ByteRateLimitConfig.{ByteRateLimitConfig}
use Rattle.bucket_terms.specs.Answers.{told}
use Rattle.bucket_terms.specs.AnswersLaws.{refused_leaves, neither_refuses}
use Rattle.bucket_terms.specs.Limit.{byte_disabled}
use Rattle.bucket_terms.specs.LimitLaws.{byte_limit_is_disabled_outcome}
use Rattle.bucket_bytes.specs.declared.bytes.ByteTokenBucket.{ByteTokenBucket}
use Rattle.bucket_bytes.specs.Handed.{ByteRefilled}
use Rattle.bucket_bytes.specs.Handed.{ByteConsumed}
use Rattle.bucket_bytes.specs.Handed.{ByteReserved}
use Rattle.bucket_bytes.specs.ByteBucket.{byte_sound, byte_new, byte_refill, byte_deficit, byte_taken, byte_take, byte_try_consume, byte_reserve, byte_peek_delay_after_refill, byte_refund, byte_has_debt}
use Rattle.bucket_bytes.specs.ByteBucket.{ByteRefillMeets, ByteTryConsumeMeets, ByteReserveMeets, BytePeekDelayMeets, ByteRefundMeets, ByteHasDebtMeets}

-- ════ At most one outcome ════

pub byte_new_outcome : (c : ByteRateLimitConfig) {r q : ByteTokenBucket} → r ≡ byte_new c → q ≡ byte_new c → r ≡ q
byte_new_outcome c = one_outcome

pub byte_refill_outcome : (b : ByteTokenBucket) (now : ℕ) {r q : ByteRefilled} → ByteRefillMeets b now r → ByteRefillMeets b now q → r ≡ q
unfolding ByteRefillMeets
byte_refill_outcome b now = one_outcome

pub byte_try_consume_outcome : (b : ByteTokenBucket) (bytes now : ℕ) {r q : ByteConsumed} → ByteTryConsumeMeets b bytes now r → ByteTryConsumeMeets b bytes now q → r ≡ q
unfolding ByteTryConsumeMeets
byte_try_consume_outcome b bytes now = one_outcome

pub byte_reserve_outcome : (b : ByteTokenBucket) (bytes now : ℕ) {r q : ByteReserved} → ByteReserveMeets b bytes now r → ByteReserveMeets b bytes now q → r ≡ q
unfolding ByteReserveMeets
byte_reserve_outcome b bytes now = one_outcome

pub byte_peek_delay_outcome : (b : ByteTokenBucket) (bytes now : ℕ) {r q : Result ℕ Refusal} → BytePeekDelayMeets b bytes now r → BytePeekDelayMeets b bytes now q → r ≡ q
unfolding BytePeekDelayMeets
byte_peek_delay_outcome b bytes now = one_outcome

pub byte_refund_outcome : (b : ByteTokenBucket) (bytes now : ℕ) {r q : ByteRefilled} → ByteRefundMeets b bytes now r → ByteRefundMeets b bytes now q → r ≡ q
unfolding ByteRefundMeets
byte_refund_outcome b bytes now = one_outcome

pub byte_has_debt_outcome : (b : ByteTokenBucket) (now : ℕ) {r q : Result Bool Refusal} → ByteHasDebtMeets b now r → ByteHasDebtMeets b now q → r ≡ q
unfolding ByteHasDebtMeets
byte_has_debt_outcome b now = one_outcome

pub byte_burst_bytes_outcome : (b : ByteTokenBucket) {r q : ℕ} → r ≡ b.config.burst_bytes → q ≡ b.config.burst_bytes → r ≡ q
byte_burst_bytes_outcome b = one_outcome

pub byte_is_disabled_outcome : (b : ByteTokenBucket) {r q : Bool} → r ≡ byte_disabled b.config → q ≡ byte_disabled b.config → r ≡ q
byte_is_disabled_outcome b = byte_limit_is_disabled_outcome b.config

-- ════ A sound bucket is never refused ════

pub byte_refill_sound : (b : ByteTokenBucket) (now : ℕ) {r : ByteRefilled} → byte_sound b ≡ true → ByteRefillMeets b now r → r ≡ record { state = byte_refill b now; answer = Ok tt }
unfolding ByteRefillMeets
byte_refill_sound b now h e = rw h at e

pub byte_try_consume_sound : (b : ByteTokenBucket) (bytes now : ℕ) {r : ByteConsumed} → byte_sound b ≡ true → ByteTryConsumeMeets b bytes now r → r ≡ byte_try_consume b bytes now
unfolding ByteTryConsumeMeets
byte_try_consume_sound b bytes now h e = rw h at e

pub byte_reserve_sound : (b : ByteTokenBucket) (bytes now : ℕ) {r : ByteReserved} → byte_sound b ≡ true → ByteReserveMeets b bytes now r → r ≡ byte_reserve b bytes now
unfolding ByteReserveMeets
byte_reserve_sound b bytes now h e = rw h at e

pub byte_peek_delay_sound : (b : ByteTokenBucket) (bytes now : ℕ) {r : Result ℕ Refusal} → byte_sound b ≡ true → BytePeekDelayMeets b bytes now r → r ≡ Ok (byte_peek_delay_after_refill b bytes now)
unfolding BytePeekDelayMeets
byte_peek_delay_sound b bytes now h e = rw h at e

pub byte_refund_sound : (b : ByteTokenBucket) (bytes now : ℕ) {r : ByteRefilled} → byte_sound b ≡ true → ByteRefundMeets b bytes now r → r ≡ record { state = byte_refund b bytes now; answer = Ok tt }
unfolding ByteRefundMeets
byte_refund_sound b bytes now h e = rw h at e

pub byte_has_debt_sound : (b : ByteTokenBucket) (now : ℕ) {r : Result Bool Refusal} → byte_sound b ≡ true → ByteHasDebtMeets b now r → r ≡ told (byte_has_debt b now)
unfolding ByteHasDebtMeets
byte_has_debt_sound b now h e = rw h at e

-- ════ A refusal leaves the bucket ════

pub byte_refill_refused : (b : ByteTokenBucket) (now : ℕ) {r : ByteRefilled} {n : Refusal} → ByteRefillMeets b now r → r.answer ≡ Err n → r.state ≡ b
unfolding ByteRefillMeets
byte_refill_refused b now e k =
    refused_leaves (λ (t : ByteRefilled). t.state) (λ (t : ByteRefilled). t.answer) (byte_sound b) e k
    (λ d. let z : ◌≡◌ {A = ℕ} 0 1 = cc in omega arith)

pub byte_refund_refused : (b : ByteTokenBucket) (bytes now : ℕ) {r : ByteRefilled} {n : Refusal} → ByteRefundMeets b bytes now r → r.answer ≡ Err n → r.state ≡ b
unfolding ByteRefundMeets
byte_refund_refused b bytes now e k =
    refused_leaves (λ (t : ByteRefilled). t.state) (λ (t : ByteRefilled). t.answer) (byte_sound b) e k
    (λ d. let z : ◌≡◌ {A = ℕ} 0 1 = cc in omega arith)

take_refuses_none : (b : ByteTokenBucket) (bytes : ℕ) {n : Refusal} → (byte_take b bytes).answer ≡ Err (NotGiven.Refused n) → ⊥
unfolding byte_take
take_refuses_none b bytes =
    neither_refuses (λ (t : ByteConsumed). t.answer) _
    (record { state = b; answer = Err (NotGiven.Short (min (byte_deficit b bytes) 18446744073709551615)) })
    (record { state = byte_taken b bytes; answer = Ok tt })
    (λ e. let z : ◌≡◌ {A = ℕ} 0 1 = cc in omega arith)
    (λ e. let z : ◌≡◌ {A = ℕ} 0 1 = cc in omega arith)

try_consume_refuses_none : (b : ByteTokenBucket) (bytes now : ℕ) {n : Refusal} → (byte_try_consume b bytes now).answer ≡ Err (NotGiven.Refused n) → ⊥
unfolding byte_try_consume
try_consume_refuses_none b bytes now =
    neither_refuses (λ (t : ByteConsumed). t.answer) (byte_disabled b.config) _ _
    (λ e. let z : ◌≡◌ {A = ℕ} 0 1 = cc in omega arith)
    (take_refuses_none (byte_refill b now) bytes)

pub byte_try_consume_refused : (b : ByteTokenBucket) (bytes now : ℕ) {r : ByteConsumed} {n : Refusal} → ByteTryConsumeMeets b bytes now r → r.answer ≡ Err (NotGiven.Refused n) → r.state ≡ b
unfolding ByteTryConsumeMeets
byte_try_consume_refused b bytes now e k =
    refused_leaves (λ (t : ByteConsumed). t.state) (λ (t : ByteConsumed). t.answer) (byte_sound b) e k
    (try_consume_refuses_none b bytes now)

reserve_refuses_none : (b : ByteTokenBucket) (bytes now : ℕ) {n : Refusal} → (byte_reserve b bytes now).answer ≡ Err n → ⊥
unfolding byte_reserve
reserve_refuses_none b bytes now =
    neither_refuses (λ (t : ByteReserved). t.answer) (byte_disabled b.config) _ _
    (λ e. let z : ◌≡◌ {A = ℕ} 0 1 = cc in omega arith)
    (λ e. let z : ◌≡◌ {A = ℕ} 0 1 = cc in omega arith)

pub byte_reserve_refused : (b : ByteTokenBucket) (bytes now : ℕ) {r : ByteReserved} {n : Refusal} → ByteReserveMeets b bytes now r → r.answer ≡ Err n → r.state ≡ b
unfolding ByteReserveMeets
byte_reserve_refused b bytes now e k =
    refused_leaves (λ (t : ByteReserved). t.state) (λ (t : ByteReserved). t.answer) (byte_sound b) e k
    (reserve_refuses_none b bytes now)
