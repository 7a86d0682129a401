-- Laws of the buckets that are lent and altered, from those of the calls by value: at most one outcome for each call, in the record that
-- is left and in the answer, and a refusal leaves the record. Assumes nothing.
use Rattle.std.specs.Prelude.{◌≡◌, refl, ℕ}
use Rattle.std.proofs.Common.{ap}
use Rattle.std.specs.Prelude.{Result, Err}
use Rattle.refusal.specs.declared.Refusal.{Refusal}
use Rattle.bucket_terms.specs.declared.answer.NotGiven.{NotGiven}
use Rattle.bucket_discrete.specs.declared.discrete.DiscreteTokenBucket.{DiscreteTokenBucket}
use Rattle.bucket_discrete.specs.Handed.{DiscreteRefilled}
use Rattle.bucket_discrete.specs.Handed.{DiscreteConsumed}
use Rattle.bucket_bytes.specs.declared.bytes.ByteTokenBucket.{ByteTokenBucket}
use Rattle.bucket_bytes.specs.Handed.{ByteRefilled}
use Rattle.bucket_bytes.specs.Handed.{ByteConsumed}
use Rattle.bucket_bytes.specs.Handed.{ByteReserved}
use Rattle.bucket_discrete.specs.DiscreteBucket.{DiscreteRefillMeets, DiscreteTryConsumeMeets}
use Rattle.bucket_discrete.specs.DiscreteBucketLaws.{discrete_refill_outcome, discrete_try_consume_outcome, discrete_refill_refused, discrete_try_consume_refused}
use Rattle.bucket_bytes.specs.ByteBucket.{ByteRefillMeets, ByteTryConsumeMeets, ByteReserveMeets, ByteRefundMeets}
use Rattle.bucket_bytes.specs.ByteBucketLaws.{byte_refill_outcome, byte_try_consume_outcome, byte_reserve_outcome, byte_refund_outcome}
use Rattle.bucket_bytes.specs.ByteBucketLaws.{byte_refill_refused, byte_try_consume_refused, byte_reserve_refused, byte_refund_refused}

-- ════ At most one outcome ════

pub lent_discrete_refill_outcome : (b : DiscreteTokenBucket) (now : ℕ) {after other : DiscreteTokenBucket} {r q : Result (Unit {0}) Refusal}
    → DiscreteRefillMeets b now (record { state = after; answer = r }) → DiscreteRefillMeets b now (record { state = other; answer = q })
    → (after ≡ other) × (r ≡ q)
lent_discrete_refill_outcome b now h k =
    let same = discrete_refill_outcome b now h k in
    (ap (λ (t : DiscreteRefilled). t.state) same, ap (λ (t : DiscreteRefilled). t.answer) same)

pub lent_discrete_try_consume_outcome : (b : DiscreteTokenBucket) (now : ℕ) {after other : DiscreteTokenBucket} {r q : Result (Unit {0}) NotGiven}
    → DiscreteTryConsumeMeets b now (record { state = after; answer = r }) → DiscreteTryConsumeMeets b now (record { state = other; answer = q })
    → (after ≡ other) × (r ≡ q)
lent_discrete_try_consume_outcome b now h k =
    let same = discrete_try_consume_outcome b now h k in
    (ap (λ (t : DiscreteConsumed). t.state) same, ap (λ (t : DiscreteConsumed). t.answer) same)

pub lent_byte_refill_outcome : (b : ByteTokenBucket) (now : ℕ) {after other : ByteTokenBucket} {r q : Result (Unit {0}) Refusal}
    → ByteRefillMeets b now (record { state = after; answer = r }) → ByteRefillMeets b now (record { state = other; answer = q })
    → (after ≡ other) × (r ≡ q)
lent_byte_refill_outcome b now h k =
    let same = byte_refill_outcome b now h k in
    (ap (λ (t : ByteRefilled). t.state) same, ap (λ (t : ByteRefilled). t.answer) same)

pub lent_byte_try_consume_outcome : (b : ByteTokenBucket) (bytes now : ℕ) {after other : ByteTokenBucket} {r q : Result (Unit {0}) NotGiven}
    → ByteTryConsumeMeets b bytes now (record { state = after; answer = r }) → ByteTryConsumeMeets b bytes now (record { state = other; answer = q })
    → (after ≡ other) × (r ≡ q)
lent_byte_try_consume_outcome b bytes now h k =
    let same = byte_try_consume_outcome b bytes now h k in
    (ap (λ (t : ByteConsumed). t.state) same, ap (λ (t : ByteConsumed). t.answer) same)

pub lent_byte_reserve_outcome : (b : ByteTokenBucket) (bytes now : ℕ) {after other : ByteTokenBucket} {r q : Result ℕ Refusal}
    → ByteReserveMeets b bytes now (record { state = after; answer = r }) → ByteReserveMeets b bytes now (record { state = other; answer = q })
    → (after ≡ other) × (r ≡ q)
lent_byte_reserve_outcome b bytes now h k =
    let same = byte_reserve_outcome b bytes now h k in
    (ap (λ (t : ByteReserved). t.state) same, ap (λ (t : ByteReserved). t.answer) same)

pub lent_byte_refund_outcome : (b : ByteTokenBucket) (bytes now : ℕ) {after other : ByteTokenBucket} {r q : Result (Unit {0}) Refusal}
    → ByteRefundMeets b bytes now (record { state = after; answer = r }) → ByteRefundMeets b bytes now (record { state = other; answer = q })
    → (after ≡ other) × (r ≡ q)
lent_byte_refund_outcome b bytes now h k =
    let same = byte_refund_outcome b bytes now h k in
    (ap (λ (t : ByteRefilled). t.state) same, ap (λ (t : ByteRefilled). t.answer) same)

-- ════ A refusal leaves the record ════

pub lent_discrete_refill_refused : (b : DiscreteTokenBucket) (now : ℕ) (n : Refusal) {after : DiscreteTokenBucket} → DiscreteRefillMeets b now (record { state = after; answer = Err n }) → after ≡ b
lent_discrete_refill_refused b now n h = discrete_refill_refused b now h refl

pub lent_discrete_try_consume_refused : (b : DiscreteTokenBucket) (now : ℕ) (n : Refusal) {after : DiscreteTokenBucket} → DiscreteTryConsumeMeets b now (record { state = after; answer = Err (NotGiven.Refused n) }) → after ≡ b
lent_discrete_try_consume_refused b now n h = discrete_try_consume_refused b now h refl

pub lent_byte_refill_refused : (b : ByteTokenBucket) (now : ℕ) (n : Refusal) {after : ByteTokenBucket} → ByteRefillMeets b now (record { state = after; answer = Err n }) → after ≡ b
lent_byte_refill_refused b now n h = byte_refill_refused b now h refl

pub lent_byte_try_consume_refused : (b : ByteTokenBucket) (bytes now : ℕ) (n : Refusal) {after : ByteTokenBucket} → ByteTryConsumeMeets b bytes now (record { state = after; answer = Err (NotGiven.Refused n) }) → after ≡ b
lent_byte_try_consume_refused b bytes now n h = byte_try_consume_refused b bytes now h refl

pub lent_byte_reserve_refused : (b : ByteTokenBucket) (bytes now : ℕ) (n : Refusal) {after : ByteTokenBucket} → ByteReserveMeets b bytes now (record { state = after; answer = Err n }) → after ≡ b
lent_byte_reserve_refused b bytes now n h = byte_reserve_refused b bytes now h refl

pub lent_byte_refund_refused : (b : ByteTokenBucket) (bytes now : ℕ) (n : Refusal) {after : ByteTokenBucket} → ByteRefundMeets b bytes now (record { state = after; answer = Err n }) → after ≡ b
lent_byte_refund_refused b bytes now n h = byte_refund_refused b bytes now h refl
