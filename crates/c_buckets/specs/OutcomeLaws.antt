-- Laws of the calls behind the C boundary: at most one outcome for each, in every number and word that it leaves. Assumes nothing.
use Rattle.std.specs.Prelude.{◌≡◌, List, ℕ}
use Rattle.refusal.specs.OneOutcomeLaws.{one_outcome}
use Rattle.bucket_discrete.specs.declared.discrete.DiscreteTokenBucket.{DiscreteTokenBucket}
use Rattle.bucket_discrete.specs.DiscreteBucketLaws.{discrete_refill_outcome, discrete_try_consume_outcome, discrete_is_full_outcome}
use Rattle.bucket_bytes.specs.declared.bytes.ByteTokenBucket.{ByteTokenBucket}
use Rattle.bucket_bytes.specs.ByteBucketLaws.{byte_refill_outcome, byte_try_consume_outcome, byte_reserve_outcome, byte_peek_delay_outcome, byte_refund_outcome, byte_has_debt_outcome}
use Rattle.c_terms.specs.SomeLaws.{some_alone}
use Rattle.c_buckets.specs.declared.discrete.DiscreteOperation.{DiscreteOperation}
use Rattle.c_buckets.specs.Handed.{DiscreteDone}
use Rattle.c_buckets.specs.declared.bytes.ByteOperation.{ByteOperation}
use Rattle.c_buckets.specs.Handed.{ByteDone}
use Rattle.c_buckets.specs.Discrete.{discrete_operation, discrete_of, DiscreteDoes, DiscreteExported}
use Rattle.c_buckets.specs.Bytes.{byte_operation, byte_of, ByteDoes, ByteExported}
use Rattle.c_buckets.specs.Amounts.{AmountExported}
use Rattle.c_buckets.specs.Settings.{SettingsExported}
use Rattle.c_buckets.specs.Limits.{LimitExported}

-- ════ What each operation does ════

discrete_does : (o : DiscreteOperation) (b : DiscreteTokenBucket) (now : ℕ) (d e : DiscreteDone) → DiscreteDoes o b now d → DiscreteDoes o b now e → d ≡ e
discrete_does DiscreteOperation.New b now d e p q = one_outcome p q
discrete_does DiscreteOperation.Refill b now d e p q = some_alone (λ x y. discrete_refill_outcome b now) (λ a. one_outcome) p q
discrete_does DiscreteOperation.TryConsume b now d e p q = some_alone (λ x y. discrete_try_consume_outcome b now) (λ a. one_outcome) p q
discrete_does DiscreteOperation.IsFull b now d e p q = some_alone (λ x y. discrete_is_full_outcome b) (λ a. one_outcome) p q
discrete_does DiscreteOperation.Unknown b now d e p q = one_outcome p q

byte_does : (o : ByteOperation) (b : ByteTokenBucket) (bytes now : ℕ) (d e : ByteDone) → ByteDoes o b bytes now d → ByteDoes o b bytes now e → d ≡ e
byte_does ByteOperation.New b bytes now d e p q = one_outcome p q
byte_does ByteOperation.Refill b bytes now d e p q = some_alone (λ x y. byte_refill_outcome b now) (λ a. one_outcome) p q
byte_does ByteOperation.TryConsume b bytes now d e p q = some_alone (λ x y. byte_try_consume_outcome b bytes now) (λ a. one_outcome) p q
byte_does ByteOperation.Reserve b bytes now d e p q = some_alone (λ x y. byte_reserve_outcome b bytes now) (λ a. one_outcome) p q
byte_does ByteOperation.PeekDelay b bytes now d e p q = some_alone (λ x y. byte_peek_delay_outcome b bytes now) (λ a. one_outcome) p q
byte_does ByteOperation.Refund b bytes now d e p q = some_alone (λ x y. byte_refund_outcome b bytes now) (λ a. one_outcome) p q
byte_does ByteOperation.HasDebt b bytes now d e p q = some_alone (λ x y. byte_has_debt_outcome b now) (λ a. one_outcome) p q
byte_does ByteOperation.BurstBytes b bytes now d e p q = one_outcome p q
byte_does ByteOperation.IsDisabled b bytes now d e p q = one_outcome p q
byte_does ByteOperation.Unknown b bytes now d e p q = one_outcome p q

-- ════ At most one outcome ════

pub uglezmir_discrete_outcome : (operation : ℕ) (longs shorts : List ℕ) (now value : ℕ) {r s : ℕ} {longs' longs'' shorts' shorts'' : List ℕ} {value' value'' : ℕ}
    → DiscreteExported operation longs shorts now value r longs' shorts' value'
    → DiscreteExported operation longs shorts now value s longs'' shorts'' value''
    → (r ≡ s) × (longs' ≡ longs'') × (shorts' ≡ shorts'') × (value' ≡ value'')
uglezmir_discrete_outcome operation longs shorts now value =
    some_alone (discrete_does (discrete_operation operation) (discrete_of longs shorts) now)
    (λ d p q. (one_outcome p.0 q.0, one_outcome p.1 q.1, one_outcome p.2 q.2, one_outcome p.3 q.3))

pub uglezmir_byte_outcome : (operation : ℕ) (longs available : List ℕ) (bytes now value : ℕ) {r s : ℕ} {longs' longs'' available' available'' : List ℕ} {value' value'' : ℕ}
    → ByteExported operation longs available bytes now value r longs' available' value'
    → ByteExported operation longs available bytes now value s longs'' available'' value''
    → (r ≡ s) × (longs' ≡ longs'') × (available' ≡ available'') × (value' ≡ value'')
uglezmir_byte_outcome operation longs available bytes now value =
    some_alone (byte_does (byte_operation operation) (byte_of longs available) bytes now)
    (λ d p q. (one_outcome p.0 q.0, one_outcome p.1 q.1, one_outcome p.2 q.2, one_outcome p.3 q.3))

pub uglezmir_amount_outcome : (operation : ℕ) (first second : List ℕ) (n m : ℕ) (result : List ℕ) (value : ℕ) {r s : ℕ} {result' result'' : List ℕ} {value' value'' : ℕ}
    → AmountExported operation first second n m result value r result' value'
    → AmountExported operation first second n m result value s result'' value''
    → (r ≡ s) × (result' ≡ result'') × (value' ≡ value'')
uglezmir_amount_outcome operation first second n m result value p q =
    (one_outcome p.0 q.0, one_outcome p.1 q.1, one_outcome p.2 q.2)

pub uglezmir_settings_outcome : (operation : ℕ) (longs shorts : List ℕ) {r s : ℕ} {longs' longs'' shorts' shorts'' : List ℕ}
    → SettingsExported operation longs shorts r longs' shorts'
    → SettingsExported operation longs shorts s longs'' shorts''
    → (r ≡ s) × (longs' ≡ longs'') × (shorts' ≡ shorts'')
uglezmir_settings_outcome operation longs shorts p q =
    (one_outcome p.0 q.0, one_outcome p.1 q.1, one_outcome p.2 q.2)

pub uglezmir_limit_outcome : (operation : ℕ) (words : List ℕ) {r s : ℕ} {words' words'' : List ℕ}
    → LimitExported operation words r words' → LimitExported operation words s words'' → (r ≡ s) × (words' ≡ words'')
uglezmir_limit_outcome operation words p q = (one_outcome p.0 q.0, one_outcome p.1 q.1)
