-- The byte bucket behind the C boundary. Definitions only.
use Rattle.std.specs.Prelude.{◌≡◌, cond, List, [], ◌∷◌, ℕ, eqb, get_or}
use Rattle.refusal.specs.Some.{Some}
use Rattle.bucket_bytes.specs.declared.bytes.ByteTokenBucket.{ByteTokenBucket}
use Rattle.bucket_terms.specs.Limit.{byte_limit, byte_disabled}
use Rattle.bucket_bytes.specs.ByteBucket.{byte_new}
use Rattle.bucket_bytes.specs.ByteBucket.{ByteRefillMeets, ByteTryConsumeMeets, ByteReserveMeets, BytePeekDelayMeets, ByteRefundMeets, ByteHasDebtMeets}
use Rattle.c_terms.specs.declared.reply.Reply.{Reply}
use Rattle.c_buckets.specs.declared.bytes.ByteOperation.{ByteOperation}
use Rattle.c_buckets.specs.declared.bytes.ByteOperation.TheVariants.{New, Refill, TryConsume, Reserve, PeekDelay, Refund, HasDebt, BurstBytes, IsDisabled, Unknown}
use Rattle.c_buckets.specs.Handed.{ByteDone}
use Rattle.c_terms.specs.Answers.{reply, truth_reply, refilled_reply, consumed_reply, delay_reply, told_reply, kept}
use Rattle.c_terms.specs.AmountWords.{amount_of_words, amount_words}

-- the operation of a number
abbrev pub byte_operation : ℕ → ByteOperation
byte_operation n =
    cond (eqb n 4) New
    (cond (eqb n 5) Refill
    (cond (eqb n 6) TryConsume
    (cond (eqb n 7) Reserve
    (cond (eqb n 8) PeekDelay
    (cond (eqb n 9) Refund (cond (eqb n 10) HasDebt (cond (eqb n 11) BurstBytes (cond (eqb n 12) IsDisabled Unknown))))))))

-- the bucket that these words say
abbrev pub byte_of : List ℕ → List ℕ → ByteTokenBucket
byte_of longs available =
    record {
      config = byte_limit (get_or longs 0 0) (get_or longs 1 0);
      available_bytes = amount_of_words available;
      last_refill_ms = get_or longs 2 0;
    }

-- a bucket's words of 64 bits
abbrev pub byte_longs : ByteTokenBucket → List ℕ
byte_longs b = b.config.rate_bytes_per_sec ∷ b.config.burst_bytes ∷ b.last_refill_ms ∷ []

abbrev pub byte_done : ByteTokenBucket → Reply → ByteDone
byte_done b s = record { state = b; answer = s }

-- what each operation does: there is an answer that meets the call's contract, and it is what is said
abbrev pub ByteDoes : ByteOperation → ByteTokenBucket → ℕ → ℕ → ByteDone → Type 0
ByteDoes New b bytes now d = d ≡ byte_done (byte_new b.config) (reply 261 0)
ByteDoes Refill b bytes now d =
    Some (λ a. ByteRefillMeets b now a) (λ a. d ≡ byte_done a.state (refilled_reply a.answer))
ByteDoes TryConsume b bytes now d =
    Some (λ a. ByteTryConsumeMeets b bytes now a) (λ a. d ≡ byte_done a.state (consumed_reply a.answer))
ByteDoes Reserve b bytes now d =
    Some (λ a. ByteReserveMeets b bytes now a) (λ a. d ≡ byte_done a.state (delay_reply a.answer))
ByteDoes PeekDelay b bytes now d = Some (λ a. BytePeekDelayMeets b bytes now a) (λ a. d ≡ byte_done b (delay_reply a))
ByteDoes Refund b bytes now d =
    Some (λ a. ByteRefundMeets b bytes now a) (λ a. d ≡ byte_done a.state (refilled_reply a.answer))
ByteDoes HasDebt b bytes now d = Some (λ a. ByteHasDebtMeets b now a) (λ a. d ≡ byte_done b (told_reply a))
ByteDoes BurstBytes b bytes now d = d ≡ byte_done b (reply 261 b.config.burst_bytes)
ByteDoes IsDisabled b bytes now d = d ≡ byte_done b (truth_reply (byte_disabled b.config))
ByteDoes Unknown b bytes now d = d ≡ byte_done b (reply 0 0)

-- the number returned, and the words and the value after the call
abbrev pub ByteLeft : ByteDone → List ℕ → List ℕ → ℕ → ℕ → List ℕ → List ℕ → ℕ → Type 0
ByteLeft d longs available value r longs' available' value' =
    (r ≡ d.answer.number)
    × (longs' ≡ kept d.answer.number longs (byte_longs d.state))
    × (available' ≡ kept d.answer.number available (amount_words d.state.available_bytes))
    × (value' ≡ kept d.answer.number value d.answer.value)

-- uglezmir_byte
abbrev pub ByteExported : ℕ → List ℕ → List ℕ → ℕ → ℕ → ℕ → ℕ → List ℕ → List ℕ → ℕ → Type 0
ByteExported operation longs available bytes now value r longs' available' value' =
    Some (λ d. ByteDoes (byte_operation operation) (byte_of longs available) bytes now d)
    (λ d. ByteLeft d longs available value r longs' available' value')
