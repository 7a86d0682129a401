-- The discrete bucket behind the C boundary. Definitions only.
use Rattle.std.specs.Prelude.{◌≡◌, cond, List, [], ◌∷◌, ℕ, eqb, get_or}
use Rattle.refusal.specs.Some.{Some}
use Rattle.bucket_discrete.specs.declared.discrete.DiscreteTokenBucket.{DiscreteTokenBucket}
use Rattle.bucket_discrete.specs.DiscreteBucket.{discrete_new, DiscreteRefillMeets, DiscreteTryConsumeMeets, DiscreteIsFullMeets}
use Rattle.c_terms.specs.declared.reply.Reply.{Reply}
use Rattle.c_buckets.specs.declared.discrete.DiscreteOperation.{DiscreteOperation}
use Rattle.c_buckets.specs.declared.discrete.DiscreteOperation.TheVariants.{New, Refill, TryConsume, IsFull, Unknown}
use Rattle.c_buckets.specs.Handed.{DiscreteDone}
use Rattle.c_terms.specs.Answers.{reply, refilled_reply, consumed_reply, told_reply, kept}

-- the operation of a number
abbrev pub discrete_operation : ℕ → DiscreteOperation
discrete_operation n =
    cond (eqb n 0) New (cond (eqb n 1) Refill (cond (eqb n 2) TryConsume (cond (eqb n 3) IsFull Unknown)))

-- the bucket that these words say
abbrev pub discrete_of : List ℕ → List ℕ → DiscreteTokenBucket
discrete_of longs shorts =
    record {
      interval_ms = get_or longs 0 0;
      capacity = get_or shorts 0 0;
      available = get_or shorts 1 0;
      last_refill_ms = get_or longs 1 0;
    }

-- a bucket's words of 64 bits
abbrev pub discrete_longs : DiscreteTokenBucket → List ℕ
discrete_longs b = b.interval_ms ∷ b.last_refill_ms ∷ []

-- a bucket's words of 32 bits
abbrev pub discrete_shorts : DiscreteTokenBucket → List ℕ
discrete_shorts b = b.capacity ∷ b.available ∷ []

abbrev pub discrete_done : DiscreteTokenBucket → Reply → DiscreteDone
discrete_done b s = record { state = b; answer = s }

-- what each operation does: there is an answer that meets the call's contract, and it is what is said
abbrev pub DiscreteDoes : DiscreteOperation → DiscreteTokenBucket → ℕ → DiscreteDone → Type 0
DiscreteDoes New b now d = d ≡ discrete_done (discrete_new b.interval_ms b.capacity) (reply 261 0)
DiscreteDoes Refill b now d =
    Some (λ a. DiscreteRefillMeets b now a) (λ a. d ≡ discrete_done a.state (refilled_reply a.answer))
DiscreteDoes TryConsume b now d =
    Some (λ a. DiscreteTryConsumeMeets b now a) (λ a. d ≡ discrete_done a.state (consumed_reply a.answer))
DiscreteDoes IsFull b now d = Some (λ a. DiscreteIsFullMeets b a) (λ a. d ≡ discrete_done b (told_reply a))
DiscreteDoes Unknown b now d = d ≡ discrete_done b (reply 0 0)

-- the number returned, and the words and the value after the call
abbrev pub DiscreteLeft : DiscreteDone → List ℕ → List ℕ → ℕ → ℕ → List ℕ → List ℕ → ℕ → Type 0
DiscreteLeft d longs shorts value r longs' shorts' value' =
    (r ≡ d.answer.number)
    × (longs' ≡ kept d.answer.number longs (discrete_longs d.state))
    × (shorts' ≡ kept d.answer.number shorts (discrete_shorts d.state))
    × (value' ≡ kept d.answer.number value d.answer.value)

-- uglezmir_discrete
abbrev pub DiscreteExported : ℕ → List ℕ → List ℕ → ℕ → ℕ → ℕ → List ℕ → List ℕ → ℕ → Type 0
DiscreteExported operation longs shorts now value r longs' shorts' value' =
    Some (λ d. DiscreteDoes (discrete_operation operation) (discrete_of longs shorts) now d)
    (λ d. DiscreteLeft d longs shorts value r longs' shorts' value')
