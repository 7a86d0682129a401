-- The limiter of channel updates behind the C boundary. Definitions only.
use Rattle.std.specs.Prelude.{◌≡◌, cond, List, [], ◌∷◌, ℕ, eqb, get_or, Result}
use Rattle.refusal.specs.declared.Refusal.{Refusal}
use Rattle.refusal.specs.Some.{Some}
use Rattle.pubkey.specs.declared.ChannelUpdateLimiterKey.{ChannelUpdateLimiterKey}
use Rattle.gossip_settings.specs.Settings.{max_tracked_keys}
use Rattle.gossip_limiter.specs.declared.limiter.ChannelUpdateLimiter.{ChannelUpdateLimiter}
use Rattle.gossip_limiter.specs.Handed.{LimiterTold}
use Rattle.gossip_limiter.specs.Calls.{MadeMeets, TryAcquireMeets, TrackedKeysMeets}
use Rattle.c_terms.specs.declared.reply.Reply.{Reply}
use Rattle.c_terms.specs.Answers.{reply, delay_reply, told_reply}
use Rattle.c_terms.specs.Answers as terms
use Rattle.c_limiter.specs.declared.limiter.LimiterOperation.{LimiterOperation}
use Rattle.c_limiter.specs.declared.limiter.LimiterOperation.TheVariants.{New, WithMaxEntries, TryAcquire, TrackedKeys as Tracked, Unknown}
use Rattle.c_limiter.specs.Handed.{LimiterDone}
use Rattle.c_terms.specs.Left.{Left, Untouched}
use Rattle.c_terms.specs.Keys.{limiter_key_of}

-- the operation of a number
abbrev pub limiter_operation : ℕ → LimiterOperation
limiter_operation n =
    cond (eqb n 1) New (cond (eqb n 2) WithMaxEntries (cond (eqb n 3) TryAcquire (cond (eqb n 4) Tracked Unknown)))

-- ════ Words ════

-- the limiter that these words say
abbrev pub limiter_of : List ℕ → List ℕ → ChannelUpdateLimiter
limiter_of longs shorts =
    record {
      config = record { interval_ms = get_or longs 0 0; burst = get_or shorts 0 0 };
      max_entries = get_or longs 1 0;
      rows = get_or longs 2 0;
    }

-- a limiter's words of 64 bits
abbrev pub limiter_longs : ChannelUpdateLimiter → List ℕ
limiter_longs l = l.config.interval_ms ∷ l.max_entries ∷ l.rows ∷ []

-- a limiter's words of 32 bits
abbrev pub limiter_shorts : ChannelUpdateLimiter → List ℕ
limiter_shorts l = l.config.burst ∷ []

-- ════ Answers ════

abbrev pub limiter_done : ChannelUpdateLimiter → Reply → LimiterDone
limiter_done l s = record { state = l; answer = s }

-- 261 and the limiter that was made; on a refusal the one that the words said
abbrev pub made_done : ChannelUpdateLimiter → Result ChannelUpdateLimiter Refusal → LimiterDone
made_done = terms.made_done

-- 260 for yes, 259 for no
abbrev pub told_done : LimiterTold → LimiterDone
told_done a = limiter_done a.state (told_reply a.answer)

-- 261 and how many keys have a bucket
abbrev pub tracked_reply : Result ℕ Refusal → Reply
tracked_reply = delay_reply

-- ════ The calls ════

-- what each operation does: there is an answer that meets the call's contract, with every lent byte, and it is what is said
abbrev pub LimiterDoes : LimiterOperation → ChannelUpdateLimiter → List ℕ → ChannelUpdateLimiterKey → ℕ → LimiterDone → List ℕ → Type 0
LimiterDoes New l before k now d after =
    Some (λ a. MadeMeets l.config max_tracked_keys before a after) (λ a. d ≡ made_done l a)
LimiterDoes WithMaxEntries l before k now d after =
    Some (λ a. MadeMeets l.config l.max_entries before a after) (λ a. d ≡ made_done l a)
LimiterDoes TryAcquire l before k now d after = Some (λ a. TryAcquireMeets l before k now a after) (λ a. d ≡ told_done a)
LimiterDoes Tracked l before k now d after =
    Some (λ a. TrackedKeysMeets l a) (λ a. Untouched d (limiter_done l (tracked_reply a)) before after)
LimiterDoes Unknown l before k now d after = Untouched d (limiter_done l (reply 0 0)) before after

-- the number returned, and the words and the value after the call
abbrev pub LimiterLeft : LimiterDone → List ℕ → List ℕ → List ℕ → ℕ → List ℕ → List ℕ → List ℕ → Type 0
LimiterLeft d = Left d.answer (limiter_longs d.state) (limiter_shorts d.state)

-- uglezmir_limiter
abbrev pub LimiterExported : ℕ → List ℕ → List ℕ → List ℕ → List ℕ → List ℕ → ℕ → ℕ → List ℕ → ℕ → List ℕ → List ℕ → List ℕ → List ℕ → Type 0
LimiterExported operation longs shorts before k o side now value r longs' shorts' after value' =
    Some (λ d. LimiterDoes (limiter_operation operation) (limiter_of longs shorts) before (limiter_key_of k o side) now d after)
    (λ d. LimiterLeft d longs shorts value r longs' shorts' value')
