-- At most one outcome satisfies the contract of `uglezmir_limiter`: in the number, in every word and in every lent byte. Assumes nothing.
use Rattle.std.specs.Prelude.{◌≡◌, List, ℕ}
use Rattle.refusal.specs.OneOutcomeLaws.{one_outcome}
use Rattle.pubkey.specs.declared.ChannelUpdateLimiterKey.{ChannelUpdateLimiterKey}
use Rattle.gossip_settings.specs.Settings.{max_tracked_keys}
use Rattle.gossip_limiter.specs.declared.limiter.ChannelUpdateLimiter.{ChannelUpdateLimiter}
use Rattle.gossip_laws.specs.LimiterOutcomeLaws.{limiter_made_one, try_acquire_one, tracked_keys_one}
use Rattle.c_terms.specs.SomeLaws.{some_one, some_alone}
use Rattle.c_limiter.specs.declared.limiter.LimiterOperation.{LimiterOperation}
use Rattle.c_limiter.specs.Handed.{LimiterDone}
use Rattle.c_terms.specs.LeftLaws.{Alike, left_one, untouched_one}
use Rattle.c_terms.specs.Keys.{limiter_key_of}
use Rattle.c_limiter.specs.Limiter.{limiter_operation, limiter_of, limiter_longs, limiter_shorts, LimiterDoes, LimiterExported}

module _ (before : List ℕ) {first second : List ℕ} where
  does_one : (l : ChannelUpdateLimiter) (k : ChannelUpdateLimiterKey) (now : ℕ) (o : LimiterOperation) (d e : LimiterDone)
      → LimiterDoes o l before k now d first → LimiterDoes o l before k now e second → (d ≡ e) × (first ≡ second)
  does_one l k now LimiterOperation.New d e =
      some_one (λ a b. limiter_made_one before {first = first} {second = second} l.config max_tracked_keys {r = a} {q = b}) (λ a. one_outcome)
  does_one l k now LimiterOperation.WithMaxEntries d e =
      some_one (λ a b. limiter_made_one before {first = first} {second = second} l.config l.max_entries {r = a} {q = b}) (λ a. one_outcome)
  does_one l k now LimiterOperation.TryAcquire d e =
      some_one (λ a b. try_acquire_one before {first = first} {second = second} l k now {r = a} {q = b}) (λ a. one_outcome)
  does_one l k now LimiterOperation.TrackedKeys d e =
      some_alone (λ a b. tracked_keys_one l {r = a} {q = b}) (λ a. untouched_one _ d e before)
  does_one l k now LimiterOperation.Unknown d e = untouched_one _ d e before

pub uglezmir_limiter_outcome : (operation : ℕ) (longs shorts before k o : List ℕ) (side now : ℕ) (value : List ℕ) {r q : ℕ}
    {longs' longs'' shorts' shorts'' first second value' value'' : List ℕ}
    → LimiterExported operation longs shorts before k o side now value r longs' shorts' first value'
    → LimiterExported operation longs shorts before k o side now value q longs'' shorts'' second value''
    → Alike r q longs' longs'' shorts' shorts'' value' value'' × (first ≡ second)
uglezmir_limiter_outcome operation longs shorts before k o side now value {first = first} {second = second} =
    some_one (does_one before {first = first} {second = second} (limiter_of longs shorts) (limiter_key_of k o side) now (limiter_operation operation))
    (λ d. left_one d.answer (limiter_longs d.state) (limiter_shorts d.state) longs shorts value)
