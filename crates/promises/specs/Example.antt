-- An example: a peer that may send one message a second sends two, a second apart. Definitions only; that there is such a run is
-- `ExampleLaws.a_run_exists`.
use Rattle.std.specs.Prelude.{◌≡◌, List, [], ◌∷◌, ℕ, replicate}
use Rattle.pubkey.specs.declared.Pubkey.{Pubkey}
use Rattle.refusal.specs.Refusal.{Said}
use Rattle.peer_settings.specs.declared.config.PeerMessagePolicyConfig.{PeerMessagePolicyConfig}
use Rattle.peer_runs.specs.Runs.{Call, admit, State, Step, Run}
use Rattle.promises.specs.Lives.{allow}
use Rattle.promises.specs.RunLives.{Ordered, log_of, Entitled}

-- a message a second and one at once, ten bytes a second and ten at once, a ban at the first violation, one tracked peer, and a ceiling
-- of two messages and ten bytes
abbrev pub one_a_second : PeerMessagePolicyConfig
one_a_second =
    record {
      peer_message_interval_ms = 1000;
      peer_message_burst = 1;
      peer_message_rate_bytes_per_sec = 10;
      peer_message_burst_bytes = 10;
      violation_ban_threshold = 1;
      ban_duration_ms = 1000;
      max_tracked_peers = 1;
      max_in_flight_messages = 2;
      max_in_flight_bytes = 10;
    }

-- the peer whose key is 33 times this byte
abbrev pub peer : Pubkey
peer = record { bytes = replicate 33 2 }

-- 121 lent bytes, whatever stood in them
abbrev pub lent : List ℕ
lent = replicate 121 255

-- three bytes at five seconds, and three at six
abbrev pub first : Call
first = admit peer 3 5000

abbrev pub second : Call
second = admit peer 3 6000

-- a run in which the first message was allowed and has emptied the bucket; the second is entitled to the ceiling's answer, so that it
-- can only be allowed, and there is a state that it leads to
pub record Example : Type 0 where
  pub before : State
  pub run : Run one_a_second (first ∷ []) before
  pub one_allow : log_of peer run ≡ record { time = 5000; size = 3 } ∷ []
  pub ordered : Ordered (second ∷ first ∷ [])
  pub entitled : Entitled run peer 3 6000
  pub by_least : (said : Said) (t : State) → Step before second said t → said ≡ allow
  pub after : State
  pub longer : Run one_a_second (second ∷ first ∷ []) after
  pub two_allows : log_of peer longer ≡ record { time = 6000; size = 3 } ∷ record { time = 5000; size = 3 } ∷ []
