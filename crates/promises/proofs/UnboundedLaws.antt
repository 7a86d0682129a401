-- What the upper bound does not bound: it holds for one life of an entry, and lives end. Two small runs that compute. Assumes nothing.
use Rattle.std.specs.Prelude.{◌≡◌, refl, [], ◌∷◌, ℕ}
use Rattle.amount.specs.Amount.{amount_of, value, saturated}
use Rattle.refusal.specs.Refusal.{gives}
use Rattle.bucket_discrete.specs.DiscreteBucket.{discrete_refill, discrete_take, discrete_try_consume}
use Rattle.bucket_bytes.specs.ByteBucket.{byte_refill, byte_take, byte_try_consume}
use Rattle.table.specs.Table.{look, store, erase, retain, remove_at, minimum_from}
use Rattle.peer_settings.specs.declared.config.PeerMessagePolicyConfig.{PeerMessagePolicyConfig}
use Rattle.peer_state.specs.Entry.{window_expire, window_counted, entry_new, entry_ban, entry_used}
use Rattle.peer_state.specs.Ingress.{try_reserve, in_flight}
use Rattle.peer_verdict.specs.Verdict.{take_message, take_bytes, violated, decision}
use Rattle.table.specs.Room.{room_made}
use Rattle.peer_table.specs.Room.{evict, make_room}
use Rattle.peer_verdict.specs.declared.verdict.Cause.TheVariants as Cause
use Rattle.peer_verdict.specs.Causes.{cause_says}
use Rattle.promises.specs.Lives.{allow}
use Rattle.peer_message_policy.specs.Policy.{admit, carried_out, entry_for_update}
use Rattle.promises.specs.Samples.{Message, admitted, peers_of}

-- two messages a second, a ban at the first violation, so many tracked peers
abbrev strict : ℕ → ℕ → PeerMessagePolicyConfig
strict duration tracked =
    record {
      peer_message_interval_ms = 1000;
      peer_message_burst = 2;
      peer_message_rate_bytes_per_sec = 0;
      peer_message_burst_bytes = 0;
      violation_ban_threshold = 1;
      ban_duration_ms = duration;
      max_tracked_peers = tracked;
      max_in_flight_messages = 0;
      max_in_flight_bytes = 0;
    }

-- a message of a peer at time 5
abbrev from : ℕ → Message
from peer = record { peer = peer; size = 1; now = 5 }

-- a ban of no duration is over at once, and the next message begins a new life with full buckets
pub new_lives_by_bans : admitted (strict 0 2) (in_flight 0 0) [] (from 2 ∷ from 2 ∷ from 2 ∷ from 2 ∷ from 2 ∷ from 2 ∷ []) ≡ allow ∷ allow ∷ cause_says Cause.BanBegun ∷ allow ∷ allow ∷ cause_says Cause.BanBegun ∷ gives (2 ∷ []) ∷ []
unfolding peers_of admitted amount_of value saturated discrete_refill discrete_take discrete_try_consume byte_refill byte_take byte_try_consume look store erase retain remove_at minimum_from window_expire window_counted entry_new entry_ban entry_used try_reserve take_message take_bytes violated decision evict room_made make_room admit carried_out entry_for_update
new_lives_by_bans = refl

-- in a table of one row two peers that take turns evict each other, and each message begins a new life
pub new_lives_by_eviction : admitted (strict 100 1) (in_flight 0 0) [] (from 2 ∷ from 3 ∷ from 2 ∷ from 3 ∷ from 2 ∷ from 3 ∷ []) ≡ allow ∷ allow ∷ allow ∷ allow ∷ allow ∷ allow ∷ gives (3 ∷ []) ∷ []
unfolding peers_of admitted amount_of value saturated discrete_refill discrete_take discrete_try_consume byte_refill byte_take byte_try_consume look store erase retain remove_at minimum_from window_expire window_counted entry_new entry_ban entry_used try_reserve take_message take_bytes violated decision evict room_made make_room admit carried_out entry_for_update
new_lives_by_eviction = refl
