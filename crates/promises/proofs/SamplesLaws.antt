-- The samples agree with the document, by computation. Assumes nothing.
use Rattle.std.specs.Prelude.{refl}
use Rattle.amount.specs.Amount.{amount_of, value, saturated}
use Rattle.bucket_discrete.specs.DiscreteBucket.{discrete_refill, discrete_take, discrete_try_consume}
use Rattle.bucket_bytes.specs.ByteBucket.{byte_refill, byte_take, byte_try_consume, byte_reserve, byte_has_debt}
use Rattle.table.specs.Table.{look, store, erase, retain, remove_at, minimum_from}
use Rattle.table_laws.specs.Raw.{map_entries}
use Rattle.peer_state.specs.Entry.{window_expire, window_counted, entry_new, entry_ban, entry_used}
use Rattle.peer_state.specs.Ingress.{try_reserve}
use Rattle.peer_verdict.specs.Verdict.{take_message, take_bytes, violated, decision}
use Rattle.table.specs.Room.{room_made}
use Rattle.peer_table.specs.Room.{evict, make_room}
use Rattle.peer_message_policy.specs.Policy.{admit, carried_out, entry_for_update}
use Rattle.gossip_ban_rows.specs.Entry.{banned_if_reached}
use Rattle.gossip_ban_rows.specs.Room as banRoom
use Rattle.gossip_bans.specs.Tracker as tracker
use Rattle.gossip_limiter_rows.specs.Entry.{refilled, asked_of}
use Rattle.gossip_limiter_rows.specs.Prune.{room_for}
use Rattle.gossip_limiter.specs.Limiter.{try_acquire}
use Rattle.promises.specs.Samples.{Agree, samples_run, messages, bytes, promised, violations, peers_of, admitted, blamed, acquired}

pub samples_agree : Agree samples_run
unfolding samples_run messages bytes promised violations peers_of admitted blamed acquired tracker.record_violation tracker.is_banned banned_if_reached banRoom.maybe_expire banRoom.make_room erase try_acquire room_for refilled asked_of map_entries amount_of value saturated discrete_refill discrete_take discrete_try_consume byte_refill byte_take byte_try_consume byte_reserve byte_has_debt look store retain remove_at minimum_from window_expire window_counted entry_new entry_ban entry_used try_reserve take_message take_bytes violated decision evict room_made make_room admit carried_out entry_for_update
samples_agree = (refl, (refl, (refl, (refl, (refl, (refl, (refl, (refl, (refl, (refl, (refl, tt)))))))))))
