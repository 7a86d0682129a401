-- A spent ban drops its entry, room is made among the other rows, and the new entry is stored there: among rows within the limit and in
-- order this is an overwrite in place. Assumes nothing.
use Rattle.std.specs.Prelude.{◌≡◌, true, List, ℕ, ◌≤◌, length}
use Rattle.std.proofs.Common.{ap, ◌∙◌, arith}
use Rattle.std.proofs.Math.Option.{some}
use Rattle.table.specs.Table.{ascending, look, store, erase}
use Rattle.table.specs.PlaceLaws.{length_erase_some}
use Rattle.table_laws.specs.StoreLaws.{store_erase}
use Rattle.peer_settings.specs.declared.config.PeerMessagePolicyConfig.{PeerMessagePolicyConfig}
use Rattle.peer_state.specs.declared.entry.PeerMessagePolicyEntry.{PeerMessagePolicyEntry}
use Rattle.peer_settings.specs.Config.{limit}
use Rattle.peer_rows.specs.Rows.{Peers}
use Rattle.peer_table.specs.Room.{make_room}
use Rattle.peer_table.specs.RoomLaws.{room_free}

-- the drop leaves room, so that nothing else goes
dropped_room : (c : PeerMessagePolicyConfig) (now : ℕ) (k : List ℕ) (rs : Peers) {e : PeerMessagePolicyEntry} → length rs ≤ limit c
    → look k rs ≡ some e → make_room c now (erase k rs) ≡ erase k rs
dropped_room c now k rs few found = room_free c now (erase k rs) (omega (arith, length_erase_some k rs found, few))

pub spent_in_place : (c : PeerMessagePolicyConfig) (now : ℕ) (k : List ℕ) (rs : Peers) {e : PeerMessagePolicyEntry} → length rs ≤ limit c
    → ascending rs ≡ true → look k rs ≡ some e → (x : PeerMessagePolicyEntry) → store k x (make_room c now (erase k rs)) ≡ store k x rs
spent_in_place c now k rs few order found x = ap (store k x) (dropped_room c now k rs few found) ∙ store_erase k x rs order
