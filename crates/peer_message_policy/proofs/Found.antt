-- What admit and record_invalid meet where a peer was sought: its entry or a new one, and the rows that it is stored among. Over plain values.
-- Assumes nothing.
use mathlib.Core.Path.{◌≡◌, refl, sym, ap, ◌∙◌, subst}
use mathlib.Core.Bool.{true, false}
use mathlib.Core.List.{List}
use mathlib.Core.Option.{none, some}
use Prim.Native.Nat.{ℕ, ◌≤◌}
use lib.ListN.{length}
use Rattle.truths.specs.TruthLaws.{by_test, true_is_not_false}
use Rattle.table.specs.declared.seek.Seek.{Seek}
use Rattle.table.specs.declared.seek.Seek.TheVariants.{Unsound, At, Gap}
use Rattle.table.specs.Table.{ascending, look, store, erase}
use Rattle.table.specs.PlaceLaws.{place_is_sound}
use Rattle.peer_settings.specs.declared.config.PeerMessagePolicyConfig.{PeerMessagePolicyConfig}
use Rattle.peer_state.specs.declared.entry.PeerMessagePolicyEntry.{PeerMessagePolicyEntry}
use Rattle.peer_state.specs.declared.ingress.FiberIngressBudget.{FiberIngressBudget}
use Rattle.peer_settings.specs.Config.{limit}
use Rattle.peer_state.specs.Entry.{entry_sound, entry_new, entry_is_banned, entry_is_spent}
use Rattle.peer_state.specs.Private.{entry_to_update}
use Rattle.peer_rows.specs.Rows.{Peers}
use Rattle.peer_table.specs.Room.{make_room}
use Rattle.peer_message_policy.specs.declared.policy.PeerMessagePolicy.{PeerMessagePolicy}
use Rattle.peer_message_policy.specs.Policy.{rows_of, update, entry_for_update}
use Rattle.peer_message_policy.specs.Private.{Found, Left, entry_found, room_for}
use Rattle.peer_message_policy.specs.UpdateLaws.{spent_in_place}
use Rattle.peer_message_policy.proofs.Judged.{few_read, in_order, known_look, known_sound, unknown_look, new_on_sound}

-- a call goes on with this entry, and what it stores is stored as among these rows
pub record GoesOn (c : PeerMessagePolicyConfig) (now : ℕ) (rs : Peers) (k : List ℕ) (room : Peers) (x : PeerMessagePolicyEntry) : Type 0 where
  pub among : Peers
  pub found : entry_for_update c now rs k (look k rs) ≡ update x among
  pub stores : (e : PeerMessagePolicyEntry) → store k e among ≡ store k e room

-- an entry stored among these rows is stored among those that the call goes on with
pub left_among : {c : PeerMessagePolicyConfig} {now : ℕ} {rs : Peers} {k : List ℕ} {room : Peers} {x : PeerMessagePolicyEntry} (u : GoesOn c now rs k room x) {p q : PeerMessagePolicy} {i : FiberIngressBudget} {s t : List ℕ} (e : PeerMessagePolicyEntry) → Left p i s (store k e room) q t → Left p i s (store k e u.among) q t
left_among u {p} {q} {i} {s} {t} e h = subst (λ (l : Peers). Left p i s l q t) (sym (u.stores e)) h

module _ (c : PeerMessagePolicyConfig) (now : ℕ) (rs : Peers) (k : List ℕ) where
  -- a known peer that is not banned is judged on its entry, or on a new one, which is stored in its place
  update_known : length rs ≤ limit c → ascending rs ≡ true → (e : PeerMessagePolicyEntry) → look k rs ≡ some e → entry_is_banned e now ≡ false → (x : PeerMessagePolicyEntry) → x ≡ entry_to_update c e now → GoesOn c now rs k rs x
  unfolding entry_for_update
  update_known few order e found free x v =
      by_test (entry_is_spent e now)
      (λ spent.
      record { among = make_room c now (erase k rs); found = rw (v, found, free, spent); stores = spent_in_place c now k rs few order found })
      (λ unspent. record { among = rs; found = rw (v, found, free, unspent); stores = λ y. refl })

  -- a peer without a row on a new one, and gets room
  update_new : look k rs ≡ none → (x : PeerMessagePolicyEntry) → x ≡ entry_to_update c (entry_new c now) now → GoesOn c now rs k (make_room c now rs) x
  unfolding entry_for_update entry_new
  update_new missing x v = record { among = make_room c now rs; found = rw (v, missing); stores = λ y. refl }

module _ (p : PeerMessagePolicy) (s k : List ℕ) (now : ℕ) where
  -- a live ban is that of the peer's row
  pub found_live : (f : Seek) → Found p s k f → (e : PeerMessagePolicyEntry) → e ≡ entry_found p.config now s f → entry_is_banned e now ≡ true → look k (rows_of p s) ≡ some e
  unfolding entry_found entry_new
  found_live (At i) h e met live = known_look p s k i h e met
  found_live (Gap i) h e met live = absurd (true_is_not_false live (ap (λ (x : PeerMessagePolicyEntry). entry_is_banned x now) met))
  found_live Unsound h e met live = absurd (place_is_sound 0 k (rows_of p s) h.place)

  -- what is met keeps its rules
  pub found_sound : (f : Seek) → Found p s k f → (e : PeerMessagePolicyEntry) → e ≡ entry_found p.config now s f → entry_sound p.config e ≡ true
  unfolding entry_found
  found_sound (At i) h e met = known_sound p s k i h e met
  found_sound (Gap i) h e met = new_on_sound p.config now e met
  found_sound Unsound h e met = absurd (place_is_sound 0 k (rows_of p s) h.place)

  -- a call that no ban ends goes on
  pub found_goes_on : (f : Seek) → Found p s k f → (e : PeerMessagePolicyEntry) → e ≡ entry_found p.config now s f → entry_is_banned e now ≡ false → (x : PeerMessagePolicyEntry) → x ≡ entry_to_update p.config e now → GoesOn p.config now (rows_of p s) k (room_for p.config now (rows_of p s) f) x
  unfolding entry_found
  found_goes_on (At i) h e met free x v =
      update_known p.config now (rows_of p s) k (few_read p s h.is_sound) (in_order p s h.is_sound) e (known_look p s k i h e met) free x v
  found_goes_on (Gap i) h e met free x v =
      update_new p.config now (rows_of p s) k (unknown_look p s k i h) x (v ∙ ap (λ (y : PeerMessagePolicyEntry). entry_to_update p.config y now) met)
  found_goes_on Unsound h e met free x v = absurd (place_is_sound 0 k (rows_of p s) h.place)
