-- Private: cited by contracts inside the proved code alone; no entry point's contract rests on it. Definitions only.
use Rattle.std.specs.Prelude.{List, ℕ, ◌≡◌, true}
use Rattle.table.specs.declared.seek.Seek.{Seek}
use Rattle.table_laws.specs.Private.{lent_sought}
use Rattle.peer_settings.specs.declared.config.PeerMessagePolicyConfig.{PeerMessagePolicyConfig}
use Rattle.peer_settings.specs.Config.{limit}
use Rattle.peer_state.specs.declared.entry.PeerMessagePolicyEntry.{PeerMessagePolicyEntry}
use Rattle.peer_state.specs.Entry.{entry_new}
use Rattle.peer_rows.specs.Private.{entry_at}
use Rattle.peer_rows.specs.Rows.{peer_layout, peer_sound, Peers}
use Rattle.peer_table.specs.Room.{make_room}
use Rattle.peer_message_policy.specs.declared.policy.PeerMessagePolicy.{PeerMessagePolicy}
use Rattle.peer_message_policy.specs.Policy.{policy_sound, rows_of, sound, become}
use Rattle.table.specs.declared.seek.Seek.TheVariants.{Unsound, At, Gap}
use Rattle.table.specs.Private.{place_from}
use Rattle.table.specs.Memory.{Holds}
use Rattle.peer_state.specs.declared.ingress.FiberIngressBudget.{FiberIngressBudget}
use Rattle.peer_message_policy.specs.Calls.{policy_after}

-- the policy and its memory are unsound, or the peer's row is at a place, or would stand at a gap
unfoldable pub sought_in : PeerMessagePolicy → List ℕ → List ℕ → Seek
sought_in p s k = lent_sought peer_layout (peer_sound p.config) (policy_sound p) (limit p.config) s p.rows k

-- a sound policy, and where a peer's row is, or would stand
pub record Found (p : PeerMessagePolicy) (s : List ℕ) (k : List ℕ) (f : Seek) : Type 0 where
  pub is_sound : sound p s ≡ true
  pub place : place_from 0 k (rows_of p s) ≡ f

-- a peer whose row is the i-th
abbrev pub Known : PeerMessagePolicy → List ℕ → List ℕ → ℕ → Type 0
Known p s k i = Found p s k (At i)

-- a peer that has no row: its own would stand before the i-th
abbrev pub Unknown : PeerMessagePolicy → List ℕ → List ℕ → ℕ → Type 0
Unknown p s k i = Found p s k (Gap i)

-- the entry that a call meets: that of the peer's row, or a new one
unfoldable pub entry_found : PeerMessagePolicyConfig → ℕ → List ℕ → Seek → PeerMessagePolicyEntry
entry_found c now s (At i) = entry_at s i
entry_found c now s (Gap i) = entry_new c now
entry_found c now s Unsound = entry_new c now

-- the rows become these, and the policy goes on with this load in flight
pub record Left (p : PeerMessagePolicy) (i : FiberIngressBudget) (s : List ℕ) (rs : Peers) (q : PeerMessagePolicy) (t : List ℕ) : Type 0 where
  pub policy : q ≡ policy_after p i (become rs)
  pub memory : Holds peer_layout s t p.rows rs

-- the rows that a decided entry goes among: all of them where it goes over the peer's row, else those that are left when room was made
abbrev pub room_for : PeerMessagePolicyConfig → ℕ → Peers → Seek → Peers
room_for c now rs (At i) = rs
room_for c now rs (Gap i) = make_room c now rs
room_for c now rs Unsound = rs
