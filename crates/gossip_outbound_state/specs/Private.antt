-- Private: cited by contracts inside the proved code alone; no entry point's contract rests on it. Definitions only.
use Rattle.std.specs.Prelude.{Bool, true, false, List, ℕ, leb, ◌≡◌, Result, Ok, Err}
use Rattle.refusal.specs.declared.Refusal.{Refusal}
use Rattle.table.specs.declared.seek.Seek.{Seek}
use Rattle.table_laws.specs.Private.{lent_sought}
use Rattle.bucket_bytes.specs.declared.bytes.ByteTokenBucket.{ByteTokenBucket}
use Rattle.bucket_bytes.specs.ByteBucket.{byte_sound}
use Rattle.gossip_outbound_rows.specs.Rows.{outbound_layout, outbound_sound}
use Rattle.gossip_outbound_state.specs.declared.state.Outbound.{Outbound}
use Rattle.gossip_outbound_state.specs.State.{max_rows, rows_of, own_sound, sound, bucket_or_fresh}
use Rattle.table.specs.declared.seek.Seek.TheVariants.{Unsound, At, Gap}
use Rattle.table.specs.Table.{look}
use Rattle.table.specs.Private.{place_from}

-- what every call begins with: unsound, or the place of a key, or the gap where it would stand
abbrev pub sought_in : Outbound → List ℕ → List ℕ → Seek
sought_in o s k = lent_sought outbound_layout (outbound_sound o.peer_outbound_config) (own_sound o) max_rows s o.rows k

-- whether the answer to a question is yes
abbrev pub is_told_yes : Result Bool Refusal → Bool
is_told_yes (Ok true) = true
is_told_yes (Ok false) = false
is_told_yes (Err n) = false

-- whether the search found the rows, the record or the memory unsound
abbrev pub is_unsound : Seek → Bool
is_unsound Unsound = true
is_unsound (At i) = false
is_unsound (Gap i) = false

-- by what was found: whether a row would have to be made and all are taken
abbrev pub full_at : ℕ → Seek → Bool
full_at n Unsound = false
full_at n (At i) = false
full_at n (Gap i) = leb max_rows n

-- a sound state and memory, and where a key stands or would stand
pub record Placed (o : Outbound) (s k : List ℕ) (found : Seek) : Type 0 where
  pub is_sound : sound o s ≡ true
  pub place : place_from 0 k (rows_of o s) ≡ found

-- a peer's bucket, or a fresh one where it has none
pub record PeerBucket (o : Outbound) (s k : List ℕ) (b : ByteTokenBucket) : Type 0 where
  pub is_peers : b ≡ bucket_or_fresh o.peer_outbound_config (look k (rows_of o s))
  pub is_sound : byte_sound b ≡ true
