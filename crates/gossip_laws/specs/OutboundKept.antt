-- What every outbound call keeps. Definitions only; that they do is proved in `OutboundKeptLaws`.
use Rattle.std.specs.Prelude.{◌≡◌, true, List, ℕ, ◌^◌, ◌<◌, length}
use Rattle.lent_bytes.specs.LentBytes.{Bytes}
use Rattle.table_laws.specs.Kept.{Key}
use Rattle.bucket_terms.specs.declared.limit.ByteRateLimitConfig.{ByteRateLimitConfig}
use Rattle.bucket_bytes.specs.ByteBucket.{byte_new}
use Rattle.gossip_outbound_rows.specs.Rows.{outbound_layout}
use Rattle.gossip_outbound_state.specs.declared.state.Outbound.{Outbound}
use Rattle.gossip_outbound_state.specs.State.{sound}

-- what the language gives of any state, memory and key that a program holds
pub record Given (o : Outbound) (s k : List ℕ) : Type 0 where
  pub global_fits : o.global_outbound.config.burst_bytes < 2 ^ 64
  pub peers_fit : o.peer_outbound_config.burst_bytes < 2 ^ 64
  pub memory : Bytes s
  pub key : Key outbound_layout k

-- a sound state and memory that became these: sound again, of the same length and settings, and bytes
pub record Kept (o : Outbound) (s : List ℕ) (q : Outbound) (t : List ℕ) : Type 0 where
  pub stays_sound : sound q t ≡ true
  pub same_length : length t ≡ length s
  pub holds_bytes : Bytes t
  pub global_settings : q.global_outbound.config ≡ o.global_outbound.config
  pub peer_settings : q.peer_outbound_config ≡ o.peer_outbound_config

-- a state without a row, whose global bucket is full
abbrev pub fresh : ByteRateLimitConfig → ByteRateLimitConfig → Outbound
fresh g c = record { global_outbound = byte_new g; peer_outbound_config = c; rows = 0 }
