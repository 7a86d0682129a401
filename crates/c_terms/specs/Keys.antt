-- The keys of lent bytes. Definitions only.
use Rattle.std.specs.Prelude.{not, List, ℕ, eqb}
use Rattle.pubkey.specs.declared.Pubkey.{Pubkey}
use Rattle.pubkey.specs.declared.OutPoint.{OutPoint}
use Rattle.pubkey.specs.declared.ChannelUpdateLimiterKey.{ChannelUpdateLimiterKey}
use Rattle.pubkey.specs.Order.{limiter_key}

-- a peer's key
abbrev pub key_of : List ℕ → Pubkey
key_of k = record { bytes = k }

abbrev pub out_point_of : List ℕ → OutPoint
out_point_of o = record { bytes = o }

-- what updates are counted by: a side is 0 for false, anything else for true
abbrev pub limiter_key_of : List ℕ → List ℕ → ℕ → ChannelUpdateLimiterKey
limiter_key_of k o side = limiter_key (key_of k) (out_point_of o) (not (eqb side 0))
