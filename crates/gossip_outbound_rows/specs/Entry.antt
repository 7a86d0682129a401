-- What is kept of a peer's outbound bucket: four numbers, from which the bucket of the peers' settings is read back. Definitions only;
-- their laws are in `EntryLaws`.
use Rattle.std.specs.Prelude.{Bool, true, false, ◌&&◌, [], ◌∷◌, ℕ, ◌+◌, ◌*◌, ◌/◌, ◌%◌, leb, eqb, get_or}
use Rattle.amount.specs.declared.Amount.{Amount}
use Rattle.bucket_terms.specs.declared.limit.ByteRateLimitConfig.{ByteRateLimitConfig}
use Rattle.bucket_bytes.specs.declared.bytes.ByteTokenBucket.{ByteTokenBucket}
use Rattle.bucket_bytes.specs.ByteBucket.{byte_sound}
use Rattle.gossip_outbound_rows.specs.declared.entry.OutboundEntry.{OutboundEntry}

-- an entry by its numbers: the sign, 0 for plus and 1 for minus, the halves of the magnitude, and the time of the last refill
abbrev pub outbound_entry : ℕ → ℕ → ℕ → ℕ → OutboundEntry
outbound_entry sign low high last = record { sign = sign; low = low; high = high; last_refill_ms = last }

-- the amount of a sign and of a magnitude in two halves, each two limbs
unfoldable pub amount_from : ℕ → ℕ → ℕ → Amount
amount_from sign low high =
    record {
      negative = eqb sign 1;
      limbs = low % 4294967296 ∷ low / 4294967296 ∷ high % 4294967296 ∷ high / 4294967296 ∷ [];
    }

-- the bucket of these settings that an entry stands for
abbrev pub bucket_of : ByteRateLimitConfig → OutboundEntry → ByteTokenBucket
bucket_of c e =
    record { config = c; available_bytes = amount_from e.sign e.low e.high; last_refill_ms = e.last_refill_ms }

-- a sign as a number
abbrev pub sign_of : Bool → ℕ
sign_of true = 1
sign_of false = 0

-- what is kept of a bucket
unfoldable pub entry_of : ByteTokenBucket → OutboundEntry
entry_of b =
    outbound_entry (sign_of b.available_bytes.negative)
    (get_or b.available_bytes.limbs 0 0 + 4294967296 * get_or b.available_bytes.limbs 1 0)
    (get_or b.available_bytes.limbs 2 0 + 4294967296 * get_or b.available_bytes.limbs 3 0)
    b.last_refill_ms

-- the rules of an entry under these settings: its sign is one, and its bucket is sound: an i128, no minus zero, and never above the burst
unfoldable pub entry_sound : ByteRateLimitConfig → OutboundEntry → Bool
entry_sound c e = leb e.sign 1 && byte_sound (bucket_of c e)
