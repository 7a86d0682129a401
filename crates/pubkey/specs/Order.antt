-- The order of keys: bytes are compared one by one from the first, as the Rust's derived `Ord` compares them.
-- Definitions only; that it is a strict order is proved in `OrderLaws`, that fronts decide a comparison in `FrontLaws`.
use Rattle.std.specs.Prelude.{ℕ, Bool, true, false, List, [], ◌∷◌, ◌++◌, nat_lt}
use Rattle.std.specs.declared.cmp.Ordering.{Ordering}
use Rattle.std.specs.declared.cmp.Ordering.TheVariants.{Less, Equal, Greater}
use Rattle.pubkey.specs.declared.Pubkey.{Pubkey}
use Rattle.pubkey.specs.declared.OutPoint.{OutPoint}
use Rattle.pubkey.specs.declared.ChannelUpdateLimiterKey.{ChannelUpdateLimiterKey}

infixr 20 ◌then◌
-- `a` unless it is Equal, and then `b`: the Rust's `Ordering::then`
abbrev pub ◌then◌ : Ordering → Ordering → Ordering
Less then b = Less
Equal then b = b
Greater then b = Greater

-- the answer, given whether the first is below the second and whether it is above
abbrev pub ordering : Bool → Bool → Ordering
ordering true above = Less
ordering false true = Greater
ordering false false = Equal

-- which of two numbers is the smaller
abbrev pub compare_numbers : ℕ → ℕ → Ordering
compare_numbers a b = ordering (nat_lt a b) (nat_lt b a)

-- which of two lists of bytes comes first: the first byte that differs decides, and a list comes before its continuations
abbrev pub compare_bytes : List ℕ → List ℕ → Ordering
compare_bytes [] [] = Equal
compare_bytes [] (b ∷ bs) = Less
compare_bytes (a ∷ more) [] = Greater
compare_bytes (a ∷ more) (b ∷ bs) = compare_numbers a b then compare_bytes more bs

-- the byte of a side: false before true
abbrev pub side_byte : Bool → ℕ
side_byte false = 0
side_byte true = 1

-- which of a channel's two sides comes first
abbrev pub compare_sides : Bool → Bool → Ordering
compare_sides a b = compare_numbers (side_byte a) (side_byte b)

-- the limiter key of a peer, an OutPoint and a side
abbrev pub limiter_key : Pubkey → OutPoint → Bool → ChannelUpdateLimiterKey
limiter_key p o side = record { peer = p; channel_outpoint = o; is_node1 = side }

-- the order of limiter keys: by peer, then by OutPoint, then by side
unfoldable pub compare_limiter_keys : ChannelUpdateLimiterKey → ChannelUpdateLimiterKey → Ordering
compare_limiter_keys a b =
    compare_bytes a.peer.bytes b.peer.bytes
    then (compare_bytes a.channel_outpoint.bytes b.channel_outpoint.bytes
    then compare_sides a.is_node1 b.is_node1)

-- the 70 bytes of a limiter key as a table row holds them
unfoldable pub limiter_key_bytes : ChannelUpdateLimiterKey → List ℕ
limiter_key_bytes k = k.peer.bytes ++ (k.channel_outpoint.bytes ++ (side_byte k.is_node1 ∷ []))
