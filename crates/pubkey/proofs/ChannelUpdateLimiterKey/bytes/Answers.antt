-- `ChannelUpdateLimiterKey::bytes` meets its contract: three writes over zeros are the key's bytes (`put_three`). Assumes nothing.
use Rattle.std.proofs.Common.{◌≡◌, ◌∙◌, length, refl, arith, rules, Bool, true, false}
use Rattle.std.specs.Int.{from_bool}
use Rattle.pubkey.specs.Order.{side_byte, limiter_key_bytes}
use Rattle.pubkey.specs.KeyBytesLaws.{put_three}
use Rattle.pubkey.proofs.ChannelUpdateLimiterKey.bytes.Goals as goal

-- a side as a number
side_is : (b : Bool) → from_bool b ≡ side_byte b
side_is true = refl
side_is false = refl

pub returns : goal.returns
unfolding limiter_key_bytes
returns c =
    let k = c.args.self in
    let first : length k.peer.bytes ≡ 33 = search rules in
    let second : length k.channel_outpoint.bytes ≡ 36 = search rules in
    let side = c.from.ensures ∙ side_is k.is_node1 in
    rw (side, c.put_slice-2.ensures, c.put_slice.ensures) (put_three _ k.peer.bytes k.channel_outpoint.bytes (side_byte k.is_node1) 33 69 first (omega arith) refl)
