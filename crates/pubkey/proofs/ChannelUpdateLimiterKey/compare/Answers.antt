-- `pubkey::ChannelUpdateLimiterKey::compare` meets its contract: each call's answer is put in its place. Assumes nothing.
use Rattle.std.proofs.Common.{sym, ap, ◌∙◌}
use Rattle.std.specs.declared.cmp.Ordering.{Ordering}
use Rattle.pubkey.specs.Order.{◌then◌, compare_limiter_keys}
use Rattle.pubkey.specs.OrderLaws.{then_assoc}
use Rattle.pubkey.proofs.StdOrder.{then_is, sides_are}
use Rattle.pubkey.proofs.ChannelUpdateLimiterKey.compare.Goals as goal

pub returns : goal.returns
unfolding compare_limiter_keys
returns c =
    let p = c.compare.result in
    let o = c.compare-2.result in
    let s = c.cmp.result in
    let chain = sym (then_assoc p o s) ∙ ap (λ (q : Ordering). q then s) (then_is p o ∙ sym c.then.ensures) ∙ then_is c.then.result s ∙ sym c.then-2.ensures in
    rw (← c.compare.ensures, ← c.compare-2.ensures, sides_are, ← c.cmp.ensures) (sym chain)
