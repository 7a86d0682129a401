-- `gossip_outbound_state::charge::charge_both` meets its contract: the buckets are sound, so they refuse nothing. Assumes nothing.
use Rattle.std.proofs.Common.{sym, ap, ◌∙◌}
use Rattle.std.specs.Option.{is_some}
use Rattle.bucket_bytes.specs.ByteBucketLaws.{byte_try_consume_sound}
use Rattle.gossip_outbound_state.specs.CarryLaws.{charge_no, charge_peer_no, charge_yes}
use Rattle.gossip_outbound_state.proofs.charge.charge_both.Goals as goal

pub returns-in_err-ok : goal.returns-in_err-ok
returns-in_err-ok c = let a = c.args in
    c.from_residual.ensures
    ∙ charge_no a.global a.peer a.bytes a.now_ms c.try_consume-first.result (byte_try_consume_sound a.global a.bytes a.now_ms c.requires.global_sound c.try_consume-first.ensures)
    (sym c.ok.ensures.variant ∙ ap is_some (c.in_err-ok.was))

pub returns-in_err-ok-2 : goal.returns-in_err-ok-2
returns-in_err-ok-2 c = let a = c.args in
    c.from_residual-in_err-ok-2.ensures
    ∙ charge_peer_no a.global a.peer a.bytes a.now_ms c.try_consume-first.result (byte_try_consume_sound a.global a.bytes a.now_ms c.requires.global_sound c.try_consume-first.ensures)
    (sym c.ok.ensures.variant ∙ ap is_some (c.in_ok-ok.was))
    c.try_consume-second.result (byte_try_consume_sound a.peer a.bytes a.now_ms c.requires.peer_sound c.try_consume-second.ensures)
    (sym c.ok-2.ensures.variant ∙ ap is_some (c.in_err-ok-2.was))

pub returns : goal.returns
returns c =
    let a = c.args in
    charge_yes a.global a.peer a.bytes a.now_ms c.try_consume-first.result (byte_try_consume_sound a.global a.bytes a.now_ms c.requires.global_sound c.try_consume-first.ensures)
    (sym c.ok.ensures.variant ∙ ap is_some (c.in_ok-ok.was))
    c.try_consume-second.result (byte_try_consume_sound a.peer a.bytes a.now_ms c.requires.peer_sound c.try_consume-second.ensures)
    (sym c.ok-2.ensures.variant ∙ ap is_some (c.in_ok-ok-2.was))
