-- `gossip_ban_rows::room::goes_before` meets its contract: by the two bans, as the ranks are ordered (`rank_order`). Assumes nothing.
use Rattle.std.proofs.Common.{◌≡◌, Bool, true, false, not, refl, sym, ap, ◌∙◌, arith}
use mathlib.Core.Bool.{beq}
use Rattle.gossip_ban_rows.specs.declared.entry.GossipBanEntry.{GossipBanEntry}
use Rattle.gossip_ban_rows.specs.Private.{is_lighter}
use Rattle.gossip_ban_rows.specs.RankLaws.{Ranks, goes_before, rank_order}
use Rattle.gossip_ban_rows.proofs.room.goes_before.Goals as goal

-- of two entries one has a live ban: the other goes first
one_banned : (b c : Bool) (e f : GossipBanEntry) → not (beq b c) ≡ true → not b ≡ goes_before b e c f
one_banned true true e f h = cc
one_banned true false e f h = refl
one_banned false true e f h = refl
one_banned false false e f h = cc

-- both have one, or neither: the lighter goes first
alike : (b c : Bool) (e f : GossipBanEntry) → not (beq b c) ≡ false → is_lighter e f ≡ goes_before b e c f
alike true true e f h = refl
alike true false e f h = cc
alike false true e f h = cc
alike false false e f h = refl

pub returns-then-banned-is_currently_banned : goal.returns-then-banned-is_currently_banned
returns-then-banned-is_currently_banned c = let a = c.args in
    let e : Ranks a.e = record { score_fits = omega (arith, c.well_formed); last_fits = omega (arith, c.well_formed) } in
    let f : Ranks a.other = record { score_fits = omega (arith, c.well_formed); last_fits = omega (arith, c.well_formed) } in
    ap not c.is_currently_banned-banned.ensures
    ∙ one_banned _ _ a.e a.other (rw (← c.is_currently_banned-banned.ensures, ← c.is_currently_banned.ensures) c.if-banned-is_currently_banned.true)
    ∙ sym (rank_order a.now_ms a.e a.other e f)

pub returns : goal.returns
returns c = let a = c.args in
    let e : Ranks a.e = record { score_fits = omega (arith, c.well_formed); last_fits = omega (arith, c.well_formed) } in
    let f : Ranks a.other = record { score_fits = omega (arith, c.well_formed); last_fits = omega (arith, c.well_formed) } in
    c.is_lighter.ensures
    ∙ alike _ _ a.e a.other (rw (← c.is_currently_banned-banned.ensures, ← c.is_currently_banned.ensures) c.if-banned-is_currently_banned.false)
    ∙ sym (rank_order a.now_ms a.e a.other e f)
