-- Sample G: with a threshold of 100 and a duration of 50, four violations of 25 points at time 7: the fourth bans; banned at 56, not at 57.
-- It computes on the definitions of the calls. Assumes nothing.
use Rattle.std.specs.Prelude.{Bool, true, false, ◌≡◌, refl, List, [], ◌∷◌, ℕ, zero, suc}
use Rattle.lent_bytes.specs.LentBytes.{zeros}
use Rattle.table.specs.Table.{look, store, erase}
use Rattle.table.specs.Outcome.{Outcome, changed_rows}
use Rattle.gossip_settings.specs.declared.ban.GossipBanConfig.{GossipBanConfig}
use Rattle.gossip_settings.specs.declared.violation.GossipViolation.TheVariants as GossipViolation
use Rattle.gossip_settings.specs.Settings.{violation_score}
use Rattle.gossip_ban_rows.specs.declared.entry.GossipBanEntry.{GossipBanEntry}
use Rattle.gossip_ban_rows.specs.Entry.{banned_if_reached}
use Rattle.gossip_ban_rows.specs.Rows.{Bans}
use Rattle.gossip_ban_rows.specs.Room.{maybe_expire, make_room}
use Rattle.gossip_bans.specs.Tracker.{record_violation, is_banned}

-- the sample's settings
abbrev settings_g : GossipBanConfig
settings_g = record { «threshold» = 100; duration_ms = 50 }

-- a peer
abbrev peer_g : List ℕ
peer_g = 2 ∷ zeros 32

-- one violation of 25 points at time 7
abbrev violation_g : Bans → Outcome GossipBanEntry Bool
violation_g rs = record_violation settings_g 1024 peer_g (violation_score GossipViolation.PolicyRejectedMessage) 7 rs

-- the rows after so many of them
abbrev after_g : ℕ → Bans
after_g zero = []
after_g (suc n) = changed_rows (after_g n) (violation_g (after_g n)).change

-- whether the peer is banned at a time after four of them
abbrev banned_g : ℕ → Bool
banned_g now = (is_banned settings_g peer_g now (after_g 4)).answer

pub sample_G : ((violation_g (after_g 0)).answer ∷ (violation_g (after_g 1)).answer ∷ (violation_g (after_g 2)).answer ∷ (violation_g (after_g 3)).answer ∷ [])
    ≡ (false ∷ false ∷ false ∷ true ∷ [])
unfolding record_violation banned_if_reached maybe_expire make_room look store erase
sample_G = refl

pub sample_G_banned : (banned_g 56 ≡ true) × (banned_g 57 ≡ false)
unfolding record_violation is_banned banned_if_reached maybe_expire make_room look store erase
sample_G_banned = (refl, refl)
