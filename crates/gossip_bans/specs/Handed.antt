-- What the calls hand back: the state, as it was where the call is refused, and the answer. Definitions only.
use Rattle.std.specs.Prelude.{ℕ, Bool, Result}
use Rattle.refusal.specs.declared.Refusal.{Refusal}
use Rattle.refusal.specs.declared.Answered.{Answered}
use Rattle.gossip_bans.specs.declared.tracker.GossipBanTracker.{GossipBanTracker}

abbrev pub BanTold : Type 0
BanTold = Answered GossipBanTracker (Result Bool Refusal)

abbrev pub BanScored : Type 0
BanScored = Answered GossipBanTracker (Result ℕ Refusal)

abbrev pub BanPruned : Type 0
BanPruned = Answered GossipBanTracker (Result (Unit {0}) Refusal)
