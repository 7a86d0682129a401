-- The violation of a number. Definitions only.
use Rattle.std.specs.Prelude.{cond, ℕ, eqb, Option, None, Some}
use Rattle.gossip_settings.specs.declared.violation.GossipViolation.{GossipViolation}
use Rattle.gossip_settings.specs.declared.violation.GossipViolation.TheVariants as GossipViolation

-- in the order of `GossipViolation`
abbrev pub blame_of : ℕ → Option GossipViolation
blame_of n =
    cond (eqb n 0) (Some GossipViolation.InvalidSyncResponse)
    (cond (eqb n 1) (Some GossipViolation.InvalidBroadcastMessage)
    (cond (eqb n 2) (Some GossipViolation.PolicyRejectedMessage) None))
