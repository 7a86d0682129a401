-- What the machine gives of any policy: every number is within its field's width. Definitions only.
use Rattle.std.specs.Prelude.{◌^◌, ◌<◌}
use Rattle.peer_state.specs.declared.ingress.FiberIngressBudget.{FiberIngressBudget}
use Rattle.peer_settings.specs.Fits.{ConfigFits}
use Rattle.peer_message_policy.specs.declared.policy.PeerMessagePolicy.{PeerMessagePolicy}

pub record LoadFits (i : FiberIngressBudget) : Type 0 where
  pub messages : i.in_flight_messages < 2 ^ 32
  pub bytes : i.in_flight_bytes < 2 ^ 64

pub record PolicyFits (p : PeerMessagePolicy) : Type 0 where
  pub config : ConfigFits p.config
  pub load : LoadFits p.ingress
  pub rows : p.rows < 2 ^ 64
