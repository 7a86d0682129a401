-- What the machine gives of any scan: every number is within its field's width. Definitions only.
use Rattle.std.specs.Prelude.{◌^◌, ◌<◌}
pub use Rattle.peer_laws.specs.Fits.{LoadFits, PolicyFits}
use Rattle.trace.specs.declared.scan.Scan.{Scan}

pub record ScanFits (scan : Scan) : Type 0 where
  pub at : scan.at < 2 ^ 64
  pub number : scan.number < 2 ^ 64
  pub policy : PolicyFits scan.policy
