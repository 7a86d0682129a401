-- `copy::restore` meets its contract. Assumes nothing.
use Rattle.std.proofs.Common.{◌≡◌, ◌+◌, ◌*◌, ◌≤◌, arith, length, rules}
use Rattle.peer_settings.specs.Config.{limit}
use Rattle.peer_laws.specs.SoundLaws.{record_holds}
use Rattle.snapshot.specs.Form.{first}
use Rattle.snapshot.specs.FormLaws.{first_fits}
use Rattle.snapshot.specs.JudgeLaws.{policy_describes, describes_length}
use Rattle.snapshot.specs.ReadLaws.{read_short, read_done}
use Rattle.snapshot.proofs.copy.restore.Goals as goal

pub returns-then-table-limit : goal.returns-then-table-limit
returns-then-table-limit c = let a = c.args in
    read_short first a.snapshot.now a.table.now a.policy c.requires (omega (arith, c.if-table-limit.true, c.limit-limit.ensures))

pub copy_rows-requires : goal.copy_rows-requires
copy_rows-requires c = let a = c.args in
    let d = policy_describes first a.snapshot.now a.policy c.requires in
    let whole : length a.snapshot.now ≡ 120 + 121 * a.policy.rows = omega (arith, describes_length first first_fits a.snapshot.now a.policy d) in
    let few : a.policy.rows ≤ limit a.policy.config = (record_holds a.policy d.own).few in
    search rules

pub returns : goal.returns
returns c =
    let a = c.args in
    read_done first a.snapshot.now a.table.now a.policy c.requires
    (omega (arith, c.if-table-limit.false, c.limit-limit.ensures)) _
    c.limit-limit.ensures _ c.copy_rows.ensures
