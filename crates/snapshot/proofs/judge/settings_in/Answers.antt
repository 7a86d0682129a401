-- `judge::settings_in` meets its contract: the contents, then the settings. Assumes nothing.
use Rattle.std.proofs.Common.{sym, ap, ◌∙◌, arith}
use Rattle.snapshot_layout.specs.Layout.{laid_out}
use Rattle.snapshot.specs.Form.{first, rows_in}
use Rattle.snapshot.specs.FormLaws.{first_fits}
use Rattle.snapshot.specs.JudgeLaws.{slots_are, laid_length, settings_refused, settings_told}
use Rattle.snapshot.proofs.judge.settings_in.Goals as goal

pub returns-then-not-laid_out : goal.returns-then-not-laid_out
returns-then-not-laid_out c =
    let z = c.args.snapshot.now in
    let told = slots_are first c.kinds-kinds.result c.lengths-lengths.result c.rows_in.result (rows_in first z) c.kinds-kinds.ensures c.lengths-lengths.ensures c.rows_in.ensures in
    sym (settings_refused first z (ap (laid_out z) (sym told) ∙ sym c.laid_out.ensures ∙ c.if-not-laid_out.true))

pub read_settings-requires : goal.read_settings-requires
read_settings-requires c =
    let z = c.args.snapshot.now in
    let told = slots_are first c.kinds-kinds.result c.lengths-lengths.result c.rows_in.result (rows_in first z) c.kinds-kinds.ensures c.lengths-lengths.ensures c.rows_in.ensures in
    omega (arith, laid_length first first_fits z (ap (laid_out z) (sym told) ∙ sym c.laid_out.ensures ∙ c.if-not-laid_out.false))

pub returns : goal.returns
returns c =
    let z = c.args.snapshot.now in
    let told = slots_are first c.kinds-kinds.result c.lengths-lengths.result c.rows_in.result (rows_in first z) c.kinds-kinds.ensures c.lengths-lengths.ensures c.rows_in.ensures in
    c.read_settings.ensures ∙ sym (settings_told first z (ap (laid_out z) (sym told) ∙ sym c.laid_out.ensures ∙ c.if-not-laid_out.false))
