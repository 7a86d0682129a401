-- `judge::policy_in` meets its contract: the settings, then what follows from them. Assumes nothing.
use Rattle.std.proofs.Common.{sym, ap, ◌∙◌, arith}
use Rattle.snapshot.specs.Form.{first}
use Rattle.snapshot.specs.Snapshot.{config_in, policy_in}
use Rattle.snapshot.specs.FormLaws.{first_fits}
use Rattle.snapshot.specs.JudgeLaws.{read_length}
use Rattle.snapshot.proofs.judge.policy_in.Goals as goal

pub policy_with-requires : goal.policy_with-requires
policy_with-requires c = omega (arith, read_length first c.args.snapshot.now c.in-Some.config (sym c.settings_in.ensures ∙ c.in-Some.is) first_fits)

pub returns-in_default : goal.returns-in_default
unfolding policy_in
returns-in_default c = sym (ap (config_in first c.args.snapshot.now) (sym c.settings_in.ensures ∙ c.in_default.is))

pub returns : goal.returns
unfolding policy_in
returns c = c.policy_with.ensures ∙ sym (ap (config_in first c.args.snapshot.now) (sym c.settings_in.ensures ∙ c.in-Some.is))
