-- `row::opens` meets its contract: the rows have a place just where the layout is right. Assumes nothing.
use Rattle.std.specs.Prelude.{is_ok}
use Rattle.std.proofs.Common.{ap, ◌∙◌}
use Rattle.snapshot_reader.specs.ReaderLaws.{opens_told}
use Rattle.snapshot_reader.proofs.row.opens.Goals as goal

pub returns : goal.returns
returns c = c.is_ok.ensures.value ∙ ap is_ok c.place_of_kind.ensures ∙ opens_told c.args.snapshot.now
