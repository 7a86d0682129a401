-- `row::given_at` meets its contract. Assumes nothing.
use Rattle.std.proofs.Common.{◌≡◌, ap, ◌∙◌, List, ℕ}
use Rattle.lent_bytes.specs.LentBytes.{part}
use Rattle.peer_rows.specs.Rows.{row_from}
use Rattle.snapshot.specs.JudgeLaws.{whole_tail}
use Rattle.snapshot_reader.proofs.row.given_at.Goals as goal

pub returns : goal.returns
unfolding part
returns c = let a = c.args in
    let entry : c.entry_at.result ≡ (row_from a.snapshot.now a.at).entry =
    c.entry_at.ensures ∙ ap (λ (w : List ℕ). (row_from w 0).entry) (whole_tail a.at a.snapshot.now) in
    (λ d. record { key = record { bytes = c.key_at.ensures d }; entry = entry d })
