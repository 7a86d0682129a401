-- `row::key_at` meets its contract. Assumes nothing.
use Rattle.std.proofs.Common.{◌≡◌, ap, ◌∙◌, ℕ, ◌+◌, ◌-◌, arith, take, drop}
use Rattle.lent_bytes.specs.LentBytes.{part, put, zeros}
use Rattle.lent_bytes.specs.LentBytesLaws.{length_part}
use Rattle.snapshot_reader.specs.ReaderLaws.{put_all}
use Rattle.snapshot_reader.proofs.row.key_at.Goals as goal

pub returns : goal.returns
unfolding part
returns c = let a = c.args in
    let size : (a.at + 33) - a.at ≡ 33 = omega arith in
    c.put_slice.ensures
    ∙ ap (λ (n : ℕ). put (zeros 33) 0 (take n (drop a.at a.snapshot.now))) size
    ∙ put_all (zeros 33) (part a.snapshot.now a.at 33) (length_part a.snapshot.now a.at 33 (omega arith))
