-- `lent_bytes::run::fill` meets its contract.
use Rattle.std.proofs.Common.{◌≡◌, ap, ◌∙◌, ℕ, ◌+◌, ◌-◌, arith, length, take, drop, replicate}
use Rattle.std.proofs.lemmas.List.{length-replicate}
use Rattle.lent_bytes.specs.LentBytes.{part}
use Rattle.lent_bytes.specs.LentBytesLaws.{length_part}
use Rattle.lent_bytes.proofs.Copies.{written}
use Rattle.lent_bytes.proofs.run.fill.Goals as goal

pub returns : goal.returns
unfolding part
returns c =
    let a = c.args in
    let n : length (take (a.at + a.count - a.at) (drop a.at a.s.now)) ≡ a.count =
    ap (λ (k : ℕ). length (take k (drop a.at a.s.now))) (omega arith) ∙ length_part a.s.now a.at a.count (omega arith) in
    let h = c.fill.ensures.after (λ y e. e) ∙ ap (λ (k : ℕ). replicate k a.byte) n in
    rw h (written a.s.now a.at a.count (replicate a.count a.byte) (length-replicate a.count a.byte))
