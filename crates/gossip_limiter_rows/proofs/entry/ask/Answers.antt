-- `entry::ask` meets its contract: a sound bucket is never refused (`asked_by`). Assumes nothing.
use Rattle.std.specs.Prelude.{◌≡◌, Result, Ok, Err, refl, is_ok}
use Rattle.std.proofs.Common.{ap, ◌∙◌}
use Rattle.bucket_terms.specs.declared.answer.NotGiven.{NotGiven}
use Rattle.bucket_terms.specs.Answers.{told}
use Rattle.gossip_limiter_rows.specs.Entry.{is_yes}
use Rattle.gossip_limiter_rows.proofs.Buckets.{asked_by}
use Rattle.gossip_limiter_rows.proofs.entry.ask.Goals as goal

-- a token was there just where the answer is no error
yes_ok : (answer : Result (Unit {0}) NotGiven) → is_ok answer ≡ is_yes answer
yes_ok (Ok tt) = refl
yes_ok (Err (NotGiven.Short short)) = refl
yes_ok (Err (NotGiven.Refused n)) = refl

pub returns : goal.returns
returns c =
    asked_by c.args.bucket c.args.now_ms c.try_consume-after.result c.entry_of.result _ c.requires c.try_consume-after.ensures c.entry_of.ensures
    (ap told (c.is_ok.ensures.value ∙ yes_ok c.try_consume-after.result.answer))
