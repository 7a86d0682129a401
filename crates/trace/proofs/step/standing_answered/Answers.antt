-- `trace::step::standing_answered` meets its contract: answer by answer. Assumes nothing.
use Rattle.trace.proofs.step.standing_answered.Goals as goal

pub returns-in-Banned : goal.returns-in-Banned
returns-in-Banned c = rw c.in-Banned.is

pub returns-in-Free : goal.returns-in-Free
returns-in-Free c = rw c.in-Free.is

pub returns-in-Refused : goal.returns-in-Refused
returns-in-Refused c = rw c.in-Refused.is
