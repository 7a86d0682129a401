-- `trace::step::speak` meets its contract: answer by answer. Assumes nothing.
use Rattle.trace.proofs.step.speak.Goals as goal

pub returns-in-Admit : goal.returns-in-Admit
returns-in-Admit c = rw c.in-Admit.is c.speak_admit.ensures

pub returns-in-Invalid : goal.returns-in-Invalid
returns-in-Invalid c = rw c.in-Invalid.is c.speak_invalid.ensures

pub returns-in-Banned : goal.returns-in-Banned
returns-in-Banned c = rw c.in-Banned.is

pub returns-in-Free : goal.returns-in-Free
returns-in-Free c = rw c.in-Free.is

pub returns-in-Closed : goal.returns-in-Closed
returns-in-Closed c = rw c.in-Closed.is

pub returns-in-Released : goal.returns-in-Released
returns-in-Released c = rw c.in-Released.is

pub returns-in-Refused : goal.returns-in-Refused
returns-in-Refused c = rw c.in-Refused.is

pub returns-in-BadLine : goal.returns-in-BadLine
returns-in-BadLine c = rw c.in-BadLine.is
