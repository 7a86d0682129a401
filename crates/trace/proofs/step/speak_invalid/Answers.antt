-- `trace::step::speak_invalid` meets its contract: cause by cause. Assumes nothing.
use Rattle.trace.proofs.step.speak_invalid.Goals as goal

pub returns-in-Noted : goal.returns-in-Noted
returns-in-Noted c = rw c.in-Noted.is

pub returns-in-LiveBan : goal.returns-in-LiveBan
returns-in-LiveBan c = rw c.in-LiveBan.is

pub returns-in-BanBegun : goal.returns-in-BanBegun
returns-in-BanBegun c = rw c.in-BanBegun.is

pub returns-in-Refused : goal.returns-in-Refused
returns-in-Refused c = rw c.in-Refused.is
