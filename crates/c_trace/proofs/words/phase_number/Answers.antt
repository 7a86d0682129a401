-- `words::phase_number` meets its contract: phase by phase. Assumes nothing.
use Rattle.c_trace.proofs.words.phase_number.Goals as goal

pub returns-in-TooLong : goal.returns-in-TooLong
returns-in-TooLong c = rw c.in-TooLong.is

pub returns-in-Settings : goal.returns-in-Settings
returns-in-Settings c = rw c.in-Settings.is

pub returns-in-Events : goal.returns-in-Events
returns-in-Events c = rw c.in-Events.is

pub returns-in-Done : goal.returns-in-Done
returns-in-Done c = rw c.in-Done.is
