-- `trace_lines::line::put_word` meets its contract: each arm writes its word. Assumes nothing.
use Rattle.trace_lines.specs.declared.line.Word.TheVariants.{Allow, DisconnectMessages, DisconnectBytes, DisconnectCeiling, Ban, Banned, Noted, Free, Closed, Released}
use Rattle.trace_lines.proofs.Written.{word_written}
use Rattle.trace_lines.proofs.line.put_word.Goals as goal

pub returns-in-Allow : goal.returns-in-Allow
returns-in-Allow c =
    let a = c.args in word_written a.word Allow a.out.now c.in-Allow.is c.put_text.ensures

pub returns-in-DisconnectMessages : goal.returns-in-DisconnectMessages
returns-in-DisconnectMessages c =
    let a = c.args in word_written a.word DisconnectMessages a.out.now c.in-DisconnectMessages.is c.put_text-in-DisconnectMessages.ensures

pub returns-in-DisconnectBytes : goal.returns-in-DisconnectBytes
returns-in-DisconnectBytes c =
    let a = c.args in word_written a.word DisconnectBytes a.out.now c.in-DisconnectBytes.is c.put_text-in-DisconnectBytes.ensures

pub returns-in-DisconnectCeiling : goal.returns-in-DisconnectCeiling
returns-in-DisconnectCeiling c =
    let a = c.args in word_written a.word DisconnectCeiling a.out.now c.in-DisconnectCeiling.is c.put_text-in-DisconnectCeiling.ensures

pub returns-in-Ban : goal.returns-in-Ban
returns-in-Ban c =
    let a = c.args in word_written a.word Ban a.out.now c.in-Ban.is c.put_text-in-Ban.ensures

pub returns-in-Banned : goal.returns-in-Banned
returns-in-Banned c =
    let a = c.args in word_written a.word Banned a.out.now c.in-Banned.is c.put_text-in-Banned.ensures

pub returns-in-Noted : goal.returns-in-Noted
returns-in-Noted c =
    let a = c.args in word_written a.word Noted a.out.now c.in-Noted.is c.put_text-in-Noted.ensures

pub returns-in-Free : goal.returns-in-Free
returns-in-Free c =
    let a = c.args in word_written a.word Free a.out.now c.in-Free.is c.put_text-in-Free.ensures

pub returns-in-Closed : goal.returns-in-Closed
returns-in-Closed c =
    let a = c.args in word_written a.word Closed a.out.now c.in-Closed.is c.put_text-in-Closed.ensures

pub returns-in-Released : goal.returns-in-Released
returns-in-Released c =
    let a = c.args in word_written a.word Released a.out.now c.in-Released.is c.put_text-in-Released.ensures
