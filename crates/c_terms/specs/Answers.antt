-- The number of each answer and the value that goes with it. Definitions only.
use Rattle.std.specs.Prelude.{Bool, true, false, cond, ℕ, ltb}
use Rattle.std.specs.Prelude.{Result, Ok, Err}
use Rattle.refusal.specs.declared.Refusal.{Refusal}
use Rattle.refusal.specs.declared.Answered.{Answered}
use Rattle.bucket_terms.specs.declared.answer.NotGiven.{NotGiven}
use Rattle.c_terms.specs.declared.reply.Reply.{Reply}
use Rattle.refusal.specs.Refusal.{number_of}

abbrev pub reply : ℕ → ℕ → Reply
reply number value = record { number = number; value = value }

-- the number of a refusal
abbrev pub refusal_reply : Refusal → Reply
refusal_reply n = reply (number_of n) 0

-- 260 for yes, 259 for no
abbrev pub truth_reply : Bool → Reply
truth_reply true = reply 260 0
truth_reply false = reply 259 0

-- 261 for a bucket that was brought up to date
abbrev pub refilled_reply : Result (Unit {0}) Refusal → Reply
refilled_reply (Ok tt) = reply 261 0
refilled_reply (Err n) = reply (number_of n) 0

-- 260 for yes; 259 for no, and by how much it fell short
abbrev pub consumed_reply : Result (Unit {0}) NotGiven → Reply
consumed_reply (Ok tt) = reply 260 0
consumed_reply (Err (NotGiven.Short short)) = reply 259 short
consumed_reply (Err (NotGiven.Refused n)) = reply (number_of n) 0

-- 261 and the milliseconds
abbrev pub delay_reply : Result ℕ Refusal → Reply
delay_reply (Ok ms) = reply 261 ms
delay_reply (Err n) = reply (number_of n) 0

-- 260 for yes, 259 for no
abbrev pub told_reply : Result Bool Refusal → Reply
told_reply (Ok true) = reply 260 0
told_reply (Ok false) = reply 259 0
told_reply (Err n) = reply (number_of n) 0

-- what stands there after a call: a number below 256 is a refusal, on which it stays
abbrev pub kept : {A : Type 0} → ℕ → A → A → A
kept number before after = cond (ltb number 256) before after

-- 261 and the state that was made; on a refusal the one that the words said
abbrev pub made_done : {S : Type 0} → S → Result S Refusal → Answered S Reply
made_done said (Ok q) = record { state = q; answer = reply 261 0 }
made_done said (Err n) = record { state = said; answer = refusal_reply n }
