-- The settings of a byte bucket behind the C boundary. Definitions only.
use Rattle.std.specs.Prelude.{◌≡◌, cond, List, [], ◌∷◌, ℕ, eqb, get_or}
use Rattle.bucket_terms.specs.declared.limit.ByteRateLimitConfig.{ByteRateLimitConfig}
use Rattle.bucket_terms.specs.Limit.{byte_limit, byte_disabled}
use Rattle.c_terms.specs.declared.reply.Reply.{Reply}
use Rattle.c_buckets.specs.declared.limits.LimitOperation.{LimitOperation}
use Rattle.c_buckets.specs.declared.limits.LimitOperation.TheVariants.{DefaultGlobal, DefaultPeer, IsDisabled, Unknown}
use Rattle.c_buckets.specs.Handed.{LimitDone}
use Rattle.c_terms.specs.Answers.{reply, truth_reply, kept}

-- the operation of a number
abbrev pub limit_operation : ℕ → LimitOperation
limit_operation n = cond (eqb n 0) DefaultGlobal (cond (eqb n 1) DefaultPeer (cond (eqb n 2) IsDisabled Unknown))

-- the limit that these words say
abbrev pub limit_of : List ℕ → ByteRateLimitConfig
limit_of words = byte_limit (get_or words 0 0) (get_or words 1 0)

-- a limit's words
abbrev pub limit_words : ByteRateLimitConfig → List ℕ
limit_words c = c.rate_bytes_per_sec ∷ c.burst_bytes ∷ []

abbrev pub limit_says : ByteRateLimitConfig → Reply → LimitDone
limit_says c s = record { state = c; answer = s }

-- what each operation does
abbrev pub limit_done : LimitOperation → ByteRateLimitConfig → LimitDone
limit_done DefaultGlobal c = limit_says (byte_limit 1024000 2048000) (reply 261 0)
limit_done DefaultPeer c = limit_says (byte_limit 51200 102400) (reply 261 0)
limit_done IsDisabled c = limit_says c (truth_reply (byte_disabled c))
limit_done Unknown c = limit_says c (reply 0 0)

-- the number returned, and the words after the call
abbrev pub LimitLeft : LimitDone → List ℕ → ℕ → List ℕ → Type 0
LimitLeft d words r words' = (r ≡ d.answer.number) × (words' ≡ kept d.answer.number words (limit_words d.state))

-- uglezmir_limit
abbrev pub LimitExported : ℕ → List ℕ → ℕ → List ℕ → Type 0
LimitExported operation words r words' = LimitLeft (limit_done (limit_operation operation) (limit_of words)) words r words'
