-- Laws of the byte bucket's settings: at most one outcome for each call. Assumes nothing.
use Rattle.std.specs.Prelude.{◌≡◌, Bool, ℕ}
use Rattle.refusal.specs.OneOutcomeLaws.{one_outcome}
use Rattle.bucket_terms.specs.declared.limit.ByteRateLimitConfig.{ByteRateLimitConfig}
use Rattle.bucket_terms.specs.Limit.{byte_limit, byte_disabled}

pub byte_limit_new_outcome : (rate burst : ℕ) {r q : ByteRateLimitConfig} → r ≡ byte_limit rate burst → q ≡ byte_limit rate burst → r ≡ q
byte_limit_new_outcome rate burst = one_outcome

pub byte_limit_default_global_outcome : {r q : ByteRateLimitConfig} → r ≡ byte_limit 1024000 2048000 → q ≡ byte_limit 1024000 2048000 → r ≡ q
byte_limit_default_global_outcome = one_outcome

pub byte_limit_default_peer_outcome : {r q : ByteRateLimitConfig} → r ≡ byte_limit 51200 102400 → q ≡ byte_limit 51200 102400 → r ≡ q
byte_limit_default_peer_outcome = one_outcome

pub byte_limit_is_disabled_outcome : (c : ByteRateLimitConfig) {r q : Bool} → r ≡ byte_disabled c → q ≡ byte_disabled c → r ≡ q
byte_limit_is_disabled_outcome c = one_outcome
