-- A run exists: the example, built through the calls' own predicates on 121 lent bytes; its second Allow is by `least`. So the premises of
-- the promises can be met, and more than once in a life. Assumes nothing.
use Rattle.std.specs.Prelude.{◌≡◌, refl, true, List, [], ◌∷◌, ℕ, zero, suc, ◌<◌, replicate}
use Rattle.std.proofs.Common.{ap, ◌∙◌, arith}
use Rattle.std.proofs.Math.Option.{some}
use Rattle.std.specs.Prelude.{Ok}
use Rattle.lent_bytes.specs.LentBytes.{Bytes}
use Rattle.lent_bytes.specs.LentBytesLaws.{Bytes_nil, Bytes_cons}
use Rattle.amount.specs.Amount.{amount_of, value, saturated}
use Rattle.pubkey.specs.declared.Pubkey.{Pubkey}
use Rattle.refusal.specs.Refusal.{Said}
use Rattle.bucket_discrete.specs.DiscreteBucket.{discrete_refill, discrete_take, discrete_try_consume}
use Rattle.bucket_bytes.specs.ByteBucket.{byte_refill, byte_take, byte_try_consume}
use Rattle.table.specs.Table.{Row, look, store, retain, remove_at, minimum_from}
use Rattle.table.specs.Memory.{rows, laid, Holds}
use Rattle.table.specs.MemoryLaws.{AllFit, holds}
use Rattle.peer_settings.specs.Fits.{ConfigFits}
use Rattle.peer_state.specs.declared.entry.PeerMessagePolicyEntry.{PeerMessagePolicyEntry}
use Rattle.peer_state.specs.Entry.{level, window, window_expire, window_counted, entry_new, entry_ban, entry_used}
use Rattle.peer_state.specs.Ingress.{try_reserve, in_flight}
use Rattle.peer_verdict.specs.declared.verdict.Cause.{Cause}
use Rattle.peer_verdict.specs.Verdict.{take_message, take_bytes, violated, decision}
use Rattle.peer_rows.specs.Rows.{Peers, peer_layout}
use Rattle.peer_rows.specs.RowsLaws.{EntryFits, peer_faithful}
use Rattle.table.specs.Room.{room_made}
use Rattle.peer_table.specs.Room.{evict, make_room}
use Rattle.peer_message_policy.specs.declared.policy.PeerMessagePolicy.{PeerMessagePolicy}
use Rattle.peer_message_policy.specs.declared.answer.Admission.{Admission}
use Rattle.peer_message_policy.specs.Policy
use Rattle.peer_message_policy.specs.Policy.{sound, become, Turn, carried_out, entry_for_update}
use Rattle.peer_message_policy.specs.Calls.{Memory, policy_after, fresh, new_outcome, NewMeets, admission_of, admission_says, AdmitMeets}
use Rattle.peer_laws.specs.CallLaws.{admit_outcome_lem}
use Rattle.promises.specs.Lives.{Allow, allow, kept_log, log_for, log_in, FromEvery, Near, Within}
use Rattle.peer_runs.specs.Runs.{admit, State, rows_in, Step, KeyFits, CallFits, Run, made, then}
use Rattle.promises.specs.RunLives.{latest, Ordered, entry_in, trail, log_of, Entitled}
use Rattle.promises.specs.Example.{one_a_second, peer, lent, first, second, Example}
use Rattle.promises.proofs.Promises as Promises

-- ════ What the machine gives ════

bytes_of : (n b : ℕ) → b < 256 → Bytes (replicate n b)
bytes_of zero b h = Bytes_nil
bytes_of (suc n) b h = Bytes_cons b (replicate n b) h (bytes_of n b h)

key_fits : KeyFits peer
key_fits = (refl, bytes_of 33 2 (omega arith))

settings_fit : ConfigFits one_a_second
settings_fit =
    record {
      interval = omega arith;
      burst = omega arith;
      rate = omega arith;
      burst_bytes = omega arith;
      threshold = omega arith;
      duration = omega arith;
      tracked = omega arith;
      messages = omega arith;
      bytes = omega arith;
    }

-- ════ One admit ════

-- the state after an answer, with this memory
abbrev afterwards : Admission → List ℕ → State
afterwards r memory = record { policy = r.policy; memory = memory }

-- the answer of a turn
abbrev answer_of : PeerMessagePolicy → Turn Cause → Admission
answer_of p turn = admission_of (policy_after p turn.ingress turn.change) turn.cause

-- a sound state goes on by the turn that the policy takes in it
admit_goes : (s : State) → sound s.policy s.memory ≡ true → (k : Pubkey) (size now : ℕ) (turn : Turn Cause) (memory : List ℕ)
    → Policy.admit s.policy.config s.policy.ingress (rows_in s) k.bytes size now ≡ turn
    → Memory s.memory memory s.policy.rows turn.change
    → Step s (admit k size now) (admission_says (answer_of s.policy turn)) (afterwards (answer_of s.policy turn) memory)
unfolding AdmitMeets
admit_goes s h k size now turn memory e m = (
  answer_of s.policy turn,
  rw (admit_outcome_lem s.policy s.memory h k size now, e) (record { answers = refl; leaves = m }),
  refl,
  refl,
)

-- the peer's row with this much left in its buckets, last used and refilled at this time, and no violation since the first message
abbrev row_at : ℕ → ℕ → Row PeerMessagePolicyEntry
row_at bytes now =
    record {
      key = peer.bytes;
      entry =
          record {
            messages = level 0 now;
            bytes = level bytes now;
            rate_limit_violations = window 0 5000;
            invalid_messages = window 0 5000;
            ban = record { mark = 0; until_ms = 0 };
            last_used_ms = now;
          };
    }

-- an Allow that leaves this load and this row
abbrev allowed_to : ℕ → ℕ → Row PeerMessagePolicyEntry → Turn Cause
allowed_to messages bytes row = record { cause = Cause.Allowed; ingress = in_flight messages bytes; change = become (row ∷ []) }

row_fits : (bytes now : ℕ) → bytes < 256 → now < 10000 → AllFit peer_layout EntryFits (row_at bytes now ∷ [])
row_fits bytes now h k = (
  record {
    key_length = refl;
    key_bytes_lem = bytes_of 33 2 (omega arith);
    entry_good =
        record {
          messages_available = omega arith;
          messages_last = omega arith;
          bytes_available = omega arith;
          bytes_last = omega arith;
          rate_count = omega arith;
          rate_start = omega arith;
          invalid_count = omega arith;
          invalid_start = omega arith;
          mark = omega arith;
          until = omega arith;
          used = omega arith;
        };
  },
  tt,
)

-- ════ A fresh policy ════

abbrev memory₀ : List ℕ
memory₀ = laid peer_layout lent 1 []

abbrev state₀ : State
state₀ = record { policy = fresh one_a_second; memory = memory₀ }

new_meets : NewMeets one_a_second lent (Ok (fresh one_a_second)) memory₀
unfolding NewMeets new_outcome
new_meets = record { answers = refl; leaves = holds peer_faithful lent memory₀ 1 [] tt refl }

run₀ : Run one_a_second [] state₀
run₀ = made lent memory₀ (fresh one_a_second) (bytes_of 121 255 (omega arith)) new_meets

-- ════ The first message ════

abbrev memory₁ : List ℕ
memory₁ = laid peer_layout memory₀ 0 (row_at 7 5000 ∷ [])

abbrev state₁ : State
state₁ = afterwards (answer_of (fresh one_a_second) (allowed_to 1 3 (row_at 7 5000))) memory₁

first_turn : Policy.admit one_a_second (in_flight 0 0) (rows_in state₀) peer.bytes 3 5000 ≡ allowed_to 1 3 (row_at 7 5000)
unfolding rows amount_of value saturated discrete_refill discrete_take discrete_try_consume byte_refill byte_take byte_try_consume look store retain remove_at minimum_from window_expire window_counted entry_new entry_ban entry_used try_reserve take_message take_bytes violated decision evict room_made make_room Policy.admit carried_out entry_for_update
first_turn = refl

holds₁ : Holds peer_layout memory₀ memory₁ 0 (row_at 7 5000 ∷ [])
holds₁ = holds peer_faithful memory₀ memory₁ 0 (row_at 7 5000 ∷ []) (row_fits 7 5000 (omega arith) (omega arith)) refl

first_fits : CallFits first
first_fits = (key_fits, omega arith, omega arith)

run₁ : Run one_a_second (first ∷ []) state₁
run₁ =
    then first allow state₁ run₀ first_fits
    (admit_goes state₀ (Promises.sound run₀) peer 3 5000 (allowed_to 1 3 (row_at 7 5000)) memory₁ first_turn holds₁)

rows₁ : rows_in state₁ ≡ row_at 7 5000 ∷ []
rows₁ = holds₁.reads

-- ════ The second message ════

-- three bytes allowed at a time
abbrev three : ℕ → Allow
three now = record { time = now; size = 3 }

log₁ : log_of peer run₁ ≡ three 5000 ∷ []
unfolding run₀ run₁ trail log_in look
log₁ = ap (λ (rs : Peers). kept_log (look peer.bytes rs) (three 5000 ∷ [])) rows₁

entry₁ : entry_in state₁ peer ≡ some (row_at 7 5000).entry
unfolding look
entry₁ = rw rows₁

within : Within one_a_second 6000 3 (three 5000 ∷ [])
unfolding Within Near FromEvery
within = (
  λ on. (omega arith, tt),
  ((λ on. omega arith, λ on. omega arith), ((λ on. omega arith, λ on. omega arith), tt)),
)

entitled : Entitled run₁ peer 3 6000
entitled = record { fits = (key_fits, omega arith, omega arith); not_banned = rw entry₁; within = rw (entry₁, log₁) within }

ordered : Ordered (second ∷ first ∷ [])
unfolding Ordered latest
ordered = (omega arith, (omega arith, tt))

-- so whatever answers it says Allow: there is room
only_allow : (said : Said) (t : State) → Step state₁ second said t → said ≡ allow
unfolding try_reserve
only_allow said t step = Promises.least settings_fit run₁ peer 3 6000 ordered entitled said t step

-- what the second message leaves
abbrev memory₂ : List ℕ
memory₂ = laid peer_layout memory₁ 1 (row_at 7 6000 ∷ [])

second_turn : Policy.admit one_a_second (in_flight 1 3) (rows_in state₁) peer.bytes 3 6000 ≡ allowed_to 2 6 (row_at 7 6000)
unfolding amount_of value saturated discrete_refill discrete_take discrete_try_consume byte_refill byte_take byte_try_consume look store retain remove_at minimum_from window_expire window_counted entry_new entry_ban entry_used try_reserve take_message take_bytes violated decision evict room_made make_room Policy.admit carried_out entry_for_update
second_turn = ap (λ (rs : Peers). Policy.admit one_a_second (in_flight 1 3) rs peer.bytes 3 6000) rows₁

holds₂ : Holds peer_layout memory₁ memory₂ 1 (row_at 7 6000 ∷ [])
holds₂ = holds peer_faithful memory₁ memory₂ 1 (row_at 7 6000 ∷ []) (row_fits 7 6000 (omega arith) (omega arith)) refl

abbrev state₂ : State
state₂ = afterwards (answer_of state₁.policy (allowed_to 2 6 (row_at 7 6000))) memory₂

run₂ : Run one_a_second (second ∷ first ∷ []) state₂
run₂ =
    then second allow state₂ run₁ entitled.fits
    (admit_goes state₁ (Promises.sound run₁) peer 3 6000 (allowed_to 2 6 (row_at 7 6000)) memory₂ second_turn holds₂)

rows₂ : rows_in state₂ ≡ row_at 7 6000 ∷ []
rows₂ = holds₂.reads

log₂ : log_of peer run₂ ≡ three 6000 ∷ three 5000 ∷ []
unfolding run₁ run₂ trail log_in look
log₂ =
    ap (λ (rs : Peers). kept_log (look peer.bytes rs) (three 6000 ∷ log_for (entry_in state₁ peer) 6000 (log_of peer run₁))) rows₂
    ∙ ap (λ found. three 6000 ∷ log_for found 6000 (log_of peer run₁)) entry₁
    ∙ ap (λ log. three 6000 ∷ log) log₁

-- The example's run exists.
pub a_run_exists : Example
a_run_exists =
    record {
      before = state₁;
      run = run₁;
      one_allow = log₁;
      ordered = ordered;
      entitled = entitled;
      by_least = only_allow;
      after = state₂;
      longer = run₂;
      two_allows = log₂;
    }
