-- admit names the ceiling exactly where the buckets pass and there is no room; and it never blames a peer that is entitled to the ceiling's
-- answer. Assumes nothing.
use Rattle.std.specs.Prelude.{◌≡◌, refl, true, false, cond, List, [], ◌∷◌, ℕ}
use Rattle.std.proofs.Common.{sym, ap, ◌∙◌, arith}
use Rattle.std.proofs.Math.Option.{Option, none, some}
use Rattle.std.specs.Prelude.{Result, Ok, Err}
use Rattle.peer_state.specs.declared.ingress.NotReserved.{NotReserved}
use Rattle.peer_state.specs.declared.ingress.NotReserved.TheVariants as NotReserved
use Rattle.truths.specs.TruthLaws.{by_test, true_is_not_false, chosen}
use Rattle.pubkey.specs.declared.Pubkey.{Pubkey}
use Rattle.refusal.specs.Refusal.{Said, gives}
use Rattle.table.specs.Table.{look}
use Rattle.table.specs.LookLaws.{some_is_not_none}
use Rattle.peer_settings.specs.declared.config.PeerMessagePolicyConfig.{PeerMessagePolicyConfig}
use Rattle.peer_settings.specs.Fits.{ConfigFits}
use Rattle.peer_state.specs.declared.entry.PeerMessagePolicyEntry.{PeerMessagePolicyEntry}
use Rattle.peer_state.specs.declared.ingress.FiberIngressBudget.{FiberIngressBudget}
use Rattle.peer_state.specs.Entry.{entry_is_banned, entry_is_spent, entry_used}
use Rattle.peer_state.specs.Ingress.{try_reserve}
use Rattle.peer_verdict.specs.declared.verdict.Shortage.TheVariants as Shortage
use Rattle.peer_verdict.specs.declared.verdict.Cause.{Cause}
use Rattle.peer_verdict.specs.declared.verdict.Decision.{Decision}
use Rattle.peer_verdict.specs.Verdict.{passes, missing, take_message, take_bytes, refuses, violated, ceiling_decides, weighed_in, decision}
use Rattle.peer_verdict.specs.VerdictLaws.{both_charged, violated_ways, weighed_in_ways}
use Rattle.peer_verdict.specs.Causes.{cause_says, messages, bytes, ceiling, limit_named}
use Rattle.peer_rows.specs.Rows.{Peers}
use Rattle.peer_message_policy.specs.declared.policy.PeerMessagePolicy.{PeerMessagePolicy}
use Rattle.peer_message_policy.specs.declared.answer.Admission.{Admission}
use Rattle.peer_message_policy.specs.Policy
use Rattle.peer_message_policy.specs.Policy.{rows_of, sound, Turn, turn_of, carried_out, entry_for_update, is_banned}
use Rattle.peer_message_policy.specs.Calls.{AdmitMeets}
use Rattle.peer_laws.specs.CallLaws.{admit_answer}
use Rattle.peer_runs.specs.Runs.{Call, admit, State, Step, Run}
use Rattle.promises.specs.Lives.{ceiling_cause, ceiling_says}
use Rattle.promises.specs.RunLives.{Entitled}
use Rattle.promises.specs.Named.{judged_on, BucketsPass, NoRoom, NamedWhere, blames, InTime, ordered, shielded}
use Rattle.promises.proofs.DecisionLaws.{decided}
use Rattle.promises.proofs.CoreStepLaws.{gives_is_not_refused}
use Rattle.promises.proofs.FairRunLaws.{ordered_least, shielded_least}

-- ════ One decision ════

-- a limit is named that is not the ceiling
bytes_is_not_ceiling : some bytes ≡ some ceiling → ⊥
bytes_is_not_ceiling h = let z : ◌≡◌ {A = ℕ} 0 1 = cc in omega arith

messages_is_not_ceiling : some messages ≡ some ceiling → ⊥
messages_is_not_ceiling h = let z : ◌≡◌ {A = ℕ} 0 1 = cc in omega arith

module _ (c : PeerMessagePolicyConfig) (i : FiberIngressBudget) (e : PeerMessagePolicyEntry) (size now : ℕ) (reservation : Result FiberIngressBudget NotReserved) where
  -- the ceiling is named by a decision only where both buckets pass and there is no room
  abbrev OnlyThere : Decision → Type 0
  OnlyThere d = limit_named d.cause ≡ some ceiling → BucketsPass c e size now × NoRoom reservation

  -- a cause other than the ceiling's, or a ban
  violated_elsewhere : (cause : Cause) → (limit_named cause ≡ some ceiling → ⊥) → OnlyThere (violated c i e now cause)
  violated_elsewhere cause other =
      violated_ways OnlyThere c i e now cause (λ t names. absurd (some_is_not_none names refl)) (λ t names. absurd (other names))

  ceiling_there : passes (take_message c e.messages now).answer ≡ true → passes (take_bytes c e.bytes size now).answer ≡ true → (r : Result FiberIngressBudget NotReserved)
      → limit_named (ceiling_decides i e (both_charged c e size now) r).cause ≡ some ceiling → BucketsPass c e size now × NoRoom r
  ceiling_there m b (Ok after) names = absurd (some_is_not_none names refl)
  ceiling_there m b (Err NotReserved.NoSlot) names = (record { messages = m; bytes = b }, tt)
  ceiling_there m b (Err (NotReserved.BytesShort k)) names = (record { messages = m; bytes = b }, tt)
  ceiling_there m b (Err (NotReserved.Refused n)) names = absurd (some_is_not_none names refl)

  weighed_there : OnlyThere (weighed_in c i e size now reservation)
  weighed_there =
      weighed_in_ways OnlyThere c i e size now reservation
      (λ no. violated_elsewhere (Cause.Short Shortage.Messages) messages_is_not_ceiling)
      (λ m no. violated_elsewhere (Cause.Short (Shortage.Bytes (missing (take_bytes c e.bytes size now).answer))) bytes_is_not_ceiling)
      (λ m b. ceiling_there m b reservation)

-- where there is no room, the cause that the ceiling gives names it
no_room_named : (r : Result FiberIngressBudget NotReserved) → NoRoom r → limit_named (ceiling_cause r) ≡ some ceiling
no_room_named (Ok after) full = absurd full
no_room_named (Err NotReserved.NoSlot) full = refl
no_room_named (Err (NotReserved.BytesShort k)) full = refl
no_room_named (Err (NotReserved.Refused n)) full = absurd full

module _ (c : PeerMessagePolicyConfig) (i : FiberIngressBudget) (e : PeerMessagePolicyEntry) (size now : ℕ) (reservation : Result FiberIngressBudget NotReserved) where
  decision_there : limit_named (decision c i e size now reservation).cause ≡ some ceiling → BucketsPass c e size now × NoRoom reservation
  unfolding decision entry_used
  decision_there names =
      let there = weighed_there c i (entry_used e now c.ban_duration_ms) size now reservation names in
      (record { messages = there.0.messages; bytes = there.0.bytes }, there.1)

  decision_named : BucketsPass c e size now → NoRoom reservation → limit_named (decision c i e size now reservation).cause ≡ some ceiling
  decision_named pass full =
      ap limit_named ((decided c i e size now reservation).passed pass.messages pass.bytes) ∙ no_room_named reservation full

-- ════ One call ════

module _ (c : PeerMessagePolicyConfig) (i : FiberIngressBudget) (rs : Peers) (k : List ℕ) (size now : ℕ) where
  carried_cause : (xs : Peers) (d : Decision) → (carried_out i k xs d).cause ≡ d.cause
  unfolding carried_out
  carried_cause xs d = chosen (λ (t : Turn Cause). t.cause ≡ d.cause) (refuses d.cause) (λ o. refl) (λ o. refl)

  cause_by : (found : Option PeerMessagePolicyEntry)
      → (turn_of i Cause.LiveBan (λ e xs. carried_out i k xs (decision c i e size now (try_reserve c i size))) (entry_for_update c now rs k found)).cause
      ≡ cond (is_banned found now) Cause.LiveBan (decision c i (judged_on c found now) size now (try_reserve c i size)).cause
  unfolding entry_for_update
  cause_by none = carried_cause _ _
  cause_by (some e) =
      by_test (entry_is_banned e now) (λ live. rw live)
      (λ free.
      by_test (entry_is_spent e now) (λ spent. rw (free, spent) (carried_cause _ _)) (λ unspent. rw (free, unspent) (carried_cause _ _)))

  -- admit's cause: a live ban, or what is decided on the entry that the message is judged on
  pub admit_cause : (Policy.admit c i rs k size now).cause
      ≡ cond (is_banned (look k rs) now) Cause.LiveBan (decision c i (judged_on c (look k rs) now) size now (try_reserve c i size)).cause
  unfolding Policy.admit
  admit_cause = cause_by (look k rs)

module _ (p : PeerMessagePolicy) (s : List ℕ) (h : sound p s ≡ true) (k : Pubkey) (size now : ℕ) (r : Admission) (t : List ℕ) (m : AdmitMeets p s k size now r t) where
  abbrev found : Option PeerMessagePolicyEntry
  found = look k.bytes (rows_of p s)

  cause_here : r.cause ≡ cond (is_banned found now) Cause.LiveBan (decision p.config p.ingress (judged_on p.config found now) size now (try_reserve p.config p.ingress size)).cause
  cause_here =
      ap (λ (a : Admission). a.cause) (admit_answer p s h k size now r t m) ∙ admit_cause p.config p.ingress (rows_of p s) k.bytes size now

  under_a_ban : is_banned found now ≡ true → r.cause ≡ Cause.LiveBan
  under_a_ban live = cause_here ∙ rw live

  without_a_ban : is_banned found now ≡ false → r.cause ≡ (decision p.config p.ingress (judged_on p.config found now) size now (try_reserve p.config p.ingress size)).cause
  without_a_ban free = cause_here ∙ rw free

  pub named_where : NamedWhere p s k size now r.cause
  named_where =
      by_test (is_banned found now)
      (λ live.
      record {
        busy = λ names. absurd (some_is_not_none (sym (ap limit_named (under_a_ban live)) ∙ names) refl);
        named = λ busy. absurd (true_is_not_false live busy.not_banned);
      })
      (λ free.
      let named : limit_named r.cause ≡ limit_named (decision p.config p.ingress (judged_on p.config found now) size now (try_reserve p.config p.ingress size)).cause =
      ap limit_named (without_a_ban free)
      in
      record {
        busy =
            λ names.
            let there = decision_there p.config p.ingress (judged_on p.config found now) size now (try_reserve p.config p.ingress size) (sym named ∙ names) in
            record { not_banned = free; buckets = there.0; no_room = there.1 };
        named =
            λ busy.
            named ∙ decision_named p.config p.ingress (judged_on p.config found now) size now (try_reserve p.config p.ingress size) busy.buckets busy.no_room;
      })

-- ════ The ceiling blames nobody ════

-- the ceiling gives causes of the numbers 0, 3 and 4 alone
other_number : (number : ℕ) → (number ≡ 0 → ⊥) → (number ≡ 3 → ⊥) → (number ≡ 4 → ⊥) → {answer amount : ℕ} (r : Result FiberIngressBudget NotReserved)
    → gives (answer ∷ number ∷ amount ∷ []) ≡ ceiling_says r → ⊥
other_number number allowed slot short (Ok after) h = allowed cc
other_number number allowed slot short (Err NotReserved.NoSlot) h = slot cc
other_number number allowed slot short (Err (NotReserved.BytesShort k)) h = short cc
other_number number allowed slot short (Err (NotReserved.Refused n)) h = gives_is_not_refused h

blameless : (cause : Cause) (r : Result FiberIngressBudget NotReserved) → cause_says cause ≡ ceiling_says r → blames cause ≡ false
blameless Cause.Allowed r h = refl
blameless (Cause.Short Shortage.Messages) r h = absurd (other_number 1 (λ e. omega (arith, e)) (λ e. omega (arith, e)) (λ e. omega (arith, e)) r h)
blameless (Cause.Short (Shortage.Bytes k)) r h = absurd (other_number 2 (λ e. omega (arith, e)) (λ e. omega (arith, e)) (λ e. omega (arith, e)) r h)
blameless (Cause.Short Shortage.Slot) r h = refl
blameless (Cause.Short (Shortage.CeilingBytes k)) r h = refl
blameless Cause.LiveBan r h = absurd (other_number 5 (λ e. omega (arith, e)) (λ e. omega (arith, e)) (λ e. omega (arith, e)) r h)
blameless Cause.BanBegun r h = absurd (other_number 6 (λ e. omega (arith, e)) (λ e. omega (arith, e)) (λ e. omega (arith, e)) r h)
blameless (Cause.Refused n) r h = refl

module _ {c : PeerMessagePolicyConfig} (fits : ConfigFits c) {h : List Call} {s : State} (run : Run c h s) (k : Pubkey) (size now : ℕ) (entitled : Entitled run k size now) (said : Said) (t : State) (step : Step s (admit k size now) said t) where
  entitled_says : InTime run k size now → said ≡ ceiling_says (try_reserve c s.policy.ingress size)
  entitled_says (ordered order) = ordered_least fits run k size now order entitled said t step
  entitled_says (shielded shield used) = shielded_least fits k run shield size now used entitled said t step

  pub never_blamed : InTime run k size now → blames step.0.cause ≡ false
  never_blamed in-time = blameless step.0.cause (try_reserve c s.policy.ingress size) (sym step.2 ∙ entitled_says in-time)
