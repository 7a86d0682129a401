-- Fair share, for one core call on rows: a call within the smaller allowance gets the ceiling's answer, and every call that is not
-- refused keeps a peer's entry fair to the log of its life. In order: the invariant; the entry that a call lands on; the lower bound;
-- what an own call leaves; what any call leaves. Assumes nothing.
use Rattle.std.specs.Prelude.{◌≡◌, true, false, List, [], ◌∷◌, ◌⊎◌, ℕ, ◌^◌, ◌<◌, ◌≤◌}
use Rattle.std.proofs.Math.Path.{refl, subst}
use Rattle.std.proofs.Common.{sym, ap, subst₂, ◌∙◌, inl, inr, ⊎_elim, arith}
use Rattle.std.proofs.Math.Option.{Option, none, some}
use Rattle.std.specs.Prelude.{Result}
use Rattle.peer_state.specs.declared.ingress.NotReserved.{NotReserved}
use Rattle.peer_state.specs.declared.ingress.FiberIngressBudget.{FiberIngressBudget}
use Rattle.truths.specs.TruthLaws.{by_test, true_is_not_false}
use Rattle.pubkey.specs.declared.Pubkey.{Pubkey}
use Rattle.pubkey.specs.Order.{compare_bytes}
use Rattle.pubkey.specs.OrderLaws.{compare_self, compare_equal, pubkey_fields}
use Rattle.refusal.specs.Refusal.{gives, refused}
use Rattle.table.specs.Table.{look, ascending}
use Rattle.table.specs.TableLaws.{by_answer}
use Rattle.peer_settings.specs.declared.config.PeerMessagePolicyConfig.{PeerMessagePolicyConfig}
use Rattle.peer_state.specs.declared.entry.PeerMessagePolicyEntry.{PeerMessagePolicyEntry}
use Rattle.peer_verdict.specs.declared.verdict.Shortage.TheVariants as Shortage
use Rattle.peer_verdict.specs.declared.verdict.Cause.{Cause}
use Rattle.peer_verdict.specs.declared.verdict.InvalidCause.{InvalidCause}
use Rattle.peer_settings.specs.Fits.{ConfigFits}
use Rattle.peer_state.specs.Entry.{entry_new, entry_is_banned, entry_expire_windows}
use Rattle.peer_verdict.specs.Verdict.{refuses}
use Rattle.peer_verdict.specs.VerdictLaws.{NotAllowed}
use Rattle.peer_rows.specs.Rows.{Peers}
use Rattle.peer_message_policy.specs.Policy
use Rattle.peer_verdict.specs.Causes.{cause_says}
use Rattle.peer_message_policy.specs.Calls.{changed_rows}
use Rattle.peer_laws.specs.PeerLaws.{Fate, stayed, gone, expired, Lands, kept, absent, remade, Own, live, undone, carried, OwnInvalid, barred, counted, live_not_spent, own_message, own_invalid, message_fate, record_invalid_fate, is_banned_fate, disconnected_fate}
use Rattle.promises.specs.Core.{idle, admits, message_turn, invalid_turn, change_in, says_in, SizeFits}
use Rattle.promises.specs.Trails.{CoreCall, admit, record_invalid, is_banned, on_disconnected}
use Rattle.promises.specs.Lives.{Allow, same_key, own_of, OwnTime, log_for, logged, kept_log, log_after, last_used, Within, ceiling_says}
use Rattle.promises.proofs.FairLaws.{NotAfter, Fair, fair_new, fair_allow, fair_least}
use Rattle.promises.proofs.DecisionLaws.{decided, invalid_decision_noted}

-- ════ The invariant ════

-- an entry is fair to the log of its life, which does not pass its last use; without an entry there is no log
abbrev pub EntryFair : PeerMessagePolicyConfig → Option PeerMessagePolicyEntry → List Allow → Type 0
EntryFair c none log = log ≡ []
EntryFair c (some e) log = Fair c e.messages e.bytes log × NotAfter log e.last_used_ms

-- the same, and no later than a call at this time
abbrev Ready : PeerMessagePolicyConfig → PeerMessagePolicyEntry → ℕ → List Allow → Type 0
Ready c e now log = Fair c e.messages e.bytes log × NotAfter log now

-- a log whose newest Allow is not after one time is not after a later one
not_after_later : (log : List Allow) (t u : ℕ) → NotAfter log t → t ≤ u → NotAfter log u
not_after_later [] t u h k = tt
not_after_later (z ∷ log) t u h k = omega arith

-- ════ The entry that a call lands on ════

module _ (c : PeerMessagePolicyConfig) (fits : ConfigFits c) where
  -- it is ready for the call
  lands_ready : (now : ℕ) (found : Option PeerMessagePolicyEntry) (e : PeerMessagePolicyEntry) (log : List Allow) → Lands c now found e
      → EntryFair c found log → last_used found ≤ now → Ready c e now (log_for found now log)
  unfolding entry_new
  lands_ready now found e log (kept q unspent) h used =
      let fair : EntryFair c (some e) log = subst (λ o. EntryFair c o log) q h in
      let before : e.last_used_ms ≤ now = subst (λ o. last_used o ≤ now) q used in
      rw (q, unspent) (fair.0, not_after_later log e.last_used_ms now fair.1 before)
  lands_ready now found e log (remade old q spent new) h used = rw (q, spent, new) (fair_new c fits, tt)
  lands_ready now found e log (absent q new) h used = rw (q, new) (fair_new c fits, tt)

-- ════ The lower bound ════

module _ (c : PeerMessagePolicyConfig) (fits : ConfigFits c) (size now : ℕ) (size_fits : size < 2 ^ 64) (reservation : Result FiberIngressBudget NotReserved) where
  -- within the smaller allowance both buckets of the entry that a call lands on pass, and the ceiling decides
  passes_says : (found : Option PeerMessagePolicyEntry) (e : PeerMessagePolicyEntry) (log : List Allow) → Lands c now found e → EntryFair c found log
      → last_used found ≤ now → Within c now size (log_for found now log) → cause_says (admits c size now reservation e).cause ≡ ceiling_says reservation
  passes_says found e log lands fair used within =
      let ready = lands_ready c fits now found e log lands fair used in
      let passes = fair_least c fits e.messages e.bytes (log_for found now log) size now size_fits ready.0 ready.1 within in
      ap cause_says ((decided c idle e size now reservation).passed passes.0 passes.1)

  own_least : {found left : Option PeerMessagePolicyEntry} {cause : Cause} (log : List Allow) → Own c now (admits c size now reservation) found left cause
      → EntryFair c found log → last_used found ≤ now → Policy.is_banned found now ≡ false → Within c now size (log_for found now log)
      → cause_says cause ≡ ceiling_says reservation
  own_least log (live e q ban why same_entry) fair used free within =
      absurd (true_is_not_false ban (subst (λ o. Policy.is_banned o now ≡ false) q free))
  own_least {found} log (undone e lands o why same_entry) fair used free within =
      ap cause_says why ∙ passes_says found e log lands fair used within
  own_least {found} log (carried e lands o why now-entry) fair used free within =
      ap cause_says why ∙ passes_says found e log lands fair used within

  -- a call within the smaller allowance gets the ceiling's answer
  pub least_here : (k : Pubkey) (rs : Peers) (log : List Allow) → EntryFair c (look k.bytes rs) log → last_used (look k.bytes rs) ≤ now
      → Policy.is_banned (look k.bytes rs) now ≡ false → Within c now size (log_for (look k.bytes rs) now log)
      → says_in c (admit k size now reservation) rs ≡ ceiling_says reservation
  least_here k rs log = own_least log (own_message k.bytes rs c idle (admits c size now reservation) now)

-- ════ What an own call leaves ════

pub gives_is_not_refused : {xs : List ℕ} {n : ℕ} → gives xs ≡ refused n → ⊥
gives_is_not_refused h = let z : ◌≡◌ {A = ℕ} 0 1 = cc in omega arith

-- admit says a refusal where its cause is one, and nowhere else
pub refused_either : (cause : Cause) → ((refuses cause ≡ true) × ((n : ℕ) × (cause_says cause ≡ refused n))) ⊎ ((refuses cause ≡ false) × ((xs : List ℕ) × (cause_says cause ≡ gives xs)))
refused_either Cause.Allowed = inr (refl, (_, refl))
refused_either (Cause.Short Shortage.Messages) = inr (refl, (_, refl))
refused_either (Cause.Short (Shortage.Bytes k)) = inr (refl, (_, refl))
refused_either (Cause.Short Shortage.Slot) = inr (refl, (_, refl))
refused_either (Cause.Short (Shortage.CeilingBytes k)) = inr (refl, (_, refl))
refused_either Cause.LiveBan = inr (refl, (_, refl))
refused_either Cause.BanBegun = inr (refl, (_, refl))
refused_either (Cause.Refused n) = inl (refl, (_, refl))

module _ (c : PeerMessagePolicyConfig) (fits : ConfigFits c) where
  -- under a live ban nothing changes, and the log is that of the same life
  live_fair : (now : ℕ) (found left : Option PeerMessagePolicyEntry) (e : PeerMessagePolicyEntry) (log : List Allow) → found ≡ some e
      → entry_is_banned e now ≡ true → left ≡ found → EntryFair c found log → EntryFair c left (kept_log left (log_for found now log))
  live_fair now found left e log q ban same_entry h =
      rw (same_entry, q, live_not_spent e now ban) (subst (λ o. EntryFair c o log) q h)

  module _ (size now : ℕ) (size_fits : size < 2 ^ 64) (reservation : Result FiberIngressBudget NotReserved) where
    abbrev asked : Allow
    asked = record { time = now; size = size }

    module _ (e : PeerMessagePolicyEntry) (log : List Allow) (ready : Ready c e now log) where
      -- an Allow is charged to both buckets
      allowed_fair : (admits c size now reservation e).cause ≡ Cause.Allowed → EntryFair c (some (admits c size now reservation e).entry) (asked ∷ log)
      allowed_fair q =
          let d = decided c idle e size now reservation in
          let a = d.allowed q in
          let charged = fair_allow c fits e.messages e.bytes log size now size_fits ready.0 ready.1 a.message_there a.bytes_there in
          (subst₂ (λ m b. Fair c m b (asked ∷ log)) (sym a.messages) (sym a.bytes) charged, omega (arith, d.used))

      -- any other decision leaves the buckets
      other_fair : NotAllowed (admits c size now reservation e).cause → EntryFair c (some (admits c size now reservation e).entry) log
      other_fair n =
          let d = decided c idle e size now reservation in
          let left = d.other n in
          rw (left.0, left.1, d.used) ready

      carried_fair : (cause : Cause) → (admits c size now reservation e).cause ≡ cause
          → EntryFair c (some (admits c size now reservation e).entry) (logged (cause_says cause) asked log)
      carried_fair Cause.Allowed q = allowed_fair q
      carried_fair (Cause.Short Shortage.Messages) q = other_fair (subst NotAllowed (sym q) tt)
      carried_fair (Cause.Short (Shortage.Bytes k)) q = other_fair (subst NotAllowed (sym q) tt)
      carried_fair (Cause.Short Shortage.Slot) q = other_fair (subst NotAllowed (sym q) tt)
      carried_fair (Cause.Short (Shortage.CeilingBytes k)) q = other_fair (subst NotAllowed (sym q) tt)
      carried_fair Cause.LiveBan q = other_fair (subst NotAllowed (sym q) tt)
      carried_fair Cause.BanBegun q = other_fair (subst NotAllowed (sym q) tt)
      carried_fair (Cause.Refused n) q = other_fair (subst NotAllowed (sym q) tt)

    -- the peer's own admit, where it is not refused
    admit_fair : {found left : Option PeerMessagePolicyEntry} {cause : Cause} (log : List Allow)
        → Own c now (admits c size now reservation) found left cause → (xs : List ℕ) → cause_says cause ≡ gives xs → EntryFair c found log
        → last_used found ≤ now → EntryFair c left (kept_log left (logged (cause_says cause) asked (log_for found now log)))
    admit_fair {found} {left} log (live e q ban why same_entry) xs given h used = rw why (live_fair now found left e log q ban same_entry h)
    admit_fair {cause = cause} log (undone e lands o why same_entry) xs given h used =
        absurd (⊎_elim
        (λ over. gives_is_not_refused (sym given ∙ over.1.1))
        (λ other. true_is_not_false (ap refuses why ∙ o) other.0)
        (refused_either cause))
    admit_fair {found} {cause = cause} log (carried e lands o why now-entry) xs given h used =
        rw now-entry (carried_fair e (log_for found now log) (lands_ready c fits now found e log lands h used) cause (sym why))

  -- the peer's own record_invalid
  invalid_fair : (now : ℕ) {found left : Option PeerMessagePolicyEntry} {cause : InvalidCause} (log : List Allow) → OwnInvalid c now found left cause
      → EntryFair c found log → last_used found ≤ now → EntryFair c left (kept_log left (log_for found now log))
  invalid_fair now {found} {left} log (barred e q ban why same_entry) h used = live_fair now found left e log q ban same_entry h
  invalid_fair now {found} log (counted e lands why now-entry) h used =
      let n = invalid_decision_noted c e now in
      rw (now-entry, n.messages, n.bytes, n.used) (lands_ready c fits now found e log lands h used)

-- ════ What any call leaves ════

-- keys that count as the same are
pub same_key_lem : (a b : Pubkey) → same_key a b ≡ true → a ≡ b
same_key_lem a b h =
    by_answer (compare_bytes a.bytes b.bytes) (λ o. absurd (true_is_not_false h (rw o)))
    (λ o. pubkey_fields (compare_equal a.bytes b.bytes o))
    (λ o. absurd (true_is_not_false h (rw o)))

-- keys that do not count as the same are not
pub other_key : (a b : Pubkey) → same_key a b ≡ false → a.bytes ≡ b.bytes → ⊥
other_key a b h same_bytes = true_is_not_false (rw (same_bytes, compare_self b.bytes)) h

-- the entry that a call leaves
abbrev pub left_in : PeerMessagePolicyConfig → Pubkey → Peers → CoreCall → Option PeerMessagePolicyEntry
left_in c k rs call = look k.bytes (changed_rows rs (change_in c call rs))

module _ (c : PeerMessagePolicyConfig) (k : Pubkey) (rs : Peers) where
  -- an admit and a record_invalid of the peer's own
  pub own_here : (peer : Pubkey) (size now : ℕ) (reservation : Result FiberIngressBudget NotReserved) → k ≡ peer
      → Own c now (admits c size now reservation) (look k.bytes rs) (left_in c k rs (admit peer size now reservation)) (message_turn c peer size now reservation rs).cause
  own_here peer size now reservation q =
      subst (λ (x : Pubkey). Own c now (admits c size now reservation) (look x.bytes rs) (left_in c x rs (admit peer size now reservation)) (message_turn c peer size now reservation rs).cause)
      (sym q) (own_message peer.bytes rs c idle (admits c size now reservation) now)

  pub own_invalid_here : (peer : Pubkey) (now : ℕ) → k ≡ peer
      → OwnInvalid c now (look k.bytes rs) (left_in c k rs (record_invalid peer now)) (invalid_turn c peer now rs).cause
  own_invalid_here peer now q =
      subst (λ (x : Pubkey). OwnInvalid c now (look x.bytes rs) (left_in c x rs (record_invalid peer now)) (invalid_turn c peer now rs).cause)
      (sym q) (own_invalid peer.bytes rs c idle now)

  module _ (order : ascending rs ≡ true) where
    -- an admit and a record_invalid of another peer
    pub other_here : (peer : Pubkey) (size now : ℕ) (reservation : Result FiberIngressBudget NotReserved) → same_key k peer ≡ false
        → Fate (look k.bytes rs) (left_in c k rs (admit peer size now reservation))
    other_here peer size now reservation other =
        message_fate k.bytes peer.bytes (other_key k peer other) rs order c idle (admits c size now reservation) now

    pub other_invalid_here : (peer : Pubkey) (now : ℕ) → same_key k peer ≡ false → Fate (look k.bytes rs) (left_in c k rs (record_invalid peer now))
    other_invalid_here peer now other = record_invalid_fate k.bytes peer.bytes (other_key k peer other) rs order c idle now

    pub is_banned_here : (peer : Pubkey) (now : ℕ) → Fate (look k.bytes rs) (left_in c k rs (is_banned peer now))
    is_banned_here peer now = is_banned_fate k.bytes peer.bytes rs order now (look peer.bytes rs)

    pub disconnected_here : (peer : Pubkey) (now : ℕ) → Fate (look k.bytes rs) (left_in c k rs (on_disconnected peer now))
    disconnected_here peer now =
        let keys : (k.bytes ≡ peer.bytes) ⊎ (k.bytes ≡ peer.bytes → ⊥) =
        by_test (same_key k peer) (λ own. inl (ap (λ x. x.bytes) (same_key_lem k peer own))) (λ other. inr (other_key k peer other))
        in
        disconnected_fate k.bytes peer.bytes rs order now c keys (look peer.bytes rs) refl

module _ (c : PeerMessagePolicyConfig) where
  kept_fair : (found : Option PeerMessagePolicyEntry) (log : List Allow) → EntryFair c found log → EntryFair c found (kept_log found log)
  kept_fair none log h = refl
  kept_fair (some e) log h = h

  -- a call that does not judge the entry
  fate_fair : {found left : Option PeerMessagePolicyEntry} (log : List Allow) → Fate found left → EntryFair c found log
      → EntryFair c left (kept_log left log)
  unfolding entry_expire_windows
  fate_fair {found} log stayed h = kept_fair found log h
  fate_fair log gone h = refl
  fate_fair log (expired e now duration q) h = subst (λ o. EntryFair c o log) q h

module _ (c : PeerMessagePolicyConfig) (fits : ConfigFits c) (k : Pubkey) (rs : Peers) (order : ascending rs ≡ true) (log : List Allow) (fair : EntryFair c (look k.bytes rs) log) where
  -- every call that is not refused keeps the entry fair
  pub step_fair : (call : CoreCall) → SizeFits call → (xs : List ℕ) → says_in c call rs ≡ gives xs
      → OwnTime (λ now. last_used (look k.bytes rs) ≤ now) (own_of k call)
      → EntryFair c (left_in c k rs call) (log_after (own_of k call) (look k.bytes rs) (left_in c k rs call) (says_in c call rs) log)
  step_fair (admit peer size now reservation) size_fits xs given used =
      by_test (same_key k peer)
      (λ own.
      let before : last_used (look k.bytes rs) ≤ now = rw own at used in
      rw own (admit_fair c fits size now size_fits reservation log (own_here c k rs peer size now reservation (same_key_lem k peer own)) xs given fair before))
      (λ other. rw other (fate_fair c log (other_here c k rs order peer size now reservation other) fair))
  step_fair (record_invalid peer now) size_fits xs given used =
      by_test (same_key k peer)
      (λ own.
      let before : last_used (look k.bytes rs) ≤ now = rw own at used in
      rw own (invalid_fair c fits now log (own_invalid_here c k rs peer now (same_key_lem k peer own)) fair before))
      (λ other. rw other (fate_fair c log (other_invalid_here c k rs order peer now other) fair))
  step_fair (is_banned peer now) size_fits xs given used = fate_fair c log (is_banned_here c k rs order peer now) fair
  step_fair (on_disconnected peer now) size_fits xs given used = fate_fair c log (disconnected_here c k rs order peer now) fair
