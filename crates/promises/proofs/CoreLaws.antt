-- Fair share over lists of core calls: a peer's Allows are never more than the larger allowance, and a call within the smaller allowance
-- gets the ceiling's answer; for a peer whose own times never lie before its last use, and so for calls whose times never go back.
-- Assumes nothing.
use Rattle.std.specs.Prelude.{◌≡◌, true, false, ℕ, ◌^◌, ◌<◌, ◌≤◌}
use Rattle.std.proofs.Math.Path.{refl, subst}
use Rattle.std.proofs.Common.{sym, le_trans}
use Rattle.std.specs.Prelude.{Result}
use Rattle.peer_state.specs.declared.ingress.NotReserved.{NotReserved}
use Rattle.peer_state.specs.declared.ingress.FiberIngressBudget.{FiberIngressBudget}
use mathlib.Core.List.{List, [], ◌∷◌}
use Rattle.std.proofs.Math.Option.{Option, none, some}
use native.Mathlib.Omega.{arith}
use Rattle.truths.specs.TruthLaws.{by_test}
use Rattle.pubkey.specs.declared.Pubkey.{Pubkey}
use Rattle.refusal.specs.Refusal.{Said, gives, refused}
use Rattle.table.specs.Table.{look, ascending}
use Rattle.peer_settings.specs.declared.config.PeerMessagePolicyConfig.{PeerMessagePolicyConfig}
use Rattle.peer_state.specs.declared.entry.PeerMessagePolicyEntry.{PeerMessagePolicyEntry}
use Rattle.peer_settings.specs.Fits.{ConfigFits}
use Rattle.peer_state.specs.Entry.{level}
use Rattle.peer_rows.specs.Rows.{Peers}
use Rattle.peer_message_policy.specs.Policy
use Rattle.peer_message_policy.specs.Calls.{changed_rows}
use Rattle.promises.specs.Core.{change_in, says_in, after, core_time, core_latest, Timely, SizeFits, Sized, trail_of}
use Rattle.promises.specs.Trails.{CoreCall, admit, record_invalid, is_banned, on_disconnected, Event, seen, rows_at}
use Rattle.promises.specs.Lives.{Allow, same_key, own_of, OwnTime, log_for, log_after, log_in, last_used, ShieldedIn, AtMost, Within, ceiling_says}
use Rattle.promises.proofs.FairLaws.{fair_new, fair_most}
use Rattle.promises.proofs.CoreStepLaws.{EntryFair, least_here, left_in, step_fair}
use Rattle.promises.proofs.CoreRowLaws.{after_ascends, refused_leaves, trail_rows, step_used}

module _ {c : PeerMessagePolicyConfig} (fits : ConfigFits c) (k : Pubkey) where
  -- one call more, on rows that a trail leads to
  module _ (rs : Peers) (order : ascending rs ≡ true) (es : List Event) (leads : rows_at es ≡ rs) (fair : ShieldedIn k es → EntryFair c (look k.bytes rs) (log_in k es)) where
    next_fair : (call : CoreCall) → SizeFits call → (said : Said) → says_in c call rs ≡ said
        → ShieldedIn k (seen call said (changed_rows rs (change_in c call rs)) es)
        → EntryFair c (left_in c k rs call) (log_in k (seen call said (changed_rows rs (change_in c call rs)) es))
    unfolding log_in ShieldedIn
    next_fair call sized (gives xs) e shield =
        let used : OwnTime (λ now. last_used (look k.bytes rs) ≤ now) (own_of k call) =
        subst (λ (xs : Peers). OwnTime (λ now. last_used (look k.bytes xs) ≤ now) (own_of k call)) leads shield.0
        in
        rw leads
        (subst (λ said. EntryFair c (left_in c k rs call) (log_after (own_of k call) (look k.bytes rs) (left_in c k rs call) said (log_in k es))) e
        (step_fair c fits k rs order (log_in k es) (fair shield.1) call sized xs e used))
    next_fair call sized (refused n) e shield =
        subst (λ (xs : Peers). EntryFair c (look k.bytes xs) (log_in k es)) (sym (refused_leaves c rs call e)) (fair shield)

  -- along a shielded list a peer's entry is fair to the log of its life
  fair : (h : List CoreCall) → Sized h → ShieldedIn k (trail_of c h) → EntryFair c (look k.bytes (after c h)) (log_in k (trail_of c h))
  unfolding Sized trail_of after log_in look
  fair [] sized shield = refl
  fair (call ∷ h) sized shield =
      next_fair (after c h) (after_ascends c h) (trail_of c h) (trail_rows c h) (fair h sized.1) call sized.0
      (says_in c call (after c h)) refl shield

  fair_at_most : (found : Option PeerMessagePolicyEntry) (log : List Allow) → EntryFair c found log → AtMost c log
  fair_at_most none log h =
      rw h (fair_most c fits (level c.peer_message_burst 0) (level c.peer_message_burst_bytes 0) [] (fair_new c fits))
  fair_at_most (some e) log h = fair_most c fits e.messages e.bytes log h.0

  -- The upper bound: a peer gets no more than the larger allowance.
  pub most : (h : List CoreCall) → Sized h → ShieldedIn k (trail_of c h) → AtMost c (log_in k (trail_of c h))
  most h sized shield = fair_at_most (look k.bytes (after c h)) (log_in k (trail_of c h)) (fair h sized shield)

  -- The lower bound: a call within the smaller allowance gets the ceiling's answer, in any room.
  pub least : (h : List CoreCall) → Sized h → ShieldedIn k (trail_of c h) → (size now : ℕ) → size < 2 ^ 64
      → last_used (look k.bytes (after c h)) ≤ now → Policy.is_banned (look k.bytes (after c h)) now ≡ false
      → Within c now size (log_for (look k.bytes (after c h)) now (log_in k (trail_of c h)))
      → (reservation : Result FiberIngressBudget NotReserved) → says_in c (admit k size now reservation) (after c h) ≡ ceiling_says reservation
  least h sized shield size now size_fits used free within reservation =
      least_here c fits size now size_fits reservation k (after c h) (log_in k (trail_of c h)) (fair h sized shield) used free within

-- ════ Times that never go back ════

module _ (c : PeerMessagePolicyConfig) (k : Pubkey) where
  -- no entry was last used after the newest call
  pub timely_used : (h : List CoreCall) → Timely h → last_used (look k.bytes (after c h)) ≤ core_latest h
  unfolding Timely after look
  timely_used [] timely = omega arith
  timely_used (call ∷ h) timely =
      step_used c k (after c h) (after_ascends c h) call (le_trans (timely_used h timely.1) timely.0)

  -- a time that is not before the last use is not before it for a call of the peer's own
  own_timely : (found : Option PeerMessagePolicyEntry) (call : CoreCall) → last_used found ≤ core_time call
      → OwnTime (λ now. last_used found ≤ now) (own_of k call)
  own_timely found (admit peer size now reservation) h = by_test (same_key k peer) (λ own. rw own h) (λ other. rw other tt)
  own_timely found (record_invalid peer now) h = by_test (same_key k peer) (λ own. rw own h) (λ other. rw other tt)
  own_timely found (is_banned peer now) h = tt
  own_timely found (on_disconnected peer now) h = tt

  next_shields : (call : CoreCall) (said : Said) (rs : Peers) (es : List Event) → last_used (look k.bytes (rows_at es)) ≤ core_time call
      → ShieldedIn k es → ShieldedIn k (seen call said rs es)
  unfolding ShieldedIn
  next_shields call (gives xs) rs es used shield = (own_timely (look k.bytes (rows_at es)) call used, shield)
  next_shields call (refused n) rs es used shield = shield

  -- so every peer is shielded
  pub timely_shields : (h : List CoreCall) → Timely h → ShieldedIn k (trail_of c h)
  unfolding Timely trail_of ShieldedIn
  timely_shields [] timely = tt
  timely_shields (call ∷ h) timely =
      next_shields call (says_in c call (after c h)) (after c (call ∷ h)) (trail_of c h)
      (rw (trail_rows c h) (le_trans (timely_used h timely.1) timely.0)) (timely_shields h timely.1)
