-- The numbers of a policy stay within their fields' widths: those of settings that a line spells, and the load in flight after an event.
-- Assumes nothing.
use Rattle.std.specs.Prelude.{Option, Some, None}
use Rattle.std.specs.Prelude.{◌≡◌, Bool, ◌||◌, List, ℕ, ◌+◌, ◌-◌, leb, eqb}
use Rattle.std.proofs.Common.{arith}
use Rattle.std.specs.Prelude.{Result, Ok, Err}
use Rattle.peer_state.specs.declared.ingress.NotReserved.{NotReserved}
use borrow.Author.Tests.{leb-false, ltb-false, eqb-false}
use Rattle.std.proofs.Math.Dec.{ltb}
use Rattle.truths.specs.TruthLaws.{chosen, neither}
use Rattle.table.specs.Table.{look}
use Rattle.peer_settings.specs.declared.config.PeerMessagePolicyConfig.{PeerMessagePolicyConfig}
use Rattle.peer_state.specs.declared.entry.PeerMessagePolicyEntry.{PeerMessagePolicyEntry}
use Rattle.peer_state.specs.declared.ingress.FiberIngressBudget.{FiberIngressBudget}
use Rattle.peer_verdict.specs.declared.verdict.Shortage.TheVariants as Shortage
use Rattle.peer_verdict.specs.declared.verdict.Cause.{Cause}
use Rattle.peer_verdict.specs.declared.verdict.InvalidCause.{InvalidCause}
use Rattle.peer_verdict.specs.declared.verdict.Decision.{Decision}
use Rattle.peer_settings.specs.Config.{unlimited}
use Rattle.peer_settings.specs.Fits.{ConfigFits}
use Rattle.peer_state.specs.Entry.{entry_used}
use Rattle.peer_state.specs.Ingress.{try_reserve}
use Rattle.peer_verdict.specs.Verdict.{ceiling_decides, missing, take_bytes, decision, invalid_decision, refuses}
use Rattle.peer_verdict.specs.VerdictLaws.{both_charged, violated_ways, weighed_in_ways}
use Rattle.peer_rows.specs.Rows.{Peers}
use Rattle.peer_message_policy.specs.declared.policy.PeerMessagePolicy.{PeerMessagePolicy}
use Rattle.peer_message_policy.specs.Policy.{Change, Update, banned, update, turn_of, carried_out, noted_down, entry_for_update, Turn, admit, record_invalid, is_banned, is_banned_change}
use Rattle.peer_message_policy.specs.Calls.{policy_after, standing_changed}
use Rattle.peer_laws.specs.CallLaws.{of_standing}
use Rattle.trace_lines.specs.declared.event.Event.{Event}
use Rattle.trace_lines.specs.declared.event.EventKind.{EventKind}
use Rattle.trace_lines.specs.declared.event.EventKind.TheVariants as kind
use Rattle.trace_lines.specs.Lines.{
  largest32,
  largest64,
  ends_line,
  interval,
  burst,
  rate,
  burst_bytes,
  threshold,
  ban_duration,
  max_tracked,
  max_messages,
  max_bytes,
  settings_of,
}
use Rattle.trace_lines.specs.LinesLaws.{scan_bound, field_bound}
use Rattle.trace.specs.Step.{kind_outcome, event_outcome}
use Rattle.trace_laws.specs.Fits.{LoadFits}
use Rattle.trace_laws.specs.StepLaws.{of_standing_answered}

-- ════ Settings ════

abbrev pub SettingsFit : Option PeerMessagePolicyConfig → Type 0
SettingsFit None = Unit {0}
SettingsFit (Some c) = ConfigFits c

-- a line spells no number that is too wide for its field
pub settings_fit : (line : List ℕ) → SettingsFit (settings_of line)
unfolding settings_of
settings_fit line =
    chosen SettingsFit (ends_line line (max_bytes line))
    (λ h.
    record {
      interval = omega (arith, scan_bound line 0 largest64 (omega arith));
      burst = omega (arith, field_bound line (interval line) largest32 (omega arith));
      rate = omega (arith, field_bound line (burst line) largest64 (omega arith));
      burst_bytes = omega (arith, field_bound line (rate line) largest64 (omega arith));
      threshold = omega (arith, field_bound line (burst_bytes line) largest32 (omega arith));
      duration = omega (arith, field_bound line (threshold line) largest64 (omega arith));
      tracked = omega (arith, field_bound line (ban_duration line) largest64 (omega arith));
      messages = omega (arith, field_bound line (max_tracked line) largest32 (omega arith));
      bytes = omega (arith, field_bound line (max_messages line) largest64 (omega arith));
    })
    (λ h. tt)

-- ════ The load in flight ════

module _ (c : PeerMessagePolicyConfig) (config : ConfigFits c) (i : FiberIngressBudget) (load : LoadFits i) where
  abbrev RoomFits : Result FiberIngressBudget NotReserved → Type 0
  RoomFits (Ok after) = LoadFits after
  RoomFits (Err NotReserved.NoSlot) = Unit {0}
  RoomFits (Err (NotReserved.BytesShort k)) = Unit {0}
  RoomFits (Err (NotReserved.Refused n)) = Unit {0}

  -- where there is room for a message, there is room in the numbers
  room_fits : (size : ℕ) → RoomFits (try_reserve c i size)
  unfolding try_reserve
  room_fits size =
      chosen RoomFits (unlimited c)
      (λ u.
      chosen RoomFits (eqb i.in_flight_messages 4294967295 || ltb 18446744073709551615 (i.in_flight_bytes + size)) (λ o. tt)
      (λ o.
      let parts = neither (eqb i.in_flight_messages 4294967295) (ltb 18446744073709551615 (i.in_flight_bytes + size)) o in
      let few : i.in_flight_messages ≡ 4294967295 → ⊥ = eqb-false i.in_flight_messages 4294967295 parts.0 in
      record {
        messages = omega (arith, few, load.messages);
        bytes = omega (arith, ltb-false 18446744073709551615 (i.in_flight_bytes + size) parts.1);
      }))
      (λ u.
      chosen RoomFits (leb c.max_in_flight_messages i.in_flight_messages) (λ m. tt)
      (λ m.
      chosen RoomFits (ltb (c.max_in_flight_bytes - i.in_flight_bytes) size) (λ b. tt)
      (λ b.
      record {
        messages = omega (arith, leb-false c.max_in_flight_messages i.in_flight_messages m, config.messages);
        bytes = omega (arith, ltb-false (c.max_in_flight_bytes - i.in_flight_bytes) size b, config.bytes, load.bytes);
      })))

  abbrev DecisionFits : Decision → Type 0
  DecisionFits d = LoadFits d.ingress

  ceiling_decides_fits : (e charged : PeerMessagePolicyEntry) (room : Result FiberIngressBudget NotReserved) → RoomFits room → DecisionFits (ceiling_decides i e charged room)
  ceiling_decides_fits e charged (Ok after) h = h
  ceiling_decides_fits e charged (Err NotReserved.NoSlot) h = load
  ceiling_decides_fits e charged (Err (NotReserved.BytesShort k)) h = load
  ceiling_decides_fits e charged (Err (NotReserved.Refused n)) h = load

  decision_fits : (e : PeerMessagePolicyEntry) (size now : ℕ) → DecisionFits (decision c i e size now (try_reserve c i size))
  unfolding decision
  decision_fits e size now =
      let used : PeerMessagePolicyEntry = entry_used e now c.ban_duration_ms in
      weighed_in_ways DecisionFits c i used size now (try_reserve c i size)
      (λ short. violated_ways DecisionFits c i used now (Cause.Short Shortage.Messages) (λ h. load) (λ h. load))
      (λ passed short. violated_ways DecisionFits c i used now (Cause.Short (Shortage.Bytes (missing (take_bytes c used.bytes size now).answer))) (λ h. load) (λ h. load))
      (λ passed passes. ceiling_decides_fits used (both_charged c used size now) (try_reserve c i size) (room_fits size))

  pub admit_fits : (rs : Peers) (k : List ℕ) (size now : ℕ) → LoadFits (admit c i rs k size now).ingress
  unfolding admit carried_out
  admit_fits rs k size now = by (entry_for_update c now rs k (look k rs))
    where
      by : (u : Update) → LoadFits (turn_of i Cause.LiveBan (λ e xs. carried_out i k xs (decision c i e size now (try_reserve c i size))) u).ingress
      by banned = load
      by (update e xs) =
          chosen (λ (t : Turn Cause). LoadFits t.ingress) (refuses (decision c i e size now (try_reserve c i size)).cause) (λ h. load) (λ h. decision_fits e size now)

  -- an invalid message leaves the load as it is
  pub record_invalid_fits : (rs : Peers) (k : List ℕ) (now : ℕ) → LoadFits (record_invalid c i rs k now).ingress
  unfolding record_invalid
  record_invalid_fits rs k now = by (entry_for_update c now rs k (look k rs))
    where
      by : (u : Update) → LoadFits (turn_of i InvalidCause.LiveBan (λ e xs. noted_down i k xs (invalid_decision c e now)) u).ingress
      by banned = load
      by (update e xs) = load

-- ════ An event ════

module _ (p : PeerMessagePolicy) (config : ConfigFits p.config) (load : LoadFits p.ingress) (rs : Peers) where
  abbrev InFlightFits : PeerMessagePolicy → Type 0
  InFlightFits q = LoadFits q.ingress

  kind_fits : (k : List ℕ) (size now number : ℕ) (which : EventKind) → InFlightFits (kind_outcome p rs k size now number which).answer.state
  kind_fits k size now number kind.Admit = admit_fits p.config config p.ingress load rs k size now
  kind_fits k size now number kind.Invalid = record_invalid_fits p.config config p.ingress load rs k now
  kind_fits k size now number kind.BanQuery =
      let change : Change = is_banned_change rs k now (look k rs) in
      let live : Bool = is_banned (look k rs) now in
      of_standing_answered p InFlightFits (standing_changed p live change).answer
      (of_standing p InFlightFits (policy_after p p.ingress change) live load)
  kind_fits k size now number kind.Disconnected = load
  kind_fits k size now number kind.Release = record { messages = omega (arith, load.messages); bytes = omega (arith, load.bytes) }
  kind_fits k size now number kind.Bad = load

  -- the load after an event fits its numbers
  pub event_fits : (e : Event) (number : ℕ) → LoadFits (event_outcome p rs e number).answer.state.ingress
  unfolding event_outcome
  event_fits e number = kind_fits e.key.bytes e.bytes e.now_ms number e.kind
