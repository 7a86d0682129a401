-- A caller who passes held_time's answer on has both promises of fair share under any clock. Assumes nothing.
use Rattle.std.specs.Prelude.{◌≡◌, true, List, ℕ, ◌≤◌}
use Rattle.std.proofs.Math.Path.{subst}
use Rattle.std.proofs.Common.{sym, arith}
use Rattle.std.proofs.Math.Option.{Option, none, some}
use Rattle.std.specs.Prelude.{Ok}
use Rattle.pubkey.specs.declared.Pubkey.{Pubkey}
use Rattle.refusal.specs.Refusal.{Said, gives, refused}
use Rattle.table.specs.Table.{look}
use Rattle.peer_settings.specs.declared.config.PeerMessagePolicyConfig.{PeerMessagePolicyConfig}
use Rattle.peer_state.specs.declared.entry.PeerMessagePolicyEntry.{PeerMessagePolicyEntry}
use Rattle.peer_settings.specs.Fits.{ConfigFits}
use Rattle.peer_state.specs.Ingress.{try_reserve}
use Rattle.peer_rows.specs.Rows.{Peers}
use Rattle.peer_message_policy.specs.Policy
use Rattle.peer_message_policy.specs.Policy.{sound}
use Rattle.peer_laws.specs.CallLaws.{held_time_answer}
use Rattle.promises.specs.Trails.{CoreCall, Event, seen_if, rows_at}
use Rattle.promises.specs.Lives.{Own, message, invalid, neither, own_of, OwnTime, last_used, ShieldedIn, ceiling_says}
use Rattle.peer_runs.specs.Runs.{Call, admit, State, rows_in, Step, Run, made, then}
use Rattle.promises.specs.RunLives.{entry_in, core_of, trail, Shielded, Entitled}
use Rattle.promises.specs.Held.{Answered, held_own, Held, HeldShield}
use Rattle.peer_runs.specs.SoundRunLaws.{run_sound}
use Rattle.promises.proofs.CoreRunLaws.{run_rows}
use Rattle.promises.proofs.FairRunLaws.{shielded_most, shielded_least}

-- ════ The held time ════

held_later : (given : ℕ) (found : Option PeerMessagePolicyEntry) → last_used found ≤ Policy.held_time given found
held_later given none = omega arith
held_later given (some e) = omega arith

-- held_time answers no time before the peer's last use
pub held : (s : State) (k : Pubkey) (now : ℕ) → sound s.policy s.memory ≡ true → Answered k s now → last_used (entry_in s k) ≤ now
held s k now h answered =
    let given : ℕ = answered.0 in
    let answer : (Ok now) ≡ (Ok (Policy.held_time given (entry_in s k))) =
    held_time_answer s.policy s.memory h k given answered.1
    in
    let e : now ≡ Policy.held_time given (entry_in s k) = cc in
    omega (arith, held_later given (entry_in s k))

-- ════ Runs ════

-- times of one kind are of another
own_times : {Such Other : ℕ → Type 0} (part : Own) → ((now : ℕ) → Such now → Other now) → OwnTime Such part → OwnTime Other part
own_times (message size now) f h = f now h
own_times (invalid now) f h = f now h
own_times neither f h = tt

module _ (k : Pubkey) (s : State) (h : sound s.policy s.memory ≡ true) (es : List Event) (leads : rows_at es ≡ rows_in s) where
  seen_shields : (core : Option CoreCall) (said : Said) (rs : Peers) → held_own k s core → ShieldedIn k es → ShieldedIn k (seen_if core said rs es)
  unfolding ShieldedIn
  seen_shields none said rs answered shield = shield
  seen_shields (some call) (gives xs) rs answered shield = (
    subst (λ (x : Peers). OwnTime (λ now. last_used (look k.bytes x) ≤ now) (own_of k call)) (sym leads)
        (own_times (own_of k call) (λ now a. held s k now h a) answered),
    shield,
  )
  seen_shields (some call) (refused n) rs answered shield = shield

module _ {c : PeerMessagePolicyConfig} (k : Pubkey) where
  -- such a caller's peer is shielded
  pub held_shields : {h : List Call} {s : State} (run : Run c h s) → Held k run → Shielded k run
  unfolding Held ShieldedIn trail
  held_shields (made before after p b m) answered = tt
  held_shields (then {h} {s} call said t run fits step) answered =
      seen_shields k s (run_sound run) (trail run) (run_rows run) (core_of c s call) said (rows_in t) answered.0 (held_shields run answered.1)

  module _ (fits : ConfigFits c) {h : List Call} {s : State} (run : Run c h s) (answered : Held k run) where
    -- a call at a time that held_time answers, within the smaller allowance, gets the ceiling's answer
    pub held_least : (size now : ℕ) → Answered k s now → Entitled run k size now → (said : Said) (t : State) → Step s (admit k size now) said t
        → said ≡ ceiling_says (try_reserve c s.policy.ingress size)
    held_least size now asked = shielded_least fits k run (held_shields run answered) size now (held s k now (run_sound run) asked)

    -- both bounds
    pub held_both : HeldShield k run
    held_both = record { upper = shielded_most fits k run (held_shields run answered); lower = held_least }
