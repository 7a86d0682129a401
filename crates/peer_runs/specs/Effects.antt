-- What a call on a sound state comes to: what it says, the policy that the caller goes on with, and what becomes of the rows. The policy
-- and its rows alone decide that; no other byte of the memory has a say. Definitions only.
use Rattle.std.specs.Prelude.{◌≡◌, [], ◌∷◌}
use Rattle.refusal.specs.Refusal.{Said, gives}
use Rattle.table.specs.Table.{look}
use Rattle.peer_state.specs.Ingress.{ingress_released}
use Rattle.peer_rows.specs.Rows.{Peers}
use Rattle.peer_message_policy.specs.declared.policy.PeerMessagePolicy.{PeerMessagePolicy}
use Rattle.peer_message_policy.specs.Policy
use Rattle.peer_message_policy.specs.Policy.{Change, same, is_banned_change, disconnected_change}
use Rattle.peer_message_policy.specs.Calls.{policy_after, Outcome, admission_says, admission_turn, invalid_says, invalid_turn, standing_says, standing_changed, changed_says, changed_by}
use Rattle.peer_laws.specs.SoundLaws.{Leaves}
use Rattle.peer_runs.specs.Runs.{Call, admit, record_invalid, is_banned, on_disconnected, release_ingress, in_flight, held_time, State}
use Rattle.peer_runs.specs.Runs.{after_standing, after_changed}

-- what is said, the policy after it, and what becomes of the rows
pub record Effect : Type 0 where
  pub says : Said
  pub policy : PeerMessagePolicy
  pub change : Change

-- the effect of an outcome: what its answer says, and the policy that a caller with the policy p goes on with after it
abbrev pub effect_by : {A : Type 0} → (A → Said) → (PeerMessagePolicy → A → PeerMessagePolicy) → PeerMessagePolicy → Outcome A → Effect
effect_by says next p o = record { says = says o.answer; policy = next p o.answer; change = o.change }

-- the effect of a call on a policy with these rows
abbrev pub effect_of : Call → PeerMessagePolicy → Peers → Effect
effect_of (admit k bytes now) p rs =
    effect_by admission_says (λ q a. a.policy) p (admission_turn p (Policy.admit p.config p.ingress rs k.bytes bytes now))
effect_of (record_invalid k now) p rs =
    effect_by invalid_says (λ q a. a.policy) p (invalid_turn p (Policy.record_invalid p.config p.ingress rs k.bytes now))
effect_of (is_banned k now) p rs =
    effect_by standing_says after_standing p
    (standing_changed p (Policy.is_banned (look k.bytes rs) now) (is_banned_change rs k.bytes now (look k.bytes rs)))
effect_of (on_disconnected k now) p rs =
    effect_by changed_says after_changed p (changed_by p (disconnected_change p.config rs k.bytes now (look k.bytes rs)))
effect_of (release_ingress bytes) p rs =
    record { says = gives []; policy = policy_after p (ingress_released p.ingress bytes) same; change = same }
effect_of in_flight p rs =
    record { says = gives (p.ingress.in_flight_messages ∷ p.ingress.in_flight_bytes ∷ []); policy = p; change = same }
effect_of (held_time k given) p rs = record { says = gives (Policy.held_time given (look k.bytes rs) ∷ []); policy = p; change = same }

-- a call came to this effect; what it leaves is sound, as long as before, and has the same settings
pub record CameTo (s : State) (e : Effect) (said : Said) (t : State) : Type 0 where
  pub says : said ≡ e.says
  pub policy : t.policy ≡ e.policy
  pub left : Leaves s.policy s.memory e.change t.policy t.memory
