-- Laws of the load in flight: what keeps it within the ceiling, and where its numbers have no room. Assumes nothing.
use Rattle.std.specs.Prelude.{◌≡◌, refl, true, false, ◌||◌, ℕ, ◌+◌, ◌-◌, ◌≤◌, ◌<◌, ltb, leb, eqb}
use Rattle.std.proofs.Common.{sym, ◌∙◌, true≢false, arith, leb-true, leb-false, ltb-true, ltb-false, le-leb}
use Rattle.std.proofs.Math.Bool.{and-eq-true_iff}
use Rattle.std.specs.Prelude.{Result, Ok, Err}
use Rattle.peer_state.specs.declared.ingress.NotReserved.{NotReserved}
use Rattle.peer_state.specs.declared.ingress.NotReserved.TheVariants as NotReserved
use Rattle.truths.specs.TruthLaws.{chosen, or_else}
use Rattle.refusal.specs.declared.Refusal.TheVariants as Refusal
use Rattle.peer_settings.specs.declared.config.PeerMessagePolicyConfig.{PeerMessagePolicyConfig}
use Rattle.peer_state.specs.declared.ingress.FiberIngressBudget.{FiberIngressBudget}
use Rattle.peer_settings.specs.Config.{unlimited}
use Rattle.peer_state.specs.Ingress.{ingress_reserved, try_reserve, ingress_released, ingress_sound}

-- how many messages and bytes may be in flight under a ceiling
pub record UnderCeiling (c : PeerMessagePolicyConfig) (i : FiberIngressBudget) : Type 0 where
  pub messages : i.in_flight_messages ≤ c.max_in_flight_messages
  pub bytes : i.in_flight_bytes ≤ c.max_in_flight_bytes

pub sound_within : {c : PeerMessagePolicyConfig} {i : FiberIngressBudget} → unlimited c ≡ false → ingress_sound c i ≡ true → UnderCeiling c i
sound_within u h =
    let (m, b) = (and-eq-true_iff _ _).0 (rw u at h) in
    record { messages = leb-true _ _ m; bytes = leb-true _ _ b }

pub within_sound : (c : PeerMessagePolicyConfig) (i : FiberIngressBudget) → (unlimited c ≡ false → UnderCeiling c i) → ingress_sound c i ≡ true
within_sound c i k =
    or_else (unlimited c) (λ u. rw (le-leb _ _ (k u).messages, le-leb _ _ (k u).bytes))

-- a released load stays within the ceiling
pub released_sound : (c : PeerMessagePolicyConfig) (i : FiberIngressBudget) (size : ℕ) → ingress_sound c i ≡ true → ingress_sound c (ingress_released i size) ≡ true
released_sound c i size h =
    within_sound c (ingress_released i size)
    (λ u.
    let w : UnderCeiling c i = sound_within u h in
    record { messages = omega (arith, w.messages); bytes = omega (arith, w.bytes) })

-- what holds of each answer of the ceiling: room is for this message, and stays within the ceiling; only a load without a
-- ceiling outgrows its numbers, which is refusal 4
abbrev pub ReservationHolds : PeerMessagePolicyConfig → FiberIngressBudget → ℕ → Result FiberIngressBudget NotReserved → Type 0
ReservationHolds c i size (Ok after) =
    (after ≡ ingress_reserved i size) × (ingress_sound c i ≡ true → ingress_sound c after ≡ true)
ReservationHolds c i size (Err NotReserved.NoSlot) = unlimited c ≡ false
ReservationHolds c i size (Err (NotReserved.BytesShort k)) = (unlimited c ≡ false) × (1 ≤ k)
ReservationHolds c i size (Err (NotReserved.Refused n)) = (unlimited c ≡ true) × (n ≡ Refusal.Overflow)

pub reservation_holds : (c : PeerMessagePolicyConfig) (i : FiberIngressBudget) (size : ℕ) → ReservationHolds c i size (try_reserve c i size)
unfolding try_reserve
reservation_holds c i size =
    chosen (ReservationHolds c i size) (unlimited c)
    (λ u.
    chosen (ReservationHolds c i size)
    (eqb i.in_flight_messages 4294967295 || ltb 18446744073709551615 (i.in_flight_bytes + size))
    (λ o. (u, refl))
    (λ o. (refl, λ h. within_sound c (ingress_reserved i size) (λ f. absurd (true≢false (sym u ∙ f))))))
    (λ u.
    chosen (ReservationHolds c i size) (leb c.max_in_flight_messages i.in_flight_messages)
    (λ m. u)
    (λ m.
    let slot : i.in_flight_messages < c.max_in_flight_messages = leb-false _ _ m in
    chosen (ReservationHolds c i size) (ltb (c.max_in_flight_bytes - i.in_flight_bytes) size)
    (λ b.
    let short : c.max_in_flight_bytes - i.in_flight_bytes < size = ltb-true _ _ b in
    (u, omega arith))
    (λ b.
    let fits : size ≤ c.max_in_flight_bytes - i.in_flight_bytes = ltb-false _ _ b in (
      refl,
      λ h.
          let w : UnderCeiling c i = sound_within u h in
          within_sound c (ingress_reserved i size)
          (λ f. record { messages = omega arith; bytes = omega (arith, w.bytes) }),
    ))))
