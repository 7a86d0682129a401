-- Laws of the public calls: none on a sound policy is refused with 3; each leaves a sound policy, the same settings, and memory of the same
-- length that holds bytes; and a fresh policy is sound. They ask for no range of numbers, only that a key has 33 bytes. Assumes nothing.
use Rattle.std.specs.Prelude.{◌≡◌, refl, Bool, true, false, List, [], ℕ, ◌*◌, ◌≤◌, ltb, length}
use Rattle.std.proofs.Common.{sym, subst, ◌∙◌, arith, leb-true, ltb-false}
use Rattle.std.proofs.Math.Path.{ap}
use Rattle.std.proofs.Math.Option.{Option}
use Rattle.std.specs.Prelude.{Result, Ok, Err}
use Rattle.refusal.specs.declared.Refusal.{Refusal}
use Rattle.refusal.specs.declared.Refusal.TheVariants as Refusal
use Rattle.truths.specs.TruthLaws.{by_test}
use Rattle.lent_bytes.specs.LentBytes.{Bytes}
use Rattle.pubkey.specs.declared.Pubkey.{Pubkey}
use Rattle.table_laws.specs.KeptLaws.{numbers_encode, length_laid_keyed, bytes_laid_keyed}
use Rattle.peer_rows.specs.Rows.{row_width}
use Rattle.peer_rows.specs.RowsLaws.{peer_numbers_lem}
use Rattle.table.specs.Table.{every, ascending, look}
use Rattle.table.specs.Memory.{rows}
use Rattle.peer_settings.specs.declared.config.PeerMessagePolicyConfig.{PeerMessagePolicyConfig}
use Rattle.peer_state.specs.declared.entry.PeerMessagePolicyEntry.{PeerMessagePolicyEntry}
use Rattle.peer_state.specs.declared.ingress.FiberIngressBudget.{FiberIngressBudget}
use Rattle.peer_verdict.specs.declared.verdict.Cause.{Cause}
use Rattle.peer_verdict.specs.declared.verdict.InvalidCause.{InvalidCause}
use Rattle.peer_settings.specs.Config.{limit}
use Rattle.peer_state.specs.Ingress.{in_flight, ingress_released, ingress_sound}
use Rattle.peer_state.specs.IngressLaws.{released_sound, within_sound}
use Rattle.peer_message_policy.specs.declared.policy.PeerMessagePolicy.{PeerMessagePolicy}
use Rattle.peer_message_policy.specs.declared.answer.Admission.{Admission}
use Rattle.peer_message_policy.specs.declared.answer.Invalid.{Invalid}
use Rattle.peer_message_policy.specs.declared.answer.Standing.{Standing}
use Rattle.peer_message_policy.specs.Policy.{
  rows_of,
  policy_sound,
  long_enough,
  sound,
  Change,
  same,
  become,
  Turn,
  admit,
  record_invalid,
  is_banned,
  is_banned_change,
  disconnected_change,
  held_time,
}
use Rattle.peer_message_policy.specs.Calls.{
  Memory,
  policy_after,
  Outcome,
  Meets,
  refuse,
  fresh,
  new_outcome,
  NewMeets,
  admission_turn,
  admit_outcome,
  AdmitMeets,
  invalid_turn,
  record_invalid_outcome,
  RecordInvalidMeets,
  standing_of,
  standing_changed,
  is_banned_outcome,
  IsBannedMeets,
  changed_by,
  on_disconnected_outcome,
  OnDisconnectedMeets,
  ReleaseIngressMeets,
  InFlightMeets,
  HeldTimeMeets,
}
use Rattle.peer_laws.specs.SoundLaws.{
  RecordHolds,
  record_holds,
  holds_record,
  Key,
  RowsHold,
  PolicyHolds,
  policy_holds,
  holds_policy,
  rows_hold,
  Leaves,
  ChangeHolds,
  change_leaves,
  TurnHolds,
  admit_holds,
  record_invalid_holds,
  is_banned_holds,
  disconnected_holds,
}

-- ════ No call on a sound policy is refused with 3 ════

module _ (p : PeerMessagePolicy) (s : List ℕ) (h : sound p s ≡ true) (k : Pubkey) where
  pub admit_outcome_lem : (size now : ℕ)
      → admit_outcome p s k size now ≡ admission_turn p (admit p.config p.ingress (rows_of p s) k.bytes size now)
  unfolding admit_outcome
  admit_outcome_lem size now = rw h

  pub admit_answer : (size now : ℕ) (r : Admission) (t : List ℕ) → AdmitMeets p s k size now r t
      → r ≡ (admission_turn p (admit p.config p.ingress (rows_of p s) k.bytes size now)).answer
  unfolding AdmitMeets
  admit_answer size now r t m = m.answers ∙ ap (λ o. o.answer) (admit_outcome_lem size now)

  pub record_invalid_outcome_lem : (now : ℕ)
      → record_invalid_outcome p s k now ≡ invalid_turn p (record_invalid p.config p.ingress (rows_of p s) k.bytes now)
  unfolding record_invalid_outcome
  record_invalid_outcome_lem now = rw h

  pub record_invalid_answer : (now : ℕ) (r : Invalid) (t : List ℕ) → RecordInvalidMeets p s k now r t
      → r ≡ (invalid_turn p (record_invalid p.config p.ingress (rows_of p s) k.bytes now)).answer
  unfolding RecordInvalidMeets
  record_invalid_answer now r t m = m.answers ∙ ap (λ o. o.answer) (record_invalid_outcome_lem now)

  pub is_banned_outcome_lem : (now : ℕ)
      → is_banned_outcome p s k now
      ≡ standing_changed p (is_banned (look k.bytes (rows_of p s)) now) (is_banned_change (rows_of p s) k.bytes now (look k.bytes (rows_of p s)))
  unfolding is_banned_outcome
  is_banned_outcome_lem now = rw h

  pub on_disconnected_outcome_lem : (now : ℕ)
      → on_disconnected_outcome p s k now
      ≡ changed_by p (disconnected_change p.config (rows_of p s) k.bytes now (look k.bytes (rows_of p s)))
  unfolding on_disconnected_outcome
  on_disconnected_outcome_lem now = rw h

  pub held_time_answer : (given : ℕ) {r : Result ℕ Refusal} → HeldTimeMeets p s k given r
      → r ≡ Ok (held_time given (look k.bytes (rows_of p s)))
  unfolding HeldTimeMeets
  held_time_answer given m = m ∙ rw h

module _ (p : PeerMessagePolicy) (h : policy_sound p ≡ true) where
  pub release_ingress_answer : (size : ℕ) {r : Result PeerMessagePolicy Refusal} → ReleaseIngressMeets p size r
      → r ≡ Ok (policy_after p (ingress_released p.ingress size) same)
  unfolding ReleaseIngressMeets
  release_ingress_answer size m = m ∙ rw h

  pub in_flight_answer : {r : Result FiberIngressBudget Refusal} → InFlightMeets p r
      → r ≡ Ok p.ingress
  unfolding InFlightMeets
  in_flight_answer m = m ∙ rw h

-- ════ Every call on a sound policy leaves a sound one ════

-- what holds of the policy that a caller goes on with: the one in the answer, or his own after a refusal
module _ (p : PeerMessagePolicy) (P : PeerMessagePolicy → Type 0) where
  abbrev pub OfStanding : Standing → Type 0
  OfStanding (Standing.Banned q) = P q
  OfStanding (Standing.Free q) = P q
  OfStanding (Standing.Refused n) = P p

  abbrev pub OfChanged : Result PeerMessagePolicy Refusal → Type 0
  OfChanged (Ok q) = P q
  OfChanged (Err n) = P p

  module _ (q : PeerMessagePolicy) where
    pub of_standing : (b : Bool) → P q → OfStanding (standing_of b q)
    of_standing true h = h
    of_standing false h = h

-- what holds of an outcome's answer holds of the answer that met it, in the memory that it left
meets_by : {A : Type 0} {answer : A} {before after : List ℕ} {n : ℕ} {o e : Outcome A} (P : A → Type 0) → Meets answer before after n o → o ≡ e
    → (Memory before after n e.change → P e.answer) → P answer
meets_by {before = before} {after} {n} P m same_outcome f =
    rw (m.answers, same_outcome) (f (subst (λ x. Memory before after n x.change) same_outcome m.leaves))

module _ (p : PeerMessagePolicy) (s : List ℕ) (h : sound p s ≡ true) (b : Bytes s) (k : Pubkey) (key : Key k.bytes) where
  rows_here : RowsHold p.config (rows_of p s)
  rows_here = rows_hold p s (policy_holds p s h) b

  -- a change that holds, with a load within the ceiling
  leaves_by : (i : FiberIngressBudget) (change : Change) (t : List ℕ) → ingress_sound p.config i ≡ true → ChangeHolds p.config change
      → Memory s t p.rows change → Leaves p s change (policy_after p i change) t
  leaves_by i change t load holds m = change_leaves p s t i change (policy_holds p s h) b load holds m

  pub admit_leaves : (size now : ℕ) (r : Admission) (t : List ℕ) → AdmitMeets p s k size now r t
      → Leaves p s (admit p.config p.ingress (rows_of p s) k.bytes size now).change r.policy t
  unfolding AdmitMeets
  admit_leaves size now r t m =
      let turn : Turn Cause = admit p.config p.ingress (rows_of p s) k.bytes size now in
      let holds : TurnHolds p.config turn =
      admit_holds p.config p.ingress (policy_holds p s h).own.load k.bytes (rows_of p s) key rows_here size now
      in
      meets_by (λ a. Leaves p s turn.change a.policy t) m (admit_outcome_lem p s h k size now)
      (λ memory. leaves_by turn.ingress turn.change t holds.load holds.rows memory)

  pub record_invalid_leaves : (now : ℕ) (r : Invalid) (t : List ℕ) → RecordInvalidMeets p s k now r t
      → Leaves p s (record_invalid p.config p.ingress (rows_of p s) k.bytes now).change r.policy t
  unfolding RecordInvalidMeets
  record_invalid_leaves now r t m =
      let turn : Turn InvalidCause = record_invalid p.config p.ingress (rows_of p s) k.bytes now in
      let holds : TurnHolds p.config turn =
      record_invalid_holds p.config p.ingress (policy_holds p s h).own.load k.bytes (rows_of p s) key rows_here now
      in
      meets_by (λ a. Leaves p s turn.change a.policy t) m (record_invalid_outcome_lem p s h k now)
      (λ memory. leaves_by turn.ingress turn.change t holds.load holds.rows memory)

  pub is_banned_leaves : (now : ℕ) (r : Standing) (t : List ℕ) → IsBannedMeets p s k now r t
      → OfStanding p (λ q. Leaves p s (is_banned_change (rows_of p s) k.bytes now (look k.bytes (rows_of p s))) q t) r
  unfolding IsBannedMeets
  is_banned_leaves now r t m =
      let found : Option PeerMessagePolicyEntry = look k.bytes (rows_of p s) in
      let change : Change = is_banned_change (rows_of p s) k.bytes now found in
      let P : PeerMessagePolicy → Type 0 = λ x. Leaves p s change x t in
      meets_by (OfStanding p P) m (is_banned_outcome_lem p s h k now)
      (λ memory.
      of_standing p P (policy_after p p.ingress change) (is_banned found now)
      (leaves_by p.ingress change t (policy_holds p s h).own.load
      (is_banned_holds p.config k.bytes (rows_of p s) key rows_here now found) memory))

  pub on_disconnected_leaves : (now : ℕ) (r : Result PeerMessagePolicy Refusal) (t : List ℕ) → OnDisconnectedMeets p s k now r t
      → OfChanged p (λ q. Leaves p s (disconnected_change p.config (rows_of p s) k.bytes now (look k.bytes (rows_of p s))) q t) r
  unfolding OnDisconnectedMeets
  on_disconnected_leaves now r t m =
      let found : Option PeerMessagePolicyEntry = look k.bytes (rows_of p s) in
      let change : Change = disconnected_change p.config (rows_of p s) k.bytes now found in
      meets_by (OfChanged p (λ q. Leaves p s change q t)) m (on_disconnected_outcome_lem p s h k now)
      (λ memory.
      leaves_by p.ingress change t (policy_holds p s h).own.load
      (disconnected_holds p.config k.bytes (rows_of p s) key rows_here now found refl) memory)

-- release_ingress leaves a sound record
pub release_ingress_record : (p : PeerMessagePolicy) (size : ℕ) → policy_sound p ≡ true
    → policy_sound (policy_after p (ingress_released p.ingress size) same) ≡ true
release_ingress_record p size h =
    let own : RecordHolds p = record_holds p h in
    holds_record (policy_after p (ingress_released p.ingress size) same)
    (record { tracked = own.tracked; few = own.few; load = released_sound p.config p.ingress size own.load })

-- and no memory is lent to it, so that what is lent to the others stays
pub release_ingress_leaves : (p : PeerMessagePolicy) (s : List ℕ) (size : ℕ) (r : Result PeerMessagePolicy Refusal) → sound p s ≡ true → Bytes s
    → ReleaseIngressMeets p size r → OfChanged p (λ q. Leaves p s same q s) r
release_ingress_leaves p s size r h b m =
    let holds : PolicyHolds p s = policy_holds p s h in
    subst (OfChanged p (λ q. Leaves p s same q s)) (sym (release_ingress_answer p (holds_record p holds.own) size m))
    (change_leaves p s s (ingress_released p.ingress size) same holds b
    (released_sound p.config p.ingress size holds.own.load) tt refl)

-- ════ A fresh policy is sound ════

-- a policy is not a refusal
made_is_not_refused : {p : PeerMessagePolicy} {n : Refusal} → Ok p ≡ Err n → ⊥
made_is_not_refused h = let z : ◌≡◌ {A = ℕ} 0 1 = cc in omega arith

-- what a fresh policy and its memory are
pub record Fresh (c : PeerMessagePolicyConfig) (s : List ℕ) (p : PeerMessagePolicy) (t : List ℕ) : Type 0 where
  pub is_fresh : p ≡ fresh c
  pub is_sound : sound p t ≡ true
  pub same_length : length t ≡ length s
  pub holds_bytes : Bytes s → Bytes t

-- a limit within 1,024 and memory that is long enough for it, every place of the limit zeroed
fresh_by : (c : PeerMessagePolicyConfig) (s t : List ℕ) → c.max_tracked_peers ≤ 1024 → row_width * limit c ≤ length s
    → Memory s t (limit c) (become []) → Fresh c s (fresh c) t
unfolding every ascending rows
fresh_by c s t tracked long m =
    let same_length : length t ≡ length s = ap length m.memory ∙ length_laid_keyed (numbers_encode peer_numbers_lem) s (limit c) [] tt long (omega arith) in
    let load : ingress_sound c (in_flight 0 0) ≡ true = within_sound c (in_flight 0 0) (λ u. record { messages = omega arith; bytes = omega arith }) in
    let own : RecordHolds (fresh c) = record { tracked = tracked; few = omega arith; load = load } in
    record {
      is_fresh = refl;
      is_sound = holds_policy (fresh c) t (record { own = own; long = omega arith; rules = refl; order = refl });
      same_length = same_length;
      holds_bytes = λ b. rw m.memory (bytes_laid_keyed (numbers_encode peer_numbers_lem) s (limit c) [] tt b);
    }

-- a limit above 1,024, and memory that is too short, are refused
module _ (c : PeerMessagePolicyConfig) (s : List ℕ) where
  made_limited : ltb 1024 c.max_tracked_peers ≡ true → new_outcome c s ≡ refuse (Err Refusal.LimitTooLarge)
  unfolding new_outcome
  made_limited many = rw many

  made_short : ltb 1024 c.max_tracked_peers ≡ false → long_enough c s ≡ false → new_outcome c s ≡ refuse (Err Refusal.TooShort)
  unfolding new_outcome
  made_short few short = rw (few, short)

  made_fresh : ltb 1024 c.max_tracked_peers ≡ false → long_enough c s ≡ true
      → new_outcome c s ≡ record { answer = Ok (fresh c); change = become [] }
  unfolding new_outcome
  made_fresh few long = rw (few, long)

pub new_fresh : (c : PeerMessagePolicyConfig) (s t : List ℕ) (p : PeerMessagePolicy) → NewMeets c s (Ok p) t → Fresh c s p t
unfolding NewMeets
new_fresh c s t p m =
    by_test (ltb 1024 c.max_tracked_peers)
    (λ many. absurd (made_is_not_refused (m.answers ∙ ap (λ o. o.answer) (made_limited c s many))))
    (λ few.
    by_test (long_enough c s)
    (λ long.
    let e = made_fresh c s few long in
    let answer : (Ok p) ≡ (Ok (fresh c)) = m.answers ∙ ap (λ o. o.answer) e in
    let memory : Memory s t (limit c) (become []) = subst (λ o. Memory s t (limit c) o.change) e m.leaves in
    let same_policy : p ≡ fresh c = cc in
    rw same_policy (fresh_by c s t (ltb-false 1024 c.max_tracked_peers few) (leb-true (row_width * limit c) (length s) long) memory))
    (λ short. absurd (made_is_not_refused (m.answers ∙ ap (λ o. o.answer) (made_short c s few short)))))
