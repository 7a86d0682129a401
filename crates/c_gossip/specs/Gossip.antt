-- The gossip state behind the C boundary. Definitions only.
use Rattle.std.specs.Prelude.{◌≡◌, cond, List, ℕ, eqb, Result, Option}
use Rattle.std.specs.declared.option.Option.TheVariants as Option
use Rattle.refusal.specs.declared.Refusal.{Refusal}
use Rattle.gossip_settings.specs.declared.violation.GossipViolation.{GossipViolation}
use Rattle.refusal.specs.Some.{Some}
use Rattle.pubkey.specs.declared.Pubkey.{Pubkey}
use Rattle.gossip_settings.specs.Settings.{gossip_default}
use Rattle.gossip_outbound_state.specs.State.{exceeds}
use Rattle.gossip_policy.specs.declared.state.GossipPolicyState.{GossipPolicyState}
use Rattle.gossip_policy.specs.Handed.{GossipTold, GossipPruned, GossipSettled, GossipReserved}
use Rattle.gossip_policy.specs.State.{outbound_of, delayed_byte_capacity}
use Rattle.gossip_policy.specs.Calls.{NewMeets, RecordViolationMeets, IsBannedMeets, PruneBansMeets, AllowMeets, EstimateMeets, RemoveMeets, ReserveMeets, RefundMeets, BypassMeets}
use Rattle.c_terms.specs.declared.reply.Reply.{Reply}
use Rattle.c_terms.specs.Answers.{reply, truth_reply, refilled_reply, told_reply, delay_reply}
use Rattle.c_gossip.specs.declared.gossip.GossipOperation.{GossipOperation}
use Rattle.c_gossip.specs.declared.gossip.GossipOperation.TheVariants.{New, Default, RecordViolation, IsBanned, PruneBans, Allow, EstimateDelay, RemovePeer, Reserve, Refund, ShouldBypass, Exceeds, QueueCapacity, GlobalCapacity, PeerCapacity, Unknown}
use Rattle.c_gossip.specs.Handed.{GossipDone}
use Rattle.c_terms.specs.Left.{Left, Untouched}
use Rattle.c_terms.specs.Keys.{key_of}
use Rattle.c_bans.specs.Blame.{blame_of}
use Rattle.c_bans.specs.Bans.{pruned_reply}
use Rattle.c_gossip.specs.GossipWords.{state_of, config_of, gossip_longs, gossip_shorts}

-- the operation of a number
abbrev pub gossip_operation : ℕ → GossipOperation
gossip_operation n =
    cond (eqb n 1) New
    (cond (eqb n 2) Default
    (cond (eqb n 3) RecordViolation
    (cond (eqb n 4) IsBanned
    (cond (eqb n 5) PruneBans
    (cond (eqb n 6) Allow
    (cond (eqb n 7) EstimateDelay
    (cond (eqb n 8) RemovePeer
    (cond (eqb n 9) Reserve
    (cond (eqb n 10) Refund
    (cond (eqb n 11) ShouldBypass
    (cond (eqb n 12) Exceeds
    (cond (eqb n 13) QueueCapacity (cond (eqb n 14) GlobalCapacity (cond (eqb n 15) PeerCapacity Unknown))))))))))))))

-- ════ Answers ════

abbrev pub gossip_done : GossipPolicyState → Reply → GossipDone
gossip_done s x = record { state = s; answer = x }

-- 260 for yes, 259 for no
abbrev pub told_done : GossipTold → GossipDone
told_done a = gossip_done a.state (told_reply a.answer)

-- 261 for entries that have gone
abbrev pub pruned_done : GossipPruned → GossipDone
pruned_done a = gossip_done a.state (pruned_reply a.answer)

-- 261 for what was carried out
abbrev pub settled_reply : Result (Unit {0}) Refusal → Reply
settled_reply = refilled_reply

abbrev pub settled_done : GossipSettled → GossipDone
settled_done a = gossip_done a.state (settled_reply a.answer)

-- 261 and the milliseconds
abbrev pub reserved_done : GossipReserved → GossipDone
reserved_done a = gossip_done a.state (delay_reply a.answer)

-- 259 for unlimited; 261 and the bytes
abbrev pub capacity_reply : Option ℕ → Reply
capacity_reply Option.None = reply 259 0
capacity_reply (Option.Some n) = reply 261 n

-- ════ The calls ════

-- counting a violation; 0 where no violation has the number
abbrev pub BlameDoes : Option GossipViolation → GossipPolicyState → List ℕ → Pubkey → ℕ → GossipDone → List ℕ → Type 0
BlameDoes (Option.Some v) s before k now d after =
    Some (λ a. RecordViolationMeets s before k v now a after) (λ a. d ≡ told_done a)
BlameDoes Option.None s before k now d after = Untouched d (gossip_done s (reply 0 0)) before after

-- a call that changes neither table
abbrev pub Reads : GossipDone → GossipDone → List ℕ → List ℕ → List ℕ → List ℕ → Type 0
Reads d e bans outbound bans' outbound' = (d ≡ e) × (bans' ≡ bans) × (outbound' ≡ outbound)

-- what each operation does: there is an answer that meets the call's contract, with every lent byte, and it is what is said
abbrev pub GossipDoes : GossipOperation → GossipPolicyState → List ℕ → List ℕ → Pubkey → ℕ → ℕ → ℕ → GossipDone → List ℕ → List ℕ → Type 0
GossipDoes New s b o k v n now d b' o' = Some (λ a. NewMeets (config_of s) b o a b' o') (λ a. d ≡ settled_done a)
GossipDoes Default s b o k v n now d b' o' = Some (λ a. NewMeets gossip_default b o a b' o') (λ a. d ≡ settled_done a)
GossipDoes RecordViolation s b o k v n now d b' o' = BlameDoes (blame_of v) s b k now d b' × (o' ≡ o)
GossipDoes IsBanned s b o k v n now d b' o' = Some (λ a. IsBannedMeets s b k now a b') (λ a. d ≡ told_done a) × (o' ≡ o)
GossipDoes PruneBans s b o k v n now d b' o' = Some (λ a. PruneBansMeets s b now a b') (λ a. d ≡ pruned_done a) × (o' ≡ o)
GossipDoes Allow s b o k v n now d b' o' = Some (λ a. AllowMeets s o k n now a o') (λ a. d ≡ told_done a) × (b' ≡ b)
GossipDoes EstimateDelay s b o k v n now d b' o' =
    Some (λ a. EstimateMeets s o k n now a) (λ a. Reads d (gossip_done s (delay_reply a)) b o b' o')
GossipDoes RemovePeer s b o k v n now d b' o' = Some (λ a. RemoveMeets s o k a o') (λ a. d ≡ settled_done a) × (b' ≡ b)
GossipDoes Reserve s b o k v n now d b' o' = Some (λ a. ReserveMeets s o k n now a o') (λ a. d ≡ reserved_done a) × (b' ≡ b)
GossipDoes Refund s b o k v n now d b' o' = Some (λ a. RefundMeets s o k n now a o') (λ a. d ≡ settled_done a) × (b' ≡ b)
GossipDoes ShouldBypass s b o k v n now d b' o' =
    Some (λ a. BypassMeets s o k n now a) (λ a. Reads d (gossip_done s (told_reply a)) b o b' o')
GossipDoes Exceeds s b o k v n now d b' o' = Reads d (gossip_done s (truth_reply (exceeds (outbound_of s) n))) b o b' o'
GossipDoes QueueCapacity s b o k v n now d b' o' = Reads d (gossip_done s (reply 261 s.outbound_delay_queue_capacity)) b o b' o'
GossipDoes GlobalCapacity s b o k v n now d b' o' =
    Reads d (gossip_done s (capacity_reply (delayed_byte_capacity s.global_outbound.config))) b o b' o'
GossipDoes PeerCapacity s b o k v n now d b' o' =
    Reads d (gossip_done s (capacity_reply (delayed_byte_capacity s.peer_outbound_config))) b o b' o'
GossipDoes Unknown s b o k v n now d b' o' = Reads d (gossip_done s (reply 0 0)) b o b' o'

-- the number returned, and the words and the value after the call
abbrev pub GossipLeft : GossipDone → List ℕ → List ℕ → List ℕ → ℕ → List ℕ → List ℕ → List ℕ → Type 0
GossipLeft d = Left d.answer (gossip_longs d.state) (gossip_shorts d.state)

-- uglezmir_gossip
abbrev pub GossipExported : ℕ → List ℕ → List ℕ → List ℕ → List ℕ → List ℕ → ℕ → ℕ → ℕ → List ℕ → ℕ → List ℕ → List ℕ → List ℕ → List ℕ → List ℕ → Type 0
GossipExported operation longs shorts bans outbound k v n now value r longs' shorts' bans' outbound' value' =
    Some (λ d. GossipDoes (gossip_operation operation) (state_of longs shorts) bans outbound (key_of k) v n now d bans' outbound')
    (λ d. GossipLeft d longs shorts value r longs' shorts' value')
