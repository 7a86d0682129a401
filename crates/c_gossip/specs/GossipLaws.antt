-- At most one outcome satisfies the contract of `uglezmir_gossip`: in the number, in every word and in every byte of both tables. Assumes
-- nothing.
use Rattle.std.specs.Prelude.{◌≡◌, List, ℕ, Option, Some, None}
use Rattle.gossip_settings.specs.declared.violation.GossipViolation.{GossipViolation}
use Rattle.refusal.specs.OneOutcomeLaws.{one_outcome}
use Rattle.pubkey.specs.declared.Pubkey.{Pubkey}
use Rattle.gossip_settings.specs.Settings.{gossip_default}
use Rattle.gossip_policy.specs.declared.state.GossipPolicyState.{GossipPolicyState}
use Rattle.gossip_laws.specs.PolicyOutcomeLaws.{
  policy_new_one,
  policy_record_violation_one,
  policy_is_banned_one,
  prune_bans_one,
  allow_outbound_message_one,
  remove_outbound_peer_one,
  reserve_outbound_message_one,
  refund_outbound_message_one,
  estimate_outbound_message_delay_one,
  should_bypass_one,
}
use Rattle.c_terms.specs.SomeLaws.{some_one, some_alone}
use Rattle.c_gossip.specs.declared.gossip.GossipOperation.{GossipOperation}
use Rattle.c_gossip.specs.declared.gossip.GossipOperation.TheVariants as Operation
use Rattle.c_gossip.specs.Handed.{GossipDone}
use Rattle.c_terms.specs.LeftLaws.{Alike, left_one, untouched_one}
use Rattle.c_terms.specs.Keys.{key_of}
use Rattle.c_bans.specs.Blame.{blame_of}
use Rattle.c_gossip.specs.GossipWords.{state_of, config_of, gossip_longs, gossip_shorts}
use Rattle.c_gossip.specs.Gossip.{gossip_operation, BlameDoes, Reads, GossipDoes, GossipExported}

blame_one : (b : Option GossipViolation) (s : GossipPolicyState) (before : List ℕ) (k : Pubkey) (now : ℕ) {first second : List ℕ} (d e : GossipDone)
    → BlameDoes b s before k now d first → BlameDoes b s before k now e second → (d ≡ e) × (first ≡ second)
blame_one (Some v) s before k now {first} {second} d e =
    some_one (λ a b. policy_record_violation_one s before {first = first} {second = second} now k v {r = a} {q = b}) (λ a. one_outcome)
blame_one None s before k now d e = untouched_one _ d e before

module _ (b o : List ℕ) {b' b'' o' o'' : List ℕ} (d e : GossipDone) where
  -- a call on bans leaves the outbound table
  on_bans : (d ≡ e) × (b' ≡ b'') → o' ≡ o → o'' ≡ o → (d ≡ e) × ((b' ≡ b'') × (o' ≡ o''))
  on_bans x p q = (x.0, (x.1, one_outcome p q))

  -- one on outbound messages leaves that of the bans
  on_outbound : (d ≡ e) × (o' ≡ o'') → b' ≡ b → b'' ≡ b → (d ≡ e) × ((b' ≡ b'') × (o' ≡ o''))
  on_outbound x p q = (x.0, (one_outcome p q, x.1))

  reads_one : (x : GossipDone) → Reads d x b o b' o' → Reads e x b o b'' o'' → (d ≡ e) × ((b' ≡ b'') × (o' ≡ o''))
  reads_one x p q = (one_outcome p.0 q.0, (one_outcome p.1 q.1, one_outcome p.2 q.2))

module _ (s : GossipPolicyState) (b o : List ℕ) (k : Pubkey) (v n now : ℕ) {b' b'' o' o'' : List ℕ} where
  does_one : (x : GossipOperation) (d e : GossipDone) → GossipDoes x s b o k v n now d b' o' → GossipDoes x s b o k v n now e b'' o''
      → (d ≡ e) × ((b' ≡ b'') × (o' ≡ o''))
  does_one Operation.New d e p q =
      some_one (λ x y. policy_new_one (config_of s) b o {r = x} {q = y} {b' = b'} {b'' = b''} {o' = o'} {o'' = o''}) (λ a. one_outcome) p q
  does_one Operation.Default d e p q =
      some_one (λ x y. policy_new_one gossip_default b o {r = x} {q = y} {b' = b'} {b'' = b''} {o' = o'} {o'' = o''}) (λ a. one_outcome) p q
  does_one Operation.RecordViolation d e p q = on_bans b o d e (blame_one (blame_of v) s b k now d e p.0 q.0) p.1 q.1
  does_one Operation.IsBanned d e p q =
      on_bans b o d e
      (some_one (λ x y. policy_is_banned_one s b {first = b'} {second = b''} now k {r = x} {q = y}) (λ a. one_outcome) p.0 q.0) p.1 q.1
  does_one Operation.PruneBans d e p q =
      on_bans b o d e
      (some_one (λ x y. prune_bans_one s b {first = b'} {second = b''} now {r = x} {q = y}) (λ a. one_outcome) p.0 q.0) p.1 q.1
  does_one Operation.Allow d e p q =
      on_outbound b o d e
      (some_one (λ x y. allow_outbound_message_one s o {first = o'} {second = o''} k n now {r = x} {q = y}) (λ a. one_outcome) p.0 q.0) p.1 q.1
  does_one Operation.EstimateDelay d e p q =
      some_alone (λ x y. estimate_outbound_message_delay_one s o k n now {r = x} {q = y}) (λ a. reads_one b o d e _) p q
  does_one Operation.RemovePeer d e p q =
      on_outbound b o d e
      (some_one (λ x y. remove_outbound_peer_one s o {first = o'} {second = o''} k {r = x} {q = y}) (λ a. one_outcome) p.0 q.0) p.1 q.1
  does_one Operation.Reserve d e p q =
      on_outbound b o d e
      (some_one (λ x y. reserve_outbound_message_one s o {first = o'} {second = o''} k n now {r = x} {q = y}) (λ a. one_outcome) p.0 q.0) p.1 q.1
  does_one Operation.Refund d e p q =
      on_outbound b o d e
      (some_one (λ x y. refund_outbound_message_one s o {first = o'} {second = o''} k n now {r = x} {q = y}) (λ a. one_outcome) p.0 q.0) p.1 q.1
  does_one Operation.ShouldBypass d e p q =
      some_alone (λ x y. should_bypass_one s o k n now {r = x} {q = y}) (λ a. reads_one b o d e _) p q
  does_one Operation.Exceeds d e p q = reads_one b o d e _ p q
  does_one Operation.QueueCapacity d e p q = reads_one b o d e _ p q
  does_one Operation.GlobalCapacity d e p q = reads_one b o d e _ p q
  does_one Operation.PeerCapacity d e p q = reads_one b o d e _ p q
  does_one Operation.Unknown d e p q = reads_one b o d e _ p q

pub uglezmir_gossip_outcome : (operation : ℕ) (longs shorts bans outbound k : List ℕ) (v n now : ℕ) (value : List ℕ) {r q : ℕ}
    {longs' longs'' shorts' shorts'' bans' bans'' outbound' outbound'' value' value'' : List ℕ}
    → GossipExported operation longs shorts bans outbound k v n now value r longs' shorts' bans' outbound' value'
    → GossipExported operation longs shorts bans outbound k v n now value q longs'' shorts'' bans'' outbound'' value''
    → Alike r q longs' longs'' shorts' shorts'' value' value'' × ((bans' ≡ bans'') × (outbound' ≡ outbound''))
uglezmir_gossip_outcome operation longs shorts bans outbound k v n now value {bans' = bans'} {bans'' = bans''} {outbound' = outbound'} {outbound'' = outbound''} =
    some_one
    (does_one (state_of longs shorts) bans outbound (key_of k) v n now {b' = bans'} {b'' = bans''} {o' = outbound'} {o'' = outbound''} (gossip_operation operation))
    (λ d. left_one d.answer (gossip_longs d.state) (gossip_shorts d.state) longs shorts value)
