-- A gossip state that was made is sound in both tables, and they are as long as they were. Assumes nothing.
use Rattle.std.specs.Prelude.{◌≡◌, refl, Bool, true, false, cond, List, [], ℕ, ◌^◌, ◌≤◌, ◌<◌, length, Ok, Err}
use Rattle.std.proofs.Common.{sym, ap, ◌∙◌, subst, arith, leb-true}
use Rattle.refusal.specs.declared.Refusal.TheVariants as Refusal
use Rattle.truths.specs.TruthLaws.{both_parts}
use Rattle.lent_bytes.specs.LentBytes.{Bytes}
use Rattle.table.specs.Memory.{Layout}
use Rattle.table.specs.Outcome.{same, become, Memory, Meets}
use Rattle.table_laws.specs.Lent.{long_enough}
use Rattle.table_laws.specs.KeptLaws.{length_laid_keyed}
use Rattle.gossip_settings.specs.declared.ban.GossipBanConfig.{GossipBanConfig}
use Rattle.gossip_settings.specs.declared.policy.GossipPolicyConfig.{GossipPolicyConfig}
use Rattle.gossip_ban_rows.specs.Rows.{ban_layout}
use Rattle.gossip_bans.specs.Tracker as bans
use Rattle.gossip_bans.specs.Calls.{made_outcome, MadeMeets}
use Rattle.gossip_bans.specs.Calls as tracker
use Rattle.gossip_outbound_rows.specs.Rows.{outbound_layout}
use Rattle.gossip_outbound_state.specs.State as outbound
use Rattle.gossip_policy.specs.declared.state.GossipPolicyState.{GossipPolicyState}
use Rattle.gossip_policy.specs.Handed.{GossipSettled}
use Rattle.gossip_policy.specs.State.{fresh, outbound_of}
use Rattle.gossip_policy.specs.Calls.{both_long, settled, new_outcome, NewMeets}
use Rattle.gossip_laws.specs.BanSoundLaws as ban-laws
use Rattle.gossip_laws.specs.OutboundKeptLaws as outbound-laws

-- a state that was made: both tables were long enough, and each holds no row
made_as : {A : Type 0} (L : Layout A) (c : GossipPolicyConfig) (s u : List ℕ) (r : GossipSettled) (long : Bool) → r.answer ≡ Ok tt
    → Meets L r s u 1024 (cond long (record { answer = settled (fresh c) (Ok tt); change = become [] }) (record { answer = settled (fresh c) (Err Refusal.TooShort); change = same }))
    → (long ≡ true) × ((r ≡ settled (fresh c) (Ok tt)) × Memory L s u 1024 (become []))
made_as L c s u r true done m = (refl, (m.answers, m.leaves))
made_as L c s u r false done m =
    absurd
    (let e : r.answer ≡ (Err Refusal.TooShort) = ap (λ (x : GossipSettled). x.answer) m.answers in
    let z : ◌≡◌ {A = ℕ} 0 1 = cc in
    omega arith)

-- its bans are those of a tracker that was made by itself
tracker_made : (c : GossipBanConfig) (s u : List ℕ) → long_enough ban_layout 1024 s ≡ true → Memory ban_layout s u 1024 (become [])
    → MadeMeets c 1024 s (Ok (tracker.fresh c 1024)) u
unfolding MadeMeets made_outcome
tracker_made c s u long memory = rw long (record { answers = refl; leaves = memory })

-- what a state that was made is, with both tables
pub record Made (q : GossipPolicyState) (b o b' o' : List ℕ) : Type 0 where
  pub bans_sound : bans.sound q.ban_tracker b' ≡ true
  pub outbound_sound_lem : outbound.sound (outbound_of q) o' ≡ true
  pub same_bans_length : length b' ≡ length b
  pub same_outbound_length : length o' ≡ length o

pub new_sound : (c : GossipPolicyConfig) (b o b' o' : List ℕ) (r : GossipSettled) → Bytes b → c.outbound_global.burst_bytes < 2 ^ 64
    → r.answer ≡ Ok tt → NewMeets c b o r b' o' → Made r.state b o b' o'
unfolding NewMeets new_outcome
new_sound c b o b' o' r bytes fits done m =
    let first = made_as ban_layout c b b' r (both_long b o) done m.0 in
    let second = made_as outbound_layout c o o' r (both_long b o) done m.1 in
    let long = both_parts (long_enough ban_layout 1024 b) (long_enough outbound_layout 1024 o) first.0 in
    let made = ban-laws.fresh_sound c.ban 1024 b b' (tracker.fresh c.ban 1024) bytes (tracker_made c.ban b b' long.0 first.1.1) in
    let wide : 66560 ≤ length o = leb-true 66560 (length o) long.1 in
    let same_outbound_length : length o' ≡ length o =
    ap length second.1.1.memory ∙ length_laid_keyed outbound-laws.outbound_encodes o 1024 [] tt wide (omega arith) in
    let here : Made (fresh c) b o b' o' =
    record {
      bans_sound = made.0;
      outbound_sound_lem = outbound-laws.fresh_sound c.outbound_global c.outbound_peer o' fits (omega arith);
      same_bans_length = made.1.0;
      same_outbound_length = same_outbound_length;
    } in
    subst (λ (x : GossipSettled). Made x.state b o b' o') (sym first.1.0) here
