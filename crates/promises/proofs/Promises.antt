-- What the user was promised, stated of the calls themselves. A `Run` is a list of calls on lent memory, from a freshly made
-- policy, each known by its contract alone; `log_of k run` is the list of Allows of peer k's present life. The definitions stand in
-- Runs (of peer_runs), Trails, Lives, RunLives, Held, Named and Samples, those of snapshots in Alike (of snapshot_laws), the proofs in the
-- modules that are named here. `CoreLaws` states both bounds of lists of core calls, which `CoreRunLaws.runs_core` maps a run onto. That there is a run in which
-- `least` gives an Allow after an Allow is `ExampleLaws.a_run_exists`.
use Rattle.std.specs.Prelude.{◌≡◌, true, false, cond, List, ◌∷◌, ℕ, ◌≤◌, length, take}
use Rattle.std.specs.Prelude.{Result, Ok, Err}
use Rattle.refusal.specs.declared.Refusal.{Refusal}
use Rattle.refusal.specs.declared.Refusal.TheVariants as Refusal
use Rattle.peer_state.specs.declared.ingress.NotReserved.{NotReserved}
use Rattle.peer_state.specs.declared.ingress.FiberIngressBudget.{FiberIngressBudget}
use Rattle.lent_bytes.specs.LentBytes.{put, Bytes}
use Rattle.pubkey.specs.declared.Pubkey.{Pubkey}
use Rattle.refusal.specs.Refusal.{Said}
use Rattle.peer_settings.specs.declared.config.PeerMessagePolicyConfig.{PeerMessagePolicyConfig}
use Rattle.peer_settings.specs.Fits.{ConfigFits}
use Rattle.peer_state.specs.Ingress.{try_reserve}
use Rattle.peer_message_policy.specs.declared.policy.PeerMessagePolicy.{PeerMessagePolicy}
use Rattle.peer_message_policy.specs.declared.answer.Admission.{Admission}
use Rattle.peer_message_policy.specs.Policy as Policy
use Rattle.peer_message_policy.specs.Calls.{admission_says, AdmitMeets}
use Rattle.peer_message_policy.specs.Merged.{merge, merged_says, first_said, MergedMeets}
use Rattle.peer_message_policy.specs.MergedLaws as MergedLaws
use Rattle.peer_laws.specs.Fits.{PolicyFits}
use Rattle.snapshot.specs.Form.{first}
use Rattle.snapshot.specs.Snapshot.{WriteMeets, ReadMeets}
use Rattle.snapshot_laws.specs.Alike.{Alike, SamePolicy}
use Rattle.snapshot_laws.proofs.RoundTripLaws as RoundTripLaws
use Rattle.snapshot_laws.proofs.SamePolicyLaws as SamePolicyLaws
use Rattle.peer_runs.specs.Runs.{Call, admit, State, Step, Run}
use Rattle.promises.specs.Lives.{AtMost, ceiling_says, ceiling_merged}
use Rattle.promises.specs.RunLives.{Ordered, log_of, Shielded, Entitled, Shield}
use Rattle.promises.specs.Held.{Held, HeldShield}
use Rattle.promises.specs.Named.{NamedWhere, blames, InTime}
use Rattle.promises.specs.Samples.{Agree, samples_run}
use Rattle.peer_runs.specs.SoundRunLaws as SoundRunLaws
use Rattle.promises.proofs.FairRunLaws as FairRunLaws
use Rattle.promises.proofs.HeldRunLaws as HeldRunLaws
use Rattle.promises.proofs.NamedLaws as NamedLaws
use Rattle.promises.proofs.SamplesLaws as SamplesLaws

-- The upper bound: over calls whose times never go back, the Allows of any life from one time to another number at most
-- burst + (to - from) / interval, rounded up, and carry at most burst + rate * (to - from) / 1000 bytes, rounded down.
pub most : {c : PeerMessagePolicyConfig} {h : List Call} {s : State} → ConfigFits c → (run : Run c h s) → Ordered h → (k : Pubkey) → AtMost c (log_of k run)
most fits run = FairRunLaws.ordered_most fits run

-- The lower bound: over calls whose times never go back, this one included, a call that is entitled to it (by a peer that is not
-- banned, within the smaller allowance counted from every Allow of its life) gets the ceiling's answer: Allow where there is room,
-- Disconnect where there is none, with the ceiling's name and by how much it ran short, refusal 4 where a number in flight would overflow.
pub least : {c : PeerMessagePolicyConfig} {h : List Call} {s : State} → ConfigFits c → (run : Run c h s) → (k : Pubkey) (size now : ℕ)
    → Ordered (admit k size now ∷ h)
    → Entitled run k size now
    → (said : Said) (t : State) → Step s (admit k size now) said t
    → said ≡ ceiling_says (try_reserve c s.policy.ingress size)
least fits run = FairRunLaws.ordered_least fits run

-- From fresh, after any calls with any times, policy and memory are sound: refusal 3 never comes.
pub sound : {c : PeerMessagePolicyConfig} {h : List Call} {s : State} → Run c h s → Policy.sound s.policy s.memory ≡ true
sound run = SoundRunLaws.run_sound run

-- Both bounds under any clock, for a peer whose own admits and record_invalids never lie before its last-used time, however all
-- other times run; and a caller who passes held_time's answer on to that peer's admits and record_invalids is such a caller, whose
-- next admit at a time that held_time answers has the lower bound.
pub shielded : {c : PeerMessagePolicyConfig} {h : List Call} {s : State} → ConfigFits c → (k : Pubkey) (run : Run c h s)
    → (Shielded k run → Shield k run) × (Held k run → Shielded k run) × (Held k run → HeldShield k run)
shielded fits k run = (FairRunLaws.shielded_both fits k run, HeldRunLaws.held_shields k run, HeldRunLaws.held_both k fits run)

-- The Rust's answer: what admit answers, merged to Allow, Disconnect or Ban, is the definition's that has no more than these, for any
-- arguments over any lent memory; and what it says begins with what the merged answer says.
pub merged : (p : PeerMessagePolicy) (before : List ℕ) (k : Pubkey) (size now : ℕ) (r : Admission) (after : List ℕ)
    → AdmitMeets p before k size now r after
    → MergedMeets p before k size now (merge r) after × (merged_says (merge r) ≡ first_said (admission_says r))
merged p before k size now r after m = (MergedLaws.merged p before k size now r after m, MergedLaws.merged_says_lem r)

-- What the ceiling says, merged, is Allow where there is room, Disconnect where there is none, or the refusal: so `least` and `shielded`
-- read as they do of the Rust's answers.
pub ceiling_merged_lem : (r : Result FiberIngressBudget NotReserved) → first_said (ceiling_says r) ≡ ceiling_merged r
ceiling_merged_lem r = FairRunLaws.ceiling_merged_lem r

-- Which limit a Disconnect names. From any sound state, whoever made it, admit names the ceiling exactly where we were busy: no ban on the
-- peer is live, both its buckets pass, and the ceiling has no room. And from fresh, under the premises of `least` or of `shielded`, a call
-- within the smaller allowance is never told messages or bytes, and never banned.
pub named : ((p : PeerMessagePolicy) (s : List ℕ) → Policy.sound p s ≡ true → (k : Pubkey) (size now : ℕ) (r : Admission) (t : List ℕ)
    → AdmitMeets p s k size now r t → NamedWhere p s k size now r.cause)
    × ((c : PeerMessagePolicyConfig) (h : List Call) (s : State) → ConfigFits c → (run : Run c h s) (k : Pubkey) (size now : ℕ)
    → InTime run k size now
    → Entitled run k size now
    → (said : Said) (t : State) (step : Step s (admit k size now) said t)
    → blames step.0.cause ≡ false)
named = (
  NamedLaws.named_where,
  λ c h s fits run k size now in-time entitled said t step. NamedLaws.never_blamed fits run k size now entitled said t step in-time,
)

-- The samples of docs/REFERENCE.md, A to J, hold of the definitions.
pub samples : Agree samples_run
samples = SamplesLaws.samples_agree

-- Snapshots. The state s is written into an output, and the n bytes that are the snapshot are read into a table; the numbers are within
-- their fields and the memory holds bytes, as the machine has it.
module _ (s : State) (out : List ℕ) (n : ℕ) (written : List ℕ) (write : WriteMeets s.policy s.memory out (Ok n) written)
    (fits : PolicyFits s.policy) (before : List ℕ) where
  -- A snapshot that was written is never refused by a table that is long enough for the limit, and by a shorter one with 1 alone.
  pub written_answers : (r : Result PeerMessagePolicy Refusal) (after : List ℕ) → ReadMeets first (take n written) before r after
      → r ≡ cond (Policy.long_enough s.policy.config before) (Ok s.policy) (Err Refusal.TooShort)
  written_answers r after read = RoundTripLaws.written_answers s.policy s.memory out n written write fits before after r read

  module _ (bytes : Bytes s.memory) (free : Bytes before) (t : State) (read : ReadMeets first (take n written) before (Ok t.policy) t.memory) where
    -- What is read is the policy that was written, with the same rows, and sound.
    pub written_reads : Alike s t
    written_reads = RoundTripLaws.written_reads s.policy s.memory out n written write fits before t.memory bytes free t.policy read

    -- And it is the same policy in every use that can be made of it: any later calls, with any times, say the same on both and leave the same
    -- rows, and whatever is written later is answered the same and is the same bytes.
    pub same_policy : SamePolicy s t
    same_policy = SamePolicyLaws.same_policy s.policy s.memory out n written write fits before t.memory bytes free t.policy read

-- Bytes that were read as a policy, then written into any output that is long enough, are the same bytes, and every further byte of the
-- output stays.
pub read_writes : (z before : List ℕ) (s : State) → Bytes z → ReadMeets first z before (Ok s.policy) s.memory
    → (out : List ℕ) → length z ≤ length out → (r : Result ℕ Refusal) (written : List ℕ) → WriteMeets s.policy s.memory out r written
    → (r ≡ Ok (length z)) × (written ≡ put out 0 z)
read_writes z before s bytes read = RoundTripLaws.read_writes z before s.memory s.policy bytes read
