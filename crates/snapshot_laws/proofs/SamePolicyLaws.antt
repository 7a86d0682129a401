-- States that are alike stay alike: any call, any list of calls and any write answers the same on both. So a policy that was written and
-- read is the same policy in every use that can be made of it. Assumes nothing but what the machine gives.
use Rattle.std.specs.Prelude.{◌≡◌, refl, true, ℕ, ◌*◌, ◌≤◌, leb, length, take}
use Rattle.std.proofs.Math.Path.{sym}
use Rattle.std.proofs.Common.{ap, ◌∙◌}
use Rattle.std.proofs.Math.Bool.{cond}
use Rattle.std.specs.Prelude.{Ok, Err}
use Rattle.refusal.specs.declared.Refusal.TheVariants as Refusal
use mathlib.Core.List.{List, [], ◌∷◌}
use Rattle.lent_bytes.specs.LentBytes.{put, Bytes}
use Rattle.table.specs.Memory.{table_bytes}
use Rattle.table.specs.MemoryLaws.{table_bytes_rows}
use Rattle.refusal.specs.Refusal.{Said}
use Rattle.peer_rows.specs.Rows.{row_width, peer_layout}
use Rattle.peer_rows.specs.RowsLaws.{peer_faithful}
use Rattle.peer_message_policy.specs.declared.policy.PeerMessagePolicy.{PeerMessagePolicy}
use Rattle.peer_message_policy.specs.Policy.{sound}
use Rattle.peer_message_policy.specs.Calls.{changed_rows}
use Rattle.peer_laws.specs.Fits.{PolicyFits}
use Rattle.peer_runs.specs.Runs.{Call, State, rows_in, Step, CallFits}
use Rattle.peer_runs.specs.Effects.{Effect, effect_of, CameTo}
use Rattle.peer_runs.specs.EffectLaws.{step_effect}
use Rattle.snapshot_settings.specs.Settings.{settings_bytes}
use Rattle.snapshot_settings.specs.Load.{load_bytes}
use Rattle.snapshot_layout.specs.Layout.{snapshot_of}
use Rattle.snapshot.specs.Form.{Form, first, parts}
use Rattle.snapshot.specs.Snapshot.{policy_parts, snapshot_bytes, snapshot_length, WriteOutcome, write_outcome, WriteMeets, ReadMeets}
use Rattle.snapshot.specs.WriteLaws.{sound_rows}
use Rattle.snapshot_laws.specs.Alike.{Alike, Calls, done, next, WrittenAlike, SamePolicy}
use Rattle.snapshot_laws.proofs.RoundTripLaws.{wrote, front_is, written_reads}

-- ════ Calls ════

-- a call says the same on both and leaves them alike
pub step_alike : (s t : State) → Alike s t → (call : Call) → CallFits call → (said other : Said) (u v : State) → Step s call said u → Step t call other v
    → (said ≡ other) × Alike u v
step_alike s t a call fits said other u v one two =
    let x : CameTo s (effect_of call s.policy (rows_in s)) said u = step_effect s a.first_sound a.first_bytes said u call fits one in
    let y : CameTo t (effect_of call t.policy (rows_in t)) other v = step_effect t a.second_sound a.second_bytes other v call fits two in
    let e : effect_of call t.policy (rows_in t) ≡ effect_of call s.policy (rows_in s) = (λ d. effect_of call (a.policy d) (a.rows d)) in (
      x.says ∙ sym (ap (λ (f : Effect). f.says) e) ∙ sym y.says,
      record {
        policy = y.policy ∙ ap (λ (f : Effect). f.policy) e ∙ sym x.policy;
        rows = y.left.rows ∙ (λ d. changed_rows (a.rows d) (e d).change) ∙ sym x.left.rows;
        first_sound = x.left.kept.stays_sound;
        second_sound = y.left.kept.stays_sound;
        first_bytes = x.left.kept.holds_bytes;
        second_bytes = y.left.kept.holds_bytes;
      },
    )

-- so do any calls
pub calls_alike : {s t u v : State} {calls : List Call} {saids others : List Said} → Alike s t → Calls s calls saids u → Calls t calls others v
    → (saids ≡ others) × Alike u v
calls_alike a done done = (refl, a)
calls_alike {s} {t} a (next call said m fits step rest) (next call₂ other n fits₂ step₂ rest₂) =
    let now = step_alike s t a call fits said other m n step step₂ in
    let later = calls_alike now.1 rest rest₂ in
    ((λ d. now.0 d ∷ later.0 d), later.1)

-- ════ Snapshots ════

module _ (s t : State) (a : Alike s t) where
  -- equal rows are equal bytes
  front_alike : take (row_width * t.policy.rows) t.memory ≡ take (row_width * s.policy.rows) s.memory
  front_alike =
      let inside : (x : State) → sound x.policy x.memory ≡ true → row_width * x.policy.rows ≤ length x.memory =
      λ x h. (sound_rows x.policy x.memory h).1 in
      sym (table_bytes_rows peer_faithful t.memory t.policy.rows a.second_bytes (inside t a.second_sound))
      ∙ ap (table_bytes peer_layout) a.rows
      ∙ table_bytes_rows peer_faithful s.memory s.policy.rows a.first_bytes (inside s a.first_sound)

  -- so the snapshots are equal, in any form
  snapshot_alike : (f : Form) (behind : List (List ℕ)) → snapshot_bytes f t.policy t.memory behind ≡ snapshot_bytes f s.policy s.memory behind
  unfolding snapshot_bytes policy_parts
  snapshot_alike f behind =
      (λ d. snapshot_of (parts f.kinds (settings_bytes (a.policy d).config ∷ load_bytes (a.policy d).ingress ∷ front_alike d ∷ behind)))

  -- and so is what becomes of an output
  write_alike : (out : List ℕ) → write_outcome t.policy t.memory out ≡ write_outcome s.policy s.memory out
  unfolding write_outcome
  write_alike out =
      let both-sound : sound t.policy t.memory ≡ sound s.policy s.memory = a.second_sound ∙ sym a.first_sound in
      (λ d.
      cond (both-sound d)
      (cond (leb (snapshot_length first (a.policy d)) (length out))
      (record { answer = Ok (snapshot_length first (a.policy d)); output = put out 0 (snapshot_alike first [] d) })
      (record { answer = Err Refusal.TooShort; output = out }))
      (record { answer = Err Refusal.Unsound; output = out }))

  -- a write answers the same on both, and writes the same bytes
  pub writes_alike : WrittenAlike s t
  writes_alike =
      record {
        same_output =
            λ out r q x y one two. (
              one.answers ∙ sym (ap (λ (o : WriteOutcome). o.answer) (write_alike out)) ∙ sym two.answers,
              one.leaves ∙ sym (ap (λ (o : WriteOutcome). o.output) (write_alike out)) ∙ sym two.leaves,
            );
        any_outputs =
            λ out other n m x y one two. (
              (wrote s.policy s.memory out n x one).size ∙ sym (ap (snapshot_length first) a.policy) ∙ sym (wrote t.policy t.memory other m y two).size,
              front_is s.policy s.memory out n x one ∙ sym (snapshot_alike first []) ∙ sym (front_is t.policy t.memory other m y two),
            );
      }

-- ════ The same policy ════

-- states that are alike are the same policy
pub alike_same : (s t : State) → Alike s t → SamePolicy s t
alike_same s t a calls saids others u v one two =
    let later = calls_alike a one two in (later.0, later.1, writes_alike u v later.1)

-- what was written and is read is the same policy
pub same_policy : (p : PeerMessagePolicy) (s out : List ℕ) (n : ℕ) (out' : List ℕ) → WriteMeets p s out (Ok n) out' → PolicyFits p
    → (before after : List ℕ) → Bytes s → Bytes before → (q : PeerMessagePolicy) → ReadMeets first (take n out') before (Ok q) after
    → SamePolicy (record { policy = p; memory = s }) (record { policy = q; memory = after })
same_policy p s out n out' m fits before after b c q read =
    alike_same (record { policy = p; memory = s }) (record { policy = q; memory = after }) (written_reads p s out n out' m fits before after b c q read)
