-- Snapshots round-trip, stated of the calls' own contracts: a policy written and read is the same policy, reading what was written is
-- refused only by a table that is too short, and bytes read and written are the same bytes. What is read from a snapshot is proved for any
-- form that fits. Assumes nothing but what the machine gives: numbers within their fields, and bytes below 256.
use Rattle.std.specs.Prelude.{◌≡◌, Bool, true, false, cond, leb, length, take, drop}
use Rattle.std.proofs.Math.Path.{refl, sym, ap}
use Rattle.std.proofs.Common.{◌∙◌, subst, arith, leb-true}
use Rattle.std.specs.Prelude.{Result, Ok, Err}
use Rattle.refusal.specs.declared.Refusal.{Refusal}
use Rattle.refusal.specs.declared.Refusal.TheVariants as Refusal
use mathlib.Core.List.{List, []}
use Prim.Native.Nat.{ℕ, ◌+◌, ◌*◌, ◌≤◌}
use Rattle.lent_bytes.specs.LentBytes.{part, put, Bytes}
use Rattle.lent_bytes.specs.LentBytesLaws.{part_put_at, Bytes_nil, Bytes_append, Bytes_take, Bytes_drop}
use Rattle.peer_message_policy.specs.declared.policy.PeerMessagePolicy.{PeerMessagePolicy}
use Rattle.peer_message_policy.specs.Policy.{rows_of, long_enough, sound, Change, become}
use Rattle.peer_message_policy.specs.Calls.{refuse}
use Rattle.peer_laws.specs.Fits.{PolicyFits}
use Rattle.peer_rows.specs.Rows.{row_width}
use Rattle.snapshot.specs.Form.{Form, first, sizes, joined, rows_place, FormFits}
use Rattle.snapshot.specs.FormLaws.{first_fits}
use Rattle.snapshot.specs.Snapshot.{snapshot_bytes, snapshot_length, WriteOutcome, write_outcome, WriteMeets, restored, read_outcome, ReadMeets}
use Rattle.snapshot.specs.JudgeLaws.{describes_policy, describes_length}
use Rattle.snapshot.specs.WriteLaws.{write_done, write_one}
use Rattle.snapshot_laws.specs.WrittenLaws.{written_length, written_tail, written_rows, written_policy}
use Rattle.snapshot_laws.specs.Alike.{Alike}
use Rattle.snapshot_laws.specs.ReadLaws.{Restored, read_restored, restored_rows, restored_sound, restored_bytes, bytes_again}

-- an answer that goes by a test
chosen : (p : PeerMessagePolicy) (b : Bool) (change : Change)
    → (cond b (record { answer = Ok p; change = change }) (refuse (Err Refusal.TooShort))).answer ≡ cond b (Ok p) (Err Refusal.TooShort)
chosen p true change = refl
chosen p false change = refl

-- ════ A snapshot, in any form, and what is read from it ════

module _ (f : Form) (fits : FormFits f) (p : PeerMessagePolicy) (s : List ℕ) (h : sound p s ≡ true) (behind : List (List ℕ)) (e : sizes behind ≡ f.behind)
    (numbers : PolicyFits p) (before after : List ℕ) where
  -- it is the same policy
  pub snapshot_reads : Bytes s → Bytes (joined behind) → Bytes before → (q : PeerMessagePolicy)
      → ReadMeets f (snapshot_bytes f p s behind) before (Ok q) after → Alike (record { policy = p; memory = s }) (record { policy = q; memory = after })
  snapshot_reads b more free q read =
      let z : List ℕ = snapshot_bytes f p s behind in
      let r : Restored f z before q after = read_restored f z before q after read in
      let both : (Ok q) ≡ (Ok p) = sym (describes_policy f z q r.described) ∙ written_policy f fits p s h behind e numbers in
      let is : q ≡ p = cc in
      let bytes : Bytes (drop (rows_place f) z) =
      subst Bytes (sym (written_tail f fits p s h behind e)) (Bytes_append (take (row_width * p.rows) s) (joined behind) (Bytes_take (row_width * p.rows) s b) more) in
      record {
        policy = is;
        rows =
            restored_rows f z before q after r
            ∙ ap (λ (x : PeerMessagePolicy). rows_of x (drop (rows_place f) z)) is
            ∙ written_rows f fits p s h behind e;
        first_sound = h;
        second_sound = restored_sound f fits z before q after r bytes;
        first_bytes = b;
        second_bytes = restored_bytes f fits z before q after r bytes free;
      }

  -- it is refused with 1 alone, by a table that is too short
  pub snapshot_answers : (r : Result PeerMessagePolicy Refusal) → ReadMeets f (snapshot_bytes f p s behind) before r after
      → r ≡ cond (long_enough p.config before) (Ok p) (Err Refusal.TooShort)
  unfolding ReadMeets read_outcome
  snapshot_answers r read =
      let z : List ℕ = snapshot_bytes f p s behind in
      read.answers
      ∙ ap (λ (x : Result PeerMessagePolicy Refusal). (restored f z before x).answer) (written_policy f fits p s h behind e numbers)
      ∙ chosen p (long_enough p.config before) (become (rows_of p (drop (rows_place f) z)))

-- ════ A write that was not refused ════

-- it wrote the snapshot of a sound policy
pub record Wrote (p : PeerMessagePolicy) (s out : List ℕ) (n : ℕ) (after : List ℕ) : Type 0 where
  pub is_sound : sound p s ≡ true
  pub long : snapshot_length first p ≤ length out
  pub size : n ≡ snapshot_length first p
  pub output : after ≡ put out 0 (snapshot_bytes first p s [])

wrote_by : (p : PeerMessagePolicy) (s out : List ℕ) (n : ℕ) (after : List ℕ) (a b : Bool) → sound p s ≡ a → leb (snapshot_length first p) (length out) ≡ b
    → (o : WriteOutcome)
    → o ≡ cond a
    (cond b (record { answer = Ok (snapshot_length first p); output = put out 0 (snapshot_bytes first p s []) })
    (record { answer = Err Refusal.TooShort; output = out }))
    (record { answer = Err Refusal.Unsound; output = out })
    → Ok n ≡ o.answer → after ≡ o.output → Wrote p s out n after
wrote_by p s out n after true true h l o e f g =
    let said : (Ok n) ≡ (Ok (snapshot_length first p)) = f ∙ ap (λ (x : WriteOutcome). x.answer) e in
    record {
      is_sound = h;
      long = leb-true (snapshot_length first p) (length out) l;
      size = cc;
      output = g ∙ ap (λ (x : WriteOutcome). x.output) e;
    }
wrote_by p s out n after true false h l o e f g =
    let said : (Ok n) ≡ (Err Refusal.TooShort) = f ∙ ap (λ (x : WriteOutcome). x.answer) e in
    let no : ◌≡◌ {A = ℕ} 0 1 = cc in
    absurd (omega arith)
wrote_by p s out n after false b h l o e f g =
    let said : (Ok n) ≡ (Err Refusal.Unsound) = f ∙ ap (λ (x : WriteOutcome). x.answer) e in
    let no : ◌≡◌ {A = ℕ} 0 1 = cc in
    absurd (omega arith)

module _ (p : PeerMessagePolicy) (s out : List ℕ) (n : ℕ) (out' : List ℕ) (m : WriteMeets p s out (Ok n) out') where
  pub wrote : Wrote p s out n out'
  unfolding write_outcome
  wrote = wrote_by p s out n out' (sound p s) (leb (snapshot_length first p) (length out)) refl refl (write_outcome p s out) refl m.answers m.leaves

  -- the first n bytes of the output are the snapshot
  pub front_is : take n out' ≡ snapshot_bytes first p s []
  unfolding part
  front_is =
      ap (take n) wrote.output
      ∙ part_put_at out 0 (snapshot_bytes first p s []) n (written_length first first_fits p s wrote.is_sound [] refl ∙ sym wrote.size) (omega arith)

  -- ════ Written and read ════

  module _ (fits : PolicyFits p) (before after : List ℕ) where
    -- what was written and is read is the same policy
    pub written_reads : Bytes s → Bytes before → (q : PeerMessagePolicy) → ReadMeets first (take n out') before (Ok q) after
        → Alike (record { policy = p; memory = s }) (record { policy = q; memory = after })
    written_reads b free q read =
        snapshot_reads first first_fits p s wrote.is_sound [] refl fits before after b Bytes_nil free q
        (subst (λ (z : List ℕ). ReadMeets first z before (Ok q) after) front_is read)

    -- reading it is refused with 1 alone, by a table that is too short
    pub written_answers : (r : Result PeerMessagePolicy Refusal) → ReadMeets first (take n out') before r after
        → r ≡ cond (long_enough p.config before) (Ok p) (Err Refusal.TooShort)
    written_answers r read =
        snapshot_answers first first_fits p s wrote.is_sound [] refl fits before after r
        (subst (λ (z : List ℕ). ReadMeets first z before r after) front_is read)

-- ════ Read and written ════

-- what was read and is written is the same bytes, and every further byte of the output stays
pub read_writes : (z before after : List ℕ) (q : PeerMessagePolicy) → Bytes z → ReadMeets first z before (Ok q) after
    → (out : List ℕ) → length z ≤ length out → (r : Result ℕ Refusal) (out' : List ℕ) → WriteMeets q after out r out'
    → (r ≡ Ok (length z)) × (out' ≡ put out 0 z)
read_writes z before after q b read out long r out' m =
    let back : Restored first z before q after = read_restored first z before q after read in
    let tail : Bytes (drop (rows_place first) z) = Bytes_drop (rows_place first) z b in
    let size : length z ≡ rows_place first + row_width * q.rows = omega (arith, describes_length first first_fits z q back.described) in
    let again : snapshot_bytes first q after [] ≡ z = bytes_again first first_fits z before q after back b in
    let done = write_done q after out (restored_sound first first_fits z before q after back tail) (omega arith) (length z) (omega arith) (put out 0 (snapshot_bytes first q after [])) refl in
    let one = write_one q after out m done in
    (one.0, one.1 ∙ ap (put out 0) again)
