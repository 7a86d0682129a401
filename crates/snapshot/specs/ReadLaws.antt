-- Laws of reading a snapshot, in any form: what the call leaves, and the rows copied. Assumes nothing.
use Rattle.std.specs.Prelude.{◌≡◌, List, ◌++◌, ℕ, ◌+◌, ◌-◌, ◌*◌, ◌/◌, ◌≤◌, ◌<◌, length, take, drop}
use Rattle.std.proofs.Math.Path.{refl, subst}
use Rattle.std.proofs.Common.{sym, ap, ◌∙◌, zero-add, arith, length-take, length-drop}
use Rattle.std.specs.Prelude.{Result, Ok, Err}
use Rattle.refusal.specs.declared.Refusal.{Refusal}
use Rattle.refusal.specs.declared.Refusal.TheVariants as Refusal
use Rattle.lent_bytes.specs.LentBytes.{put, zeros, Bytes}
use Rattle.lent_bytes.specs.LentBytesLaws.{put_put_at, Bytes_drop}
use Rattle.table.specs.Memory.{rows, table_bytes, Holds}
use Rattle.table.specs.MemoryLaws.{length_rows, table_bytes_rows, fit_rows, laid_put, holds}
use Rattle.table.specs.OutcomeLaws.{one_meets}
use Rattle.table_laws.specs.LentLaws.{long_enough_lem, too_short_lem}
use Rattle.peer_settings.specs.Config.{limit}
use Rattle.peer_rows.specs.Rows.{row_width, peer_layout}
use Rattle.peer_rows.specs.RowsLaws.{peer_faithful}
use Rattle.peer_message_policy.specs.declared.policy.PeerMessagePolicy.{PeerMessagePolicy}
use Rattle.peer_message_policy.specs.Policy.{rows_of}
use Rattle.snapshot.specs.Form.{Form, rows_place}
use Rattle.snapshot.specs.Snapshot.{policy_in, read_outcome, ReadMeets}

module _ (f : Form) where
  -- ════ What reading leaves ════

  module _ (z before : List ℕ) where
    -- a snapshot that is refused by itself
    pub read_refused : (n : Refusal) → policy_in f z ≡ Err n → ReadMeets f z before (Err n) before
    unfolding ReadMeets read_outcome
    read_refused n h = rw h (record { answers = refl; leaves = refl })

    module _ (p : PeerMessagePolicy) (h : policy_in f z ≡ Ok p) where
      -- a table that is too short
      pub read_short : length before / row_width < limit p.config → ReadMeets f z before (Err Refusal.TooShort) before
      unfolding ReadMeets read_outcome
      read_short l = rw (h, too_short_lem peer_layout (limit p.config) before (omega arith) l) (record { answers = refl; leaves = refl })

      -- a table that is long enough
      pub read_done : limit p.config ≤ length before / row_width → (n : ℕ) → n ≡ limit p.config → (t : List ℕ)
          → Holds peer_layout before t n (rows_of p (drop (rows_place f) z)) → ReadMeets f z before (Ok p) t
      unfolding ReadMeets read_outcome
      read_done l n e t held =
          rw (h, long_enough_lem peer_layout (limit p.config) before (omega arith) l)
          (record { answers = refl; leaves = subst (λ (m : ℕ). Holds peer_layout before t m (rows_of p (drop (rows_place f) z))) e held })

  -- ════ The rows copied ════

  -- so many rows copied, and zeros up to the limit
  pub copied_rows : (z s t : List ℕ) (n m : ℕ) → Bytes z → rows_place f + row_width * n ≤ length z → n ≤ m
      → t ≡ put (put s 0 (take (row_width * n) (drop (rows_place f) z))) (row_width * n) (zeros (row_width * (m - n)))
      → Holds peer_layout s t m (rows peer_layout (drop (rows_place f) z) n)
  copied_rows z s t n m b h few e =
      let w : List ℕ = drop (rows_place f) z in
      let inside : row_width * n ≤ length w = simp length-drop (omega arith) in
      let bytes : Bytes w = Bytes_drop (rows_place f) z b in
      let fit = fit_rows peer_faithful w n bytes inside in
      let size : length (take (row_width * n) w) ≡ row_width * n = simp length-take (omega arith) in
      holds peer_faithful s t m (rows peer_layout w n) fit
      (e
      ∙ ap (λ (at : ℕ). put (put s 0 (take (row_width * n) w)) at (zeros (row_width * (m - n)))) (sym (zero-add (row_width * n)))
      ∙ put_put_at s 0 (take (row_width * n) w) (zeros (row_width * (m - n))) (row_width * n) size (omega arith)
      ∙ ap (λ (l : List ℕ). put s 0 (l ++ zeros (row_width * (m - n)))) (sym (table_bytes_rows peer_faithful w n bytes inside))
      ∙ ap (λ (k : ℕ). put s 0 (table_bytes peer_layout (rows peer_layout w n) ++ zeros (row_width * (m - k)))) (sym (length_rows peer_layout w n))
      ∙ sym (laid_put peer_faithful s m (rows peer_layout w n) fit))

  -- ════ One outcome ════

  -- read has one answer and leaves one table
  pub read_one : (z before : List ℕ) {r q : Result PeerMessagePolicy Refusal} {x y : List ℕ} → ReadMeets f z before r x → ReadMeets f z before q y → (r ≡ q) × (x ≡ y)
  unfolding ReadMeets
  read_one z before h k = one_meets h k
