-- What each call's answer comes to, by what was found and decided on the way: one law for each `return` of the code. In order: an
-- outcome met; allow; reserve; refund; remove; estimate; bypass. Assumes nothing.
use Rattle.std.specs.Prelude.{◌≡◌, refl, Bool, true, not, List, length, Ok, Err, Option, None, Some}
use Rattle.std.proofs.Math.Path.{sym, ap}
use Rattle.std.proofs.Common.{◌∙◌, subst}
use Rattle.std.proofs.Math.Bool.{false, cond}
use Rattle.refusal.specs.declared.Refusal.TheVariants as Refusal
use Prim.Native.Nat.{ℕ, max}
use Rattle.pubkey.specs.declared.Pubkey.{Pubkey}
use Rattle.table.specs.declared.seek.Seek.{Seek}
use Rattle.table.specs.Table.{look, erase}
use Rattle.table.specs.Outcome.{become, Outcome, Meets}
use Rattle.table_laws.specs.Private.{Counted}
use Rattle.bucket_terms.specs.Answers.{told}
use Rattle.bucket_terms.specs.Limit.{byte_disabled}
use Rattle.bucket_bytes.specs.declared.bytes.ByteTokenBucket.{ByteTokenBucket}
use Rattle.bucket_bytes.specs.ByteBucket.{byte_peek_delay_after_refill, byte_refund, byte_has_debt}
use Rattle.gossip_outbound_rows.specs.declared.entry.OutboundEntry.{OutboundEntry}
use Rattle.gossip_outbound_rows.specs.Rows.{Buckets, outbound_layout}
use Rattle.gossip_outbound_state.specs.declared.state.Outbound.{Outbound}
use Rattle.gossip_outbound_state.specs.declared.charge.Charged.{Charged}
use Rattle.gossip_outbound_state.specs.declared.charge.Promised.{Promised}
use Rattle.gossip_outbound_state.specs.State.{rows_of, sound, bucket_or_fresh, charge_both, promise_both, outbound_with, peer_delay, exceeds, peer_debt}
use Rattle.gossip_outbound.specs.Outbound.{turn, refuse, outbound_told, outbound_reserved, outbound_settled, kept, allowed, allow, reserved, reserve, refunded, refund, bypasses}
use Rattle.gossip_outbound_state.specs.Private.{full_at, Placed, PeerBucket}
use Rattle.gossip_outbound_state.specs.CarryLaws.{placed_full}
use Rattle.gossip_outbound.specs.Calls.{allow_outcome, AllowMeets, reserve_outcome, ReserveMeets, refund_outcome, RefundMeets, remove_outcome, RemoveMeets, EstimateMeets, BypassMeets}

-- ════ An outcome met ════

module _ {R : Type 0} (o : Outbound) (s : List ℕ) (outcome : Outcome OutboundEntry R) where
  -- nothing changed
  stays : (r : R) → outcome ≡ refuse r → Meets outbound_layout r s s o.rows outcome
  stays r e =
      subst (λ (x : Outcome OutboundEntry R). Meets outbound_layout r s s o.rows x) (sym e) (record { answers = refl; leaves = refl })

  -- the rows became others, and the answer says how many
  becomes : (says : ℕ → R) (rs : Buckets) (t : List ℕ) (m : ℕ) → outcome ≡ turn (says (length rs)) (become rs)
      → Counted outbound_layout s t o.rows m rs → Meets outbound_layout (says m) s t o.rows outcome
  becomes says rs t m e held =
      subst (λ (x : Outcome OutboundEntry R). Meets outbound_layout (says m) s t o.rows x) (sym e)
      (record { answers = ap says held.1; leaves = held.0 })

module _ (o : Outbound) (s : List ℕ) (k : Pubkey) where
  module _ (bytes now : ℕ) where
    -- ════ Allow ════

    -- an unsound state
    pub allow_unsound : sound o s ≡ false → AllowMeets o s k bytes now (outbound_told o (Err Refusal.Unsound)) s
    unfolding AllowMeets allow_outcome
    allow_unsound h = stays o s (allow_outcome o s k bytes now) (outbound_told o (Err Refusal.Unsound)) (rw h)

    module _ (found : Seek) (p : Placed o s k.bytes found) (b : ByteTokenBucket) (peers : PeerBucket o s k.bytes b)
        (given : Option Charged) (asked : given ≡ charge_both o.global_outbound b bytes now) where
      allow_by : allow_outcome o s k bytes now ≡ allowed o k.bytes (rows_of o s) given
      unfolding allow_outcome
      allow_by =
          ap (λ (t : Bool). cond t (allow o k.bytes bytes now (rows_of o s)) (refuse (outbound_told o (Err Refusal.Unsound)))) p.is_sound
          ∙ ap (λ (x : ByteTokenBucket). allowed o k.bytes (rows_of o s) (charge_both o.global_outbound x bytes now)) (sym peers.is_peers)
          ∙ ap (allowed o k.bytes (rows_of o s)) (sym asked)

      -- one of the buckets said no
      pub allow_no : given ≡ None → AllowMeets o s k bytes now (outbound_told o (Ok false)) s
      unfolding AllowMeets
      allow_no h = stays o s (allow_outcome o s k bytes now) (outbound_told o (Ok false)) (allow_by ∙ rw h)

      module _ (both : Charged) (gave : given ≡ Some both) where
        -- both said yes, and there is no place for the row
        pub allow_full : full_at o.rows found ≡ true → AllowMeets o s k bytes now (outbound_told o (Err Refusal.NoRow)) s
        unfolding AllowMeets
        allow_full h =
            stays o s (allow_outcome o s k bytes now) (outbound_told o (Err Refusal.NoRow))
            (allow_by ∙ rw (gave, sym (placed_full o s k.bytes found p) ∙ h))

        -- both are kept
        pub allow_yes : full_at o.rows found ≡ false → (t : List ℕ) (m : ℕ)
            → Counted outbound_layout s t o.rows m (kept k.bytes both.peer (rows_of o s))
            → AllowMeets o s k bytes now (outbound_told (outbound_with o both.global m) (Ok true)) t
        unfolding AllowMeets
        allow_yes h t m held =
            becomes o s (allow_outcome o s k bytes now) (λ (n : ℕ). outbound_told (outbound_with o both.global n) (Ok true))
            (kept k.bytes both.peer (rows_of o s)) t m
            (allow_by ∙ rw (gave, sym (placed_full o s k.bytes found p) ∙ h)) held

    -- ════ Reserve ════

    -- an unsound state
    pub reserve_unsound : sound o s ≡ false → ReserveMeets o s k bytes now (outbound_reserved o (Err Refusal.Unsound)) s
    unfolding ReserveMeets reserve_outcome
    reserve_unsound h = stays o s (reserve_outcome o s k bytes now) (outbound_reserved o (Err Refusal.Unsound)) (rw h)

    module _ (found : Seek) (p : Placed o s k.bytes found) where
      reserve_sound : reserve_outcome o s k bytes now ≡ reserve o k.bytes bytes now (rows_of o s)
      unfolding reserve_outcome
      reserve_sound =
          ap (λ (t : Bool). cond t (reserve o k.bytes bytes now (rows_of o s)) (refuse (outbound_reserved o (Err Refusal.Unsound)))) p.is_sound

      -- there is no place for the row
      pub reserve_full : full_at o.rows found ≡ true → ReserveMeets o s k bytes now (outbound_reserved o (Err Refusal.NoRow)) s
      unfolding ReserveMeets
      reserve_full h =
          stays o s (reserve_outcome o s k bytes now) (outbound_reserved o (Err Refusal.NoRow))
          (reserve_sound ∙ rw (sym (placed_full o s k.bytes found p) ∙ h))

      -- both promise
      pub reserve_yes : full_at o.rows found ≡ false → (b : ByteTokenBucket) → PeerBucket o s k.bytes b
          → (both : Promised) → both ≡ promise_both o.global_outbound b bytes now → (t : List ℕ) (m : ℕ)
          → Counted outbound_layout s t o.rows m (kept k.bytes both.peer (rows_of o s))
          → ReserveMeets o s k bytes now (outbound_reserved (outbound_with o both.global m) (Ok both.delay_ms)) t
      unfolding ReserveMeets
      reserve_yes h b peers both asked t m held =
          becomes o s (reserve_outcome o s k bytes now)
          (λ (n : ℕ). outbound_reserved (outbound_with o both.global n) (Ok both.delay_ms))
          (kept k.bytes both.peer (rows_of o s)) t m
          (reserve_sound
          ∙ ap (λ (x : ByteTokenBucket). reserved o k.bytes (rows_of o s) (promise_both o.global_outbound x bytes now)) (sym peers.is_peers)
          ∙ ap (reserved o k.bytes (rows_of o s)) (sym asked)
          ∙ rw (sym (placed_full o s k.bytes found p) ∙ h))
          held

    -- ════ Refund ════

    -- an unsound state
    pub refund_unsound : sound o s ≡ false → RefundMeets o s k bytes now (outbound_settled o (Err Refusal.Unsound)) s
    unfolding RefundMeets refund_outcome
    refund_unsound h = stays o s (refund_outcome o s k bytes now) (outbound_settled o (Err Refusal.Unsound)) (rw h)

    module _ (found : Seek) (p : Placed o s k.bytes found) (g : ByteTokenBucket) (given : g ≡ byte_refund o.global_outbound bytes now) where
      refund_by : (b : ByteTokenBucket) → b ≡ byte_refund (bucket_or_fresh o.peer_outbound_config (look k.bytes (rows_of o s))) bytes now
          → refund_outcome o s k bytes now ≡ refunded o k.bytes (rows_of o s) g b
      unfolding refund_outcome
      refund_by b back =
          ap (λ (t : Bool). cond t (refund o k.bytes bytes now (rows_of o s)) (refuse (outbound_settled o (Err Refusal.Unsound)))) p.is_sound
          ∙ ap (λ (x : ByteTokenBucket). refunded o k.bytes (rows_of o s) x (byte_refund (bucket_or_fresh o.peer_outbound_config (look k.bytes (rows_of o s))) bytes now)) (sym given)
          ∙ ap (refunded o k.bytes (rows_of o s) g) (sym back)

      anyhow : refund_outcome o s k bytes now
          ≡ refunded o k.bytes (rows_of o s) g (byte_refund (bucket_or_fresh o.peer_outbound_config (look k.bytes (rows_of o s))) bytes now)
      anyhow = refund_by _ refl

      -- the peers' limit is off
      pub refund_off : byte_disabled o.peer_outbound_config ≡ true
          → RefundMeets o s k bytes now (outbound_settled (outbound_with o g o.rows) (Ok tt)) s
      unfolding RefundMeets
      refund_off off =
          stays o s (refund_outcome o s k bytes now) (outbound_settled (outbound_with o g o.rows) (Ok tt)) (anyhow ∙ rw off)

      module _ (on : byte_disabled o.peer_outbound_config ≡ false) where
        -- there is no place for the row
        pub refund_full : full_at o.rows found ≡ true → RefundMeets o s k bytes now (outbound_settled o (Err Refusal.NoRow)) s
        unfolding RefundMeets
        refund_full h =
            stays o s (refund_outcome o s k bytes now) (outbound_settled o (Err Refusal.NoRow))
            (anyhow ∙ rw (on, sym (placed_full o s k.bytes found p) ∙ h))

        -- both have it back
        pub refund_yes : full_at o.rows found ≡ false → (b : ByteTokenBucket) → PeerBucket o s k.bytes b
            → (q : ByteTokenBucket) → q ≡ byte_refund b bytes now → (t : List ℕ) (m : ℕ)
            → Counted outbound_layout s t o.rows m (kept k.bytes q (rows_of o s))
            → RefundMeets o s k bytes now (outbound_settled (outbound_with o g m) (Ok tt)) t
        unfolding RefundMeets
        refund_yes h b peers q back t m held =
            becomes o s (refund_outcome o s k bytes now) (λ (n : ℕ). outbound_settled (outbound_with o g n) (Ok tt))
            (kept k.bytes q (rows_of o s)) t m
            (refund_by q (back ∙ ap (λ (x : ByteTokenBucket). byte_refund x bytes now) peers.is_peers)
            ∙ rw (on, sym (placed_full o s k.bytes found p) ∙ h))
            held

  -- ════ Remove ════

  -- an unsound state
  pub remove_unsound : sound o s ≡ false → RemoveMeets o s k (outbound_settled o (Err Refusal.Unsound)) s
  unfolding RemoveMeets remove_outcome
  remove_unsound h = stays o s (remove_outcome o s k) (outbound_settled o (Err Refusal.Unsound)) (rw h)

  -- the peer has no row any more
  pub remove_done : sound o s ≡ true → (t : List ℕ) (m : ℕ) → Counted outbound_layout s t o.rows m (erase k.bytes (rows_of o s))
      → RemoveMeets o s k (outbound_settled (outbound_with o o.global_outbound m) (Ok tt)) t
  unfolding RemoveMeets remove_outcome
  remove_done h t m held =
      becomes o s (remove_outcome o s k) (λ (n : ℕ). outbound_settled (outbound_with o o.global_outbound n) (Ok tt))
      (erase k.bytes (rows_of o s)) t m (rw h) held

  module _ (bytes now : ℕ) where
    -- ════ Estimate ════

    -- an unsound state
    pub estimate_unsound : sound o s ≡ false → EstimateMeets o s k bytes now (Err Refusal.Unsound)
    unfolding EstimateMeets
    estimate_unsound h = rw h

    -- the longer delay
    pub estimate_wait : sound o s ≡ true → (g p r : ℕ) → g ≡ byte_peek_delay_after_refill o.global_outbound bytes now
        → p ≡ peer_delay o.peer_outbound_config bytes now (look k.bytes (rows_of o s)) → r ≡ max g p
        → EstimateMeets o s k bytes now (Ok r)
    unfolding EstimateMeets
    estimate_wait h g p r first second longer = rw h (ap Ok (longer ∙ ap (λ (n : ℕ). max n p) first ∙ ap (max _) second))

    -- ════ Bypass ════

    -- an unsound state
    pub bypass_unsound : sound o s ≡ false → BypassMeets o s k bytes now (Err Refusal.Unsound)
    unfolding BypassMeets
    bypass_unsound h = rw h

    module _ (h : sound o s ≡ true) where
      bypass_by : (x g p : Bool) → exceeds o bytes ≡ x → byte_has_debt o.global_outbound now ≡ g
          → peer_debt o.peer_outbound_config now (look k.bytes (rows_of o s)) ≡ p
          → BypassMeets o s k bytes now (told (cond x (cond g false (not p)) false))
      unfolding BypassMeets
      bypass_by x g p large first second =
          sym (ap (λ (t : Bool). cond t (told (bypasses o k.bytes bytes now (rows_of o s))) (Err Refusal.Unsound)) h
          ∙ ap (λ (t : Bool). told (cond t (cond (byte_has_debt o.global_outbound now) false (not (peer_debt o.peer_outbound_config now (look k.bytes (rows_of o s))))) false)) large
          ∙ ap (λ (t : Bool). told (cond x (cond t false (not (peer_debt o.peer_outbound_config now (look k.bytes (rows_of o s))))) false)) first
          ∙ ap (λ (t : Bool). told (cond x (cond g false (not t)) false)) second)

      -- the message fits
      pub bypass_fits : exceeds o bytes ≡ false → BypassMeets o s k bytes now (Ok false)
      bypass_fits large = bypass_by false _ _ large refl refl

      module _ (large : exceeds o bytes ≡ true) where
        -- the global bucket is in debt
        pub bypass_global_debt : byte_has_debt o.global_outbound now ≡ true → BypassMeets o s k bytes now (Ok false)
        bypass_global_debt first = bypass_by true true _ large first refl

        -- the peer's bucket is, or is not
        pub bypass_peer : byte_has_debt o.global_outbound now ≡ false → (p : Bool)
            → p ≡ peer_debt o.peer_outbound_config now (look k.bytes (rows_of o s)) → BypassMeets o s k bytes now (told (not p))
        bypass_peer first p second = bypass_by true false p large first (sym second)
