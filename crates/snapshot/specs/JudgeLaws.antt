-- Laws of judging a snapshot by itself, in any form: lengths, the settings that were read, the policy that was judged, and the policy
-- that a sound snapshot describes. Assumes nothing.
use Rattle.std.specs.Prelude.{◌≡◌, Bool, true, false, ◌&&◌, List, ℕ, ◌+◌, ◌-◌, ◌*◌, ◌≤◌, ◌<◌, ltb, length, take, drop}
use Rattle.std.proofs.Math.Path.{refl, ap}
use Rattle.std.proofs.Common.{sym, ◌∙◌, arith, ltb-false, lt-ltb, le-ltb, take_all, length-drop}
use Rattle.std.proofs.Math.Bool.{cond}
use Rattle.std.specs.Prelude.{Result, Ok, Err, Option, Some, None}
use Rattle.refusal.specs.declared.Refusal.{Refusal}
use Rattle.refusal.specs.declared.Refusal.TheVariants as Refusal
use Rattle.truths.specs.TruthLaws.{both, both_parts}
use Rattle.lent_bytes.specs.LentBytes.{part}
use Rattle.peer_settings.specs.declared.config.PeerMessagePolicyConfig.{PeerMessagePolicyConfig}
use Rattle.peer_state.specs.declared.ingress.FiberIngressBudget.{FiberIngressBudget}
use Rattle.peer_message_policy.specs.declared.policy.PeerMessagePolicy.{PeerMessagePolicy}
use Rattle.peer_message_policy.specs.Policy.{policy_sound, rows_sound}
use Rattle.snapshot_layout.specs.Layout.{slots, laid_out}
use Rattle.snapshot_layout.specs.LayoutLaws.{length_laid}
use Rattle.snapshot_settings.specs.Settings.{settings_size, settings_of}
use Rattle.snapshot_settings.specs.Load.{load_size, load_of}
use Rattle.peer_rows.specs.Rows.{row_width}
use Rattle.snapshot.specs.Form.{Form, total, lengths_of, form_slots, settings_place, load_place, rows_place, rows_in, FormFits}
use Rattle.snapshot.specs.FormLaws.{form_size}
use Rattle.snapshot.specs.Snapshot.{settings_in}
use Rattle.snapshot.specs.Snapshot.{record_in, load_in, config_in, policy_in}

-- ════ Lengths ════

-- a list to its end
pub whole_tail : (a : ℕ) (z : List ℕ) → take (length z - a) (drop a z) ≡ drop a z
whole_tail a z = take_all (length z - a) (drop a z) (omega (arith, length-drop a z))

-- a test that came out true, and what was chosen by it
read_is : (b : Bool) (x : Option PeerMessagePolicyConfig) {c : PeerMessagePolicyConfig} → cond b x None ≡ Some c
    → (b ≡ true) × (x ≡ Some c)
read_is true x h = (refl, h)
read_is false x h = (cc, cc)

-- what a record that was judged is
judged_is : (b : Bool) (q : PeerMessagePolicy) {p : PeerMessagePolicy} (n : Refusal) → cond b (Ok q) (Err n) ≡ Ok p
    → (b ≡ true) × (q ≡ p)
judged_is true q n h = (refl, cc)
judged_is false q n h = (cc, cc)

limit_is : (b : Bool) (n : Refusal) (x : Result PeerMessagePolicy Refusal) {p : PeerMessagePolicy} → cond b (Err n) x ≡ Ok p → (b ≡ false) × (x ≡ Ok p)
limit_is true n x h = (cc, cc)
limit_is false n x h = (refl, h)

module _ (f : Form) where
  -- kinds and lengths as the code has them are the form's
  pub slots_are : (ks ns : List ℕ) (n m : ℕ) → ks ≡ f.kinds → ns ≡ lengths_of f n → n ≡ m → slots ks ns ≡ form_slots f m
  slots_are ks ns n m k l e = let told : ns ≡ lengths_of f m = l ∙ ap (lengths_of f) e in (λ d. slots (k d) (told d))

  -- bytes that are laid out end with what stands behind the last row
  pub laid_length : FormFits f → (z : List ℕ) → laid_out z (form_slots f (rows_in f z)) ≡ true
      → length z ≡ rows_place f + row_width * rows_in f z + total f.behind
  laid_length fits z h = length_laid z (form_slots f (rows_in f z)) h ∙ form_size f fits (rows_in f z)

  -- ════ Settings that were read ════

  -- a wrong layout tells of no settings
  pub settings_refused : (z : List ℕ) → laid_out z (form_slots f (rows_in f z)) ≡ false → settings_in f z ≡ None
  unfolding settings_in
  settings_refused z h = rw h

  -- in a right one they stand in their place
  pub settings_told : (z : List ℕ) → laid_out z (form_slots f (rows_in f z)) ≡ true
      → settings_in f z ≡ settings_of (part z (settings_place f) settings_size)
  unfolding settings_in
  settings_told z h = rw h

  module _ (z : List ℕ) (c : PeerMessagePolicyConfig) (h : settings_in f z ≡ Some c) where
    -- the bytes are laid out
    pub read_laid : laid_out z (form_slots f (rows_in f z)) ≡ true
    unfolding settings_in
    read_laid = (read_is (laid_out z (form_slots f (rows_in f z))) (settings_of (part z (settings_place f) settings_size)) h).0

    -- the settings stand in their place
    pub read_settings : settings_of (part z (settings_place f) settings_size) ≡ Some c
    unfolding settings_in
    read_settings = (read_is (laid_out z (form_slots f (rows_in f z))) (settings_of (part z (settings_place f) settings_size)) h).1

    -- the bytes end with what stands behind the last row
    pub read_length : FormFits f → length z ≡ rows_place f + row_width * rows_in f z + total f.behind
    read_length fits = laid_length fits z read_laid

  -- ════ A policy that was judged ════

  module _ (z : List ℕ) (c : PeerMessagePolicyConfig) where
    -- a limit that is too large
    pub limit_refused : 1024 < c.max_tracked_peers → config_in f z (Some c) ≡ Err Refusal.LimitTooLarge
    limit_refused h = rw (lt-ltb 1024 c.max_tracked_peers h)

    module _ (h : c.max_tracked_peers ≤ 1024) where
      -- messages in flight that are out of their range
      pub load_refused : load_of (part z (load_place f) load_size) ≡ None → config_in f z (Some c) ≡ Err Refusal.Unsound
      load_refused l = rw (le-ltb 1024 c.max_tracked_peers h) (ap (load_in f z c) l)

      -- the record with the load that was read is judged
      pub load_told : (i : FiberIngressBudget) → load_of (part z (load_place f) load_size) ≡ Some i
          → config_in f z (Some c) ≡ record_in f z (record { config = c; ingress = i; rows = rows_in f z })
      load_told i l = rw (le-ltb 1024 c.max_tracked_peers h) (ap (load_in f z c) l)

  module _ (z : List ℕ) (p : PeerMessagePolicy) where
    -- a record that breaks its own rules
    pub record_refused : policy_sound p ≡ false → record_in f z p ≡ Err Refusal.Unsound
    unfolding record_in
    record_refused h = rw h

    module _ (h : policy_sound p ≡ true) where
      judged_by : {b : Bool} → rows_sound p (drop (rows_place f) z) ≡ b → record_in f z p ≡ cond b (Ok p) (Err Refusal.Unsound)
      unfolding record_in
      judged_by k = (λ d. cond (h d && k d) (Ok p) (Err Refusal.Unsound))

      -- rows that are unsound
      pub rows_refused : rows_sound p (drop (rows_place f) z) ≡ false → record_in f z p ≡ Err Refusal.Unsound
      rows_refused k = judged_by k

      -- a sound record with sound rows
      pub record_taken : rows_sound p (drop (rows_place f) z) ≡ true → record_in f z p ≡ Ok p
      record_taken k = judged_by k

  -- ════ A policy that was read ════

  -- the snapshot z describes the policy p, and is sound
  pub record Describes (z : List ℕ) (p : PeerMessagePolicy) : Type 0 where
    pub settings : settings_in f z ≡ Some p.config
    pub tracked : p.config.max_tracked_peers ≤ 1024
    pub load : load_of (part z (load_place f) load_size) ≡ Some p.ingress
    pub count : p.rows ≡ rows_in f z
    pub own : policy_sound p ≡ true
    pub sound_rows : rows_sound p (drop (rows_place f) z) ≡ true

  -- a record that was found sound
  record_is : (z : List ℕ) (q p : PeerMessagePolicy) → record_in f z q ≡ Ok p
      → (q ≡ p) × ((policy_sound p ≡ true) × (rows_sound p (drop (rows_place f) z) ≡ true))
  unfolding record_in
  record_is z q p h =
      let is = judged_is (policy_sound q && rows_sound q (drop (rows_place f) z)) q _ h in
      let parts = both_parts (policy_sound q) _ is.0 in (
        is.1,
        (ap policy_sound (sym is.1) ∙ parts.0, ap (λ (x : PeerMessagePolicy). rows_sound x (drop (rows_place f) z)) (sym is.1) ∙ parts.1),
      )

  -- a load with which the record was found sound
  load_is : (z : List ℕ) (c : PeerMessagePolicyConfig) (p : PeerMessagePolicy) (l : Option FiberIngressBudget) → settings_in f z ≡ Some c → c.max_tracked_peers ≤ 1024
      → load_of (part z (load_place f) load_size) ≡ l → load_in f z c l ≡ Ok p → Describes z p
  load_is z c p None s t l h = let no : ◌≡◌ {A = ℕ} 0 1 = cc in absurd (omega arith)
  load_is z c p (Some i) s t l h =
      let is = record_is z (record { config = c; ingress = i; rows = rows_in f z }) p h in
      let config : c ≡ p.config = ap (λ (x : PeerMessagePolicy). x.config) is.0 in
      record {
        settings = s ∙ ap Some config;
        tracked = omega (arith, ap (λ (x : PeerMessagePolicyConfig). x.max_tracked_peers) config);
        load = l ∙ ap (λ (x : PeerMessagePolicy). (Some x.ingress)) is.0;
        count = sym (ap (λ (x : PeerMessagePolicy). x.rows) is.0);
        own = is.1.0;
        sound_rows = is.1.1;
      }

  -- settings with which the record was found sound
  config_is : (z : List ℕ) (p : PeerMessagePolicy) (x : Option PeerMessagePolicyConfig) → settings_in f z ≡ x → config_in f z x ≡ Ok p → Describes z p
  config_is z p None s h = let no : ◌≡◌ {A = ℕ} 0 1 = cc in absurd (omega arith)
  config_is z p (Some c) s h =
      let is = limit_is (ltb 1024 c.max_tracked_peers) _ (load_in f z c (load_of (part z (load_place f) load_size))) h in
      load_is z c p (load_of (part z (load_place f) load_size)) s (ltb-false 1024 c.max_tracked_peers is.0) refl is.1

  -- a policy that a snapshot was judged to hold is the one that it describes
  pub policy_describes : (z : List ℕ) (p : PeerMessagePolicy) → policy_in f z ≡ Ok p → Describes z p
  unfolding policy_in
  policy_describes z p h = config_is z p (settings_in f z) refl h

  -- and the other way round
  pub describes_policy : (z : List ℕ) (p : PeerMessagePolicy) → Describes z p → policy_in f z ≡ Ok p
  unfolding policy_in record_in
  describes_policy z p d =
      ap (config_in f z) d.settings
      ∙ ap (λ (b : Bool). cond b (Err Refusal.LimitTooLarge) (load_in f z p.config (load_of (part z (load_place f) load_size)))) (le-ltb 1024 p.config.max_tracked_peers d.tracked)
      ∙ ap (load_in f z p.config) d.load
      ∙ ap (λ (n : ℕ). record_in f z (record { config = p.config; ingress = p.ingress; rows = n })) (sym d.count)
      ∙ ap (λ (b : Bool). cond b (Ok p) (Err Refusal.Unsound)) (both d.own d.sound_rows)

  -- the snapshot ends with what stands behind the policy's rows
  pub describes_length : FormFits f → (z : List ℕ) (p : PeerMessagePolicy) → Describes z p
      → length z ≡ rows_place f + row_width * p.rows + total f.behind
  describes_length fits z p d =
      read_length z p.config d.settings fits ∙ ap (λ (n : ℕ). rows_place f + row_width * n + total f.behind) (sym d.count)
