-- What the judging walk found, for a policy: the laws of a lent table (`LentLaws`) with the peers' layout, row rule and limit. Over plain
-- values. Assumes nothing.
use mathlib.Core.Path.{◌≡◌, refl, sym, ap, ◌∙◌}
use mathlib.Core.Bool.{true, false}
use mathlib.Core.List.{List}
use mathlib.Core.Option.{none, some}
use Prim.Native.Nat.{ℕ, ◌+◌, ◌*◌, ◌≤◌, ◌<◌}
use native.Mathlib.Omega.{arith}
use borrow.Author.Tests.{leb-true}
use lib.Dec.{leb}
use lib.ListN.{length}
use Rattle.truths.specs.TruthLaws.{both_parts, chosen}
use Rattle.table.specs.declared.seek.Seek.{Seek}
use Rattle.table.specs.declared.seek.Seek.TheVariants.{Unsound, At, Gap}
use Rattle.table.specs.Table.{ascending, look}
use Rattle.table.specs.PlaceLaws.{gap_look}
use Rattle.table.specs.MemoryLaws.{length_rows}
use Rattle.table_laws.specs.Lent.{lent_sound}
use Rattle.table_laws.specs.Private as lent
use Rattle.table_laws.specs.LentLaws as laws
use Rattle.peer_settings.specs.declared.config.PeerMessagePolicyConfig.{PeerMessagePolicyConfig}
use Rattle.peer_state.specs.declared.entry.PeerMessagePolicyEntry.{PeerMessagePolicyEntry}
use Rattle.peer_settings.specs.Config.{limit}
use Rattle.peer_state.specs.Entry.{entry_sound, entry_new, entry_is_spent}
use Rattle.peer_state.specs.Private.{entry_to_update}
use Rattle.peer_state.specs.EntryLaws.{new_sound}
use Rattle.peer_rows.specs.Rows.{row_width, peer_layout, peer_sound}
use Rattle.peer_rows.specs.Private.{entry_at}
use Rattle.peer_message_policy.specs.declared.policy.PeerMessagePolicy.{PeerMessagePolicy}
use Rattle.peer_message_policy.specs.Policy.{rows_of, policy_sound, sound}
use Rattle.peer_message_policy.specs.Private.{sought_in}
use Rattle.peer_message_policy.specs.Private.{Found, Known, Unknown}

-- ════ A policy and its memory as a lent table ════

-- a record that keeps its rules has no more rows than its limit
pub within_limit : (p : PeerMessagePolicy) → policy_sound p ≡ true → p.rows ≤ limit p.config
unfolding policy_sound
within_limit p h =
    let first = both_parts (leb p.config.max_tracked_peers 1024) _ h in
    leb-true p.rows (limit p.config) (both_parts (leb p.rows (limit p.config)) _ first.1).0

-- soundness says what it says of a lent table
sound_lent : (p : PeerMessagePolicy) (s : List ℕ) → sound p s ≡ lent_sound peer_layout (peer_sound p.config) (policy_sound p) (limit p.config) s p.rows
unfolding sound lent_sound
sound_lent p s = refl

-- ════ What the walk answers ════

module _ (p : PeerMessagePolicy) (s k : List ℕ) where
  -- Unsound: the policy and its memory are unsound
  pub sought_unsound : sought_in p s k ≡ Unsound → sound p s ≡ false
  unfolding sought_in
  sought_unsound h =
      sound_lent p s ∙ laws.sought_unsound peer_layout (peer_sound p.config) (policy_sound p) (limit p.config) s p.rows k h

  -- At: the peer's row is there
  pub sought_known : {i : ℕ} → sought_in p s k ≡ At i → Known p s k i
  unfolding sought_in
  sought_known h =
      let j = laws.sought_known peer_layout (peer_sound p.config) (policy_sound p) (limit p.config) s p.rows k h in
      record { is_sound = sound_lent p s ∙ j.is_sound; place = j.place }

  -- Gap: the peer has no row
  pub sought_unknown : {i : ℕ} → sought_in p s k ≡ Gap i → Unknown p s k i
  unfolding sought_in
  sought_unknown h =
      let j = laws.sought_unknown peer_layout (peer_sound p.config) (policy_sound p) (limit p.config) s p.rows k h in
      record { is_sound = sound_lent p s ∙ j.is_sound; place = j.place }

  -- any answer but Unsound: the peer's row is there, or would stand there
  pub sought_found : (f : Seek) → sought_in p s k ≡ f → (f ≡ Unsound → ⊥) → Found p s k f
  sought_found (At i) h t = sought_known h
  sought_found (Gap i) h t = sought_unknown h
  sought_found Unsound h t = absurd (t refl)

-- ════ What soundness says ════

module _ (p : PeerMessagePolicy) (s : List ℕ) (h : sound p s ≡ true) where
  as_lent : lent_sound peer_layout (peer_sound p.config) (policy_sound p) (limit p.config) s p.rows ≡ true
  as_lent = sym (sound_lent p s) ∙ h

  -- no more rows than the limit
  pub few_rows : p.rows ≤ limit p.config
  few_rows =
      within_limit p (laws.own_sound_lem peer_layout (peer_sound p.config) (policy_sound p) (limit p.config) s p.rows as_lent)

  -- the memory has room for the limit
  pub limit_fits : row_width * limit p.config ≤ length s
  limit_fits = laws.limit_fits peer_layout (peer_sound p.config) (policy_sound p) (limit p.config) s p.rows as_lent

  -- so it has for the rows
  pub rows_fit : row_width * p.rows ≤ length s
  rows_fit = omega (arith, few_rows, limit_fits)

  -- no more rows than the limit, as a list
  pub few_read : length (rows_of p s) ≤ limit p.config
  few_read = omega (arith, few_rows, length_rows peer_layout s p.rows)

  -- the keys ascend
  pub in_order : ascending (rows_of p s) ≡ true
  in_order = laws.order_kept peer_layout (peer_sound p.config) (policy_sound p) (limit p.config) s p.rows as_lent

-- ════ A peer that has a row ════

module _ (p : PeerMessagePolicy) (s k : List ℕ) (i : ℕ) (h : Known p s k i) where
  known_lent : lent.Known peer_layout (peer_sound p.config) (policy_sound p) (limit p.config) s p.rows k i
  known_lent = record { is_sound = as_lent p s h.is_sound; place = h.place }

  -- its row is one of the policy's
  pub known_inside : i < p.rows
  known_inside = laws.known_inside peer_layout (peer_sound p.config) (policy_sound p) (limit p.config) s p.rows k i known_lent

  -- and stands within the memory
  pub known_fits : row_width * (i + 1) ≤ length s
  known_fits = omega (arith, known_inside, rows_fit p s h.is_sound)

  module _ (e : PeerMessagePolicyEntry) (read : e ≡ entry_at s i) where
    -- the entry read there is what is found
    pub known_look : look k (rows_of p s) ≡ some e
    known_look =
        laws.known_look peer_layout (peer_sound p.config) (policy_sound p) (limit p.config) s p.rows k i known_lent e read

    -- and keeps its rules
    pub known_sound : entry_sound p.config e ≡ true
    known_sound =
        ap (entry_sound p.config) read
        ∙ laws.known_rule peer_layout (peer_sound p.config) (policy_sound p) (limit p.config) s p.rows k i known_lent

-- ════ A peer that has none ════

pub unknown_look : (p : PeerMessagePolicy) (s k : List ℕ) (i : ℕ) → Unknown p s k i → look k (rows_of p s) ≡ none
unknown_look p s k i h = gap_look k (rows_of p s) h.place

-- ════ What is judged on ════

-- the entry that a message is judged on keeps its rules
pub entry_to_update_sound : (c : PeerMessagePolicyConfig) (e : PeerMessagePolicyEntry) (now : ℕ) (x : PeerMessagePolicyEntry) → x ≡ entry_to_update c e now → entry_sound c e ≡ true → entry_sound c x ≡ true
entry_to_update_sound c e now x v h =
    ap (entry_sound c) v
    ∙ chosen (λ (y : PeerMessagePolicyEntry). entry_sound c y ≡ true) (entry_is_spent e now) (λ t. new_sound c now) (λ t. h)

pub new_on_sound : (c : PeerMessagePolicyConfig) (now : ℕ) (x : PeerMessagePolicyEntry) → x ≡ entry_new c now → entry_sound c x ≡ true
new_on_sound c now x v = ap (entry_sound c) v ∙ new_sound c now
