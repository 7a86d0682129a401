-- `peer_rows::row::row_sound` meets its contract: at each return the tests that led there decide (`sound_places`). Assumes nothing.
use Rattle.std.proofs.Common.{◌&&◌, ◌≡◌, ◌≤◌, sym, ◌∙◌, ℕ, List, ◌+◌, leb}
use borrow.Author.Tests.{le-leb, lt-leb}
use mathlib.Core.Logic.{⊎_elim}
use Rattle.lent_bytes.specs.LentBytes.{part, le}
use Rattle.peer_state.specs.Entry.{ban, ban_sound}
use Rattle.peer_rows.specs.Rows.{row_from, peer_sound}
use Rattle.peer_settings.specs.declared.config.PeerMessagePolicyConfig.{PeerMessagePolicyConfig}
use Rattle.peer_rows.specs.RowsLaws.{messages_place, bytes_place, violations_place, invalid_place, ban_place, sound_places}
use Rattle.peer_rows.proofs.row.row_sound.Goals as goal
use Rattle.peer_rows.proofs.row.row_sound.Goals.{then-get_u64-config-via-then-get_u64-config, then-get_u64-config-via-else-get_u64-config+then-get_u64-config-2}

pub returns-then-get_u64-config : goal.returns-then-get_u64-config
returns-then-get_u64-config c = let a = c.args in
    elim c.then-get_u64-config.branch [
      | then-get_u64-config-via-then-get_u64-config w ↦
          sym (sound_places a.config a.table.now a.at ∙ rw (← c.get_u64.ensures, lt-leb _ _ w.if-get_u64-config.true))
      | then-get_u64-config-via-else-get_u64-config+then-get_u64-config-2 w ↦
          sym (sound_places a.config a.table.now a.at
          ∙ rw (← c.get_u64.ensures, le-leb _ _ w.if-get_u64-config.false, ← w.get_u64-else-get_u64-config.ensures, lt-leb _ _ w.if-get_u64-config-2.true))
    ]

-- both levels keep to their bursts: the counts and the ban decide
counts_decide : (c : PeerMessagePolicyConfig) (s : List ℕ) (at : ℕ) {messages size violations invalid : ℕ}
    → messages ≡ le (part s (at + messages_place) 8) → messages ≤ c.peer_message_burst
    → size ≡ le (part s (at + bytes_place) 8) → size ≤ c.peer_message_burst_bytes
    → violations ≡ le (part s (at + violations_place) 8) → invalid ≡ le (part s (at + invalid_place) 8)
    → peer_sound c (row_from s at) ≡ (leb violations 4294967295
    && (leb invalid 4294967295
    && ban_sound (ban (le (part s (at + ban_place) 8)) (le (part s (at + ban_place + 8) 8)))))
counts_decide c s at {messages} {size} a few b small v i =
    sound_places c s at ∙ rw (← a, le-leb messages c.peer_message_burst few, ← b, le-leb size c.peer_message_burst_bytes small, ← v, ← i)

pub returns-then-violations-gt4294967295 : goal.returns-then-violations-gt4294967295
returns-then-violations-gt4294967295 c =
    let a = c.args in
    let left = counts_decide a.config a.table.now a.at c.get_u64.ensures c.if-get_u64-config.false c.get_u64-else-get_u64-config.ensures c.if-get_u64-config-2.false c.get_u64-violations.ensures c.get_u64-invalid.ensures in
    ⊎_elim
    (λ w. sym (left ∙ rw (lt-leb c.get_u64-violations.result 4294967295 w)))
    (λ w. sym (left ∙ rw (le-leb c.get_u64-violations.result 4294967295 w.0, lt-leb c.get_u64-invalid.result 4294967295 w.1)))
    c.then-violations-gt4294967295.either

pub returns : goal.returns
returns c =
    let a = c.args in
    let left = counts_decide a.config a.table.now a.at c.get_u64.ensures c.if-get_u64-config.false c.get_u64-else-get_u64-config.ensures c.if-get_u64-config-2.false c.get_u64-violations.ensures c.get_u64-invalid.ensures in
    c.ban_sound.ensures
    ∙ sym (left ∙ rw (
      le-leb c.get_u64-violations.result 4294967295 c.if-violations-gt4294967295.false,
      le-leb c.get_u64-invalid.result 4294967295 c.if-invalid-gt4294967295.false,
    ))
