-- Laws of the walk over a snapshot's rows. Assumes nothing.
use Rattle.std.specs.Prelude.{◌≡◌, Bool, ◌&&◌, true, false, List, ◌++◌, ℕ, ◌+◌, ◌-◌, ◌*◌, ◌%◌, ◌≤◌, ◌<◌, leb, eqb, get_or, drop, take}
use Rattle.std.proofs.Math.Path.{refl}
use Rattle.std.proofs.Common.{sym, ap, ◌∙◌, append-nil, drop-drop, drop_of_length-le}
use Rattle.std.specs.Prelude.{Result, Ok, Err, Option, Some, None, is_ok}
use Rattle.std.proofs.Math.Logic.{◌⊎◌, inl, inr}
use Rattle.refusal.specs.declared.Refusal.{Refusal}
use Rattle.peer_settings.specs.declared.config.PeerMessagePolicyConfig.{PeerMessagePolicyConfig}
use native.Mathlib.Omega.{arith}
use borrow.Author.Tests.{leb-true, le-leb, lt-leb, eqb-true, eq-eqb, ne_eqb}
use Rattle.std.proofs.Math.ListN.{length}
use Rattle.truths.specs.TruthLaws.{both_parts}
use Rattle.lent_bytes.specs.LentBytes.{part, put}
use Rattle.table.specs.Table.{Row, row_under}
use Rattle.table.specs.Memory.{row_of, rows}
use Rattle.table.specs.MemoryLaws.{get_d_rows, key_row_of}
use Rattle.peer_state.specs.declared.entry.PeerMessagePolicyEntry.{PeerMessagePolicyEntry}
use Rattle.peer_rows.specs.Rows.{row_width, peer_layout, row_from}
use Rattle.peer_rows.specs.RowsLaws.{peer_faithful}
use Rattle.snapshot_layout.specs.Layout.{place_from, place_of}
use Rattle.snapshot.specs.Form.{first, rows_place, rows_in}
use Rattle.snapshot.specs.Snapshot.{was_read, settings_in, layout_right, kind_place, part_place}
use Rattle.snapshot.specs.FormLaws.{first_fits}
use Rattle.snapshot.specs.JudgeLaws.{read_length}
use Rattle.snapshot_reader.specs.Reader.{given_at, row_place, stands, step_at}

-- bytes written over all of a list are what is left
pub put_all : (s b : List ℕ) → length b ≡ length s → put s 0 b ≡ b
unfolding put
put_all s b h =
    let end : length s ≤ 0 + length b = omega arith in
    ap (λ (l : List ℕ). b ++ l) (drop_of_length-le s end) ∙ append-nil b

-- ════ The layout ════

-- the rows have a place just where the layout is right
place_read : (z : List ℕ) (x : Option PeerMessagePolicyConfig) → (a e : ℕ) → kind_place first z 3 x ≡ Ok (a, e) → was_read x ≡ true
place_read z None a e h = let no : ◌≡◌ {A = ℕ} 0 1 = cc in absurd (omega arith)
place_read z (Some c) a e h = refl

place_unread : (z : List ℕ) (x : Option PeerMessagePolicyConfig) → (n : Refusal) → kind_place first z 3 x ≡ Err n → was_read x ≡ false
unfolding place_of place_from
place_unread z None n h = refl
place_unread z (Some c) n h = let no : ◌≡◌ {A = ℕ} 0 1 = cc in absurd (omega arith)

pub opens_right : (z : List ℕ) (a e : ℕ) → part_place first z 3 ≡ Ok (a, e) → layout_right first z ≡ true
unfolding part_place
opens_right z a e h = place_read z (settings_in first z) a e h

pub opens_wrong : (z : List ℕ) (n : Refusal) → part_place first z 3 ≡ Err n → layout_right first z ≡ false
unfolding part_place
opens_wrong z n h = place_unread z (settings_in first z) n h

-- asking for the rows says whether the layout is right
pub opens_told : (z : List ℕ) → is_ok (part_place first z 3) ≡ layout_right first z
opens_told z = go (part_place first z 3) refl
  where
    go : (r : Result (ℕ × ℕ) Refusal) → part_place first z 3 ≡ r → is_ok r ≡ layout_right first z
    go (Ok (a, e)) h = sym (opens_right z a e h)
    go (Err n) h = sym (opens_wrong z n h)

right_length : (z : List ℕ) (x : Option PeerMessagePolicyConfig) → settings_in first z ≡ x → was_read x ≡ true → length z ≡ rows_place first + row_width * rows_in first z
right_length z None s h = let no : ◌≡◌ {A = ℕ} 0 1 = cc in absurd (omega arith)
right_length z (Some c) s h = omega (arith, read_length first z c s first_fits)

-- ════ The place ════

module _ (z : List ℕ) (at : ℕ) where
  -- the layout is wrong
  pub stands_wrong : layout_right first z ≡ false → stands z at ≡ false
  unfolding stands
  stands_wrong h = rw h

  module _ (h : layout_right first z ≡ true) where
    -- the place decides
    pub stands_place : stands z at ≡ row_place z at
    unfolding stands
    stands_place = rw h

    pub stands_before : at < rows_place first → stands z at ≡ false
    stands_before l = stands_place ∙ rw (lt-leb (rows_place first) at l)

    module _ (f : rows_place first ≤ at) where
      pub stands_behind : length z < at → stands z at ≡ false
      stands_behind l = stands_place ∙ rw (le-leb (rows_place first) at f, lt-leb at (length z) l)

      pub stands_whole : at ≤ length z → stands z at ≡ eqb ((at - rows_place first) % row_width) 0
      stands_whole l = stands_place ∙ rw (le-leb (rows_place first) at f, le-leb at (length z) l)

  -- a test that fails: of the layout, of the first row's place, of the end
  pub stands_not : (layout_right first z ≡ false) ⊎ ((at < rows_place first) ⊎ (length z < at)) → stands z at ≡ false
  unfolding stands
  stands_not (inl h) = stands_wrong h
  stands_not (inr (inl l)) = go (layout_right first z)
    where
      go : (b : Bool) → b && row_place z at ≡ false
      go true = rw (lt-leb (rows_place first) at l)
      go false = refl
  stands_not (inr (inr l)) = go (layout_right first z) (leb (rows_place first) at)
    where
      go : (b f : Bool) → b && (f && (leb at (length z) && eqb ((at - rows_place first) % row_width) 0)) ≡ false
      go true true = rw (lt-leb at (length z) l)
      go true false = refl
      go false f = refl

  -- a place that is not the end has a row behind it
  pub row_fits : stands z at ≡ true → (at ≡ length z → ⊥) → at + row_width ≤ length z
  unfolding stands
  row_fits h n =
      let right = both_parts (layout_right first z) _ h in
      let low = both_parts (leb (rows_place first) at) _ right.1 in
      let high = both_parts (leb at (length z)) _ low.1 in
      let l : rows_place first ≤ at = leb-true (rows_place first) at low.0 in
      let u : at ≤ length z = leb-true at (length z) high.0 in
      let m : (at - rows_place first) % row_width ≡ 0 = eqb-true ((at - rows_place first) % row_width) 0 high.1 in
      let size : length z ≡ rows_place first + row_width * rows_in first z = right_length z (settings_in first z) refl right.0 in
      omega arith

  -- ════ The step ════

  pub step_refused : stands z at ≡ false → step_at z at ≡ Err Refusal.WrongLayout
  unfolding step_at
  step_refused h = rw h

  pub step_done : stands z at ≡ true → at ≡ length z → step_at z at ≡ Ok None
  unfolding step_at
  step_done h e = rw (h, eq-eqb at (length z) e)

  pub step_given : stands z at ≡ true → (at ≡ length z → ⊥) → step_at z at ≡ Ok (Some (record { row = given_at z at; at = at + row_width }))
  unfolding step_at
  step_given h e = rw (h, ne_eqb at (length z) e)

-- ════ The walk ════

-- the place of the k-th row
abbrev pub place_of_row : ℕ → ℕ
place_of_row k = rows_place first + row_width * k

module _ (z : List ℕ) (h : layout_right first z ≡ true) (k : ℕ) where
  size_here : length z ≡ rows_place first + row_width * rows_in first z
  size_here = right_length z (settings_in first z) refl h

  -- each row up to the last, and the end, are places of the walk
  place_here : k ≤ rows_in first z → stands z (place_of_row k) ≡ true
  place_here l =
      stands_whole z (place_of_row k) h (omega arith) (omega (arith, size_here)) ∙ eq-eqb ((place_of_row k - rows_place first) % row_width) 0 (omega arith)

  -- the walk gives each row once: the k-th, and then goes on to the one behind it
  pub walk_row : k < rows_in first z → step_at z (place_of_row k) ≡ Ok (Some (record { row = given_at z (place_of_row k); at = place_of_row (k + 1) }))
  walk_row l =
      step_given z (place_of_row k) (place_here (omega arith)) (λ e. omega (arith, size_here))
      ∙ ap (λ (n : ℕ). Ok (Some (record { row = given_at z (place_of_row k); at = n }))) (omega arith)

-- behind the last row it is done
pub walk_done : (z : List ℕ) → layout_right first z ≡ true → step_at z (place_of_row (rows_in first z)) ≡ Ok None
walk_done z h =
    step_done z (place_of_row (rows_in first z)) (place_here z h (rows_in first z) (omega arith)) (sym (size_here z h (rows_in first z)))

-- what the walk gives at the place of the k-th row is the k-th of the rows that a policy reads there
pub walk_gives : (z : List ℕ) (n k : ℕ) (d : Row PeerMessagePolicyEntry) → k < n
    → get_or (rows peer_layout (drop (rows_place first) z) n) k d ≡ row_under (given_at z (place_of_row k)).key.bytes (given_at z (place_of_row k)).entry
unfolding part
walk_gives z n k d h =
    get_d_rows peer_layout (drop (rows_place first) z) n k d h
    ∙ ap (λ (w : List ℕ). row_of peer_layout (take row_width w)) (drop-drop (row_width * k) (rows_place first) z)
    ∙ ap (λ (x : List ℕ). row_under x (row_from z (place_of_row k)).entry) (key_row_of peer_faithful z (place_of_row k))
