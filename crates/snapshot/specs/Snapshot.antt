-- A peer policy's snapshot: the bytes that are written, what is read from any bytes at all, and what the calls' contracts say of every
-- answer and every lent byte. Definitions only; their laws are in `JudgeLaws`, `ReadLaws`, `WriteLaws` and `PartLaws`.
use Rattle.std.specs.Prelude.{◌≡◌, Bool, true, false, ◌&&◌, cond, List, [], ◌∷◌, ℕ, ◌-◌, ◌*◌, leb, ltb, length, take, drop}
use Rattle.std.specs.Prelude.{Result, Ok, Err, Option, Some, None}
use Rattle.refusal.specs.declared.Refusal.{Refusal}
use Rattle.refusal.specs.declared.Refusal.TheVariants as Refusal
use Rattle.peer_state.specs.declared.ingress.FiberIngressBudget.{FiberIngressBudget}
use Rattle.lent_bytes.specs.LentBytes.{part, put}
use Rattle.refusal.specs.Refusal.{Said, gives, refused, number_of}
use Rattle.peer_settings.specs.declared.config.PeerMessagePolicyConfig.{PeerMessagePolicyConfig}
use Rattle.peer_settings.specs.Config.{limit}
use Rattle.peer_message_policy.specs.declared.policy.PeerMessagePolicy.{PeerMessagePolicy}
use Rattle.peer_message_policy.specs.Policy.{rows_of, policy_sound, long_enough, rows_sound, sound, become}
use Rattle.peer_message_policy.specs.Calls.{Outcome, Meets, refuse}
use Rattle.snapshot_layout.specs.Layout.{Part, snapshot_size, snapshot_of, laid_out, place_of}
use Rattle.snapshot_settings.specs.Settings.{settings_size, settings_bytes, settings_of}
use Rattle.snapshot_settings.specs.Load.{load_size, load_bytes, load_of}
use Rattle.peer_rows.specs.Rows.{row_width}
use Rattle.snapshot.specs.Form.{Form, first, parts, form_slots, settings_place, load_place, rows_place, rows_in}

-- ════ What the answers say ════

-- write says how many bytes it wrote
abbrev pub written_says : Result ℕ Refusal → Said
written_says (Ok n) = gives (n ∷ [])
written_says (Err n) = refused (number_of n)

-- asking for a kind says where its part begins and where it ends
abbrev pub place_says : Result (ℕ × ℕ) Refusal → Said
place_says (Ok (a, e)) = gives (a ∷ e ∷ [])
place_says (Err n) = refused (number_of n)

-- ════ Written ════

-- a policy and its rows as parts: the settings, the load in flight, the rows' bytes as they stand in the table, and the bodies that the
-- form has behind them
unfoldable pub policy_parts : Form → PeerMessagePolicy → List ℕ → List (List ℕ) → List Part
policy_parts f p s behind =
    parts f.kinds (settings_bytes p.config ∷ load_bytes p.ingress ∷ take (row_width * p.rows) s ∷ behind)

-- the snapshot of a policy and the memory lent to it, with these bodies behind the rows
unfoldable pub snapshot_bytes : Form → PeerMessagePolicy → List ℕ → List (List ℕ) → List ℕ
snapshot_bytes f p s behind = snapshot_of (policy_parts f p s behind)

-- how many bytes it takes
abbrev pub snapshot_length : Form → PeerMessagePolicy → ℕ
snapshot_length f p = snapshot_size (form_slots f p.rows)

-- an answer, and what the output holds after it
pub record WriteOutcome : Type 0 where
  pub answer : Result ℕ Refusal
  pub output : List ℕ

-- write, in the first form: 3 for an unsound policy or table, then 1 for an output that is too short
unfoldable pub write_outcome : PeerMessagePolicy → List ℕ → List ℕ → WriteOutcome
write_outcome p s out =
    cond (sound p s)
    (cond (leb (snapshot_length first p) (length out))
    (record { answer = Ok (snapshot_length first p); output = put out 0 (snapshot_bytes first p s []) })
    (record { answer = Err Refusal.TooShort; output = out }))
    (record { answer = Err Refusal.Unsound; output = out })

-- a call of write gave this answer and left this output
pub record WriteMeets (p : PeerMessagePolicy) (s before : List ℕ) (r : Result ℕ Refusal) (after : List ℕ) : Type 0 where
  pub answers : r ≡ (write_outcome p s before).answer
  pub leaves : after ≡ (write_outcome p s before).output

-- ════ Read ════

-- whether settings were read
abbrev pub was_read : Option PeerMessagePolicyConfig → Bool
was_read (Some c) = true
was_read None = false

-- the place of a part that the contents tell of
abbrev pub placed : Option (ℕ × ℕ) → Result (ℕ × ℕ) Refusal
placed (Some (a, e)) = Ok (a, e)
placed None = Err Refusal.WrongLayout

-- the bytes at a place, or none
abbrev pub part_of : List ℕ → Result (ℕ × ℕ) Refusal → List ℕ
part_of z (Ok (a, e)) = part z a (e - a)
part_of z (Err n) = []

-- how many places of the table a policy that was read takes
abbrev pub limit_of : Result PeerMessagePolicy Refusal → ℕ
limit_of (Ok p) = limit p.config
limit_of (Err n) = 0

module _ (f : Form) where
  -- the settings of bytes that are laid out in this form
  unfoldable pub settings_in : List ℕ → Option PeerMessagePolicyConfig
  settings_in z =
      cond (laid_out z (form_slots f (rows_in f z))) (settings_of (part z (settings_place f) settings_size)) None

  -- the layout is right: settings out of their range make it wrong
  abbrev pub layout_right : List ℕ → Bool
  layout_right z = was_read (settings_in z)

  -- a record with the rows that stand in the snapshot: 3 where they are unsound
  unfoldable pub record_in : List ℕ → PeerMessagePolicy → Result PeerMessagePolicy Refusal
  record_in z p = cond (policy_sound p && rows_sound p (drop (rows_place f) z)) (Ok p) (Err Refusal.Unsound)

  -- settings with the load that was read: 3 where its messages are out of their range
  abbrev pub load_in : List ℕ → PeerMessagePolicyConfig → Option FiberIngressBudget → Result PeerMessagePolicy Refusal
  load_in z c None = Err Refusal.Unsound
  load_in z c (Some i) = record_in z (record { config = c; ingress = i; rows = rows_in f z })

  -- the settings that were read: 6 where there are none, 2 where their limit is above 1,024
  abbrev pub config_in : List ℕ → Option PeerMessagePolicyConfig → Result PeerMessagePolicy Refusal
  config_in z None = Err Refusal.WrongLayout
  config_in z (Some c) =
      cond (ltb 1024 c.max_tracked_peers) (Err Refusal.LimitTooLarge)
      (load_in z c (load_of (part z (load_place f) load_size)))

  -- the policy that the snapshot describes, judged by the snapshot alone: 6, 2, 3
  unfoldable pub policy_in : List ℕ → Result PeerMessagePolicy Refusal
  policy_in z = config_in z (settings_in z)

  -- a policy with its rows takes the table, or 1 where that is too short for its limit
  abbrev pub restored : List ℕ → List ℕ → Result PeerMessagePolicy Refusal → Outcome (Result PeerMessagePolicy Refusal)
  restored z before (Ok p) =
      cond (long_enough p.config before)
      (record { answer = Ok p; change = become (rows_of p (drop (rows_place f) z)) })
      (refuse (Err Refusal.TooShort))
  restored z before (Err n) = refuse (Err n)

  -- read: 6, 2, 3, then 1
  unfoldable pub read_outcome : List ℕ → List ℕ → Outcome (Result PeerMessagePolicy Refusal)
  read_outcome z before = restored z before (policy_in z)

  -- the rows stand at the beginning of the table, zeros in the limit's other places, and the bytes further on stay
  unfoldable pub ReadMeets : List ℕ → List ℕ → Result PeerMessagePolicy Refusal → List ℕ → Type 0
  ReadMeets z before r after = Meets r before after (limit_of (policy_in z)) (read_outcome z before)

  -- where the part of a kind stands: 6 where no settings are read or there is no such kind
  abbrev pub kind_place : List ℕ → ℕ → Option PeerMessagePolicyConfig → Result (ℕ × ℕ) Refusal
  kind_place z kind None = Err Refusal.WrongLayout
  kind_place z kind (Some c) = placed (place_of kind (form_slots f (rows_in f z)))

  -- where the part of a kind stands in a snapshot, or 6
  unfoldable pub part_place : List ℕ → ℕ → Result (ℕ × ℕ) Refusal
  part_place z kind = kind_place z kind (settings_in z)
