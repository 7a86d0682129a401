-- Trails that mirror core calls: each call says and leaves what a core call does, or is refused and leaves the rows. Such a trail is that
-- of its core calls, and has both promises. A view of the policy proves `MirrorsIf` of each of its calls; the rest is here.
-- Assumes nothing.
use Rattle.std.specs.Prelude.{◌≡◌, false, List, ℕ, ◌^◌, ◌<◌, ◌≤◌}
use Rattle.std.proofs.Common.{sym, ap, subst, ◌∙◌}
use Rattle.std.proofs.Math.Option.{Option, none, some}
use Rattle.std.specs.Prelude.{Result}
use Rattle.peer_state.specs.declared.ingress.NotReserved.{NotReserved}
use Rattle.peer_state.specs.declared.ingress.FiberIngressBudget.{FiberIngressBudget}
use Rattle.pubkey.specs.declared.Pubkey.{Pubkey}
use Rattle.refusal.specs.Refusal.{Said, gives, refused}
use Rattle.table.specs.Table.{look}
use Rattle.peer_settings.specs.declared.config.PeerMessagePolicyConfig.{PeerMessagePolicyConfig}
use Rattle.peer_settings.specs.Fits.{ConfigFits}
use Rattle.peer_rows.specs.Rows.{Peers}
use Rattle.peer_message_policy.specs.Policy
use Rattle.peer_message_policy.specs.Calls.{changed_rows}
use Rattle.promises.specs.Core.{change_in, says_in, after, core_latest, Timely, SizeFits, Sized, trail_of}
use Rattle.promises.specs.Trails.{CoreCall, admit, Event, seen, seen_if, rows_at, calls_of}
use Rattle.promises.specs.Lives.{log_for, log_in, last_used, ShieldedIn, AtMost, Within, ceiling_says}
use Rattle.promises.proofs.CoreRowLaws.{refused_leaves, seen_rows, trail_rows}
use Rattle.promises.proofs.CoreLaws as CoreLaws

-- ════ One call more ════

-- from rows to rows, a call says and leaves what the core call does
pub record Mirrors (c : PeerMessagePolicyConfig) (call : CoreCall) (rs : Peers) (said : Said) (left : Peers) : Type 0 where
  pub says : said ≡ says_in c call rs
  pub rows : left ≡ changed_rows rs (change_in c call rs)

-- a call that comes to none leaves the rows
abbrev pub MirrorsIf : PeerMessagePolicyConfig → Option CoreCall → Peers → Said → Peers → Type 0
MirrorsIf c none rs said left = left ≡ rs
MirrorsIf c (some call) rs said left = Mirrors c call rs said left

-- a call more on a trail leads to the rows that it left
pub mirrored_rows : (c : PeerMessagePolicyConfig) (core : Option CoreCall) (said : Said) (rs left : Peers) (es : List Event)
    → MirrorsIf c core rs said left → rows_at es ≡ rs → rows_at (seen_if core said left es) ≡ left
mirrored_rows c none said rs left es m leads = leads ∙ sym m
mirrored_rows c (some call) said rs left es m leads =
    seen_rows call said left es
    (λ n e. leads ∙ sym (refused_leaves c rs call (sym m.says ∙ e)) ∙ sym m.rows)

-- a call more on the trail of core calls is the core call more
pub mirrored_trail : (c : PeerMessagePolicyConfig) (core : Option CoreCall) (said : Said) (left : Peers) (es : List Event)
    → es ≡ trail_of c (calls_of es) → MirrorsIf c core (after c (calls_of es)) said left
    → seen_if core said left es ≡ trail_of c (calls_of (seen_if core said left es))
unfolding calls_of trail_of after
mirrored_trail c none said left es e m = e
mirrored_trail c (some call) (refused n) left es e m = e
mirrored_trail c (some call) (gives xs) left es e m =
    let add : Said → Peers → List Event → List Event = λ said rs es. seen call said rs es in
    ap (add (gives xs) left) e
    ∙ ap (λ rs. add (gives xs) rs (trail_of c (calls_of es))) m.rows
    ∙ ap (λ said. add said (changed_rows (after c (calls_of es)) (change_in c call (after c (calls_of es)))) (trail_of c (calls_of es))) m.says

-- the size of a core call, if there is one
abbrev pub SizeFitsIf : Option CoreCall → Type 0
SizeFitsIf none = Unit {0}
SizeFitsIf (some call) = SizeFits call

pub seen_sized : (core : Option CoreCall) (said : Said) (rs : Peers) (es : List Event) → SizeFitsIf core → Sized (calls_of es)
    → Sized (calls_of (seen_if core said rs es))
unfolding Sized calls_of
seen_sized none said rs es h k = k
seen_sized (some call) (gives xs) rs es h k = (h, k)
seen_sized (some call) (refused n) rs es h k = k

-- ════ Both promises ════

module _ {c : PeerMessagePolicyConfig} (fits : ConfigFits c) (k : Pubkey) (es : List Event) (core : es ≡ trail_of c (calls_of es)) (sized : Sized (calls_of es)) (shield : ShieldedIn k es) where
  core_shielded : ShieldedIn k (trail_of c (calls_of es))
  core_shielded = subst (ShieldedIn k) core shield

  -- a peer gets no more than the larger allowance
  pub trail_most : AtMost c (log_in k es)
  trail_most = subst (λ xs. AtMost c (log_in k xs)) (sym core) (CoreLaws.most fits k (calls_of es) sized core_shielded)

  -- a call within the smaller allowance gets the ceiling's answer
  pub trail_least : (rs : Peers) → rows_at es ≡ rs → (size now : ℕ) → size < 2 ^ 64 → last_used (look k.bytes rs) ≤ now
      → Policy.is_banned (look k.bytes rs) now ≡ false → Within c now size (log_for (look k.bytes rs) now (log_in k es)) → (reservation : Result FiberIngressBudget NotReserved)
      → says_in c (admit k size now reservation) rs ≡ ceiling_says reservation
  trail_least rs leads size now size_fits used free within reservation =
      let here : rs ≡ after c (calls_of es) = sym leads ∙ ap rows_at core ∙ trail_rows c (calls_of es) in
      rw here (CoreLaws.least fits k (calls_of es) sized core_shielded size now size_fits (rw here at used) (rw here at free)
      (subst (λ log. Within c now size (log_for (look k.bytes (after c (calls_of es))) now log)) (ap (log_in k) core) (rw here at within)) reservation)

-- where times never go back every peer is shielded, and no entry was last used after the newest call
module _ (c : PeerMessagePolicyConfig) (k : Pubkey) (es : List Event) (core : es ≡ trail_of c (calls_of es)) (timely : Timely (calls_of es)) where
  pub timely_trail : ShieldedIn k es
  timely_trail = subst (ShieldedIn k) (sym core) (CoreLaws.timely_shields c k (calls_of es) timely)

  pub timely_last : last_used (look k.bytes (rows_at es)) ≤ core_latest (calls_of es)
  timely_last = rw (ap rows_at core ∙ trail_rows c (calls_of es)) (CoreLaws.timely_used c k (calls_of es) timely)
