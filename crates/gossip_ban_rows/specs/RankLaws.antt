-- The order in which entries are evicted: the rank is ordered as (is_currently_banned, score, last_updated_ms). Assumes nothing.
use Rattle.std.specs.Prelude.{Bool, true, false, ◌&&◌, ◌||◌, cond, ◌≡◌, ℕ, ◌+◌, ◌*◌, ◌^◌, ◌≤◌, ◌<◌, ltb, eqb}
use Rattle.std.proofs.Math.Bool.{or-false}
use Rattle.std.proofs.Common.{sym, ap, ◌∙◌, mul-le-mul_right, add-mul, one-mul, arith, eq-eqb, ne_eqb, le-ltb}
use Rattle.table_laws.specs.RankLaws.{ranked, ltb_pair}
use Rattle.gossip_ban_rows.specs.declared.entry.GossipBanEntry.{GossipBanEntry}
use Rattle.gossip_ban_rows.specs.Entry.{is_currently_banned}
use Rattle.gossip_ban_rows.specs.Room.{rank}
use Rattle.gossip_ban_rows.specs.Private.{is_lighter}

-- two digits are below the square of their base
two_digits : (base a b : ℕ) → a < base → b < base → ranked base a b < base * base
two_digits base a b h k =
    let next : a + 1 ≤ base = omega arith in
    omega (arith, mul-le-mul_right base next, add-mul a 1 base, one-mul base)

-- three numbers as one, the first the most important
three : (base x a b y c d : ℕ) → a < base → b < base → c < base → d < base
    → ltb (ranked (base * base) x (ranked base a b)) (ranked (base * base) y (ranked base c d))
    ≡ (ltb x y || (eqb x y && (ltb a c || (eqb a c && ltb b d))))
three base x a b y c d h i j k =
    ltb_pair (base * base) x (ranked base a b) y (ranked base c d) (two_digits base a b h i) (two_digits base c d j k)
    ∙ ap (λ (t : Bool). ltb x y || (eqb x y && t)) (ltb_pair base a b c d i k)

-- of two entries the one without a live ban, then that of the smaller score, then that of the older update
abbrev pub goes_before : Bool → GossipBanEntry → Bool → GossipBanEntry → Bool
goes_before true e false f = false
goes_before false e true f = true
goes_before true e true f = is_lighter e f
goes_before false e false f = is_lighter e f

-- where the scores differ, they decide
pub lighter_apart : (e f : GossipBanEntry) → (e.score ≡ f.score → ⊥) → ltb e.score f.score ≡ is_lighter e f
lighter_apart e f h = sym (rw (ne_eqb e.score f.score h) (or-false (ltb e.score f.score)))

-- where they are equal, the updates do
pub lighter_level : (e f : GossipBanEntry) → e.score ≡ f.score → ltb e.last_updated_ms f.last_updated_ms ≡ is_lighter e f
lighter_level e f h = sym (rw (eq-eqb e.score f.score h, le-ltb e.score f.score (omega arith)))

-- entries that a program holds
pub record Ranks (e : GossipBanEntry) : Type 0 where
  pub score_fits : e.score < 2 ^ 64
  pub last_fits : e.last_updated_ms < 2 ^ 64

pub rank_order : (now : ℕ) (e f : GossipBanEntry) → Ranks e → Ranks f
    → ltb (rank now e) (rank now f) ≡ goes_before (is_currently_banned e now) e (is_currently_banned f now) f
unfolding rank
rank_order now e f h k = by (is_currently_banned e now) (is_currently_banned f now)
  where
    ordered : (x y : ℕ) → ltb (x * 2 ^ 128 + (e.score * 2 ^ 64 + e.last_updated_ms)) (y * 2 ^ 128 + (f.score * 2 ^ 64 + f.last_updated_ms))
        ≡ (ltb x y || (eqb x y && is_lighter e f))
    ordered x y =
        three (2 ^ 64) x e.score e.last_updated_ms y f.score f.last_updated_ms h.score_fits h.last_fits k.score_fits k.last_fits

    by : (b c : Bool) → ltb (cond b 1 0 * 2 ^ 128 + (e.score * 2 ^ 64 + e.last_updated_ms)) (cond c 1 0 * 2 ^ 128 + (f.score * 2 ^ 64 + f.last_updated_ms))
        ≡ goes_before b e c f
    by true true = ordered 1 1
    by true false = ordered 1 0
    by false true = ordered 0 1
    by false false = ordered 0 0
