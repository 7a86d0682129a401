-- `kind::sought` meets its contract. Assumes nothing.
use Rattle.std.proofs.Common.{sym, ◌∙◌, ◌≡◌, ◌≤◌, ◌*◌, ℕ, List, length, arith}
use mathlib.Core.Logic.{inl, inr}
use Rattle.lent_bytes.specs.LentBytes.{Bytes}
use Rattle.table.specs.Memory.{Layout}
use Rattle.table.specs.MemoryLaws.{Faithful}
use Rattle.table_laws.specs.Walk.{Walkable}
use Rattle.table_laws.specs.WalkLaws.{walk_begins, walk_breaks_rule, walk_breaks_order, walk_goes_on, walk_ends}
use Rattle.table_laws.specs.RawLaws.{place_raw}
use Rattle.keyed_rows.proofs.kind.sought.Goals as goal
use Rattle.keyed_rows.proofs.kind.sought.Goals.{then-own-key_front, else-own-key_front}

-- what the walk stands on
ground : {A : Type 0} {L : Layout A} {Good : A → Type 0} → Faithful L Good → (w k : ℕ) (s : List ℕ) (n : ℕ) (key : List ℕ) → w ≡ L.width → k ≡ L.key_width → 8 ≤ k
    → length key ≡ k → w * n ≤ length s → Bytes s → Bytes key → Walkable L 8 s n key
ground ok w k s n key wide narrow front long fits memory bytes =
    record {
      key_fits = ok.key_fits;
      front_fits = omega arith;
      rows_fit = rw (← wide) fits;
      memory_bytes = memory;
      key_bytes_lem = bytes;
      key_length = long ∙ narrow;
    }

pub loop-i-init : goal.loop-i-init
loop-i-init g c = let a = c.args in
    walk_begins g.K.RowKind.layout (g.K.RowKind.sound a.kind) 8 a.table.now a.count a.key.now 0

pub returns-then-not-is_sound_at : goal.returns-then-not-is_sound_at
returns-then-not-is_sound_at g c =
    let a = c.args in
    let k = g.met.K.RowKind in
    let on = ground k.faithful _ _ a.table.now a.count a.key.now k.width_is k.key_width_is k.key_bound c.requires.key_len c.requires.count_in_bounds (λ i. (c.type_inv.table i).fits) (λ i. (c.type_inv.key i).fits) in
    let judged = rw (c.WIDTH.ensures ∙ k.width_is, k.width_is) at c.is_sound_at.ensures in
    walk_breaks_rule g.K.RowKind.layout (g.K.RowKind.sound a.kind) 8 a.table.now a.count a.key.now on c.loop-i.i c.loop-i.last c.loop-i.place c.loop-i.invariant (omega arith) (sym judged ∙ c.if-not-is_sound_at.true)

pub returns-then-not-in_order : goal.returns-then-not-in_order
returns-then-not-in_order g c =
    let a = c.args in
    let k = g.met.K.RowKind in
    let on = ground k.faithful _ _ a.table.now a.count a.key.now k.width_is k.key_width_is k.key_bound c.requires.key_len c.requires.count_in_bounds (λ i. (c.type_inv.table i).fits) (λ i. (c.type_inv.key i).fits) in
    let ordered = rw (c.WIDTH-in-loop-i.ensures ∙ k.width_is, c.KEY_WIDTH.ensures ∙ k.key_width_is) at c.in_order.ensures in
    walk_breaks_order g.K.RowKind.layout (g.K.RowKind.sound a.kind) 8 a.table.now a.count a.key.now on c.loop-i.i c.loop-i.last c.loop-i.place c.loop-i.invariant (omega arith) (sym ordered ∙ c.if-not-in_order.true)

pub loop-i-preserved : goal.loop-i-preserved
loop-i-preserved g c =
    let a = c.args in
    let k = g.met.K.RowKind in
    let on = ground k.faithful _ _ a.table.now a.count a.key.now k.width_is k.key_width_is k.key_bound c.requires.key_len c.requires.count_in_bounds (λ i. (c.type_inv.table i).fits) (λ i. (c.type_inv.key i).fits) in
    let judged = rw (c.WIDTH.ensures ∙ k.width_is, k.width_is) at c.is_sound_at.ensures in
    let ordered = rw (c.WIDTH-in-loop-i.ensures ∙ k.width_is, c.KEY_WIDTH.ensures ∙ k.key_width_is) at c.in_order.ensures in
    let own = rw (c.WIDTH.ensures ∙ k.width_is) at c.front_at-own.ensures in
    walk_goes_on g.K.RowKind.layout (g.K.RowKind.sound a.kind) 8 a.table.now a.count a.key.now on c.loop-i.i c.loop-i.last c.loop-i.place c.loop-i.invariant (omega arith)
    (sym judged ∙ c.if-not-is_sound_at.false)
    (sym ordered ∙ c.if-not-in_order.false)
    c.front_at-own.result c.if-own-key_front.place own
    (elim c.if-own-key_front.branch [
      | then-own-key_front w ↦ inl (omega (arith, c.front_at-key_front.ensures, own, w.if-own-key_front.true), w.place-is)
      | else-own-key_front w ↦ inr w.place-is
    ])

pub returns : goal.returns
returns g c =
    let a = c.args in
    let k = g.met.K.RowKind in
    let on = ground k.faithful _ _ a.table.now a.count a.key.now k.width_is k.key_width_is k.key_bound c.requires.key_len c.requires.count_in_bounds (λ i. (c.type_inv.table i).fits) (λ i. (c.type_inv.key i).fits) in
    let placed = rw (c.WIDTH-2.ensures ∙ k.width_is) at c.place_from.ensures in
    walk_ends g.K.RowKind.layout (g.K.RowKind.sound a.kind) 8 a.table.now a.count a.key.now on c.loop-i.i c.loop-i.last c.loop-i.place c.loop-i.invariant (omega arith)
    (place_raw g.K.RowKind.layout a.table.now a.count a.key.now (c.requires.key_len ∙ k.key_width_is) c.loop-i.place c.loop-i.place placed)
