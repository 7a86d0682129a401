-- `kind::gather` meets its contract: by the closure's answer the row is kept or not. Assumes nothing.
use Rattle.std.proofs.Common.{◌≡◌, ◌≤◌, ◌*◌, ◌∙◌, true, false, sym, ap, refl, arith, rules, length}
use Rattle.lent_bytes.specs.LentBytes.{part}
use Rattle.table.specs.Memory.{row_of, rows}
use Rattle.table_laws.specs.KeepLaws.{kept_begins, plain_step, plain_ends}
use Rattle.keyed_rows.proofs.kind.gather.Goals as goal
use Rattle.keyed_rows.proofs.kind.gather.Goals.{then-passes, else-passes}

pub loop-i-init : goal.loop-i-init
loop-i-init g c =
    let a = c.args in
    record {
      callable = c.requires.passes_callable;
      few = omega arith;
      size = refl;
      kept_so = λ test agrees. kept_begins g.K.RowKind.layout (λ r. test r.entry) a.table.now (rows g.K.RowKind.layout a.table.now a.count);
    }

pub loop-i-preserved : goal.loop-i-preserved
loop-i-preserved g c =
    let a = c.args in
    let k = g.met.K.RowKind in
    let L = g.K.RowKind.layout in
    let turn = c.loop-i in
    let fits : L.width * a.count ≤ length a.table.now = rw (← k.width_is) c.requires.count_in_bounds in
    let read = rw (c.WIDTH.ensures ∙ k.width_is, k.width_is) at c.entry_at.ensures in
    record {
      callable = turn.invariant.callable;
      few = elim c.if-passes.branch [
        | then-passes w ↦ omega (arith, w.kept-is, turn.invariant.few)
        | else-passes w ↦ omega (arith, w.kept-is, turn.invariant.few)
      ];
      size = c.if-passes.auto.table ∙ turn.invariant.size;
      kept_so = λ test agrees.
          let row = row_of L (part turn.table (L.width * turn.i) L.width) in
          let verdict : c.passes.result ≡ test row.entry = agrees _ _ c.passes.ensures ∙ ap test read in
          let step = plain_step k.faithful (λ r. test r.entry) a.table.now a.count (λ i. search rules) fits (omega arith) (turn.invariant.kept_so test agrees) c.if-passes.table c.if-passes.kept in
          elim c.if-passes.branch [
            | then-passes w ↦
                let passed : test row.entry ≡ true = sym verdict ∙ w.if-passes.true in
                step (rw passed (w.table-is ∙ rw (w.WIDTH-then-passes.ensures ∙ k.width_is) at w.keep_row.ensures)) (rw passed w.kept-is)
            | else-passes w ↦
                let failed : test row.entry ≡ false = sym verdict ∙ w.if-passes.false in
                step (rw failed w.table-is) (rw failed w.kept-is)
          ];
    }

pub returns-clause-gathered : goal.returns-clause-gathered
returns-clause-gathered g c =
    let a = c.args in
    let k = g.met.K.RowKind in
    let L = g.K.RowKind.layout in
    let fits : L.width * a.count ≤ length a.table.now = rw (← k.width_is) c.requires.count_in_bounds in
    λ test agrees.
    plain_ends k.faithful (λ r. test r.entry) a.table.now a.count (λ i. search rules) fits (omega arith) (c.loop-i.invariant.kept_so test agrees)
