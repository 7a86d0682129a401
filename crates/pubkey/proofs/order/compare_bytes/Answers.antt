-- `pubkey::order::compare_bytes` meets its contract.
use Rattle.std.proofs.Common.{sym, ◌∙◌, ◌+◌, drop, arith}
use Rattle.pubkey.specs.Order.{compare_bytes}
use Rattle.pubkey.proofs.StdOrder.{by_fronts, by_byte, by_length, decided, undecided}
use Rattle.pubkey.proofs.order.compare_bytes.Goals as goal

pub returns-then-is_ne : goal.returns-then-is_ne
returns-then-is_ne c =
    let a = c.args.a.now in
    let b = c.args.b.now in
    let i = c.loop-i.i in
    let o = c.cmp-fronts.result in
    let turn = by_fronts 8 a b i c.front_at.result c.front_at-in-loop-i.result o c.front_at.ensures c.front_at-in-loop-i.ensures c.cmp-fronts.ensures (λ k. (c.type_inv.a k).fits) (λ k. (c.type_inv.b k).fits) (omega arith) (omega arith) in
    sym (c.loop-i.invariant.1 ∙ turn ∙ decided o (compare_bytes (drop (i + 8) a) (drop (i + 8) b)) (sym c.if-is_ne.ensures))

pub loop-i-preserved : goal.loop-i-preserved
loop-i-preserved c =
    let a = c.args.a.now in
    let b = c.args.b.now in
    let i = c.loop-i.i in
    let o = c.cmp-fronts.result in
    let turn = by_fronts 8 a b i c.front_at.result c.front_at-in-loop-i.result o c.front_at.ensures c.front_at-in-loop-i.ensures c.cmp-fronts.ensures (λ k. (c.type_inv.a k).fits) (λ k. (c.type_inv.b k).fits) (omega arith) (omega arith) in
    (omega arith, c.loop-i.invariant.1 ∙ turn ∙ undecided o (compare_bytes (drop (i + 8) a) (drop (i + 8) b)) (sym c.if-is_ne.ensures))

pub returns-then-is_ne-2 : goal.returns-then-is_ne-2
returns-then-is_ne-2 c =
    let a = c.args.a.now in
    let b = c.args.b.now in
    let k = c.loop-k.k in
    let o = c.cmp-bytes.result in
    sym (c.loop-k.invariant.1 ∙ by_byte a b k o c.cmp-bytes.ensures (omega arith) (omega arith) ∙ decided o (compare_bytes (drop (k + 1) a) (drop (k + 1) b)) (sym c.if-is_ne-2.ensures))

pub loop-k-preserved : goal.loop-k-preserved
loop-k-preserved c =
    let a = c.args.a.now in
    let b = c.args.b.now in
    let k = c.loop-k.k in
    let o = c.cmp-bytes.result in
    (omega arith, c.loop-k.invariant.1 ∙ by_byte a b k o c.cmp-bytes.ensures (omega arith) (omega arith) ∙ undecided o (compare_bytes (drop (k + 1) a) (drop (k + 1) b)) (sym c.if-is_ne-2.ensures))

pub returns : goal.returns
returns c =
    let h = c.loop-k.invariant in
    sym (h.1 ∙ by_length c.args.a.now c.args.b.now c.loop-k.k c.cmp.result c.cmp.ensures (omega arith))
