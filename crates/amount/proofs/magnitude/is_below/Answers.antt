-- `amount::magnitude::is_below` meets its contract. The high halves decide, and the low ones where they are equal. Assumes nothing.
use Rattle.std.proofs.Common.{◌≡◌, refl, sym, ◌∙◌, ◌^◌, ◌<◌, Some, ltb, le-ltb, lt-ltb, arith}
use Rattle.std.proofs.lemmas.Cmp.{ranked}
use Rattle.std.specs.Ordering.{nat_cmp, partial_ordering_then, is_some_and, is_lt}
use Rattle.std.specs.declared.cmp.Ordering.{Ordering}
use Rattle.std.specs.declared.cmp.Ordering.TheVariants.{Less, Equal, Greater}
use Rattle.amount.specs.declared.magnitude.Magnitude.{Magnitude}
use Rattle.amount.specs.Private.{size}
use Rattle.amount.proofs.MagnitudeLaws.{low_decides, high_decides}
use Rattle.amount.proofs.magnitude.is_below.Goals as goal

below : (a b : Magnitude) (high low : Ordering) → a.low < 2 ^ 64 → b.low < 2 ^ 64 → high ≡ nat_cmp a.high b.high → low ≡ nat_cmp a.low b.low
    → is_some_and is_lt (partial_ordering_then (Some high) (Some low)) ≡ ltb (size a) (size b)
below a b Less low l m h k =
    let r = ranked a.high b.high Less h in
    sym (lt-ltb a.high b.high r) ∙ high_decides a b l m (λ e. omega (arith, r))
below a b Greater low l m h k =
    let r = ranked a.high b.high Greater h in
    sym (le-ltb a.high b.high (omega (arith, r))) ∙ high_decides a b l m (λ e. omega (arith, r))
below a b Equal Less l m h k =
    sym (lt-ltb a.low b.low (ranked a.low b.low Less k)) ∙ low_decides a b (ranked a.high b.high Equal h)
below a b Equal Equal l m h k =
    let r = ranked a.low b.low Equal k in
    sym (le-ltb a.low b.low (omega (arith, r))) ∙ low_decides a b (ranked a.high b.high Equal h)
below a b Equal Greater l m h k =
    let r = ranked a.low b.low Greater k in
    sym (le-ltb a.low b.low (omega (arith, r))) ∙ low_decides a b (ranked a.high b.high Equal h)

pub returns : goal.returns
returns c =
    let a = c.args.a in
    let b = c.args.b in
    c.lt.ensures ∙ below a b (nat_cmp a.high b.high) (nat_cmp a.low b.low) (omega arith) (omega arith) refl refl
