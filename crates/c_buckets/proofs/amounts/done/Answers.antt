-- `amounts::done` meets its contract: operation by operation. Assumes nothing.
use Rattle.std.proofs.Common.{rules}
use Rattle.amount.specs.AmountLaws.{Whole}
use Rattle.amount.specs.AmountOfLaws.{is_amount_of}
use Rattle.c_buckets.proofs.amounts.done.Goals as goal

pub returns-in-FromU64 : goal.returns-in-FromU64
returns-in-FromU64 c = let w : Whole c.from_u64.result = record { four = search rules; fit = λ i. search rules } in
    rw c.in-FromU64.is (rw (c.plain.ensures, is_amount_of w c.from_u64.ensures))

pub returns-in-Lesser : goal.returns-in-Lesser
returns-in-Lesser c = let w : Whole c.lesser.result = record { four = search rules; fit = λ i. search rules } in
    rw c.in-Lesser.is (rw (c.plain-in-Lesser.ensures, is_amount_of w c.lesser.ensures))

pub returns-in-SaturatingAdd : goal.returns-in-SaturatingAdd
returns-in-SaturatingAdd c = let w : Whole c.saturating_add.result = record { four = search rules; fit = λ i. search rules } in
    rw c.in-SaturatingAdd.is (rw (c.plain-in-SaturatingAdd.ensures, is_amount_of w c.saturating_add.ensures))

pub returns-in-SaturatingSub : goal.returns-in-SaturatingSub
returns-in-SaturatingSub c = let w : Whole c.saturating_sub.result = record { four = search rules; fit = λ i. search rules } in
    rw c.in-SaturatingSub.is (rw (c.plain-in-SaturatingSub.ensures, is_amount_of w c.saturating_sub.ensures))

pub returns-in-Deficit : goal.returns-in-Deficit
returns-in-Deficit c = let w : Whole c.deficit.result = record { four = search rules; fit = λ i. search rules } in
    rw c.in-Deficit.is (rw (c.plain-in-Deficit.ensures, is_amount_of w c.deficit.ensures))

pub returns-in-ProductPerThousand : goal.returns-in-ProductPerThousand
returns-in-ProductPerThousand c = let w : Whole c.product_over.result = record { four = search rules; fit = λ i. search rules } in
    rw c.in-ProductPerThousand.is (rw (c.plain-in-ProductPerThousand.ensures, is_amount_of w c.product_over.ensures))

pub returns-in-TimesThousand : goal.returns-in-TimesThousand
returns-in-TimesThousand c = let w : Whole c.times.result = record { four = search rules; fit = λ i. search rules } in
    rw c.in-TimesThousand.is (rw (c.plain-in-TimesThousand.ensures, is_amount_of w c.times.ensures))
