-- Amounts behind the C boundary. Definitions only.
use Rattle.std.specs.Prelude.{◌≡◌, cond, List, ℕ, ◌-◌, ◌*◌, ◌/◌, ◌%◌, ◌^◌, min, eqb, ℤ, pos, ◌+ℤ◌, ◌-ℤ◌}
use Rattle.std.specs.Int.Signed.{lt_z}
use Rattle.amount.specs.declared.Amount.{Amount}
use Rattle.amount_limbs.specs.Limbs.{saturated_unsigned, ceil_div}
use Rattle.amount.specs.Amount.{amount_of, value, saturated, natural, lesser, is_i128}
use Rattle.bucket_bytes.specs.ByteBucket.{ms_per_sec}
use Rattle.c_terms.specs.declared.reply.Reply.{Reply}
use Rattle.c_buckets.specs.declared.amounts.AmountOperation.{AmountOperation}
use Rattle.c_buckets.specs.declared.amounts.AmountOperation.TheVariants.{FromU64, IsNegative, IsBelow, IsAbove, Lesser, SaturatingAdd, SaturatingSub, Deficit, ToU64, IsI128, ProductPerThousand, TimesThousand, DivCeilLow, Unknown}
use Rattle.c_buckets.specs.Handed.{AmountDone}
use Rattle.c_terms.specs.Answers.{reply, truth_reply, kept}
use Rattle.c_terms.specs.AmountWords.{amount_of_words, amount_words}

-- the operation of a number
abbrev pub amount_operation : ℕ → AmountOperation
amount_operation n =
    cond (eqb n 0) FromU64
    (cond (eqb n 1) IsNegative
    (cond (eqb n 2) IsBelow
    (cond (eqb n 3) IsAbove
    (cond (eqb n 4) Lesser
    (cond (eqb n 5) SaturatingAdd
    (cond (eqb n 6) SaturatingSub
    (cond (eqb n 7) Deficit
    (cond (eqb n 8) ToU64
    (cond (eqb n 9) IsI128
    (cond (eqb n 10) ProductPerThousand (cond (eqb n 11) TimesThousand (cond (eqb n 12) DivCeilLow Unknown))))))))))))

-- a quotient rounded up, its low 64 bits; by 0 there is none
abbrev pub quotient_reply : Amount → ℕ → Reply
quotient_reply a d = cond (eqb d 0) (reply 0 0) (reply 261 (ceil_div (natural (value a)) d % 2 ^ 64))

abbrev pub amount_says : Amount → Reply → AmountDone
amount_says a s = record { state = a; answer = s }

-- the call answers the one amount of an integer
abbrev pub amount_given : ℤ → AmountDone
amount_given z = amount_says (amount_of z) (reply 261 0)

-- what each operation does: where it answers no amount, its first operand stays
abbrev pub amount_done : AmountOperation → Amount → Amount → ℕ → ℕ → AmountDone
amount_done FromU64 a b n m = amount_given (pos n)
amount_done IsNegative a b n m = amount_says a (truth_reply (lt_z (value a) (pos 0)))
amount_done IsBelow a b n m = amount_says a (truth_reply (lt_z (value a) (value b)))
amount_done IsAbove a b n m = amount_says a (truth_reply (lt_z (pos n) (value a)))
amount_done Lesser a b n m = amount_given (saturated (lesser (value a) (pos n)))
amount_done SaturatingAdd a b n m = amount_given (saturated (value a +ℤ value b))
amount_done SaturatingSub a b n m = amount_given (saturated (value a -ℤ pos n))
amount_done Deficit a b n m = amount_given (pos (natural (saturated (pos n -ℤ value a))))
amount_done ToU64 a b n m = amount_says a (reply 261 (min (natural (value a)) (2 ^ 64 - 1)))
amount_done IsI128 a b n m = amount_says a (truth_reply (is_i128 a))
amount_done ProductPerThousand a b n m = amount_given (pos (n * m / ms_per_sec))
amount_done TimesThousand a b n m = amount_given (pos (saturated_unsigned (ms_per_sec * natural (value a))))
amount_done DivCeilLow a b n m = amount_says a (quotient_reply a n)
amount_done Unknown a b n m = amount_says a (reply 0 0)

-- the number returned, and the words and the value after the call
abbrev pub AmountLeft : AmountDone → List ℕ → ℕ → ℕ → List ℕ → ℕ → Type 0
AmountLeft d result value r result' value' =
    (r ≡ d.answer.number)
    × (result' ≡ kept d.answer.number result (amount_words d.state))
    × (value' ≡ kept d.answer.number value d.answer.value)

-- uglezmir_amount
abbrev pub AmountExported : ℕ → List ℕ → List ℕ → ℕ → ℕ → List ℕ → ℕ → ℕ → List ℕ → ℕ → Type 0
AmountExported operation first second n m result value r result' value' =
    AmountLeft (amount_done (amount_operation operation) (amount_of_words first) (amount_of_words second) n m) result value r result' value'
