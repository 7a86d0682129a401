-- A record that is lent by `&mut` with two numbers: the signatures, the MIR and the contracts of the call by value, of the lent form and of the
-- function that lends. Definitions only.
use Rattle.std.specs.Prelude.{ℕ, [], ◌∷◌}
use seplogic.Ra.Ura.{Ura}
use mir.Syntax.{Fn, Callee, named, erased, mut, w64, ty_int, ty_ref, deref, field, place, copy, local, value_local, memory_slot, assign, rv_opd, addr_of, aggregate, call, seq, return}
use base.Logic.{emp}
use types.Logic.{Logic}
use contract.Monad.{fact}
use Rattle.std.specs.Borrow.{u64}
use denote.Exit.{yes}
use denote.Memory.{pointee}
use denote.Signature.{plain, mut_ref_to}
use denote.Triple.Statement.{Contract}
use denote.Triple.Spec.{triple_of}
use denote.Triple.Clauses.{Clauses, Ended, closing}
use Rattle.lent_records.specs.Lent.{Lent, Kept, Record, Answer, Handed, record_ty, answer_ty, pair_ty}

module _ (K : Lent) where
  -- the call by value: its signature
  abbrev pub by_value : Ended
  by_value = record {
    signature = record { lifetimes = 0; outlives = []; params = plain (λ _. Record K) ∷ plain (λ _. u64) ∷ plain (λ _. u64) ∷ []; result = plain (λ _. Handed K) };
    kept = (yes, (yes, (yes, tt)));
  }

  -- the lent form: its signature
  abbrev pub lent : Ended
  lent = record {
    signature = record { lifetimes = 1; outlives = []; params = mut_ref_to (0 ∷ []) tt (plain (λ _. Record K)) ∷ plain (λ _. u64) ∷ plain (λ _. u64) ∷ []; result = plain (λ _. Answer K) };
    kept = (yes, (yes, (yes, tt)));
  }

  -- the MIR of the lent form, over the name of the call by value
  abbrev pub lent_function : Callee → Fn
  lent_function core = record {
    lifetimes = 1;
    outlives = [];
    ty_params = [];
    givens = 0;
    params = 3;
    locals = local (answer_ty K) value_local ∷ local (ty_ref (named 0) mut (pointee (Record K).written)) value_local ∷ local (ty_int w64) value_local ∷ local (ty_int w64) value_local ∷ local (pair_ty K) value_local ∷ local (record_ty K) value_local ∷ local (record_ty K) value_local ∷ [];
    body =
        seq (assign (place 5 []) (rv_opd (copy (place 1 (deref (record_ty K) ∷ [])))))
        (seq (call core (copy (place 5 []) ∷ copy (place 2 []) ∷ copy (place 3 []) ∷ []) (place 4 []))
        (seq (assign (place 6 []) (rv_opd (copy (place 4 (field 0 ∷ [])))))
        (seq (assign (place 1 (deref (record_ty K) ∷ [])) (rv_opd (copy (place 6 []))))
        (seq (assign (place 0 []) (rv_opd (copy (place 4 (field 1 ∷ []))))) return))));
  }

  -- and the function that lends a record of its own and hands both back, over the name of the lent form
  abbrev pub lending_function : Callee → Fn
  lending_function callee = record {
    lifetimes = 0;
    outlives = [];
    ty_params = [];
    givens = 0;
    params = 3;
    locals =
        local (pair_ty K) value_local
        ∷ local (record_ty K) value_local
        ∷ local (ty_int w64) value_local
        ∷ local (ty_int w64) value_local
        ∷ local (record_ty K) memory_slot
        ∷ local (answer_ty K) value_local
        ∷ local (ty_ref erased mut (pointee (Record K).written)) value_local
        ∷ local (record_ty K) value_local
        ∷ [];
    body =
        seq (assign (place 4 []) (rv_opd (copy (place 1 []))))
        (seq (assign (place 6 []) (addr_of (place 4 [])))
        (seq (call callee (copy (place 6 []) ∷ copy (place 2 []) ∷ copy (place 3 []) ∷ []) (place 5 []))
        (seq (assign (place 7 []) (rv_opd (copy (place 4 []))))
        (seq (assign (place 0 []) (aggregate (copy (place 7 []) ∷ copy (place 5 []) ∷ []))) return))));
  }

  module _ (Q : (Kept K).D → ℕ → ℕ → K.Both → Type 0) {M : Type 1} (𝓤 : Ura M) where
    -- what the call by value says, of the record before and the pair that it hands back
    abbrev pub core_clauses : Clauses 𝓤 by_value
    core_clauses κs a = record { ghost = Unit {0}; requires = λ _. emp 𝓤; ensures = λ _ r _. fact 𝓤 (Q a.0 a.1.0 a.1.1.0 r) }

    -- what the lent form says: the same, of the record before, and of the record after with the answer
    abbrev pub clauses : Clauses 𝓤 lent
    clauses κs a = record { ghost = Unit {0}; requires = λ _. emp 𝓤; ensures = λ _ r e. fact 𝓤 (Q a.0.now a.1.0 a.1.1.0 (K.both e.0.now r)) }

    module _ (𝓛 : Logic 𝓤) where
      -- the contract of the call by value, and of the function that lends
      abbrev pub ByValue : Contract 𝓤
      ByValue = triple_of 𝓛 by_value.signature (closing 𝓛 by_value core_clauses)

      -- the contract of the lent form
      abbrev pub ByLoan : Contract 𝓤
      ByLoan = triple_of 𝓛 lent.signature (closing 𝓛 lent clauses)
