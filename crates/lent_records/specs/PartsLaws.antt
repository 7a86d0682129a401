-- What the walks of this crate know of a record, an answer and the pair of both: machine values are of their MIR types, a pair's parts
-- are a record and an answer and make one, a record in memory can be lent and read, and nothing is said at exit of one passed by value.
-- Assumes nothing.
use Rattle.std.specs.Prelude.{◌≡◌, refl, ℕ, List, [], ◌∷◌, T as Holds}
use Rattle.std.proofs.Common.{sym, subst}
use seplogic.Ra.Ura.{Ura}
use base.Fraction.{full_share}
use mir.Val.{Val, WT, has_ty, vstruct, vnil, vcons}
use base.Logic.{ent, guard}
use base.Fml.{ftrue, fat, fsep}
use types.Logic.{Logic, sem}
use types.Kit.{‵, ◌$◌, ◌∵◌, !, qed, move, drop, use1, check, fsplit, fjoin, fpick, fpack, done}
use denote.Memory.{mem, cell_at, part_of}
use denote.Laws.{Is, shows}
use denote.Exit.{Exit, Last, left, unchanged, yes}
use denote.Steps.{owned, peeks}
use denote.Struct.Steps.{spelt}
use denote.Struct.Laws as LL
use denote.Enum.Laws as EL
use Rattle.lent_records.specs.Lent.{Lent, Kept, Said, Pair, pair_laws, Record, Answer, Handed, record_ty, answer_ty, pair_ty, record_val, answer_val}

module _ (K : Lent) where
  -- a record that is passed by value is the same at exit: nothing is bound and nothing is said
  same_at_exit : (Record K).exit yes ≡ unchanged
  same_at_exit = LL.still (Kept K) K.record_type.copy yes

  pub none_bound : (d : (Kept K).D) → Last ((Record K).exit yes) d
  none_bound d = subst (λ (e : Exit (Kept K).D). Last e d) (sym same_at_exit) tt

  pub none_said : (d : (Kept K).D) (f : Last ((Record K).exit yes) d) → left ((Record K).exit yes) d f ≡ ftrue
  none_said = subst (λ (e : Exit (Kept K).D). (d : (Kept K).D) (f : Last e d) → left e d f ≡ ftrue) (sym same_at_exit) (λ d f. refl)

  -- ════ A pair's parts ════
  pub pair_record : (t : K.Both) (v : Val) → Is (Handed K) t (v ∷ []) → Is (Record K) (K.kept t) (record_val K (K.kept t) ∷ [])
  pair_record t v is = (LL.owed (Pair K) (pair_laws K) t _ is).0

  pub pair_answer : (t : K.Both) (v : Val) → Is (Handed K) t (v ∷ []) → Is (Answer K) (K.said t) (answer_val K (K.said t) ∷ [])
  pair_answer t v is = (LL.owed (Pair K) (pair_laws K) t _ is).1.0

  -- an answer that was handed back is the one that its machine value spells
  pub answer_is : (a : (Said K).D) (v : Val) → Is (Answer K) a (v ∷ []) → Is (Answer K) a (answer_val K a ∷ [])
  answer_is a v is = subst (Is (Answer K) a) (EL.tells (Said K) K.answer_type.laws a (v ∷ []) is) is

  -- the machine value that is put together, which is the pair's
  abbrev pub made : (Kept K).D → (Said K).D → Val
  made d a = vstruct (vcons (record_val K d) (vcons (answer_val K a) vnil))

  pub made_is : (d : (Kept K).D) (a : (Said K).D) → Is (Record K) d (record_val K d ∷ []) → Is (Answer K) a (answer_val K a ∷ []) → Is (Handed K) (K.both d a) (made d a ∷ [])
  made_is d a is-d is-a =
      subst (λ (u : Val). Is (Handed K) (K.both d a) (u ∷ [])) (λ i. made (K.both_kept d a i) (K.both_said d a i))
      (LL.owes (Pair K) (pair_laws K) (K.both d a) (
        subst (λ (e : (Kept K).D). Is (Record K) e (record_val K e ∷ [])) (sym (K.both_kept d a)) is-d,
        (subst (λ (e : (Said K).D). Is (Answer K) e (answer_val K e ∷ [])) (sym (K.both_said d a)) is-a, tt),
      ))

  -- ════ Under a model ════
  module _ {M : Type 1} {𝓤 : Ura M} (𝓛 : Logic 𝓤) where
    pub record_typed : (d : (Kept K).D) → Is (Record K) d (record_val K d ∷ []) → Holds (has_ty (record_ty K) (record_val K d)) × WT (record_val K d)
    record_typed d is = ((LL.lawful (Kept K) K.record_type.laws 𝓛).typed d _ is).0

    pub answer_typed : (a : (Said K).D) (v : Val) → Is (Answer K) a (v ∷ []) → Holds (has_ty (answer_ty K) v) × WT v
    answer_typed a v is = ((EL.lawful (Said K) K.answer_type.laws 𝓛 K.answer_type.few).typed a _ is).0

    pub pair_typed : (t : K.Both) (v : Val) → Is (Handed K) t (v ∷ []) → Holds (has_ty (pair_ty K) v) × WT v
    pair_typed t v is = ((LL.lawful (Pair K) (pair_laws K) 𝓛).typed t _ is).0

    -- a record in memory, as a lender has it, and as a walk reads it
    pub lies_in : (d : (Kept K).D) (b : ℕ) → Is (Record K) d (record_val K d ∷ []) → ent 𝓤 (sem 𝓛 (fat full_share (record_ty K) b 0 (record_val K d))) (sem 𝓛 ((mem (Record K)).own_at d b 0))
    unfolding part_of
    lies_in d b is =
        qed 𝓛 (‵ (fat full_share (record_ty K) b 0 (record_val K d)) ∷ []) ∵
        use1 𝓛 (‵ (cell_at full_share (Record K).mir (record_val K d ∷ []) b 0)) (𝓛.laws.at_raw full_share (record_ty K) b 0 (record_val K d)) $
        owned ! (Record K) (Is (Record K)) (LL.makes (Kept K) K.record_type.plain 𝓛) d _ is $ move ! (1 ∷ 0 ∷ []) $ fjoin ! $
        fpack ! (List Val) (λ us. fsep (cell_at full_share (Record K).mir us b 0) ((Record K).own_val d us)) (record_val K d ∷ []) $ done !

    pub lies_out : (d : (Kept K).D) (b : ℕ) → ent 𝓤 (sem 𝓛 ((mem (Record K)).own_at d b 0)) (guard 𝓤 (Is (Record K) d (record_val K d ∷ [])) (sem 𝓛 (fat full_share (record_ty K) b 0 (record_val K d))))
    unfolding part_of
    lies_out d b =
        qed 𝓛 (‵ ((mem (Record K)).own_at d b 0) ∷ []) ∵ fpick ! (λ vs. fsplit ! $
        spelt ! (Record K) (Is (Record K)) (shows 𝓛 (Record K)) (LL.vals (Kept K) K.record_type.laws) (LL.tells (Kept K) K.record_type.laws) full_share d vs b 0 $
        move ! (1 ∷ []) $ peeks ! (Record K) (Is (Record K)) (shows 𝓛 (Record K)) d (record_val K d ∷ []) (λ is. drop ! $
        use1 𝓛 (‵ (fat full_share (record_ty K) b 0 (record_val K d))) (𝓛.laws.raw_at full_share (record_ty K) b 0 (record_val K d)) $ check ! is $ done !))
