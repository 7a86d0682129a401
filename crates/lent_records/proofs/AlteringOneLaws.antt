-- A function over a record that is lent by `&mut`, and a number: it calls the function by value, leaves the record that this hands back, and answers its answer,
--     let t = core(*r, n); *r = t.kept; t.said
-- It meets the contract of the call by value, at the record before, and at the pair of the record after with the answer: a walk of the MIR that every such function has. Assumes nothing.
use Rattle.std.specs.Prelude.{refl, ℕ, ◌<◌, ◌^◌, List, [], ◌∷◌}
use Rattle.std.proofs.Common.{sym, ap, subst}
use seplogic.Ra.Ura.{Ura}
use base.Fraction.{full_share}
use mir.Syntax.{Callee, named, w64}
use mir.Val.{Val, vint, vptr}
use base.Logic.{SProp, ent, sep, emp, id⊢, via, fst∗, snd∗, ex_e}
use base.Fml.{Lft, GName, Share, ftrue, fat, flft, fobs, fbor}
use prog.Wp.{Calls, Loops, WpFn, Tables}
use types.Logic.{Logic, sem}
use contract.Monad.{fact}
use types.Kit.{‵, raw, ◌⊛◌, some, later, ◌$◌, ◌∵◌, !, qed, by, move, keep, drop, use0, use1, split, join, pick, rewrite, fsplit, fsplit3, fjoin, fjoin3, feq_i, suffices, frame, await, done}
use types.Run.{look, init, store, forget, stop, hop, fld, from, load, of_opd, and_then, no_more, assigns, land, returns, enter, alloc1, alloc0, params1, pass1, pass0, free1, free0}
use types.Part.{whole, sub, look_in}
use types.SemTy.{Body}
use sound.WpLaws.{FmC, fm_of, WpFn-mono}
use denote.RattleType.{owns}
use denote.Memory.{mem, cell_at}
use denote.Laws.{Is, shows}
use denote.Plain.{uint_vals, uint_Tells, uint_Makes}
use Rattle.std.specs.Borrow.{u64}
use denote.Ref.{MutBor, MutRef, mut_vals, mut_Tells}
use denote.Signature.{plain}
use denote.Exit.{yes}
use denote.Steps.{only, opens, closes, owned, peeks, heard, nothing}
use denote.Struct.Steps.{spelt}
use denote.Struct.Laws as LL
use denote.Enum.Laws as EL
use denote.Triple.Entry.{on_entry}
use denote.Triple.Call.{calls_at}
use denote.Triple.Statement.{Contract, Triple}
use denote.Triple.Spec.{Meets}
use denote.Triple.Clauses.{ensured, closing, lasts}
use denote.Triple.Walked.{says, Stays, stay_ref, stay_none, walk_of, Goes-none, Goes-ref, Walks, ends_at, walked, walk_Meets}
use Rattle.lent_records.specs.Lent.{Lent, Kept, Said, Pair, pair_laws, Record, Answer, Handed, record_ty, pair_ty, record_val, answer_val}
use Rattle.lent_records.specs.One.{by_value, lent, lent_function, core_clauses, clauses, ByValue}
use Rattle.lent_records.specs.PartsLaws.{pair_record, pair_answer, record_typed, answer_typed, pair_typed}

module _ (K : Lent) where
  abbrev stayed : Stays (lent K).signature.params (lent K).kept
  stayed = (stay_ref (0 ∷ []) tt (plain (λ _. Record K)), (stay_none (λ _. u64) yes, tt))

  module _ (Q : (Kept K).D → ℕ → K.Both → Type 0) {M : Type 1} (𝓤 : Ura M) where
    module _ (𝓛 : Logic 𝓤) where
      open 𝓛 use {H, A}

      abbrev Core : Contract 𝓤
      Core = ByValue K Q 𝓤 𝓛

      module _ (κ : Lft) (q : Share) (b o : ℕ) (γ : GName) (h : (Kept K).D) (n : ℕ) (fits : n < 2 ^ 64) where
        abbrev x : MutBor (Kept K).D × (ℕ × Unit {0})
        x = (record { ref_ptr = (b, o); ghost_name = γ; now = h }, (n, tt))

        abbrev at : List Val × (List Val × Unit {0})
        at = (vptr b o ∷ [], (vint w64 n ∷ [], tt))

        abbrev Post : Val → SProp 𝓤
        Post = (walk_of 𝓛 (lent K) stayed (clauses K Q 𝓤)).post (((κ, tt), (q, tt), tt, x, at), tt)

        abbrev to_core : Core.Ghost
        to_core = ((tt, tt, tt, (h, (n, tt)), (record_val K h ∷ [], (vint w64 n ∷ [], tt))), tt)

        goes_core : Is (Record K) h (record_val K h ∷ []) → ent 𝓤 (emp 𝓤) (Core.pre to_core)
        goes_core is =
            qed 𝓛 [] ∵ nothing ! $ owned ! u64 (Is u64) (uint_Makes 𝓛 w64) n _ (refl, fits) $ fjoin ! $
            owned ! (Record K) (Is (Record K)) (LL.makes (Kept K) K.record_type.plain 𝓛) h _ is $ fjoin ! $ nothing ! $ join ! $ frame ! $ done !

        said_of : (r : K.Both) → ent 𝓤 (ensured 𝓛 (by_value K) (core_clauses K Q 𝓤) tt (h, (n, tt)) tt r) (fact 𝓤 (Q h n r))
        said_of r = ex_e 𝓤 _ (λ ws. snd∗ 𝓤 (sem 𝓛 (lasts (by_value K) tt (h, (n, tt)) ws)) (fact 𝓤 (Q h n r)))

        -- the record r that was handed back stands where the lent one stood, and its answer is what is returned
        exits : (r : K.Both) → Q h n r → Is (Answer K) (K.said r) (answer_val K (K.said r) ∷ [])
            → ent 𝓤 (sep 𝓤 (A.obs γ ((Record K).coded.code (K.kept r))) (sep 𝓤 (A.bor κ (Body (mem (Record K)) b o γ)) (A.lft κ q))) (Post (answer_val K (K.said r)))
        exits r e is =
            qed 𝓛 (‵ (fobs γ ((Record K).coded.code (K.kept r))) ∷ ‵ (fbor κ (Body (mem (Record K)) b o γ)) ∷ ‵ (flft κ q) ∷ []) ∵
            suffices ! _ (ends_at 𝓛 (lent K) stayed (clauses K Q 𝓤) (((κ, tt), (q, tt), tt, x, at), tt) (answer_val K (K.said r)) (K.said r) (K.kept r, (tt, tt)) (tt, (tt, tt))) $
            says ! (subst (Q h n) (sym (K.joined r)) e) $ nothing ! $ move ! (3 ∷ 0 ∷ []) $ join ! $ frame ! $
            feq_i ! (List Val) (vptr b o ∷ []) (vptr b o ∷ []) refl $ fjoin3 ! $ nothing ! $ owned ! u64 (Is u64) (uint_Makes 𝓛 w64) n _ (refl, fits) $ fjoin ! $ move ! (1 ∷ 0 ∷ []) $ fjoin ! $
            owned ! (Answer K) (Is (Answer K)) (EL.makes (Said K) K.answer_type.plain 𝓛) (K.said r) _ is $ move ! (1 ∷ 0 ∷ []) $ done !

        module _ (C : Calls 𝓤 H) (Λ : Loops 𝓤 H) (fm : FmC 𝓤 H 𝓛.laws C) (core : Callee) (known : Triple 𝓤 (C core) Core) where
          walk : ent 𝓤 (on_entry 𝓛 (lent K).signature (κ, tt) (q, tt) x at) (WpFn 𝓤 H C Λ (lent_function K core) (vptr b o ∷ vint w64 n ∷ []) Post)
          walk =
              qed 𝓛 ((‵ (flft κ q) ⊛ ‵ ftrue) ∷ ‵ (owns (MutRef (named 0) κ (Record K) ∷ u64 ∷ []) x at) ∷ []) ∵ enter ! C Λ (lent_function K core) (vptr b o ∷ vint w64 n ∷ []) _ $
              alloc1 ! (λ l₀. alloc1 ! (λ l₁. alloc1 ! (λ l₂. alloc1 ! (λ l₃. alloc1 ! (λ l₄. alloc1 ! (λ l₅. alloc0 ! $ params1 ! $ pass1 ! (init ! 8 refl (tt, tt)) $ pass1 ! (init ! 6 refl (tt, record { fits = fits })) $ pass0 ! $
              -- the borrow is opened
              move ! (13 ∷ []) $ fsplit ! $ fsplit3 ! $ drop ! $ move ! (15 ∷ []) $ split ! $ move ! (2 ∷ 3 ∷ 0 ∷ []) $
              opens ! tt (Record K) {h = h} b o (λ vs. spelt ! (Record K) (Is (Record K)) (shows 𝓛 (Record K)) (LL.vals (Kept K) K.record_type.laws) (LL.tells (Kept K) K.record_type.laws) full_share h vs b o $
              use1 𝓛 (‵ (fat full_share (record_ty K) b o (record_val K h))) (𝓛.laws.raw_at full_share (record_ty K) b o (record_val K h)) $
              move ! (1 ∷ []) $ peeks ! (Record K) (Is (Record K)) (shows 𝓛 (Record K)) h (record_val K h ∷ []) (λ is. move ! (1 ∷ 0 ∷ []) $
              -- [the record's cell; what it owns; the open borrow; obs; auth; true; the number's; _5; …; _4; …; _3; …; _2; …; _1; …; room for _0; …]
              assigns ! (of_opd ! (load ! (from ! (hop ! (look ! 15 refl) (stop !))) (look ! 0 refl))) (from ! (stop !)) (init ! 9 refl (record_typed K 𝓛 h is)) $
              use0 𝓛 (raw (Core.pre to_core)) (goes_core is) $
              calls_at ! fm Core known to_core (and_then ! (load ! (from ! (stop !)) (look ! 10 refl)) (and_then ! (load ! (from ! (stop !)) (look ! 14 refl)) (no_more !))) (λ v.
              use1 𝓛 (later (some (λ (r : K.Both). (‵ ftrue ⊛ ‵ ((Handed K).own_val r (v ∷ []))) ⊛ raw (ensured 𝓛 (by_value K) (core_clauses K Q 𝓤) tt (h, (n, tt)) tt r)))) (id⊢ 𝓤 _) $ await ! tt $ pick ! (λ r.
              split ! $ move ! (1 ∷ []) $ use1 𝓛 (raw (fact 𝓤 (Q h n r))) (said_of r) $ heard ! (Q h n r) (λ e. split ! $ drop ! $
              peeks ! (Handed K) (Is (Handed K)) (shows 𝓛 (Handed K)) r (v ∷ []) (λ pair. drop ! $
              -- the pair is stored and spelled out
              land ! (from ! (stop !)) (init ! 11 refl (pair_typed K 𝓛 r v pair)) $
              rewrite ! 11 (λ (u : Val). ‵ (fat full_share (pair_ty K) l₃ 0 u)) (ap only (LL.tells (Pair K) (pair_laws K) r _ pair)) refl $
              -- the record goes where the lent one stood, and the answer into the result
              assigns ! (of_opd ! (load ! (from ! (fld ! refl (stop !))) (look_in ! 11 (sub ! 0 refl (whole !))))) (from ! (stop !)) (init ! 7 refl (record_typed K 𝓛 (K.kept r) (pair_record K r v pair))) $
              assigns ! (of_opd ! (load ! (from ! (stop !)) (look ! 7 refl))) (from ! (hop ! (look ! 15 refl) (stop !))) (store ! 0 refl (record_typed K 𝓛 (K.kept r) (pair_record K r v pair))) $
              assigns ! (of_opd ! (load ! (from ! (fld ! refl (stop !))) (look_in ! 11 (sub ! 1 refl (whole !))))) (from ! (stop !)) (init ! 17 refl (answer_typed K 𝓛 (K.said r) _ (pair_answer K r v pair))) $
              -- the borrow is closed at the new record
              use1 𝓛 (‵ (cell_at full_share (Record K).mir (record_val K (K.kept r) ∷ []) b o)) (𝓛.laws.at_raw full_share (record_ty K) b o (record_val K (K.kept r))) $
              move ! (1 ∷ []) $ drop ! $ owned ! (Record K) (Is (Record K)) (LL.makes (Kept K) K.record_type.plain 𝓛) (K.kept r) _ (pair_record K r v pair) $ move ! (1 ∷ 0 ∷ []) $
              closes ! tt (Record K) (K.kept r) (record_val K (K.kept r) ∷ []) b o $
              returns ! (look ! 15 refl) $ forget ! 5 refl $ forget ! 7 refl $ forget ! 9 refl $ forget ! 11 refl $ forget ! 13 refl $ forget ! 15 refl $
              move ! (15 ∷ 16 ∷ []) $ free1 ! $ move ! (13 ∷ 14 ∷ []) $ free1 ! $ move ! (11 ∷ 12 ∷ []) $ free1 ! $ move ! (9 ∷ 10 ∷ []) $ free1 ! $ move ! (7 ∷ 8 ∷ []) $ free1 ! $ move ! (5 ∷ 6 ∷ []) $ free1 ! $ free0 ! $
              keep ! (0 ∷ 1 ∷ 2 ∷ []) $ by ! (exits r e (pair_answer K r v pair))))))))))))))

      pub walks : (C : Calls 𝓤 H) (Λ : Loops 𝓤 H) (core : Callee) → FmC 𝓤 H 𝓛.laws C → Triple 𝓤 (C core) Core
          → Walks 𝓛 (lent K) stayed (WpFn 𝓤 H C Λ (lent_function K core)) (clauses K Q 𝓤)
      walks C Λ core fm known = walked 𝓛 (lent K) stayed (clauses K Q 𝓤) (WpFn 𝓤 H C Λ (lent_function K core)) (λ κs. (mut_vals, (uint_vals w64, tt))) (λ κs. (mut_Tells (named 0) κs.0 (Record K), (uint_Tells w64, tt)))
          (λ κs qs bounds a _ are. via 𝓤 _ (fst∗ 𝓤 _ (emp 𝓤)) (walk κs.0 qs.0 a.0.ref_ptr.0 a.0.ref_ptr.1 a.0.ghost_name a.0.now a.1.0 are.1.0.1 C Λ fm core known))

      -- the law: where the call by value meets its contract, the lent form meets its own
      pub meets : (core : Callee) (𝓣 : Tables 𝓤 H) → Triple 𝓤 (𝓣.C core) Core
          → Meets 𝓛 (lent K).signature (WpFn 𝓤 H 𝓣.C 𝓣.Λ (lent_function K core)) (closing 𝓛 (lent K) (clauses K Q 𝓤))
      meets core 𝓣 known =
          walk_Meets 𝓛 (lent K) stayed (Goes-ref 𝓛 1 0 tt (plain (λ _. Record K)), (Goes-none 𝓛 1 (λ _. u64) yes (λ κs y f. refl), tt)) (clauses K Q 𝓤)
          (WpFn 𝓤 H 𝓣.C 𝓣.Λ (lent_function K core)) (WpFn-mono 𝓤 H 𝓛.laws 𝓣 (lent_function K core)) (walks 𝓣.C 𝓣.Λ core (fm_of 𝓤 H 𝓛.laws 𝓣) known)
