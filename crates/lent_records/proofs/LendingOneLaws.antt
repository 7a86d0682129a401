-- A function that lends a record of its own by `&mut`, with a number, and hands back what became of it with the answer,
--     let mut r = b; let a = lent(&mut r, n); Both { r, a }
-- It meets the contract of the call by value again: a walk of the MIR that every such function has. The local is lent for a lifetime that is made for the call, and comes back at its last value. Assumes nothing.
use Rattle.std.specs.Prelude.{refl, ℕ, ◌<◌, ◌^◌, List, [], ◌∷◌}
use Rattle.std.proofs.Common.{ap}
use seplogic.Ra.Ura.{Ura}
use base.Fraction.{full_share}
use mir.Syntax.{Callee as Called, named, w64}
use mir.Val.{Val, vint, vptr}
use base.Logic.{SProp, ent, sep, emp, id⊢, via, fst∗}
use base.Fml.{GName, ftrue, fat, flft, flent}
use prog.Wp.{Calls, Loops, WpFn, Tables}
use types.Logic.{Logic, sem}
use contract.Monad.{fact}
use types.Kit.{‵, raw, ◌⊛◌, some, later, given, ◌$◌, ◌∵◌, !, qed, by, move, keep, drop, use1, use2, use3, split, join, pick, learn, rewrite, fsplit, fjoin, suffices, frame, await, done}
use types.Tokens.{lft_new, lft_end}
use types.Run.{look, init, forget, stop, from, load, addr, of_opd, and_then, no_more, assigns, land, returns, enter, alloc1, alloc0, params1, pass1, pass0, free1, free0}
use types.Part.{agg}
use types.SemTy.{Body}
use sound.WpLaws.{FmC, fm_of, WpFn-mono}
use denote.RattleType.{owns}
use denote.Memory.{mem}
use denote.Laws.{Is, shows}
use denote.Lend.{lends_ref, ref_back}
use denote.Plain.{uint_vals, uint_Tells, uint_Makes}
use Rattle.std.specs.Borrow.{u64}
use denote.Ref.{MutBor, MutRef}
use denote.Exit.{yes}
use denote.Steps.{only, owned, peeks, heard, nothing}
use denote.Struct.Laws as LL
use denote.Enum.Laws as EL
use denote.Triple.Entry.{on_entry}
use denote.Triple.Call.{calls_at}
use denote.Triple.Statement.{Contract, Triple}
use denote.Triple.Spec.{Meets}
use denote.Triple.Clauses.{ensured, closing, lasts}
use denote.Triple.Walked.{says, Stays, stay_none, walk_of, Goes-none, Walks, ends_at, walked, walk_Meets}
use Rattle.lent_records.specs.Lent.{Lent, Kept, Said, Pair, pair_plain, Record, Answer, Handed, record_ty, answer_ty, record_val}
use Rattle.lent_records.specs.PartsLaws.{none_bound, none_said, answer_is, made, made_is, record_typed, answer_typed, pair_typed, lies_in, lies_out}
use Rattle.lent_records.specs.One.{by_value, lent, lending_function, core_clauses, clauses, ByLoan}

module _ (K : Lent) where
  abbrev stayed : Stays (by_value K).signature.params (by_value K).kept
  stayed = (stay_none (λ _. Record K) yes, (stay_none (λ _. u64) yes, tt))

  module _ (Q : (Kept K).D → ℕ → K.Both → Type 0) {M : Type 1} {𝓤 : Ura M} (𝓛 : Logic 𝓤) where
    open 𝓛 use {H, A}

    abbrev Callee : Contract 𝓤
    Callee = ByLoan K Q 𝓤 𝓛

    module _ where
      module _ (h : (Kept K).D) (n : ℕ) (h-is : Is (Record K) h (record_val K h ∷ [])) (fits : n < 2 ^ 64) where
        abbrev x : (Kept K).D × (ℕ × Unit {0})
        x = (h, (n, tt))

        abbrev at : List Val × (List Val × Unit {0})
        at = (record_val K h ∷ [], (vint w64 n ∷ [], tt))

        abbrev Post : Val → SProp 𝓤
        Post = (walk_of 𝓛 (by_value K) stayed (core_clauses K Q 𝓤)).post ((tt, tt, tt, x, at), tt)

        -- what the callee is lent: the local at b, for the lifetime α, under the name δ
        abbrev loan : ℕ → GName → MutBor (Kept K).D
        loan b δ = record { ref_ptr = (b, 0); ghost_name = δ; now = h }

        abbrev to_callee : ℕ → ℕ → GName → Callee.Ghost
        to_callee b α δ = (((α ∷ [], tt), (full_share, tt), tt, (loan b δ, (n, tt)), (vptr b 0 ∷ [], (vint w64 n ∷ [], tt))), tt)

        goes_callee : (b α : ℕ) (δ : GName) → ent 𝓤 (sep 𝓤 (A.lft (α ∷ []) full_share) (sem 𝓛 ((MutRef (named 0) (α ∷ []) (Record K)).own_val (loan b δ) (vptr b 0 ∷ [])))) (Callee.pre (to_callee b α δ))
        goes_callee b α δ =
            qed 𝓛 (‵ (flft (α ∷ []) full_share) ∷ ‵ ((MutRef (named 0) (α ∷ []) (Record K)).own_val (loan b δ) (vptr b 0 ∷ [])) ∷ []) ∵ nothing ! $ move ! (1 ∷ 0 ∷ []) $ join ! $
            nothing ! $ owned ! u64 (Is u64) (uint_Makes 𝓛 w64) n _ (refl, fits) $ fjoin ! $ move ! (2 ∷ 0 ∷ []) $ fjoin ! $ move ! (1 ∷ 0 ∷ []) $ join ! $ frame ! $ done !

        exits : (d : (Kept K).D) (a : (Said K).D) → Q h n (K.both d a) → Is (Handed K) (K.both d a) (made K d a ∷ []) → ent 𝓤 (emp 𝓤) (Post (made K d a))
        exits d a e is =
            qed 𝓛 [] ∵ suffices ! _ (ends_at 𝓛 (by_value K) stayed (core_clauses K Q 𝓤) ((tt, tt, tt, x, at), tt) (made K d a) (K.both d a) (none_bound K h, (tt, tt)) (tt, (tt, tt))) $ says ! e $
            nothing ! $ owned ! u64 (Is u64) (uint_Makes 𝓛 w64) n _ (refl, fits) $ fjoin ! $ owned ! (Record K) (Is (Record K)) (LL.makes (Kept K) K.record_type.plain 𝓛) h _ h-is $ fjoin ! $
            owned ! (Handed K) (Is (Handed K)) (LL.makes (Pair K) (pair_plain K) 𝓛) (K.both d a) _ is $ move ! (1 ∷ 0 ∷ []) $ nothing ! $ done !

        module _ (C : Calls 𝓤 H) (Λ : Loops 𝓤 H) (fm : FmC 𝓤 H 𝓛.laws C) (callee : Called) (known : Triple 𝓤 (C callee) Callee) where
          walk : ent 𝓤 (on_entry 𝓛 (by_value K).signature tt tt x at) (WpFn 𝓤 H C Λ (lending_function K callee) (record_val K h ∷ vint w64 n ∷ []) Post)
          walk =
              qed 𝓛 (‵ ftrue ∷ ‵ (owns (Record K ∷ u64 ∷ []) x at) ∷ []) ∵ enter ! C Λ (lending_function K callee) (record_val K h ∷ vint w64 n ∷ []) _ $
              alloc1 ! (λ l₀. alloc1 ! (λ l₁. alloc1 ! (λ l₂. alloc1 ! (λ l₃. alloc1 ! (λ l₄. alloc1 ! (λ l₅. alloc1 ! (λ l₆. alloc0 ! $ params1 ! $ pass1 ! (init ! 10 refl (record_typed K 𝓛 h h-is)) $ pass1 ! (init ! 8 refl (tt, record { fits = fits })) $ pass0 ! $
              -- [_6; …; _5; …; _4; …; _3; …; _2; …; _1; …; _0; …; true; what the parameters own]
              assigns ! (of_opd ! (load ! (from ! (stop !)) (look ! 10 refl))) (from ! (stop !)) (init ! 6 refl (record_typed K 𝓛 h h-is)) $
              assigns ! (addr ! (from ! (stop !))) (from ! (stop !)) (init ! 2 refl (tt, tt)) $
              -- the local is lent for a lifetime of the call
              move ! (6 ∷ []) $ use1 𝓛 (‵ ((mem (Record K)).own_at h l₃ 0)) (lies_in K 𝓛 h l₃ h-is) $
              lft_new ! tt (λ α. move ! (1 ∷ []) $
              use1 𝓛 (later (some (λ (δ : GName). ‵ ((MutRef (named 0) (α ∷ []) (Record K)).own_val (loan l₃ δ) (vptr l₃ 0 ∷ [])) ⊛ ‵ (flent (α ∷ []) (Body (mem (Record K)) l₃ 0 δ))))) (lends_ref 𝓛 (Record K) (named 0) (α ∷ []) h l₃ 0) $ await ! tt $ pick ! (λ δ. split ! $
              move ! (2 ∷ 0 ∷ []) $ use2 𝓛 (raw (Callee.pre (to_callee l₃ α δ))) (goes_callee l₃ α δ) $
              -- [what the callee asks; the lender's part; _6; …; _5; …; _4; …; what dies of _3; _2; …]
              calls_at ! fm Callee known (to_callee l₃ α δ) (and_then ! (load ! (from ! (stop !)) (look ! 4 refl)) (and_then ! (load ! (from ! (stop !)) (look ! 9 refl)) (no_more !))) (λ v.
              use1 𝓛 (later (some (λ (a : (Said K).D). ((‵ (flft (α ∷ []) full_share) ⊛ ‵ ftrue) ⊛ ‵ ((Answer K).own_val a (v ∷ []))) ⊛ raw (ensured 𝓛 (lent K) (clauses K Q 𝓤) (α ∷ [], tt) (loan l₃ δ, (n, tt)) tt a)))) (id⊢ 𝓤 _) $ await ! tt $ pick ! (λ a.
              split ! $ move ! (1 ∷ []) $ use1 𝓛 (some (λ (ws : (Kept K).D × (Unit {0} × Unit {0})). ‵ (lasts (lent K) (α ∷ [], tt) (loan l₃ δ, (n, tt)) ws) ⊛ raw (fact 𝓤 (Q h n (K.both ws.0 a))))) (id⊢ 𝓤 _) $ pick ! (λ ws.
              split ! $ move ! (1 ∷ []) $ heard ! (Q h n (K.both ws.0 a)) (λ e. fsplit ! $ fsplit ! $ move ! (1 ∷ []) $ drop ! $ move ! (2 ∷ []) $ split ! $
              move ! (1 ∷ []) $ peeks ! (Answer K) (Is (Answer K)) (shows 𝓛 (Answer K)) a (v ∷ []) (λ v-is. drop ! $
              -- [the token; the last value; …; the lender's part; _6; …; _5; …; _4; …; what dies of _3; _2; …; _1; …; _0; …]: the answer is stored
              land ! (from ! (stop !)) (init ! 8 refl (answer_typed K 𝓛 a v v-is)) $
              rewrite ! 8 (λ (u : Val). ‵ (fat full_share (answer_ty K) l₄ 0 u)) (ap only (EL.tells (Said K) K.answer_type.laws a _ v-is)) refl $
              -- the lifetime ends, and the local comes back at its last value
              split ! $ lft_end ! tt $ move ! (0 ∷ 4 ∷ 2 ∷ []) $ use3 𝓛 (later (‵ ((mem (Record K)).own_at ws.0 l₃ 0))) (ref_back 𝓛 (Record K) (α ∷ []) δ ws.0 l₃ 0) $ await ! tt $
              use1 𝓛 (given (Is (Record K) ws.0 (record_val K ws.0 ∷ [])) (‵ (fat full_share (record_ty K) l₃ 0 (record_val K ws.0)))) (lies_out K 𝓛 ws.0 l₃) $ learn ! (λ d-is.
              -- [_3; …; …; _6; …; _5; …; _4; …; what dies of _3; _2; …; _1; …; _0; …]
              assigns ! (of_opd ! (load ! (from ! (stop !)) (look ! 0 refl))) (from ! (stop !)) (init ! 3 refl (record_typed K 𝓛 ws.0 d-is)) $
              assigns ! (agg ! (and_then ! (load ! (from ! (stop !)) (look ! 3 refl)) (and_then ! (load ! (from ! (stop !)) (look ! 7 refl)) (no_more !)))) (from ! (stop !)) (init ! 14 refl (pair_typed K 𝓛 (K.both ws.0 a) _ (made_is K ws.0 a d-is (answer_is K a v v-is)))) $
              returns ! (look ! 14 refl) $ forget ! 0 refl $ forget ! 3 refl $ forget ! 5 refl $ forget ! 7 refl $ forget ! 10 refl $ forget ! 12 refl $ forget ! 14 refl $
              move ! (14 ∷ 15 ∷ []) $ free1 ! $ move ! (12 ∷ 13 ∷ []) $ free1 ! $ move ! (10 ∷ 11 ∷ []) $ free1 ! $ move ! (0 ∷ 9 ∷ []) $ free1 ! $ move ! (6 ∷ 7 ∷ []) $ free1 ! $ move ! (4 ∷ 5 ∷ []) $ free1 ! $ move ! (2 ∷ 3 ∷ []) $ free1 ! $ free0 ! $
              keep ! [] $ by ! (exits ws.0 a e (made_is K ws.0 a d-is (answer_is K a v v-is))))))))))))))))))

    pub walks : (C : Calls 𝓤 H) (Λ : Loops 𝓤 H) (callee : Called) → FmC 𝓤 H 𝓛.laws C → Triple 𝓤 (C callee) Callee
        → Walks 𝓛 (by_value K) stayed (WpFn 𝓤 H C Λ (lending_function K callee)) (core_clauses K Q 𝓤)
    walks C Λ callee fm known = walked 𝓛 (by_value K) stayed (core_clauses K Q 𝓤) (WpFn 𝓤 H C Λ (lending_function K callee)) (λ κs. (LL.vals (Kept K) K.record_type.laws, (uint_vals w64, tt))) (λ κs. (LL.tells (Kept K) K.record_type.laws, (uint_Tells w64, tt)))
        (λ κs qs bounds a _ are. via 𝓤 _ (fst∗ 𝓤 _ (emp 𝓤)) (walk a.0 a.1.0 are.0 are.1.0.1 C Λ fm callee known))

    -- the law: where the lent form meets its contract, the function that lends meets that of the call by value
    pub meets : (callee : Called) (𝓣 : Tables 𝓤 H) → Triple 𝓤 (𝓣.C callee) Callee
        → Meets 𝓛 (by_value K).signature (WpFn 𝓤 H 𝓣.C 𝓣.Λ (lending_function K callee)) (closing 𝓛 (by_value K) (core_clauses K Q 𝓤))
    meets callee 𝓣 known =
        walk_Meets 𝓛 (by_value K) stayed (Goes-none 𝓛 0 (λ _. Record K) yes (λ κs d f. none_said K d f), (Goes-none 𝓛 0 (λ _. u64) yes (λ κs y f. refl), tt)) (core_clauses K Q 𝓤)
        (WpFn 𝓤 H 𝓣.C 𝓣.Λ (lending_function K callee)) (WpFn-mono 𝓤 H 𝓛.laws 𝓣 (lending_function K callee)) (walks 𝓣.C 𝓣.Λ callee (fm_of 𝓤 H 𝓛.laws 𝓣) known)
