-- The walk of
--     fn f(r: &mut S) { *r = g(*r); }
-- for any struct S of plain data and a covered function g whose contract says `x ≡ G s`. f's says `r.new ≡ G r.old`.
--     function     f's MIR: a crate's own is this one by computation
--     meets        f's contract holds of it
-- The borrow is opened, the struct is copied out, g is called with the copy, its result is stored, and the borrow is closed at that record. Assumes nothing.
use mathlib.Core.Path.{◌≡◌, refl}
use Prim.Native.Nat.{ℕ}
use mathlib.Core.List.{List, [], ◌∷◌}
use seplogic.Ra.Ura.{Ura}
use base.Fraction.{full_share}
use mir.Syntax.{Callee, Ty, Fn, named, mut, ty_unit, ty_ref, deref, place, copy, opd_unit, local, value_local, seq, assign, call, return, rv_opd}
use mir.Val.{Val, vunit, vptr}
use base.Logic.{SProp, ent, sep, emp, via, fst∗}
use base.Fml.{GName, Lft, Share, ftrue, flft, fobs, fbor}
use prog.Wp.{WpFn, Tables}
use types.Logic.{Logic}
use contract.Monad.{fact}
use types.Kit.{‵, ◌⊛◌, ◌$◌, ◌∵◌, !, qed, by, move, keep, drop, split, join, fsplit, fsplit3, fjoin, fjoin3, feq_i, suffices, frame, done}
use types.Run.{look, look_raw, store_raw, init, forget, stop, hop, from, load, and_then, no_more, land, unit_lit, of_opd, assigns, returns, enter, alloc1, alloc0, params1, pass1, pass0, free1, free0}
use types.SemTy.{Body}
use sound.WpLaws.{fm_of, WpFn-mono}
use denote.Builtin.{unit as unitRow}
use denote.Exit.{yes}
use denote.RattleType.{owns}
use denote.Laws.{Is, shows}
use denote.Memory.{mem, pointee}
use denote.Ref.{MutBor, MutRef, mut_vals, mut_Tells}
use denote.Signature.{plain, mut_ref_to}
use denote.Steps.{opens, closes, owned, peeks, nothing}
use denote.Struct.Steps.{spelt}
use denote.Struct.Laws as LL
use denote.Triple.Statement.{Triple}
use denote.Triple.Entry.{on_entry}
use denote.Triple.Spec.{Meets}
use denote.Triple.Walked.{says, Stays, stay_ref, walk_of, Goes-ref, ends_at, walked, walk_Meets}
use denote.Triple.Clauses.{Clauses, Ended, closing}
use Rattle.walks.proofs.Records.{Kind, row, ty, D, typed_as, nothing_asked, Takes1, calls1}

module _ (S : Kind) (G : D S → D S) (#g : Callee) where
  abbrev ref : Ty
  ref = ty_ref (named 0) mut (pointee (row S).written)

  -- the locals: the unit, r, g's result, and the copy
  abbrev pub function : Fn
  function = record {
    lifetimes = 1;
    outlives = [];
    ty_params = [];
    givens = 0;
    params = 1;
    locals = local ty_unit value_local ∷ local ref value_local ∷ local (ty S) value_local ∷ local (ty S) value_local ∷ [];
    body = seq (assign (place 3 []) (rv_opd (copy (place 1 (deref (ty S) ∷ [])))))
        (seq (call #g (copy (place 3 []) ∷ []) (place 2 []))
        (seq (assign (place 1 (deref (ty S) ∷ [])) (rv_opd (copy (place 2 []))))
        (seq (assign (place 0 []) (rv_opd opd_unit)) return)));
  }

  abbrev pub ended : Ended
  ended = record { signature = record { lifetimes = 1; outlives = []; params = mut_ref_to (0 ∷ []) tt (plain (λ _. row S)) ∷ []; result = plain (λ _. unitRow) }; kept = (yes, tt) }

  abbrev stayed : Stays ended.signature.params ended.kept
  stayed = (stay_ref (0 ∷ []) tt (plain (λ _. row S)), tt)

  abbrev pub spec : {M : Type 1} (𝓤 : Ura M) → Clauses 𝓤 ended
  spec 𝓤 κs a = record { ghost = Unit {0}; requires = λ _. emp 𝓤; ensures = λ _ _ ws. fact 𝓤 (ws.0.now ≡ G a.0.now) }

  module _ {M : Type 1} {𝓤 : Ura M} (𝓛 : Logic 𝓤) (𝓣 : Tables 𝓤 𝓛.H) (known : Triple 𝓤 (𝓣.C #g) (Takes1 S S nothing_asked G 𝓛)) where
    open 𝓛 use {H, A}

    module _ (κ : Lft) (q : Share) (b o : ℕ) (γ : GName) (h : D S) where
      abbrev x : MutBor (D S) × Unit {0}
      x = (record { ref_ptr = (b, o); ghost_name = γ; now = h }, tt)

      abbrev at : List Val × Unit {0}
      at = (vptr b o ∷ [], tt)

      abbrev bound : (walk_of 𝓛 ended stayed (spec 𝓤)).Ghost
      bound = (((κ, tt), (q, tt), tt, x, at), tt)

      abbrev Post : Val → SProp 𝓤
      Post = (walk_of 𝓛 ended stayed (spec 𝓤)).post bound

      exits : (r : D S) → r ≡ G h → ent 𝓤 (sep 𝓤 (A.obs γ ((row S).coded.code r)) (sep 𝓤 (A.bor κ (Body (mem (row S)) b o γ)) (A.lft κ q))) (Post vunit)
      exits r e =
          qed 𝓛 (‵ (fobs γ ((row S).coded.code r)) ∷ ‵ (fbor κ (Body (mem (row S)) b o γ)) ∷ ‵ (flft κ q) ∷ []) ∵
          suffices ! _ (ends_at 𝓛 ended stayed (spec 𝓤) bound vunit tt (r, tt) (tt, tt)) $ says ! e $ nothing ! $ move ! (3 ∷ 0 ∷ []) $ join ! $
          frame ! $ feq_i ! (List Val) (vptr b o ∷ []) (vptr b o ∷ []) refl $ fjoin3 ! $ nothing ! $ move ! (1 ∷ 0 ∷ []) $ fjoin ! $
          feq_i ! (List Val) (vunit ∷ []) (vunit ∷ []) refl $ move ! (1 ∷ 0 ∷ []) $ done !

      walk : ent 𝓤 (on_entry 𝓛 ended.signature (κ, tt) (q, tt) x at) (WpFn 𝓤 H 𝓣.C 𝓣.Λ function (vptr b o ∷ []) Post)
      walk =
          qed 𝓛 ((‵ (flft κ q) ⊛ ‵ ftrue) ∷ ‵ (owns (MutRef (named 0) κ (row S) ∷ []) x at) ∷ []) ∵ split ! $ move ! (2 ∷ []) $ fsplit ! $ fsplit3 ! $ drop ! $ move ! (0 ∷ 1 ∷ 3 ∷ []) $
          -- [obs; the borrow; the token; true; true]
          enter ! 𝓣.C 𝓣.Λ function (vptr b o ∷ []) _ $
          alloc1 ! (λ l₀. alloc1 ! (λ l₁. alloc1 ! (λ l₂. alloc1 ! (λ l₃. alloc0 ! $ params1 ! $ pass1 ! (init ! 4 refl (tt, tt)) $ pass0 ! $
          move ! (8 ∷ 9 ∷ 10 ∷ []) $ opens ! tt (row S) {h = h} b o (λ vs. spelt ! (row S) (Is (row S)) (shows 𝓛 (row S)) (LL.vals S.type S.laws) (LL.tells S.type S.laws) full_share h vs b o $
          move ! (1 ∷ []) $ peeks ! (row S) (Is (row S)) (shows 𝓛 (row S)) h (LL.vals S.type S.laws h) (λ was. move ! (1 ∷ 0 ∷ []) $
          -- [the struct's cell; what it owns; the open borrow; obs; auth; _3; …; _2; …; _1; …; room for _0; …]
          assigns ! (of_opd ! (load ! (from ! (hop ! (look ! 9 refl) (stop !))) (look_raw ! 0 refl))) (from ! (stop !)) (init ! 5 refl (typed_as S 𝓛 h _ was)) $
          calls1 S S nothing_asked G ! (fm_of 𝓤 H 𝓛.laws 𝓣) known h _ was tt (and_then ! (load ! (from ! (stop !)) (look ! 6 refl)) (no_more !)) (λ r v is e.
          land ! (from ! (stop !)) (init ! 7 refl (typed_as S 𝓛 r v is)) $
          assigns ! (of_opd ! (load ! (from ! (stop !)) (look ! 7 refl))) (from ! (hop ! (look ! 9 refl) (stop !))) (store_raw ! 0 refl (typed_as S 𝓛 r v is)) $
          assigns ! (of_opd ! (unit_lit !)) (from ! (stop !)) (init ! 11 refl (tt, tt)) $
          move ! (1 ∷ []) $ drop ! $ owned ! (row S) (Is (row S)) (LL.makes S.type S.plainly 𝓛) r (v ∷ []) is $ move ! (1 ∷ 0 ∷ []) $ closes ! tt (row S) r (v ∷ []) b o $
          returns ! (look ! 9 refl) $ forget ! 3 refl $ forget ! 5 refl $ forget ! 7 refl $ forget ! 9 refl $ move ! (9 ∷ 10 ∷ []) $ free1 ! $ move ! (7 ∷ 8 ∷ []) $ free1 ! $ move ! (5 ∷ 6 ∷ []) $ free1 ! $ move ! (3 ∷ 4 ∷ []) $ free1 ! $ free0 ! $
          keep ! (0 ∷ 1 ∷ 2 ∷ []) $ by ! (exits r e))))))))

    pub meets : Meets 𝓛 ended.signature (WpFn 𝓤 H 𝓣.C 𝓣.Λ function) (closing 𝓛 ended (spec 𝓤))
    meets = walk_Meets 𝓛 ended stayed (Goes-ref 𝓛 1 0 tt (plain (λ _. row S)), tt) (spec 𝓤) (WpFn 𝓤 H 𝓣.C 𝓣.Λ function) (WpFn-mono 𝓤 H 𝓛.laws 𝓣 function)
        (walked 𝓛 ended stayed (spec 𝓤) (WpFn 𝓤 H 𝓣.C 𝓣.Λ function) (λ κs. (mut_vals, tt)) (λ κs. (mut_Tells (named 0) κs.0 (row S), tt))
        (λ κs qs bounds a _ _. via 𝓤 _ (fst∗ 𝓤 _ (emp 𝓤)) (walk κs.0 qs.0 a.0.ref_ptr.0 a.0.ref_ptr.1 a.0.ghost_name a.0.now)))
