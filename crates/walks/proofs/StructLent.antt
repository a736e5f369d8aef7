-- The walk of
--     fn f(mut r: S) -> S { g(&mut r); r }
-- for any struct S of plain data, where g takes a `&mut S` and its contract says `r.new ≡ G r.old`. f's says `x ≡ G r`, so whoever calls f needs no walk.
--     function     f's MIR: a crate's own is this one by computation
--     meets        f's contract holds of it
-- The struct's copy in memory is lent for a lifetime that the walk makes, and is taken back, with its last value, once g has returned. Assumes nothing.
use mathlib.Core.Path.{◌≡◌, refl}
use Prim.Native.Nat.{ℕ}
use mathlib.Core.List.{List, [], ◌∷◌}
use seplogic.Ra.Ura.{Ura}
use base.Fraction.{full_share}
use mir.Raw.{raw as raw_ty}
use mir.Syntax.{Callee, Fn, named, erased, mut, ty_unit, ty_ref, place, copy, local, value_local, memory_slot, seq, assign, call, return, rv_opd, addr_of}
use mir.Val.{Val, vptr}
use base.Logic.{SProp, ent, emp, via, fst∗, id⊢}
use base.Fml.{GName, Fml, ftrue, fat, fsep, flft, flent}
use prog.Wp.{WpFn, Tables}
use types.Logic.{Logic}
use contract.Monad.{fact}
use types.Kit.{‵, raw, ◌⊛◌, ⋆, some, later, ◌$◌, ◌∵◌, !, qed, by, move, keep, drop, use0, use1, use2, use3, split, join, pick, fsplit, fjoin, fpack, fpick, suffices, await, done}
use types.Tokens.{lft_new, lft_end}
use types.Run.{look, init, forget, stop, from, load, and_then, no_more, land, of_opd, addr, assigns, returns, enter, alloc1, alloc0, params1, pass1, pass0, free1, free0}
use types.SemTy.{Body}
use sound.WpLaws.{fm_of, WpFn-mono}
use denote.Exit.{yes, Last, left}
use denote.RattleType.{owns}
use denote.Laws.{Is, shows}
use denote.Lend.{lends_ref, ref_back}
use denote.Memory.{mem, pointee, cell_at, part_of}
use denote.Plain.{Nothing-Lawful}
use denote.Builtin.{unit as unitRow}
use denote.Ref.{MutBor, MutRef}
use denote.Signature.{plain}
use denote.Steps.{nothing, owned, peeks, heard}
use denote.Struct.Laws as LL
use denote.Struct.Steps.{spelt}
use denote.Triple.Statement.{Contract, Triple}
use denote.Triple.Call.{calls_at}
use denote.Triple.Spec.{Meets, triple_of}
use denote.Triple.Walked.{says, Stays, stay_none, walk_of, ends_at, walked, Goes-none, walk_Meets}
use denote.Triple.Clauses.{Clauses, Ended, closing, ensured, lasts}
use Rattle.walks.proofs.Records.{Kind, row, ty, D, Has, typed_as}
use Rattle.walks.proofs.InPlace as in_place

module _ (S : Kind) (G : D S → D S) (#g : Callee) where
  -- the locals: the result, r, r in memory, the unit, and a reference to what is in memory
  abbrev pub function : Fn
  function = record {
    lifetimes = 0;
    outlives = [];
    ty_params = [];
    givens = 0;
    params = 1;
    locals = local (ty S) value_local ∷ local (ty S) value_local ∷ local (ty S) memory_slot ∷ local ty_unit value_local ∷ local (ty_ref erased mut (pointee (row S).written)) value_local ∷ [];
    body = seq (assign (place 2 []) (rv_opd (copy (place 1 []))))
        (seq (assign (place 4 []) (addr_of (place 2 [])))
        (seq (call #g (copy (place 4 []) ∷ []) (place 3 []))
        (seq (assign (place 0 []) (rv_opd (copy (place 2 [])))) return)));
  }

  -- g's contract
  abbrev lent : Ended
  lent = in_place.ended S G #g

  abbrev pub Takes : {M : Type 1} {𝓤 : Ura M} (𝓛 : Logic 𝓤) → Contract 𝓤
  Takes {𝓤 = 𝓤} 𝓛 = triple_of 𝓛 lent.signature (closing 𝓛 lent (in_place.spec S G #g 𝓤))

  -- f's
  abbrev pub ended : Ended
  ended = record { signature = record { lifetimes = 0; outlives = []; params = plain (λ _. row S) ∷ []; result = plain (λ _. row S) }; kept = (yes, tt) }

  abbrev stayed : Stays ended.signature.params ended.kept
  stayed = (stay_none (λ _. row S) yes, tt)

  abbrev pub spec : {M : Type 1} (𝓤 : Ura M) → Clauses 𝓤 ended
  spec 𝓤 κs a = record { ghost = Unit {0}; requires = λ _. emp 𝓤; ensures = λ _ r _. fact 𝓤 (r ≡ G a.0) }

  abbrev val : D S → Val
  val = LL.val S.type S.laws

  -- last and silent: S is seen at exit as it was passed, which is `λ _. tt` and `λ _ _. refl` at a struct that is written out
  module _ (last : (h : D S) → Last ((row S).exit yes) h) (silent : (h : D S) (f : Last ((row S).exit yes) h) → left ((row S).exit yes) h f ≡ ftrue)
      {M : Type 1} {𝓤 : Ura M} (𝓛 : Logic 𝓤) (𝓣 : Tables 𝓤 𝓛.H) (known : Triple 𝓤 (𝓣.C #g) (Takes 𝓛)) where
    open 𝓛 use {H}

    module _ (h : D S) (was : Has S h (val h)) where
      abbrev bound : (walk_of 𝓛 ended stayed (spec 𝓤)).Ghost
      bound = ((tt, tt, tt, (h, tt), (val h ∷ [], tt)), tt)

      abbrev Post : Val → SProp 𝓤
      Post = (walk_of 𝓛 ended stayed (spec 𝓤)).post bound

      exits : (r : D S) (w : Val) → Has S r w → r ≡ G h → ent 𝓤 (emp 𝓤) (Post w)
      exits r w is e =
          qed 𝓛 [] ∵ suffices ! _ (ends_at 𝓛 ended stayed (spec 𝓤) bound w r (last h, tt) (tt, tt)) $ says ! e $
          owned ! (row S) (Is (row S)) (LL.makes S.type S.plainly 𝓛) r (w ∷ []) is $ nothing ! $
          owned ! (row S) (Is (row S)) (LL.makes S.type S.plainly 𝓛) h (val h ∷ []) was $ fjoin ! $ nothing ! $ done !

      module _ (l : ℕ) (α : ℕ) (γ : GName) where
        abbrev s : MutBor (D S)
        s = record { ref_ptr = (l, 0); ghost_name = γ; now = h }

        abbrev Own : Fml
        Own = (MutRef (named 0) (α ∷ []) (row S)).own_val s (vptr l 0 ∷ [])

        abbrev to_g : (Takes 𝓛).Ghost
        to_g = (((α ∷ [], tt), (full_share, tt), tt, (s, tt), (vptr l 0 ∷ [], tt)), tt)

        goes_in : ent 𝓤 (⋆ 𝓛 (‵ Own ∷ ‵ (flft (α ∷ []) full_share) ∷ [])) ((Takes 𝓛).pre to_g)
        goes_in =
            qed 𝓛 (‵ Own ∷ ‵ (flft (α ∷ []) full_share) ∷ []) ∵ nothing ! $ move ! (1 ∷ 0 ∷ []) $ fjoin ! $ nothing ! $ move ! (2 ∷ 0 ∷ []) $ join ! $ join ! $ use0 𝓛 (raw (emp 𝓤)) (id⊢ 𝓤 (emp 𝓤)) $ move ! (1 ∷ 0 ∷ []) $ done !

      walk : ent 𝓤 (⋆ 𝓛 (‵ ftrue ∷ ‵ (owns (row S ∷ []) (h, tt) (val h ∷ [], tt)) ∷ [])) (WpFn 𝓤 H 𝓣.C 𝓣.Λ function (val h ∷ []) Post)
      unfolding part_of
      walk =
          qed 𝓛 (‵ ftrue ∷ ‵ (owns (row S ∷ []) (h, tt) (val h ∷ [], tt)) ∷ []) ∵ enter ! 𝓣.C 𝓣.Λ function (val h ∷ []) _ $
          alloc1 ! (λ l₀. alloc1 ! (λ l₁. alloc1 ! (λ l₂. alloc1 ! (λ l₃. alloc1 ! (λ l₄. alloc0 ! $ params1 ! $ pass1 ! (init ! 6 refl (typed_as S 𝓛 h (val h) was)) $ pass0 ! $
          assigns ! (of_opd ! (load ! (from ! (stop !)) (look ! 6 refl))) (from ! (stop !)) (init ! 4 refl (typed_as S 𝓛 h (val h) was)) $
          assigns ! (addr ! (from ! (stop !))) (from ! (stop !)) (init ! 0 refl (tt, tt)) $
          -- the struct's cell and what it owns are the struct in memory
          move ! (11 ∷ []) $ fsplit ! $ move ! (6 ∷ 0 ∷ []) $ use1 𝓛 (‵ (fat full_share (raw_ty (ty S)) l₂ 0 (val h))) (𝓛.laws.at_raw full_share (ty S) l₂ 0 (val h)) $ fjoin ! $
          fpack ! (List Val) (λ us. fsep (cell_at full_share (row S).mir us l₂ 0) ((row S).own_val h us)) (val h ∷ []) $
          lft_new ! tt (λ α. move ! (1 ∷ []) $
          use1 𝓛 (later (some (λ (γ : GName). ‵ (Own l₂ α γ) ⊛ ‵ (flent (α ∷ []) (Body (mem (row S)) l₂ 0 γ))))) (lends_ref 𝓛 (row S) (named 0) (α ∷ []) h l₂ 0) $ await ! tt $ pick ! (λ γ. split ! $
          move ! (0 ∷ 2 ∷ []) $ use2 𝓛 (raw ((Takes 𝓛).pre (to_g l₂ α γ))) (goes_in l₂ α γ) $
          -- [g's pre; what is lent; true; _4; …; _3; …; that _2 dies; _1; …; _0; …; true]
          calls_at ! (fm_of 𝓤 H 𝓛.laws 𝓣) (Takes 𝓛) known (to_g l₂ α γ) (and_then ! (load ! (from ! (stop !)) (look ! 3 refl)) (no_more !)) (λ w.
          use1 𝓛 (later (some (λ (u : Unit {0}). ((‵ (flft (α ∷ []) full_share) ⊛ ‵ ftrue) ⊛ ‵ (unitRow.own_val u (w ∷ []))) ⊛ raw (ensured 𝓛 lent (in_place.spec S G #g 𝓤) (α ∷ [], tt) (s l₂ α γ, tt) tt u)))) (id⊢ 𝓤 _) $ await ! tt $ pick ! (λ u.
          split ! $ move ! (1 ∷ []) $ use1 𝓛 (some (λ (ws : D S × Unit {0}). ‵ (lasts lent (α ∷ [], tt) (s l₂ α γ, tt) ws) ⊛ raw (fact 𝓤 (ws.0 ≡ G h)))) (id⊢ 𝓤 _) $ pick ! (λ ws.
          split ! $ move ! (1 ∷ []) $ heard ! (ws.0 ≡ G h) (λ e. fsplit ! $ fsplit ! $ move ! (1 ∷ []) $ drop ! $ move ! (2 ∷ []) $ split ! $ move ! (1 ∷ []) $
          -- [what the unit owns; the token; the last value; true; what is lent; true; _4; …; _3; …; that _2 dies; _1; …; _0; …; true]
          peeks ! unitRow (Is unitRow) (shows 𝓛 unitRow) u (w ∷ []) (λ is. land ! (from ! (stop !)) (init ! 8 refl ((Nothing-Lawful 𝓛).typed u (w ∷ []) is).0) $
          drop ! $ split ! $ lft_end ! tt $ move ! (0 ∷ 4 ∷ 2 ∷ []) $ use3 𝓛 (later (‵ ((mem (row S)).own_at ws.0 l₂ 0))) (ref_back 𝓛 (row S) (α ∷ []) γ ws.0 l₂ 0) $ await ! tt $
          fpick ! (λ us. fsplit ! $ spelt ! (row S) (Is (row S)) (shows 𝓛 (row S)) (LL.vals S.type S.laws) (LL.tells S.type S.laws) full_share ws.0 us l₂ 0 $
          move ! (1 ∷ []) $ peeks ! (row S) (Is (row S)) (shows 𝓛 (row S)) ws.0 (val ws.0 ∷ []) (λ now-is. drop ! $ use1 𝓛 (‵ (fat full_share (ty S) l₂ 0 (val ws.0))) (𝓛.laws.raw_at full_share (ty S) l₂ 0 (val ws.0)) $
          -- [_2; true; true; true; _4; …; _3; …; that _2 dies; _1; …; room for _0; …; true]
          assigns ! (of_opd ! (load ! (from ! (stop !)) (look ! 0 refl))) (from ! (stop !)) (init ! 11 refl (typed_as S 𝓛 ws.0 (val ws.0) now-is)) $
          returns ! (look ! 11 refl) $ forget ! 0 refl $ forget ! 4 refl $ forget ! 6 refl $ forget ! 9 refl $ forget ! 11 refl $
          move ! (11 ∷ 12 ∷ []) $ free1 ! $ move ! (9 ∷ 10 ∷ []) $ free1 ! $ move ! (0 ∷ 8 ∷ []) $ free1 ! $ move ! (5 ∷ 6 ∷ []) $ free1 ! $ move ! (3 ∷ 4 ∷ []) $ free1 ! $ free0 ! $
          keep ! [] $ by ! (exits ws.0 (val ws.0) now-is e)))))))))))))))

    pub meets : Meets 𝓛 ended.signature (WpFn 𝓤 H 𝓣.C 𝓣.Λ function) (closing 𝓛 ended (spec 𝓤))
    meets = walk_Meets 𝓛 ended stayed (Goes-none 𝓛 0 (λ _. row S) yes (λ κs. silent), tt) (spec 𝓤) (WpFn 𝓤 H 𝓣.C 𝓣.Λ function) (WpFn-mono 𝓤 H 𝓛.laws 𝓣 function)
        (walked 𝓛 ended stayed (spec 𝓤) (WpFn 𝓤 H 𝓣.C 𝓣.Λ function) (λ κs. (LL.vals S.type S.laws, tt)) (λ κs. (LL.tells S.type S.laws, tt))
        (λ κs qs bounds a _ are. via 𝓤 _ (fst∗ 𝓤 _ (emp 𝓤)) (walk a.0 are.0)))
