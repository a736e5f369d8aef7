-- The walk of
--     fn f(t: B, xs: [E; k], n: usize) -> R requires { n ≤ k } { g(t, &xs[..n]) }
-- for any structs B, E and R of plain data, where g takes a `&[E]` and its contract says `r ≡ F t s.now`. f's says `r ≡ F t (take n xs)`, so whoever calls f needs no walk.
--     function     f's MIR: a crate's own is this one by computation
--     meets        f's contract holds of it
-- The array's copy in memory is parted, its first n elements are lent for a lifetime that the walk makes, and they are taken back once g has returned. Assumes nothing.
use mathlib.Core.Path.{◌≡◌, refl, sym, ap}
use Prim.Native.Nat.{ℕ, zero, suc, ◌≤◌, ◌<◌, ◌^◌}
use native.Mathlib.Nat.{not-suc-le-zero, le_of_suc-le-suc, lt_of_le_of_lt}
use mathlib.Core.List.{List, [], ◌∷◌, ◌++◌}
use lib.ListN.{length, take, drop as dropped, take-append-drop}
use seplogic.Ra.Ura.{Ura}
use base.Fraction.{full_share}
use mir.Raw.{raw as raw_ty}
use mir.Syntax.{Callee, Ty, Fn, named, erased, imm, w64, ty_int, ty_ref, ty_array, place, copy, local, value_local, memory_slot, seq, assign, call, return, rv_opd, addr_of, aggregate}
use mir.Val.{Val, vint, WT, has_ty}
use lib.Dec.{T}
use base.Logic.{SProp, ent, sep, emp, snd∗, ex_e, id⊢}
use base.Fml.{Fml, ftrue, fat, fsep, flft, flent}
use prog.Wp.{WpFn, Tables}
use types.Logic.{Logic, sem}
use contract.BorrowLft.{⊑_static, ⊑_refl}
use contract.Monad.{fact}
use types.Kit.{‵, raw, ◌⊛◌, ⋆, some, later, ◌$◌, ◌∵◌, !, qed, by, move, keep, drop, use0, use1, use2, use3, split, join, pick, rewrite, fsplit, fjoin, fpack, fpick, feq_i, suffices, await, done}
use types.Tokens.{lft_new, lft_end, lent_back}
use types.Part.{agg}
use types.Run.{look, init, forget, stop, from, load, and_then, no_more, land, of_opd, addr, assigns, returns, enter, alloc1, alloc0, params1, pass1, pass0, free1, free0}
use types.SemTy.{cells}
use types.Share.{arr_parts}
use sound.WpLaws.{fm_of, WpFn-mono}
use borrow.Rule.Array.Share.{Room-take}
use borrow.Rule.Slice.Shared.{Sh, parts-cells}
use borrow.Table.Elements.{at, cut_app, join_app}
use denote.Array.{Array, array_vals, Array-Tells, Array-Lawful, Array-Makes}
use denote.ArrayMemory.{Array-apart, Array-whole}
use denote.Builtin.{usize}
use denote.Exit.{yes, Last, left}
use denote.RattleType.{RattleType, owns}
use denote.Laws.{Is, shows}
use denote.Lend.{lends_shr_slice}
use denote.Memory.{mem, pointee, cell_at, part_at, part_of, shares}
use denote.Plain.{uint_Makes, uint_vals, uint_Tells}
use denote.Ref.{Bor}
use denote.Slice.{slice_ty, slice_val, ShrSlice, Room}
use denote.Signature.{plain, shr_slice}
use denote.Steps.{nothing, owned, peeks, heard}
use denote.Struct.Laws as LL
use denote.Struct.Steps.{spelt}
use denote.Triple.Statement.{Contract, Triple}
use denote.Triple.Call.{calls_at}
use denote.Triple.Spec.{Meets, triple_of}
use denote.Triple.Walked.{says, needs, Stays, stay_none, walk_of, ends_at, walked, Goes-none, walk_Meets}
use denote.Triple.Clauses.{Clauses, Ended, closing, ensured, lasts}
use Rattle.walks.proofs.Records.{Kind, row, ty, D, Has, typed_as}

take_length : {X : Type 0} (n : ℕ) (xs : List X) → n ≤ length xs → length (take n xs) ≡ n
take_length zero xs l = refl
take_length (suc n) [] l = absurd (not-suc-le-zero l)
take_length (suc n) (x ∷ xs) l = ap suc (take_length n xs (le_of_suc-le-suc l))

-- ---- the elements in memory are the first n and the rest
module _ {M : Type 1} {𝓤 : Ura M} (𝓛 : Logic 𝓤) (R : RattleType) (b : ℕ) where
  abbrev All : List R.Denot → ℕ → Fml
  All xs o = (arr_parts (shares R) (length xs)).part full_share xs b o

  -- where the elements after the first n begin
  abbrev past : ℕ → List R.Denot → ℕ
  past n xs = at 0 (mem R).size (length (take n xs))

  parted : (xs : List R.Denot) (n : ℕ) → ent 𝓤 (sem 𝓛 (All xs 0)) (sep 𝓤 (sem 𝓛 (All (take n xs) 0)) (sem 𝓛 (All (dropped n xs) (past n xs))))
  parted xs n = qed 𝓛 (‵ (All xs 0) ∷ []) {P = sep 𝓤 (sem 𝓛 (All (take n xs) 0)) (sem 𝓛 (All (dropped n xs) (past n xs)))} (
      fsplit ! $ drop ! $ rewrite ! 0 (λ (F : Fml). ‵ F) (parts-cells R full_share xs b 0) refl $ rewrite ! 0 (λ (ys : List R.Denot). ‵ (cells (Sh R full_share) ys b 0)) (sym (take-append-drop n xs)) refl $
      use1 𝓛 (‵ (cells (Sh R full_share) (take n xs) b 0) ⊛ ‵ (cells (Sh R full_share) (dropped n xs) b (past n xs))) (cut_app 𝓛 (Sh R full_share) (take n xs) (dropped n xs) b 0) $ split ! $
      rewrite ! 0 (λ (F : Fml). ‵ F) (sym (parts-cells R full_share (take n xs) b 0)) refl $ feq_i ! ℕ (length (take n xs)) (length (take n xs)) refl $ fjoin ! $ move ! (1 ∷ []) $
      rewrite ! 0 (λ (F : Fml). ‵ F) (sym (parts-cells R full_share (dropped n xs) b (past n xs))) refl $ feq_i ! ℕ (length (dropped n xs)) (length (dropped n xs)) refl $ fjoin ! $ move ! (1 ∷ 0 ∷ []) $ done !)

  joined : (xs : List R.Denot) (n : ℕ) → ent 𝓤 (sep 𝓤 (sem 𝓛 (All (take n xs) 0)) (sem 𝓛 (All (dropped n xs) (past n xs)))) (sem 𝓛 (All xs 0))
  joined xs n = qed 𝓛 (‵ (All (take n xs) 0) ∷ ‵ (All (dropped n xs) (past n xs)) ∷ []) {P = sem 𝓛 (All xs 0)} (
      fsplit ! $ drop ! $ rewrite ! 0 (λ (F : Fml). ‵ F) (parts-cells R full_share (take n xs) b 0) refl $ move ! (1 ∷ []) $ fsplit ! $ drop ! $ rewrite ! 0 (λ (F : Fml). ‵ F) (parts-cells R full_share (dropped n xs) b (past n xs)) refl $ move ! (1 ∷ 0 ∷ []) $
      use2 𝓛 (‵ (cells (Sh R full_share) (take n xs ++ dropped n xs) b 0)) (join_app 𝓛 (Sh R full_share) (take n xs) (dropped n xs) b 0) $
      rewrite ! 0 (λ (ys : List R.Denot). ‵ (cells (Sh R full_share) ys b 0)) (take-append-drop n xs) refl $ rewrite ! 0 (λ (F : Fml). ‵ F) (sym (parts-cells R full_share xs b 0)) refl $
      feq_i ! ℕ (length xs) (length xs) refl $ fjoin ! $ done !)

-- ---- the walk
module _ (B R E : Kind) (cE : LL.Copyables E.type.parts) (k : ℕ) (F : D B → List (D E) → D R) (#g : Callee) where
  abbrev Row : RattleType
  Row = Array (row E) k

  abbrev array : Ty
  array = ty_array (ty E) k

  abbrev slice : Ty
  slice = slice_ty (ty_ref erased imm (pointee (row E).written))

  -- the locals: the result, t, xs, n, xs in memory, a reference to it, and the slice
  abbrev pub function : Fn
  function = record {
    lifetimes = 0;
    outlives = [];
    ty_params = [];
    givens = 0;
    params = 3;
    locals = local (ty R) value_local ∷ local (ty B) value_local ∷ local array value_local ∷ local (ty_int w64) value_local ∷ local array memory_slot ∷ local (ty_ref erased imm (pointee Row.written)) value_local ∷ local slice value_local ∷ [];
    body = seq (assign (place 4 []) (rv_opd (copy (place 2 []))))
        (seq (assign (place 5 []) (addr_of (place 4 [])))
        (seq (assign (place 6 []) (aggregate (copy (place 5 []) ∷ copy (place 3 []) ∷ [])))
        (seq (call #g (copy (place 1 []) ∷ copy (place 6 []) ∷ []) (place 0 [])) return)));
  }

  -- g's contract
  abbrev lent : Ended
  lent = record { signature = record { lifetimes = 1; outlives = []; params = plain (λ _. row B) ∷ shr_slice 0 tt (λ _. row E) ∷ []; result = plain (λ _. row R) }; kept = (yes, (yes, tt)) }

  abbrev lent_spec : {M : Type 1} (𝓤 : Ura M) → Clauses 𝓤 lent
  lent_spec 𝓤 κs a = record { ghost = Unit {0}; requires = λ _. emp 𝓤; ensures = λ _ r _. fact 𝓤 (r ≡ F a.0 a.1.0.now) }

  abbrev pub Takes : {M : Type 1} {𝓤 : Ura M} (𝓛 : Logic 𝓤) → Contract 𝓤
  Takes {𝓤 = 𝓤} 𝓛 = triple_of 𝓛 lent.signature (closing 𝓛 lent (lent_spec 𝓤))

  -- f's
  abbrev pub ended : Ended
  ended = record { signature = record { lifetimes = 0; outlives = []; params = plain (λ _. row B) ∷ plain (λ _. Row) ∷ plain (λ _. usize) ∷ []; result = plain (λ _. row R) }; kept = (yes, (yes, (yes, tt))) }

  abbrev stayed : Stays ended.signature.params ended.kept
  stayed = (stay_none (λ _. row B) yes, (stay_none (λ _. Row) yes, (stay_none (λ _. usize) yes, tt)))

  abbrev pub spec : {M : Type 1} (𝓤 : Ura M) → Clauses 𝓤 ended
  spec 𝓤 κs a = record { ghost = Unit {0}; requires = λ _. fact 𝓤 (a.1.1.0 ≤ k); ensures = λ _ r _. fact 𝓤 (r ≡ F a.0 (take a.1.1.0 a.1.0)) }

  abbrev val_b : D B → Val
  val_b = LL.val B.type B.laws

  abbrev vals_e : D E → List Val
  vals_e = LL.vals E.type E.laws

  -- last and silent: B and the array are seen at exit as they were passed, which is `λ _. tt` and `λ _ _. refl` at structs that are written out
  module _ (last : (t : D B) → Last ((row B).exit yes) t) (silent : (t : D B) (f : Last ((row B).exit yes) t) → left ((row B).exit yes) t f ≡ ftrue) (lasts-too : (xs : List (D E)) → Last (Row.exit yes) xs) (silent-too : (xs : List (D E)) (f : Last (Row.exit yes) xs) → left (Row.exit yes) xs f ≡ ftrue)
      (room : Room (row E) k) {M : Type 1} {𝓤 : Ura M} (𝓛 : Logic 𝓤) (𝓣 : Tables 𝓤 𝓛.H) (known : Triple 𝓤 (𝓣.C #g) (Takes 𝓛)) where
    open 𝓛 use {H}

    module _ (t : D B) (was : Has B t (val_b t)) (xs : List (D E)) (v : Val) (too : Is Row xs (v ∷ [])) (n : ℕ) (within : n ≤ k) where
      abbrev bound : (walk_of 𝓛 ended stayed (spec 𝓤)).Ghost
      bound = ((tt, tt, tt, (t, (xs, (n, tt))), (val_b t ∷ [], (v ∷ [], (vint w64 n ∷ [], tt)))), tt)

      abbrev Post : Val → SProp 𝓤
      Post = (walk_of 𝓛 ended stayed (spec 𝓤)).post bound

      abbrev few : List (D E)
      few = take n xs

      len : length xs ≡ k
      len = too.1.0.1

      count : length few ≡ n
      count = take_length n xs (rw len within)

      n_fits : n < 2 ^ 64
      n_fits = lt_of_le_of_lt within room.0

      exits : (r : D R) (w : Val) → Has R r w → r ≡ F t few → ent 𝓤 (emp 𝓤) (Post w)
      exits r w is e =
          qed 𝓛 [] ∵ suffices ! _ (ends_at 𝓛 ended stayed (spec 𝓤) bound w r (last t, (lasts-too xs, (tt, tt))) (tt, (tt, (tt, tt)))) $ says ! e $
          owned ! (row R) (Is (row R)) (LL.makes R.type R.plainly 𝓛) r (w ∷ []) is $ nothing ! $ owned ! usize (Is usize) (uint_Makes 𝓛 w64) n _ (refl, n_fits) $ fjoin ! $
          owned ! Row (Is Row) (Array-Makes 𝓛 (row E) (LL.makes E.type E.plainly 𝓛) k) xs (v ∷ []) too $ fjoin ! $
          owned ! (row B) (Is (row B)) (LL.makes B.type B.plainly 𝓛) t (val_b t ∷ []) was $ fjoin ! $ nothing ! $ done !

      module _ (l : ℕ) (α : ℕ) where
        abbrev s : Bor (List (D E))
        s = record { ref_ptr = (l, 0); now = few }

        abbrev Own : Fml
        Own = (ShrSlice (named 0) (α ∷ []) (row E)).own_val s (slice_val (l, 0) (length few) ∷ [])

        abbrev to_g : (Takes 𝓛).Ghost
        to_g = (((α ∷ [], tt), (full_share, tt), tt, (t, (s, tt)), (val_b t ∷ [], (slice_val (l, 0) (length few) ∷ [], tt))), tt)

        goes_in : ent 𝓤 (⋆ 𝓛 (‵ ((row B).own_val t (val_b t ∷ [])) ∷ ‵ Own ∷ ‵ (flft (α ∷ []) full_share) ∷ [])) ((Takes 𝓛).pre to_g)
        goes_in =
            qed 𝓛 (‵ ((row B).own_val t (val_b t ∷ [])) ∷ ‵ Own ∷ ‵ (flft (α ∷ []) full_share) ∷ []) ∵ nothing ! $ move ! (2 ∷ 0 ∷ []) $ fjoin ! $ move ! (1 ∷ 0 ∷ []) $ fjoin ! $ nothing ! $ move ! (2 ∷ 0 ∷ []) $ join ! $ join ! $ use0 𝓛 (raw (emp 𝓤)) (id⊢ 𝓤 (emp 𝓤)) $ move ! (1 ∷ 0 ∷ []) $ done !

        said : (r : D R) → ent 𝓤 (ensured 𝓛 lent (lent_spec 𝓤) (α ∷ [], tt) (t, (s, tt)) tt r) (fact 𝓤 (r ≡ F t few))
        said r = ex_e 𝓤 _ (λ ws. snd∗ 𝓤 (sem 𝓛 (lasts lent (α ∷ [], tt) (t, (s, tt)) ws)) (fact 𝓤 (r ≡ F t few)))

      walk : ent 𝓤 (⋆ 𝓛 (‵ ftrue ∷ ‵ (owns (row B ∷ Row ∷ usize ∷ []) (t, (xs, (n, tt))) (val_b t ∷ [], (v ∷ [], (vint w64 n ∷ [], tt)))) ∷ [])) (WpFn 𝓤 H 𝓣.C 𝓣.Λ function (val_b t ∷ v ∷ vint w64 n ∷ []) Post)
      unfolding part_of
      walk =
          qed 𝓛 (‵ ftrue ∷ ‵ (owns (row B ∷ Row ∷ usize ∷ []) (t, (xs, (n, tt))) (val_b t ∷ [], (v ∷ [], (vint w64 n ∷ [], tt)))) ∷ []) ∵ enter ! 𝓣.C 𝓣.Λ function (val_b t ∷ v ∷ vint w64 n ∷ []) _ $
          alloc1 ! (λ l₀. alloc1 ! (λ l₁. alloc1 ! (λ l₂. alloc1 ! (λ l₃. alloc1 ! (λ l₄. alloc1 ! (λ l₅. alloc1 ! (λ l₆. alloc0 ! $ params1 ! $
          pass1 ! (init ! 10 refl (typed_as B 𝓛 t (val_b t) was)) $ pass1 ! (init ! 8 refl typed) $ pass1 ! (init ! 6 refl (tt, record { fits = n_fits })) $ pass0 ! $
          assigns ! (of_opd ! (load ! (from ! (stop !)) (look ! 8 refl))) (from ! (stop !)) (init ! 4 refl typed) $
          assigns ! (addr ! (from ! (stop !))) (from ! (stop !)) (init ! 2 refl (tt, tt)) $
          assigns ! (agg ! (and_then ! (load ! (from ! (stop !)) (look ! 2 refl)) (and_then ! (load ! (from ! (stop !)) (look ! 6 refl)) (no_more !)))) (from ! (stop !)) (init ! 0 refl (tt, (tt, (record { fits = n_fits }, tt)))) $
          rewrite ! 0 (λ (m : ℕ). ‵ (fat full_share slice l₆ 0 (slice_val (l₄, 0) m))) (sym count) refl $
          -- the array's cell and what it owns are the array in memory, which is its first n elements and the rest
          move ! (15 ∷ []) $ fsplit ! $ drop ! $ fsplit ! $ move ! (6 ∷ 0 ∷ []) $ use1 𝓛 (‵ (fat full_share (raw_ty array) l₄ 0 v)) (𝓛.laws.at_raw full_share array l₄ 0 v) $ fjoin ! $
          fpack ! (List Val) (λ us. fsep (cell_at full_share Row.mir us l₄ 0) (Row.own_val xs us)) (v ∷ []) $
          use1 𝓛 (‵ ((arr_parts (shares (row E)) k).part full_share xs l₄ 0)) (Array-apart 𝓛 (row E) full_share tt k xs l₄ 0) $
          rewrite ! 0 (λ (m : ℕ). ‵ ((arr_parts (shares (row E)) m).part full_share xs l₄ 0)) (sym len) refl $
          use1 𝓛 (‵ (All 𝓛 (row E) l₄ few 0) ⊛ ‵ (All 𝓛 (row E) l₄ (dropped n xs) (past 𝓛 (row E) l₄ n xs))) (parted 𝓛 (row E) l₄ xs n) $ split ! $
          lft_new ! tt (λ α. move ! (1 ∷ 0 ∷ []) $
          use2 𝓛 (later ((‵ (Own l₄ α) ⊛ ‵ (flent (α ∷ []) (All 𝓛 (row E) l₄ few 0))) ⊛ ‵ (flft (α ∷ []) full_share)))
          (lends_shr_slice 𝓛 (row E) (named 0) (α ∷ []) full_share few l₄ 0 (Room-take (row E) k n xs len room) [] ((LL.copied E.type cE 𝓛).shares full_share []) ((α ∷ [], full_share) ∷ []) (⊑_static (α ∷ [])) (⊑_refl (α ∷ []))) $ await ! tt $ split ! $ split ! $
          move ! (0 ∷ 2 ∷ []) $ owned ! (row B) (Is (row B)) (LL.makes B.type B.plainly 𝓛) t (val_b t ∷ []) was $ use3 𝓛 (raw ((Takes 𝓛).pre (to_g l₄ α))) (goes_in l₄ α) $
          -- [g's pre; what is lent; the rest; …; _6; …; _5; …; that _4 dies; _3; …; _2; …; _1; …; _0; …; true]
          calls_at ! (fm_of 𝓤 H 𝓛.laws 𝓣) (Takes 𝓛) known (to_g l₄ α) (and_then ! (load ! (from ! (stop !)) (look ! 13 refl)) (and_then ! (load ! (from ! (stop !)) (look ! 4 refl)) (no_more !))) (λ w.
          use1 𝓛 (later (some (λ (r : D R). ((‵ (flft (α ∷ []) full_share) ⊛ ‵ ftrue) ⊛ ‵ ((row R).own_val r (w ∷ []))) ⊛ raw (ensured 𝓛 lent (lent_spec 𝓤) (α ∷ [], tt) (t, (s l₄ α, tt)) tt r)))) (id⊢ 𝓤 _) $ await ! tt $ pick ! (λ r.
          split ! $ move ! (1 ∷ []) $ use1 𝓛 (raw (fact 𝓤 (r ≡ F t few))) (said l₄ α r) $ heard ! (r ≡ F t few) (λ e. split ! $ move ! (1 ∷ []) $
          peeks ! (row R) (Is (row R)) (shows 𝓛 (row R)) r (w ∷ []) (λ is. drop ! $ split ! $ lft_end ! tt $ move ! (0 ∷ 2 ∷ []) $ lent_back ! tt $
          move ! (0 ∷ 2 ∷ []) $ use2 𝓛 (‵ (All 𝓛 (row E) l₄ xs 0)) (joined 𝓛 (row E) l₄ xs n) $
          rewrite ! 0 (λ (m : ℕ). ‵ ((arr_parts (shares (row E)) m).part full_share xs l₄ 0)) len refl $ use1 𝓛 (‵ (part_at Row full_share xs l₄ 0)) (Array-whole 𝓛 (row E) full_share k xs l₄ 0) $
          fpick ! (λ us. fsplit ! $ spelt ! Row (Is Row) (shows 𝓛 Row) (array_vals vals_e) (Array-Tells (row E) vals_e (LL.tells E.type E.laws) k) full_share xs us l₄ 0 $
          use1 𝓛 (‵ (fat full_share array l₄ 0 _)) (𝓛.laws.raw_at full_share array l₄ 0 _) $ move ! (1 ∷ []) $ drop ! $
          -- [_4; true; …; _6; …; _5; …; that _4 dies; _3; …; _2; …; _1; …; room for _0; …; true]
          land ! (from ! (stop !)) (init ! 14 refl (typed_as R 𝓛 r w is)) $
          returns ! (look ! 14 refl) $ forget ! 0 refl $ forget ! 3 refl $ forget ! 5 refl $ forget ! 8 refl $ forget ! 10 refl $ forget ! 12 refl $ forget ! 14 refl $
          move ! (14 ∷ 15 ∷ []) $ free1 ! $ move ! (12 ∷ 13 ∷ []) $ free1 ! $ move ! (10 ∷ 11 ∷ []) $ free1 ! $ move ! (8 ∷ 9 ∷ []) $ free1 ! $ move ! (0 ∷ 7 ∷ []) $ free1 ! $ move ! (4 ∷ 5 ∷ []) $ free1 ! $ move ! (2 ∷ 3 ∷ []) $ free1 ! $ free0 ! $
          keep ! [] $ by ! (exits r w is e))))))))))))))
        where
          typed : T (has_ty array v) × WT v
          typed = ((Array-Lawful 𝓛 (row E) (LL.lawful E.type E.laws 𝓛) k).typed xs (v ∷ []) too).0

    pub meets : Meets 𝓛 ended.signature (WpFn 𝓤 H 𝓣.C 𝓣.Λ function) (closing 𝓛 ended (spec 𝓤))
    meets = walk_Meets 𝓛 ended stayed (Goes-none 𝓛 0 (λ _. row B) yes (λ κs. silent), (Goes-none 𝓛 0 (λ _. Row) yes (λ κs. silent-too), (Goes-none 𝓛 0 (λ _. usize) yes (λ κs x f. refl), tt))) (spec 𝓤) (WpFn 𝓤 H 𝓣.C 𝓣.Λ function) (WpFn-mono 𝓤 H 𝓛.laws 𝓣 function)
        (walked 𝓛 ended stayed (spec 𝓤) (WpFn 𝓤 H 𝓣.C 𝓣.Λ function) (λ κs. (LL.vals B.type B.laws, (array_vals vals_e, (uint_vals w64, tt)))) (λ κs. (LL.tells B.type B.laws, (Array-Tells (row E) vals_e (LL.tells E.type E.laws) k, (uint_Tells w64, tt))))
        (λ κs qs bounds a _ are. needs 𝓤 (a.1.1.0 ≤ k) _ (λ within. walk a.0 are.0 a.1.0 _ are.1.0 a.1.1.0 within)))
