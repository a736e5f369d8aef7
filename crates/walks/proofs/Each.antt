-- The walk of
--     fn f(t: B, s: &[E]) -> R { let mut a = begin(t); let mut i: usize = 0; while i < s.len() { a = each(a, s[i]); i = i + 1; } finish(a) }
-- for any structs B, E, S (a's) and R of plain data, and covered functions begin, each and finish whose contracts say `r ≡ begin t`, `r ≡ step a x` and `r ≡ finish a`. f's says `r ≡ F t s.now`, where F t xs is shown to be `finish (over step (begin t) xs)`.
--     function     f's MIR: a crate's own is this one by computation
--     meets        f's contract holds of it
-- The slice is looked into in each turn, its element i is copied out, and the slice is shut before `each` is called. Assumes nothing.
use mathlib.Core.Path.{◌≡◌, refl, sym, ◌∙◌, ap, subst}
use Prim.Native.Nat.{ℕ, zero, suc, ◌+◌, ◌-◌, ◌*◌, ◌≤◌, ◌<◌, ◌^◌, zero-le}
use native.Mathlib.Nat.{add-zero, add-suc, lt_of_le_of_lt, mul-le-mul_right, le_of_lt, not-suc-le-zero, le_of_suc-le-suc}
use native.Mathlib.Numerals.{add-one-le, add-one-dec}
use native.Mathlib.Omega.{arith}
use mathlib.Core.WellFounded.InvImage
use mathlib.Core.WellFounded.{WellFounded}
use mathlib.Core.List.{List, [], ◌∷◌}
use lib.ListN.{length, get_or, drop as dropped, drop_of_length-le}
use lib.WfN.{lt-wf_rel}
use lib.Dec.{T, ltb, ltb→lt, nltb→le, lit<}
use seplogic.Ra.Ura.{Ura}
use base.Fraction.{full_share}
use mir.Syntax.{Callee, Ty, Fn, Body as Code, named, imm, w64, ty_int, ty_bool, ty_ptr, ty_ref, deref, field, place, unsigned, copy, int, local, value_local, skip as skipᴹ, seq, assign, block, loop, cond, exit, return, call, rv_opd, op2, add, mul, lt, offset}
use mir.Val.{Val, vint, vptr}
use base.Logic.{SProp, ent, via, mono_r}
use base.Fml.{Lft, GName, Share, Fml, ftrue, fat, froom, fdies, flft}
use prog.Wp.{Out, Env, after_seq, after_block, after_turn, Calls, Loops, Wp, at_return, WpFn, Tables}
use types.Logic.{Logic}
use sound.WpLaws.{fm_of, WpFn-mono}
use contract.Monad.{fact}
use types.Kit.{Item, ‵, runs, any_q, at_ret, Sq, ◌⊛◌, ⋆, ◌$◌, ◌∵◌, !, qed, by, move, keep, drop, use1, split, join, rewrite, fsplit, fjoin, suffices, frame, done}
use types.Part.{whole, sub, look_in}
use types.Run.{look, look_raw, store, init, forget, stop, hop, fld, from, load, and_then, no_more, land, lit, of_opd, bin, assigns, assigns_last, first, skips, jumps, blocks, branches, returns, enter, alloc1, alloc0, params1, pass1, pass0, free1, free0, exec, Below, again, loops}
use denote.Exit.{yes, Last, left}
use denote.RattleType.{RowLaws, owns}
use denote.Laws.{Is, shows}
use denote.Memory.{mem, pointee}
use denote.Ref.{Bor}
use denote.Slice.{slice_ty, slice_val, ShrSlice, Room, shr_slice_copy, shr_slice_vals, shr_slice_Tells}
use denote.Index.{place_is, elem_out, elem_back, looks_slice, shuts_slice}
use denote.Signature.{plain, shr_slice}
use denote.Steps.{nothing, owned}
use denote.Struct.Declared.{shape}
use denote.Struct.Laws as LL
use denote.Struct.Recorded.{Recorded-row_laws}
use denote.Struct.Struct.{Struct, Struct-row_laws}
use denote.Triple.Statement.{Triple}
use denote.Triple.Entry.{on_entry}
use denote.Triple.Spec.{Meets}
use denote.Triple.Walked.{says, needs, Stays, stay_none, stay_none_slice, walk_of, ends_at, walked, Goes-none, Goes-none_slice, walk_Meets}
use denote.Triple.Clauses.{Clauses, Ended, closing}
use Rattle.walks.specs.Over.{over}
use Rattle.walks.proofs.Records.{Kind, row, ty, D, Has, typed_as, Asks, Takes1, Takes2, calls1, calls2}

-- ---- lists and numbers
one_more : (i : ℕ) → i + 1 ≡ suc i
one_more i = add-suc i zero ∙ ap suc (add-zero i)

drop_at : {X : Type 0} (xs : List X) (i : ℕ) (d : X) → i < length xs → dropped i xs ≡ get_or xs i d ∷ dropped (suc i) xs
drop_at [] i d l = absurd (not-suc-le-zero l)
drop_at (x ∷ xs) zero d l = refl
drop_at (x ∷ xs) (suc i) d l = drop_at xs i d (le_of_suc-le-suc l)

bytes_fit : (i n s : ℕ) → i < n → n * s < 2 ^ 63 → i * s < 2 ^ 64
bytes_fit i n s l r = less (lt_of_le_of_lt (mul-le-mul_right s (le_of_lt l)) r)
  where
    less : {m : ℕ} → m < 2 ^ 63 → m < 2 ^ 64
    less h = omega arith

abbrev word : Ty
word = ty_int w64

-- ---- the walk. asks-f: what f requires, of t. Good: what is so of a in every turn
module _ (B S R E : Kind) (cE : LL.Copyables E.type.parts) (none : D E) (begin : D B → D S) (step : D S → D E → D S) (finish : D S → D R) (F : D B → List (D E) → D R) (#begin #each #finish : Callee)
    (asks-f asks-begin : Asks (D B)) (asks-each : Asks (D S × D E)) (asks-finish : Asks (D S)) (Good : D S → Type 0) (may-begin : (t : D B) → asks-f.that t → asks-begin.that t) (good : (t : D B) → asks-f.that t → Good (begin t))
    (may-step : (a : D S) (x : D E) → Good a → asks-each.that (a, x)) (stays-good : (a : D S) (x : D E) → Good a → Good (step a x)) (may-finish : (a : D S) → Good a → asks-finish.that a) where
  abbrev size : ℕ
  size = (mem (row E)).size

  rows : RowLaws (row E)
  rows = Recorded-row_laws (Struct (shape E.type)) E.type.D E.type.to E.type.to_one (Struct-row_laws (shape E.type) (LL.copy_row_laws E.type.parts cE))

  abbrev slice : Ty
  slice = slice_ty (ty_ref (named 0) imm (pointee (row E).written))

  -- ---- the MIR. The locals: the result, t, s, a, i, the count and then the bytes before element i, the test, the place of `s[i]`, and the element
  abbrev more : Code
  more = seq (assign (place 5 []) (op2 (mul unsigned) (copy (place 4 [])) (int w64 size)))
      (seq (assign (place 7 []) (op2 offset (copy (place 2 (field 0 ∷ []))) (copy (place 5 []))))
      (seq (assign (place 8 []) (rv_opd (copy (place 7 (deref (ty E) ∷ [])))))
      (seq (call #each (copy (place 3 []) ∷ copy (place 8 []) ∷ []) (place 3 []))
      (assign (place 4 []) (op2 (add unsigned) (copy (place 4 [])) (int w64 1))))))

  abbrev turn : Code
  turn = seq (assign (place 5 []) (rv_opd (copy (place 2 (field 1 ∷ [])))))
      (seq (assign (place 6 []) (op2 (lt unsigned) (copy (place 4 [])) (copy (place 5 []))))
      (seq (cond (copy (place 6 [])) skipᴹ (exit 1)) more))

  abbrev rest : Code
  rest = seq (call #finish (copy (place 3 []) ∷ []) (place 0 [])) return

  abbrev pub function : Fn
  function = record {
    lifetimes = 1;
    outlives = [];
    ty_params = [];
    givens = 0;
    params = 2;
    locals = local (ty R) value_local ∷ local (ty B) value_local ∷ local slice value_local ∷ local (ty S) value_local ∷ local word value_local ∷ local word value_local ∷ local ty_bool value_local ∷ local ty_ptr value_local ∷ local (ty E) value_local ∷ [];
    body = seq (call #begin (copy (place 1 []) ∷ []) (place 3 [])) (seq (assign (place 4 []) (rv_opd (int w64 0))) (seq (block (loop turn)) rest));
  }

  module _ {M : Type 1} {𝓤 : Ura M} (𝓛 : Logic 𝓤) (𝓣 : Tables 𝓤 𝓛.H) (begins : Triple 𝓤 (𝓣.C #begin) (Takes1 B S asks-begin begin 𝓛)) (steps : Triple 𝓤 (𝓣.C #each) (Takes2 S E S asks-each step 𝓛)) (finishes : Triple 𝓤 (𝓣.C #finish) (Takes1 S R asks-finish finish 𝓛)) (small : T (ltb size (2 ^ 64)))
      (κ : Lft) (q : Share) (b o : ℕ) (γ : GName) (ys : List (D E)) (t : D B) (ok : asks-f.that t) (v₀ : Val) (was : Has B t v₀) (gn : Room (row E) (length ys)) (Post : Val → SProp 𝓤) where
    open 𝓛 use {H}

    abbrev n : ℕ
    n = length ys

    abbrev s : Bor (List (D E))
    s = record { ref_ptr = (b, o); now = ys }

    abbrev Own : Fml
    Own = (ShrSlice (named 0) κ (row E)).own_val s (slice_val (b, o) n ∷ [])

    module _ (exits : (r : D R) (v : Val) → Has R r v → r ≡ finish (over step (begin t) ys) → ent 𝓤 (⋆ 𝓛 (‵ Own ∷ ‵ (flft κ q) ∷ [])) (Post v)) where
      -- i records are done, and a is as it is, with the machine value v
      abbrev Upto : Type 0
      Upto = (i : ℕ) × ((a : D S) × ((v : Val) × ((i ≤ n) × (Has S a v × ((over step a (dropped i ys) ≡ over step (begin t) ys) × Good a)))))

      abbrev Nearer : Upto → Upto → Type 0
      Nearer j i = n - j.0 < n - i.0

      Nearer-wf : WellFounded Nearer
      Nearer-wf = InvImage.wf (λ (i : Upto). n - i.0) lt-wf_rel.wf

      module _ (l₀ l₁ l₂ l₃ l₄ l₅ l₆ l₇ l₈ : ℕ) where
        abbrev C : Calls 𝓤 H
        C = 𝓣.C

        abbrev Λ : Loops 𝓤 H
        Λ = 𝓣.Λ

        abbrev En : Env 𝓤 H
        En = (ty R, l₀) ∷ (ty B, l₁) ∷ (slice, l₂) ∷ (ty S, l₃) ∷ (word, l₄) ∷ (word, l₅) ∷ (ty_bool, l₆) ∷ (ty_ptr, l₇) ∷ (ty E, l₈) ∷ []

        abbrev At : Upto → List (Item 𝓤)
        At u = ‵ (froom (ty E) l₈ 0) ∷ ‵ (fdies (ty E) l₈) ∷ ‵ (froom ty_ptr l₇ 0) ∷ ‵ (fdies ty_ptr l₇) ∷ ‵ (froom ty_bool l₆ 0) ∷ ‵ (fdies ty_bool l₆) ∷ ‵ (froom word l₅ 0) ∷ ‵ (fdies word l₅)
            ∷ ‵ (fat full_share word l₄ 0 (vint w64 u.0)) ∷ ‵ (fdies word l₄) ∷ ‵ (fat full_share (ty S) l₃ 0 u.1.1.0) ∷ ‵ (fdies (ty S) l₃) ∷ ‵ (fat full_share slice l₂ 0 (slice_val (b, o) n)) ∷ ‵ (fdies slice l₂)
            ∷ ‵ (fat full_share (ty B) l₁ 0 v₀) ∷ ‵ (fdies (ty B) l₁) ∷ ‵ (froom (ty R) l₀ 0) ∷ ‵ (fdies (ty R) l₀) ∷ ‵ Own ∷ ‵ (flft κ q) ∷ []

        abbrev Turned : Upto → Out → SProp 𝓤
        Turned u = after_turn 𝓤 H (Below 𝓛 Nearer At u) (after_block 𝓤 H (after_seq 𝓤 H (Wp 𝓤 H C Λ En rest (at_return 𝓤 H En Post)) (at_return 𝓤 H En Post)))

        module _ (u : Upto) where
          abbrev i : ℕ
          i = u.0

          abbrev a : D S
          a = u.1.0

          abbrev v : Val
          v = u.1.1.0

          abbrev has : Has S a v
          has = u.1.1.1.1.0

          abbrev x : D E
          x = get_or ys i none

          abbrev w : Val
          w = LL.val E.type E.laws x

          abbrev fine : Good a
          fine = u.1.1.1.1.1.1

          in_bytes : T (ltb i n) → i * size < 2 ^ 64
          in_bytes less = bytes_fit i n size (ltb→lt i n less) gn.1

          next_fits : T (ltb i n) → i + 1 < 2 ^ 64
          next_fits less = lt_of_le_of_lt (add-one-le (ltb→lt i n less)) gn.0

          goes_on : T (ltb i n) → (r : D S) → r ≡ step a x → over step r (dropped (i + 1) ys) ≡ over step (begin t) ys
          goes_on less r e = ap (λ (z : D S). over step z (dropped (i + 1) ys)) e ∙ ap (λ (k : ℕ). over step (step a x) (dropped k ys)) (one_more i) ∙ ap (over step a) (sym (drop_at ys i none (ltb→lt i n less))) ∙ u.1.1.1.1.1.0

          turns : Sq 𝓛 (At u) (runs C Λ En turn (any_q (Turned u)))
          unfolding after_turn
          turns =
              assigns ! (of_opd ! (load ! (from ! (fld ! refl (stop !))) (look_in ! 12 (sub ! 1 refl (whole !))))) (from ! (stop !)) (init ! 6 refl (tt, record { fits = gn.0 })) $
              assigns ! (bin ! (load ! (from ! (stop !)) (look ! 8 refl)) (load ! (from ! (stop !)) (look ! 6 refl)) tt) (from ! (stop !)) (init ! 4 refl (tt, tt)) $
              first ! $ branches ! (load ! (from ! (stop !)) (look ! 4 refl))
              (λ less. skips ! $ exec ! C Λ En more (any_q (Turned u)) $
              assigns ! (bin ! (load ! (from ! (stop !)) (look ! 8 refl)) (lit ! small) (record { fits = in_bytes less })) (from ! (stop !)) (store ! 6 refl (tt, record { fits = in_bytes less })) $
              assigns ! (bin ! (load ! (from ! (fld ! refl (stop !))) (look_in ! 12 (sub ! 0 refl (whole !)))) (load ! (from ! (stop !)) (look ! 6 refl)) tt) (from ! (stop !)) (init ! 2 refl (tt, tt)) $
              rewrite ! 2 (λ (p : ℕ). ‵ (fat full_share ty_ptr l₇ 0 (vptr b p))) (sym (place_is size o i)) refl $
              -- of s one copy is kept whole, and of the other its fractured borrow
              move ! (18 ∷ []) $ use1 𝓛 (‵ Own ⊛ ‵ Own) ((shr_slice_copy 𝓛 (named 0) κ (row E) rows).twice s (slice_val (b, o) n ∷ [])) $ split ! $ fsplit ! $ drop ! $ move ! (0 ∷ 20 ∷ []) $
              looks_slice ! tt (row E) (LL.copied E.type cE 𝓛) ys b o (λ q'.
              elem_out ! (row E) (Is (row E)) (shows 𝓛 (row E)) (LL.vals E.type E.laws) (LL.tells E.type E.laws) q' ys i none b o (ltb→lt i n less) (λ is.
              -- [s[i]; what it owns; the others; what shuts; the fractured borrow; s; _8; …; _7; …; _0; …]
              assigns ! (of_opd ! (load ! (from ! (hop ! (look ! 8 refl) (stop !))) (look_raw ! 0 refl))) (from ! (stop !)) (init ! 6 refl (typed_as E 𝓛 x w is)) $
              elem_back ! (row E) q' ys i none (w ∷ []) b o (ltb→lt i n less) $ shuts_slice ! tt (row E) q' ys b o $
              -- [the token; the fractured borrow; s; _8; …; _7; …; _0; …], and in a call one more in front
              calls2 S E S asks-each step ! (fm_of 𝓤 H 𝓛.laws 𝓣) steps a v has x w is (may-step a x fine) (and_then ! (load ! (from ! (stop !)) (look ! 14 refl)) (and_then ! (load ! (from ! (stop !)) (look ! 4 refl)) (no_more !))) (λ r v' now-has e.
              land ! (from ! (stop !)) (store ! 13 refl (typed_as S 𝓛 r v' now-has)) $
              assigns_last ! (bin ! (load ! (from ! (stop !)) (look ! 11 refl)) (lit ! tt) (record { fits = next_fits less })) (from ! (stop !)) (store ! 11 refl (tt, record { fits = next_fits less })) $
              forget ! 3 refl $ forget ! 5 refl $ forget ! 7 refl $ forget ! 9 refl $
              keep ! (3 ∷ 4 ∷ 5 ∷ 6 ∷ 7 ∷ 8 ∷ 9 ∷ 10 ∷ 11 ∷ 12 ∷ 13 ∷ 14 ∷ 15 ∷ 16 ∷ 17 ∷ 18 ∷ 19 ∷ 20 ∷ 2 ∷ 0 ∷ []) $
              again ! Nearer At u (i + 1, (r, (v', (add-one-le (ltb→lt i n less), (now-has, (goes_on less r e, subst Good (sym e) (stays-good a x fine))))))) (add-one-dec n i (ltb→lt i n less))))))
              (λ past. jumps ! $ exec ! C Λ En rest (at_ret En Post) $
              calls1 S R asks-finish finish ! (fm_of 𝓤 H 𝓛.laws 𝓣) finishes a v has (may-finish a fine) (and_then ! (load ! (from ! (stop !)) (look ! 11 refl)) (no_more !)) (λ r v' now-has e.
              land ! (from ! (stop !)) (init ! 16 refl (typed_as R 𝓛 r v' now-has)) $
              returns ! (look ! 16 refl) $ forget ! 4 refl $ forget ! 6 refl $ forget ! 8 refl $ forget ! 10 refl $ forget ! 12 refl $ forget ! 14 refl $ forget ! 16 refl $
              move ! (16 ∷ 17 ∷ []) $ free1 ! $ move ! (14 ∷ 15 ∷ []) $ free1 ! $ move ! (12 ∷ 13 ∷ []) $ free1 ! $ move ! (10 ∷ 11 ∷ []) $ free1 ! $ move ! (8 ∷ 9 ∷ []) $ free1 ! $ move ! (6 ∷ 7 ∷ []) $ free1 ! $ move ! (4 ∷ 5 ∷ []) $ free1 ! $ move ! (2 ∷ 3 ∷ []) $ free1 ! $ free1 ! $ free0 ! $
              by ! (exits r v' now-has (e ∙ ap finish (ap (over step a) (sym (drop_of_length-le ys (nltb→le i n past))) ∙ u.1.1.1.1.1.0)))))

      walk : ent 𝓤 (⋆ 𝓛 ((‵ (flft κ q) ⊛ ‵ ftrue) ∷ ‵ (owns (row B ∷ ShrSlice (named 0) κ (row E) ∷ []) (t, (s, tt)) (v₀ ∷ [], (slice_val (b, o) n ∷ [], tt))) ∷ []))
          (WpFn 𝓤 H 𝓣.C 𝓣.Λ function (v₀ ∷ slice_val (b, o) n ∷ []) Post)
      walk =
          qed 𝓛 ((‵ (flft κ q) ⊛ ‵ ftrue) ∷ ‵ (owns (row B ∷ ShrSlice (named 0) κ (row E) ∷ []) (t, (s, tt)) (v₀ ∷ [], (slice_val (b, o) n ∷ [], tt))) ∷ []) ∵ enter ! 𝓣.C 𝓣.Λ function (v₀ ∷ slice_val (b, o) n ∷ []) _ $
          alloc1 ! (λ l₀. alloc1 ! (λ l₁. alloc1 ! (λ l₂. alloc1 ! (λ l₃. alloc1 ! (λ l₄. alloc1 ! (λ l₅. alloc1 ! (λ l₆. alloc1 ! (λ l₇. alloc1 ! (λ l₈. alloc0 ! $ params1 ! $
          pass1 ! (init ! 14 refl (typed_as B 𝓛 t v₀ was)) $ pass1 ! (init ! 12 refl (tt, (tt, (record { fits = gn.0 }, tt)))) $ pass0 ! $
          -- [_8; …; _0; …; the token; what the parameters own]
          calls1 B S asks-begin begin ! (fm_of 𝓤 H 𝓛.laws 𝓣) begins t v₀ was (may-begin t ok) (and_then ! (load ! (from ! (stop !)) (look ! 15 refl)) (no_more !)) (λ r v' has e.
          land ! (from ! (stop !)) (init ! 10 refl (typed_as S 𝓛 r v' has)) $
          assigns ! (of_opd ! (lit ! tt)) (from ! (stop !)) (init ! 8 refl (tt, record { fits = lit< tt })) $
          move ! (19 ∷ []) $ fsplit ! $ drop ! $ fsplit ! $ move ! (20 ∷ []) $ split ! $
          keep ! (4 ∷ 5 ∷ 6 ∷ 7 ∷ 8 ∷ 9 ∷ 10 ∷ 11 ∷ 12 ∷ 13 ∷ 14 ∷ 15 ∷ 16 ∷ 17 ∷ 18 ∷ 19 ∷ 20 ∷ 21 ∷ 2 ∷ 0 ∷ []) $
          first ! $ blocks ! $ loops ! 𝓣 Nearer Nearer-wf (At l₀ l₁ l₂ l₃ l₄ l₅ l₆ l₇ l₈) (turns l₀ l₁ l₂ l₃ l₄ l₅ l₆ l₇ l₈) (0, (r, (v', (zero-le, (has, (ap (λ (z : D S). over step z ys) e, subst Good (sym e) (good t ok)))))))))))))))))

  -- ---- f's contract
  abbrev pub ended : Ended
  ended = record { signature = record { lifetimes = 1; outlives = []; params = plain (λ _. row B) ∷ shr_slice 0 tt (λ _. row E) ∷ []; result = plain (λ _. row R) }; kept = (yes, (yes, tt)) }

  abbrev stayed : Stays ended.signature.params ended.kept
  stayed = (stay_none (λ _. row B) yes, (stay_none_slice (0 ∷ []) tt (plain (λ _. row E)) yes, tt))

  abbrev pub spec : {M : Type 1} (𝓤 : Ura M) → Clauses 𝓤 ended
  spec 𝓤 κs a = record { ghost = Unit {0}; requires = λ _. asks-f.clause 𝓤 a.0; ensures = λ _ r _. fact 𝓤 (r ≡ F a.0 a.1.0.now) }

  -- last and silent: B is seen at exit as it was passed, which is `λ _. tt` and `λ _ _. refl` at a struct that is written out. small: an element's bytes fit, which is `tt`. same: what f's contract names is what the walk computes
  module _ (last : (t : D B) → Last ((row B).exit yes) t) (silent : (t : D B) (f : Last ((row B).exit yes) t) → left ((row B).exit yes) t f ≡ ftrue) (small : T (ltb size (2 ^ 64))) (same : (t : D B) (ys : List (D E)) → Room (row E) (length ys) → finish (over step (begin t) ys) ≡ F t ys) {M : Type 1} {𝓤 : Ura M} (𝓛 : Logic 𝓤) (𝓣 : Tables 𝓤 𝓛.H)
      (begins : Triple 𝓤 (𝓣.C #begin) (Takes1 B S asks-begin begin 𝓛)) (steps : Triple 𝓤 (𝓣.C #each) (Takes2 S E S asks-each step 𝓛)) (finishes : Triple 𝓤 (𝓣.C #finish) (Takes1 S R asks-finish finish 𝓛)) where
    open 𝓛 use {H}

    abbrev val : D B → Val
    val = LL.val B.type B.laws

    module _ (κ : Lft) (q : Share) (b o : ℕ) (γ : GName) (ys : List (D E)) (t : D B) (was : Has B t (val t)) (room : Room (row E) (length ys)) where
      abbrev arg : Bor (List (D E))
      arg = record { ref_ptr = (b, o); now = ys }

      abbrev bound : (walk_of 𝓛 ended stayed (spec 𝓤)).Ghost
      bound = (((κ, tt), (q, tt), tt, (t, (arg, tt)), (val t ∷ [], (slice_val (b, o) (length ys) ∷ [], tt))), tt)

      exits_at : (r : D R) (w : Val) → Has R r w → r ≡ finish (over step (begin t) ys) → ent 𝓤 (⋆ 𝓛 (‵ ((ShrSlice (named 0) κ (row E)).own_val arg (slice_val (b, o) (length ys) ∷ [])) ∷ ‵ (flft κ q) ∷ [])) ((walk_of 𝓛 ended stayed (spec 𝓤)).post bound w)
      exits_at r w is e =
          qed 𝓛 (‵ ((ShrSlice (named 0) κ (row E)).own_val arg (slice_val (b, o) (length ys) ∷ [])) ∷ ‵ (flft κ q) ∷ []) ∵
          suffices ! _ (ends_at 𝓛 ended stayed (spec 𝓤) bound w r (last t, (tt, tt)) (tt, (tt, tt))) $ says ! (e ∙ same t ys room) $
          nothing ! $ move ! (1 ∷ 0 ∷ []) $ fjoin ! $ owned ! (row B) (Is (row B)) (LL.makes B.type B.plainly 𝓛) t (val t ∷ []) was $ fjoin ! $ nothing ! $ move ! (2 ∷ 0 ∷ []) $ join ! $
          frame ! $ frame ! $ owned ! (row R) (Is (row R)) (LL.makes R.type R.plainly 𝓛) r (w ∷ []) is $ done !

    pub meets : Meets 𝓛 ended.signature (WpFn 𝓤 H 𝓣.C 𝓣.Λ function) (closing 𝓛 ended (spec 𝓤))
    meets = walk_Meets 𝓛 ended stayed (Goes-none 𝓛 1 (λ _. row B) yes (λ κs. silent), (Goes-none_slice 𝓛 1 (0 ∷ []) tt (plain (λ _. row E)) yes, tt)) (spec 𝓤) (WpFn 𝓤 H 𝓣.C 𝓣.Λ function) (WpFn-mono 𝓤 H 𝓛.laws 𝓣 function)
        (walked 𝓛 ended stayed (spec 𝓤) (WpFn 𝓤 H 𝓣.C 𝓣.Λ function) (λ κs. (LL.vals B.type B.laws, (shr_slice_vals, tt))) (λ κs. (LL.tells B.type B.laws, (shr_slice_Tells (named 0) κs.0 (row E), tt)))
        (λ κs qs bounds a _ are. via 𝓤 _ (mono_r 𝓤 (on_entry 𝓛 ended.signature κs qs a (val a.0 ∷ [], (shr_slice_vals a.1.0, tt))) (asks-f.says_so 𝓤 a.0)) (needs 𝓤 (asks-f.that a.0) _
        (λ ok. walk 𝓛 𝓣 begins steps finishes small κs.0 qs.0 a.1.0.ref_ptr.0 a.1.0.ref_ptr.1 0 a.1.0.now a.0 ok (val a.0) are.0 are.1.0.0.1 _
        (exits_at κs.0 qs.0 a.1.0.ref_ptr.0 a.1.0.ref_ptr.1 0 a.1.0.now a.0 are.0 are.1.0.0.1)))))
