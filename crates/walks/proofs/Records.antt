-- A declared struct of plain data, and the call of a covered function on such structs by value, as a step of a walk. Assumes nothing.
--     Kind             a struct, with what Rattle generates of it
--     Asks             a `requires`
--     Takes1, Takes2   the contract of a function by value, of one parameter and of two: `r ≡ f x`, `r ≡ f x y`
--     calls1, calls2   its call: nothing of the context is used up
use mathlib.Core.Path.{◌≡◌}
use mathlib.Core.List.{List, [], ◌∷◌}
use lib.Dec.{T}
use seplogic.Ra.Ura.{Ura}
use mir.Syntax.{Callee, Place, Opd as Operand, Ty, Body as Code, seq, call}
use mir.Val.{Val, WT, has_ty}
use base.Logic.{SProp, ent, emp, snd∗, ex_e, guard_i, id⊢}
use base.Fml.{ftrue}
use prog.Wp.{Env, Calls, Loops}
use types.Logic.{Logic, sem}
use sound.WpLaws.{FmC}
use contract.Monad.{fact}
use types.Kit.{Item, ‵, raw, runs, lands, Post as After, Seq, ◌⊛◌, some, later, ◌$◌, ◌∵◌, !, qed, move, drop, use0, use1, use2, split, join, pick, fjoin, await, done}
use types.Run.{Opds}
use denote.Exit.{yes}
use denote.RattleType.{RattleType}
use denote.Laws.{Is, shows}
use denote.Signature.{plain}
use denote.Steps.{nothing, owned, peeks, heard}
use denote.Struct.Struct.{layout, Plains}
use denote.Struct.Declared.{Declared, fields, shape, row as row_of}
use denote.Struct.Laws as LL
use denote.Triple.Statement.{Contract, Triple}
use denote.Triple.Call.{calls_at}
use denote.Triple.Spec.{triple_of}
use denote.Triple.Clauses.{Clauses, Ended, closing, ensured, lasts}

-- a declared struct of plain data
pub record Kind : Type 2 where
  pub type : Declared
  pub laws : LL.Laws type
  pub plainly : Plains (fields type)

module _ (k : Kind) where
  abbrev pub row : RattleType
  row = row_of k.type

  abbrev pub ty : Ty
  ty = layout (shape k.type)

  abbrev pub D : Type 0
  D = k.type.D

  -- v is the machine value of x
  abbrev pub Has : D → Val → Type 0
  Has x v = Is row x (v ∷ [])

  module _ {M : Type 1} {𝓤 : Ura M} (𝓛 : Logic 𝓤) where
    pub typed_as : (x : D) (v : Val) → Has x v → T (has_ty ty v) × WT v
    typed_as x v is = ((LL.lawful k.type k.laws 𝓛).typed x (v ∷ []) is).0

-- ---- a `requires` over what a function is passed: the fact, and the clause as a contract has it
pub record Asks (X : Type 0) : Type 2 where
  pub that : X → Type 0
  pub clause : {M : Type 1} (𝓤 : Ura M) → X → SProp 𝓤
  pub met : {M : Type 1} (𝓤 : Ura M) (x : X) → that x → ent 𝓤 (emp 𝓤) (clause 𝓤 x)
  pub says_so : {M : Type 1} (𝓤 : Ura M) (x : X) → ent 𝓤 (clause 𝓤 x) (fact 𝓤 (that x))

-- no `requires`, and one of a fact
abbrev pub nothing_asked : {X : Type 0} → Asks X
nothing_asked = record { that = λ _. Unit {0}; clause = λ 𝓤 _. emp 𝓤; met = λ 𝓤 _ _. id⊢ 𝓤 (emp 𝓤); says_so = λ 𝓤 _. guard_i 𝓤 (Unit {0}) (emp 𝓤) tt }

abbrev pub asked : {X : Type 0} → (X → Type 0) → Asks X
asked φ = record { that = φ; clause = λ 𝓤 x. fact 𝓤 (φ x); met = λ 𝓤 x h. guard_i 𝓤 (φ x) (emp 𝓤) h; says_so = λ 𝓤 x. id⊢ 𝓤 (fact 𝓤 (φ x)) }

-- ---- a call of a function by value
module _ (P Q : Kind) (asks : Asks (D P)) (f : D P → D Q) where
  abbrev ended1 : Ended
  ended1 = record { signature = record { lifetimes = 0; outlives = []; params = plain (λ _. row P) ∷ []; result = plain (λ _. row Q) }; kept = (yes, tt) }

  abbrev clauses1 : {M : Type 1} (𝓤 : Ura M) → Clauses 𝓤 ended1
  clauses1 𝓤 κs a = record { ghost = Unit {0}; requires = λ _. asks.clause 𝓤 a.0; ensures = λ _ r _. fact 𝓤 (r ≡ f a.0) }

  abbrev pub Takes1 : {M : Type 1} {𝓤 : Ura M} (𝓛 : Logic 𝓤) → Contract 𝓤
  Takes1 {𝓤 = 𝓤} 𝓛 = triple_of 𝓛 ended1.signature (closing 𝓛 ended1 (clauses1 𝓤))

  module _ {M : Type 1} {𝓤 : Ura M} {𝓛 : Logic 𝓤} {K : Type 0} {Γ : List (Item 𝓤)} {E : Env 𝓤 𝓛.H} {C : Calls 𝓤 𝓛.H} {g : Callee} {xs : List Operand} {Λ : Loops 𝓤 𝓛.H} {q : After 𝓤 𝓛.H} {d : Place} {rest : Code} where
    open 𝓛 use {H}

    pub calls1 : K → FmC 𝓤 H 𝓛.laws C → Triple 𝓤 (C g) (Takes1 𝓛) → (x : D P) (v : Val) → Has P x v → asks.that x → Opds K 𝓛 (raw ((Takes1 𝓛).pre ((tt, tt, tt, (x, tt), (v ∷ [], tt)), tt)) ∷ Γ) E xs (v ∷ [])
        → ((r : D Q) (w : Val) → Has Q r w → r ≡ f x → Seq K 𝓛 Γ (lands C Λ E d w rest q)) → Seq K 𝓛 Γ (runs C Λ E (seq (call g xs d) rest) q)
    calls1 k fm known x v is ok os then =
        owned k (row P) (Is (row P)) (LL.makes P.type P.plainly 𝓛) x (v ∷ []) is $
        use1 𝓛 (raw ((Takes1 𝓛).pre ((tt, tt, tt, (x, tt), (v ∷ [], tt)), tt))) (qed 𝓛 (‵ ((row P).own_val x (v ∷ [])) ∷ []) ∵ nothing ! $ move ! (1 ∷ 0 ∷ []) $ fjoin ! $ nothing ! $ join ! $ use0 𝓛 (raw (asks.clause 𝓤 x)) (asks.met 𝓤 x ok) $ move ! (1 ∷ 0 ∷ []) $ done !) $
        calls_at k fm (Takes1 𝓛) known ((tt, tt, tt, (x, tt), (v ∷ [], tt)), tt) os (λ w.
        use1 𝓛 (later (some (λ (r : D Q). (‵ ftrue ⊛ ‵ ((row Q).own_val r (w ∷ []))) ⊛ raw (ensured 𝓛 ended1 (clauses1 𝓤) tt (x, tt) tt r)))) (id⊢ 𝓤 _) $ await k tt $ pick k (λ r.
        split k $ move k (1 ∷ []) $ use1 𝓛 (raw (fact 𝓤 (r ≡ f x))) (ex_e 𝓤 _ (λ ws. snd∗ 𝓤 (sem 𝓛 (lasts ended1 tt (x, tt) ws)) (fact 𝓤 (r ≡ f x)))) $
        heard k (r ≡ f x) (λ e. split k $ drop k $ peeks k (row Q) (Is (row Q)) (shows 𝓛 (row Q)) r (w ∷ []) (λ now-is. drop k $ then r w now-is e))))

module _ (P₁ P₂ Q : Kind) (asks : Asks (D P₁ × D P₂)) (f : D P₁ → D P₂ → D Q) where
  abbrev ended2 : Ended
  ended2 = record { signature = record { lifetimes = 0; outlives = []; params = plain (λ _. row P₁) ∷ plain (λ _. row P₂) ∷ []; result = plain (λ _. row Q) }; kept = (yes, (yes, tt)) }

  abbrev clauses2 : {M : Type 1} (𝓤 : Ura M) → Clauses 𝓤 ended2
  clauses2 𝓤 κs a = record { ghost = Unit {0}; requires = λ _. asks.clause 𝓤 (a.0, a.1.0); ensures = λ _ r _. fact 𝓤 (r ≡ f a.0 a.1.0) }

  abbrev pub Takes2 : {M : Type 1} {𝓤 : Ura M} (𝓛 : Logic 𝓤) → Contract 𝓤
  Takes2 {𝓤 = 𝓤} 𝓛 = triple_of 𝓛 ended2.signature (closing 𝓛 ended2 (clauses2 𝓤))

  module _ {M : Type 1} {𝓤 : Ura M} {𝓛 : Logic 𝓤} {K : Type 0} {Γ : List (Item 𝓤)} {E : Env 𝓤 𝓛.H} {C : Calls 𝓤 𝓛.H} {g : Callee} {xs : List Operand} {Λ : Loops 𝓤 𝓛.H} {q : After 𝓤 𝓛.H} {d : Place} {rest : Code} where
    open 𝓛 use {H}

    pub calls2 : K → FmC 𝓤 H 𝓛.laws C → Triple 𝓤 (C g) (Takes2 𝓛) → (x : D P₁) (v : Val) → Has P₁ x v → (y : D P₂) (u : Val) → Has P₂ y u → asks.that (x, y) → Opds K 𝓛 (raw ((Takes2 𝓛).pre ((tt, tt, tt, (x, (y, tt)), (v ∷ [], (u ∷ [], tt))), tt)) ∷ Γ) E xs (v ∷ u ∷ [])
        → ((r : D Q) (w : Val) → Has Q r w → r ≡ f x y → Seq K 𝓛 Γ (lands C Λ E d w rest q)) → Seq K 𝓛 Γ (runs C Λ E (seq (call g xs d) rest) q)
    calls2 k fm known x v is y u too ok os then =
        owned k (row P₂) (Is (row P₂)) (LL.makes P₂.type P₂.plainly 𝓛) y (u ∷ []) too $ owned k (row P₁) (Is (row P₁)) (LL.makes P₁.type P₁.plainly 𝓛) x (v ∷ []) is $
        use2 𝓛 (raw ((Takes2 𝓛).pre ((tt, tt, tt, (x, (y, tt)), (v ∷ [], (u ∷ [], tt))), tt)))
        (qed 𝓛 (‵ ((row P₁).own_val x (v ∷ [])) ∷ ‵ ((row P₂).own_val y (u ∷ [])) ∷ []) ∵ nothing ! $ move ! (2 ∷ 0 ∷ []) $ fjoin ! $ move ! (1 ∷ 0 ∷ []) $ fjoin ! $ nothing ! $ join ! $ use0 𝓛 (raw (asks.clause 𝓤 (x, y))) (asks.met 𝓤 (x, y) ok) $ move ! (1 ∷ 0 ∷ []) $ done !) $
        calls_at k fm (Takes2 𝓛) known ((tt, tt, tt, (x, (y, tt)), (v ∷ [], (u ∷ [], tt))), tt) os (λ w.
        use1 𝓛 (later (some (λ (r : D Q). (‵ ftrue ⊛ ‵ ((row Q).own_val r (w ∷ []))) ⊛ raw (ensured 𝓛 ended2 (clauses2 𝓤) tt (x, (y, tt)) tt r)))) (id⊢ 𝓤 _) $ await k tt $ pick k (λ r.
        split k $ move k (1 ∷ []) $ use1 𝓛 (raw (fact 𝓤 (r ≡ f x y))) (ex_e 𝓤 _ (λ ws. snd∗ 𝓤 (sem 𝓛 (lasts ended2 tt (x, (y, tt)) ws)) (fact 𝓤 (r ≡ f x y)))) $
        heard k (r ≡ f x y) (λ e. split k $ drop k $ peeks k (row Q) (Is (row Q)) (shows 𝓛 (row Q)) r (w ∷ []) (λ now-is. drop k $ then r w now-is e))))
