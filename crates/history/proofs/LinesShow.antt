-- What an operation gives its line shows, and what a line shows its operation gives, `gives_shown`. Assumes nothing.
use Rattle.std.specs.Prelude.{Err, None, Ok, Option, Result, Some, ⊤}
use mathlib.Core.Path.{◌≡◌, refl, sym, ap, subst, ◌∙◌}
use mathlib.Core.Bool.{Bool, true, false}
use mathlib.Core.List.{List, [], ◌∷◌, ◌++◌, append-nil}
use Prim.Native.Nat.{ℕ}
use native.Mathlib.Omega.{arith}
use lib.Dec.{eqb}
use Rattle.laws.specs.Pick.{pick}
use Rattle.laws.proofs.Cases.{all_pick}
use Rattle.ipc_rules.specs.Answers.{message_values, recv_number, recv_values, park_number, park_values}
use Rattle.ipc_rules.specs.Receive.{recv_of, park_of}
use Rattle.ipc_rules.specs.declared.state.Message.{Message}
use Rattle.ipc_rules.specs.declared.answers.RecvError.TheVariants as recv
use Rattle.ipc_rules.specs.declared.answers.ParkError.TheVariants as park
use Rattle.operations.specs.Apply.{all_done, unknown_done, apply_of}
use Rattle.operations.specs.Channels.{reasoned, receive_done, park_done}
use Rattle.operations.specs.Done.{Done}
use Rattle.operations.specs.Operands.{id_at, task_at}
use Rattle.operations.specs.declared.Tables.{Tables}
use Rattle.history.specs.Calls.{Call, receive, park}
use Rattle.history.specs.World.{World, step}
use Rattle.history.specs.Traffic.{by_receive, by_park, given, all_accepted, all_given, Spares, none, more}
use Rattle.history.specs.Joined.{if_accepted, spawn_calls, leave_calls, give_calls}
use Rattle.history.specs.Operations.{Operation, all_calls, calls_of, Logged, Follows}
use Rattle.history.specs.Lines.{line_in, ShowsMessage, receive_line, park_line, SomeShows, GivesShown}
use Rattle.history.proofs.Flows.{each_received, each_given}
use Rattle.history.proofs.Givings.{only_gives}
use Rattle.history.proofs.Lines.{same_head, same_rest}
use Rattle.history.proofs.Along.{Along, end, ◌▸◌, along_all}
use Rattle.ipc_rules.specs.declared.answers.RecvError.{RecvError}
use Rattle.ipc_rules.specs.declared.answers.ParkError.{ParkError}
use Rattle.ipc_rules.specs.declared.answers.WhyError.{WhyError}

-- ---- what was given is in the answer
received_of : (b : Bool) (a : Result Message RecvError) (x : Message) → pick b (by_receive a) [] ≡ x ∷ [] → a ≡ Ok x
unfolding pick by_receive
received_of false a x e = let z : ◌≡◌ {A = ℕ} 0 1 = cc in absurd (omega arith)
received_of true (Ok m) x e = cc
received_of true (Err recv.BadCap) x e = let z : ◌≡◌ {A = ℕ} 0 1 = cc in absurd (omega arith)
received_of true (Err recv.Empty) x e = let z : ◌≡◌ {A = ℕ} 0 1 = cc in absurd (omega arith)
received_of true (Err recv.BadTable) x e = let z : ◌≡◌ {A = ℕ} 0 1 = cc in absurd (omega arith)

given_of : (b : Bool) (a : Result (Option Message) ParkError) (x : Message) → pick b (by_park a) [] ≡ x ∷ [] → a ≡ Ok (Some x)
unfolding pick by_park
given_of false a x e = let z : ◌≡◌ {A = ℕ} 0 1 = cc in absurd (omega arith)
given_of true (Ok (Some m)) x e = cc
given_of true (Ok None) x e = let z : ◌≡◌ {A = ℕ} 0 1 = cc in absurd (omega arith)
given_of true (Err park.BadCap) x e = let z : ◌≡◌ {A = ℕ} 0 1 = cc in absurd (omega arith)
given_of true (Err park.Busy) x e = let z : ◌≡◌ {A = ℕ} 0 1 = cc in absurd (omega arith)
given_of true (Err park.Cancelled) x e = let z : ◌≡◌ {A = ℕ} 0 1 = cc in absurd (omega arith)
given_of true (Err park.BadTable) x e = let z : ◌≡◌ {A = ℕ} 0 1 = cc in absurd (omega arith)

-- and so in the line, which has no reason then
received_line : (why : Result ⊤ WhyError) (a : Result Message RecvError) (x : Message) → a ≡ Ok x → 3 ∷ recv_number a ∷ reasoned why (recv_number a) (recv_values a) ≡ 3 ∷ 0 ∷ message_values x
unfolding reasoned pick
received_line why a x = ap (λ (a : Result Message RecvError). 3 ∷ recv_number a ∷ reasoned why (recv_number a) (recv_values a))

given_line : (why : Result ⊤ WhyError) (a : Result (Option Message) ParkError) (x : Message) → a ≡ Ok (Some x) → 4 ∷ park_number a ∷ reasoned why (park_number a) (park_values a) ≡ 4 ∷ 0 ∷ 1 ∷ message_values x
unfolding reasoned pick
given_line why a x = ap (λ (a : Result (Option Message) ParkError). 4 ∷ park_number a ∷ reasoned why (park_number a) (park_values a))

-- ---- an operation that gives message x from channel n
-- its line shows x, and it does nothing else to the channel
pub record Gives (w : World) (n : ℕ) (x : Message) (cs : List Call) (line : List ℕ) : Type 0 where
  pub shows : ShowsMessage x line
  pub accepts_none : all_accepted w n cs ≡ []
  pub spares : Spares w n cs

module _ (log : List ℕ) (t : Tables) where
  -- calls of which one that gives has its message in the line
  abbrev Giver : List ℕ → List Call → Type 0
  Giver line cs = (w : World) → w.table ≡ t.channels → (n : ℕ) (x : Message) → all_given w n cs ≡ x ∷ [] → Gives w n x cs line

  abbrev GiverAt : ℕ → Done → List Call → Type 0
  GiverAt op d cs = Giver (op ∷ d.number ∷ d.values) cs

  mute : (line : List ℕ) → Giver line []
  unfolding all_given
  mute line w e n x g = let z : ◌≡◌ {A = ℕ} 0 1 = cc in absurd (omega arith)

  -- a call that gives nothing
  silent : (line : List ℕ) (c : Call) → ((w : World) (n : ℕ) → given w n c ≡ []) → Giver line (c ∷ [])
  unfolding all_given
  silent line c h w e n x g = let y : [] ≡ x ∷ [] = sym (ap (λ (l : List Message). l ++ []) (h w n)) ∙ g in let z : ◌≡◌ {A = ℕ} 0 1 = cc in absurd (omega arith)

  -- nor do two
  silent_two : (line : List ℕ) (c d : Call) → ((w : World) (n : ℕ) → given w n c ≡ []) → ((w : World) (n : ℕ) → given w n d ≡ []) → Giver line (c ∷ d ∷ [])
  unfolding all_given
  silent_two line c d h k w e n x g =
      let y : [] ≡ x ∷ [] = sym (λ i. h w n i ++ (k (step w c) n i ++ [])) ∙ g in let z : ◌≡◌ {A = ℕ} 0 1 = cc in absurd (omega arith)

  -- a call that gives
  alone : (line : List ℕ) (c : Call) → ((w : World) → w.table ≡ t.channels → (n : ℕ) (x : Message) → given w n c ≡ x ∷ [] → ShowsMessage x line) → Giver line (c ∷ [])
  unfolding all_given all_accepted
  alone line c h w e n x g =
      let g' : given w n c ≡ x ∷ [] = sym (append-nil _) ∙ g in
      let o = only_gives w n x c g' in
      record { shows = h w e n x g'; accepts_none = append-nil _ ∙ o.accepts_none; spares = more o.spares none }

  receives : GiverAt 3 (receive_done log t) (receive (id_at log 3) ∷ [])
  unfolding given receive_done
  receives = alone _ _ (λ w e n x g. receive_line (received_line _ _ x (ap (λ u. (recv_of u (id_at log 3)).answer) (sym e) ∙ received_of _ _ x g)))

  parks : GiverAt 4 (park_done log t) (park (id_at log 3) (task_at log 7) ∷ [])
  unfolding given park_done
  parks = alone _ _ (λ w e n x g. park_line (given_line _ _ x (ap (λ u. (park_of u (id_at log 3) (task_at log 7)).answer) (sym e) ∙ given_of _ _ x g)))

  -- a leave, a give
  joins : (line : List ℕ) (m : ℕ) (c : Call) → ((w : World) (n : ℕ) → given w n c ≡ []) → Giver line (if_accepted m (c ∷ []))
  unfolding if_accepted
  joins line m c h = all_pick (Giver line) (eqb m 0) (c ∷ []) [] (λ _. silent line c h) (λ _. mute line)

  -- a spawn
  joins_two : (line : List ℕ) (m : ℕ) (c d : Call) → ((w : World) (n : ℕ) → given w n c ≡ []) → ((w : World) (n : ℕ) → given w n d ≡ []) → Giver line (if_accepted m (c ∷ d ∷ []))
  unfolding if_accepted
  joins_two line m c d h k = all_pick (Giver line) (eqb m 0) (c ∷ d ∷ []) [] (λ _. silent_two line c d h k) (λ _. mute line)

  all_give : Along GiverAt 0 (all_done log t) (all_calls log t)
  unfolding given spawn_calls leave_calls give_calls
  all_give =
      mute _ ▸
      silent _ _ (λ _ _. refl) ▸
      silent _ _ (λ _ _. refl) ▸
      receives ▸
      parks ▸
      silent _ _ (λ _ _. refl) ▸
      silent _ _ (λ _ _. refl) ▸
      silent _ _ (λ _ _. refl) ▸
      silent _ _ (λ _ _. refl) ▸
      silent _ _ (λ _ _. refl) ▸
      silent _ _ (λ _ _. refl) ▸
      silent _ _ (λ _ _. refl) ▸
      silent _ _ (λ _ _. refl) ▸
      mute _ ▸
      mute _ ▸
      mute _ ▸
      mute _ ▸
      mute _ ▸
      mute _ ▸
      mute _ ▸
      mute _ ▸
      mute _ ▸
      mute _ ▸
      mute _ ▸
      joins_two _ _ _ _ (λ _ _. refl) (λ _ _. refl) ▸
      joins _ _ _ (λ _ _. refl) ▸
      joins _ _ _ (λ _ _. refl) ▸
      silent _ _ (λ _ _. refl) ▸
      end

pub gives : (s : Logged) → s.world.table ≡ s.tables.channels → (o : Operation) (n : ℕ) (x : Message) →
    all_given s.world n (calls_of o s.tables) ≡ x ∷ [] → Gives s.world n x (calls_of o s.tables) (line_in s o)
unfolding apply_of calls_of
gives s e o =
    let t = s.tables in
    along_all (GiverAt o.bytes t) (all_done o.bytes t) (all_calls o.bytes t) (unknown_done t) [] (all_give o.bytes t) (λ _. mute o.bytes t _) o.number s.world e

-- ---- and back
-- the message of a line is the answer's
receive_shows : (why : Result ⊤ WhyError) (a : Result Message RecvError) (m : Message) → recv_number a ∷ reasoned why (recv_number a) (recv_values a) ≡ 0 ∷ m.tag ∷ m.a ∷ m.b ∷ m.row ∷ [] → a ≡ Ok m
unfolding reasoned pick
receive_shows why (Ok x) m e =
    let p : x.tag ≡ m.tag = cc in
    let q : x.a ≡ m.a = cc in
    let r : x.b ≡ m.b = cc in
    let s : x.row ≡ m.row = cc in
    λ i. Ok (record { tag = p i; row = s i; a = q i; b = r i })
receive_shows why (Err recv.BadCap) m e = let z : ◌≡◌ {A = ℕ} 0 1 = cc in absurd (omega arith)
receive_shows why (Err recv.Empty) m e = let z : ◌≡◌ {A = ℕ} 0 1 = cc in absurd (omega arith)
receive_shows why (Err recv.BadTable) m e = let z : ◌≡◌ {A = ℕ} 0 1 = cc in absurd (omega arith)

park_shows : (why : Result ⊤ WhyError) (a : Result (Option Message) ParkError) (m : Message) → park_number a ∷ reasoned why (park_number a) (park_values a) ≡ 0 ∷ 1 ∷ m.tag ∷ m.a ∷ m.b ∷ m.row ∷ [] → a ≡ Ok (Some m)
unfolding reasoned pick
park_shows why (Ok (Some x)) m e =
    let p : x.tag ≡ m.tag = cc in
    let q : x.a ≡ m.a = cc in
    let r : x.b ≡ m.b = cc in
    let s : x.row ≡ m.row = cc in
    λ i. Ok (Some (record { tag = p i; row = s i; a = q i; b = r i }))
park_shows why (Ok None) m e = let z : ◌≡◌ {A = ℕ} 0 1 = cc in absurd (omega arith)
park_shows why (Err park.BadCap) m e = let z : ◌≡◌ {A = ℕ} 0 1 = cc in absurd (omega arith)
park_shows why (Err park.Busy) m e = let z : ◌≡◌ {A = ℕ} 0 1 = cc in absurd (omega arith)
park_shows why (Err park.Cancelled) m e = let z : ◌≡◌ {A = ℕ} 0 1 = cc in absurd (omega arith)
park_shows why (Err park.BadTable) m e = let z : ◌≡◌ {A = ℕ} 0 1 = cc in absurd (omega arith)

module _ (s : Logged) (f : Follows s) (bytes : List ℕ) (m : Message) where
  abbrev op : ℕ → Operation
  op number = record { number = number; bytes = bytes }

  receive_gives : line_in s (op 3) ≡ 3 ∷ 0 ∷ m.tag ∷ m.a ∷ m.b ∷ m.row ∷ [] → SomeShows s (op 3) m
  unfolding apply_of receive_done calls_of all_given
  receive_gives e =
      let g = each_received s.world f.reached (id_at bytes 3) m (rw f.channels (receive_shows _ _ m (same_rest e))) in
      record { number = g.number; is = append-nil _ ∙ g.is }

  park_gives : line_in s (op 4) ≡ 4 ∷ 0 ∷ 1 ∷ m.tag ∷ m.a ∷ m.b ∷ m.row ∷ [] → SomeShows s (op 4) m
  unfolding apply_of park_done calls_of all_given
  park_gives e =
      let g = each_given s.world f.reached (id_at bytes 3) (task_at bytes 7) m (rw f.channels (park_shows _ _ m (same_rest e))) in
      record { number = g.number; is = append-nil _ ∙ g.is }

  shown_gives : (number : ℕ) → ShowsMessage m (line_in s (op number)) → SomeShows s (op number) m
  shown_gives number (receive_line e) =
      subst (λ i. line_in s (op i) ≡ 3 ∷ 0 ∷ m.tag ∷ m.a ∷ m.b ∷ m.row ∷ [] → SomeShows s (op i) m) (sym (same_head e)) receive_gives e
  shown_gives number (park_line e) =
      subst (λ i. line_in s (op i) ≡ 4 ∷ 0 ∷ 1 ∷ m.tag ∷ m.a ∷ m.b ∷ m.row ∷ [] → SomeShows s (op i) m) (sym (same_head e)) park_gives e

pub gives_shown : GivesShown
gives_shown s f o m = record { gives = λ n g. (gives s f.channels o n m g).shows; shows = shown_gives s f o.bytes m o.number }
