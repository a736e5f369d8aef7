-- Demand 3, its sentence on messages: over a run that does not revoke a channel the turns of the calls add up, and so a message that was
-- accepted behind q others is given by the (q+1)-th call that gives, once. Assumes nothing.
use mathlib.Core.Path.{◌≡◌, refl, sym, ap, ◌∙◌}
use mathlib.Core.List.{List, [], ◌∷◌, ◌++◌, append-nil, append_assoc}
use Prim.Native.Nat.{ℕ, suc, ◌+◌, ◌-◌, ◌≤◌, ◌<◌}
use native.Mathlib.Omega.{arith}
use lib.ListN.{get_or, length, take, drop, length-append, get_or-append}
use lib.Seq.{get_or-append_seam, get_or-append-add, take-append_seam, drop-append_seam}
use Rattle.cap.specs.declared.CapId.{CapId}
use Rattle.ipc_rules.specs.State.{fresh_message, stamped}
use Rattle.ipc_rules.specs.Views.{queue_of}
use Rattle.ipc_rules.specs.declared.state.Message.{Message}
use Rattle.ipc_rules.specs.declared.state.Payload.{Payload}
use Rattle.history.specs.Calls.{Call, send}
use Rattle.history.specs.World.{World, step, run, Reached}
use Rattle.history.specs.Channels.{LivesIn}
use Rattle.history.specs.Traffic.{accepted, given, revokes, all_accepted, all_given, Spares, none, more}
use Rattle.history.specs.Messages.{AcceptedBehind, Once, GivenOnce, GivenInTurn, InOrder, WaitsItsTurn}
use Rattle.history.proofs.Tidy.{Tidy, step_grows, run_grows, reached_tidy}
use Rattle.history.proofs.Turns.{turn}
use Rattle.history.proofs.Givings.{only_gives}

-- ---- over a run
in_order : (w : World) → Tidy w → (n k : ℕ) → LivesIn w n k → {cs : List Call} → Spares w n cs →
    LivesIn (run w cs) n k × (all_given w n cs ++ queue_of (run w cs).table k ≡ queue_of w.table k ++ all_accepted w n cs)
unfolding run all_given all_accepted
in_order w τ n k h none = (h, sym (append-nil _))
in_order w τ n k h (more {c = c} {cs = cs} e s) =
    let a = turn w τ n k h c e in
    let b = in_order (step w c) (step_grows w c τ).tidy n k a.lives s in (
      b.0,
      append_assoc (given w n c) (all_given (step w c) n cs) (queue_of (run (step w c) cs).table k)
          ∙ ap (λ (l : List Message). given w n c ++ l) b.1
          ∙ sym (append_assoc (given w n c) (queue_of (step w c).table k) (all_accepted (step w c) n cs))
          ∙ ap (λ (l : List Message). l ++ all_accepted (step w c) n cs) a.order
          ∙ append_assoc (queue_of w.table k) (accepted w n c) (all_accepted (step w c) n cs),
    )

pub messages_in_order : InOrder
messages_in_order w r n k h cs s = in_order w (reached_tidy r) n k h s

-- ---- one message
-- two lists that agree, cut at the same place
cut : (a b x y : List Message) → a ++ b ≡ x ++ y → length a ≡ length x → (a ≡ x) × (b ≡ y)
cut a b x y e l = (
  sym (take-append_seam a b) ∙ ap (λ (i : ℕ). take i (a ++ b)) l ∙ ap (take (length x)) e ∙ take-append_seam x y,
  sym (drop-append_seam a b) ∙ ap (λ (i : ℕ). drop i (a ++ b)) l ∙ ap (drop (length x)) e ∙ drop-append_seam x y,
)

-- w is the world before m came, and v with it; after the calls `before`, in the world u, the calls ds give x
pub record OnceOver (w v : World) (n k : ℕ) (m : Message) (before : List Call) (u : World) (ds : List Call) (x : Message) : Type 0 where
  pub earlier : all_given v n before ≡ queue_of w.table k
  pub now : x ≡ m
  pub later : (rest : List Call) → Spares (run u ds) n rest →
      all_given (run u ds) n rest ++ queue_of (run (run u ds) rest).table k ≡ all_accepted v n before ++ all_accepted (run u ds) n rest

module _ (w : World) (r : Reached w) (n k q : ℕ) (c : CapId) (p : Payload) (row : ℕ) (a : AcceptedBehind w n k q c p row) where
  abbrev m : Message
  m = stamped p row

  abbrev v : World
  v = step w (send c p row)

  abbrev waited : List Message
  waited = queue_of w.table k

  v_tidy : Tidy v
  v_tidy = (step_grows w (send c p row) (reached_tidy r)).tidy

  v_lives : LivesIn v n k
  unfolding revokes
  v_lives = (turn w (reached_tidy r) n k a.lives (send c p row) refl).lives

  -- m stands behind the others
  queued_behind : queue_of v.table k ≡ waited ++ (m ∷ [])
  unfolding given revokes
  queued_behind = (turn w (reached_tidy r) n k a.lives (send c p row) refl).order ∙ ap (λ (l : List Message). waited ++ l) a.accepts

  -- and then what is accepted later
  all_in_order : (later : List Call) → Spares v n later → all_given v n later ++ queue_of (run v later).table k ≡ waited ++ (m ∷ all_accepted v n later)
  all_in_order later s =
      (in_order v v_tidy n k v_lives s).1
      ∙ ap (λ (l : List Message). l ++ all_accepted v n later) queued_behind
      ∙ append_assoc waited (m ∷ []) (all_accepted v n later)

  -- the q-th of it is m
  at_turn : (later : List Call) → get_or (waited ++ (m ∷ all_accepted v n later)) q fresh_message ≡ m
  at_turn later =
      ap (λ (i : ℕ). get_or (waited ++ (m ∷ all_accepted v n later)) i fresh_message) (sym a.others)
      ∙ get_or-append_seam waited m (all_accepted v n later) fresh_message

  in_turn : (later : List Call) → Spares v n later → q < length (all_given v n later) → get_or (all_given v n later) q fresh_message ≡ m
  in_turn later s l =
      sym (get_or-append (all_given v n later) (queue_of (run v later).table k) fresh_message q l)
      ∙ ap (λ (x : List Message). get_or x q fresh_message) (all_in_order later s)
      ∙ at_turn later

  waits : (later : List Call) → Spares v n later → length (all_given v n later) ≤ q →
      (q - length (all_given v n later) < length (queue_of (run v later).table k)) × (get_or (queue_of (run v later).table k) (q - length (all_given v n later)) fresh_message ≡ m)
  waits later s few =
      let out = all_given v n later in
      let left = queue_of (run v later).table k in
      let i : length out + (q - length out) ≡ q = omega arith in
      let size : length out + length left ≡ length waited + suc (length (all_accepted v n later)) =
      sym (length-append out left) ∙ ap length (all_in_order later s) ∙ length-append waited (m ∷ all_accepted v n later) in
      let o = a.others in (
        omega arith,
        sym (get_or-append-add out left (q - length out) fresh_message)
            ∙ ap (λ (x : ℕ). get_or (out ++ left) x fresh_message) i
            ∙ ap (λ (x : List Message). get_or x q fresh_message) (all_in_order later s)
            ∙ at_turn later,
      )

  -- calls that give one message, when q were given
  pub once_over : (before : List Call) → Spares v n before → length (all_given v n before) ≡ q → (ds : List Call) → let u = run v before in
      Spares u n ds → all_accepted u n ds ≡ [] → (x : Message) → all_given u n ds ≡ x ∷ [] → OnceOver w v n k m before u ds x
  once_over before s e ds free takes x g =
      let u = run v before in
      let τ = (run_grows v before v_tidy).tidy in
      let f = cut (all_given v n before) (queue_of u.table k) waited (m ∷ all_accepted v n before) (all_in_order before s) (e ∙ sym a.others) in
      let o = in_order u τ n k (in_order v v_tidy n k v_lives s).0 free in
      let z : x ∷ queue_of (run u ds).table k ≡ m ∷ all_accepted v n before =
      ap (λ (l : List Message). l ++ queue_of (run u ds).table k) (sym g) ∙ o.1 ∙ ap (λ (l : List Message). queue_of u.table k ++ l) takes ∙ append-nil _ ∙ f.1 in
      let y = cut (x ∷ []) (queue_of (run u ds).table k) (m ∷ []) (all_accepted v n before) z refl in
      record {
        earlier = f.0;
        now = cc;
        later = λ rest spared. (in_order (run u ds) (run_grows u ds τ).tidy n k o.0 spared).1 ∙ ap (λ (l : List Message). l ++ all_accepted (run u ds) n rest) y.1;
      }

  once : (before : List Call) → Spares v n before → length (all_given v n before) ≡ q → (d : Call) (x : Message) → given (run v before) n d ≡ x ∷ [] → Once w v n k m before d x
  unfolding run all_given all_accepted
  once before s e d x g =
      let f = only_gives (run v before) n x d g in
      let o = once_over before s e (d ∷ []) (more f.spares none) (append-nil _ ∙ f.accepts_none) x (append-nil _ ∙ g) in
      record { earlier = o.earlier; now = o.now; later = o.later }

pub given_in_turn : GivenInTurn
given_in_turn = in_turn

pub waits_its_turn : WaitsItsTurn
waits_its_turn = waits

pub given_once : GivenOnce
given_once = once
