-- A channel from its creation on: every one that lives has its creation, `each_created`; while it lives it was not revoked, it is of the
-- kind it was created, `kind_stays`, and what waits in it is what was accepted and not given yet, `behind_counted`. Assumes nothing.
use mathlib.Core.Path.{◌≡◌, refl, sym, ap, ◌∙◌}
use mathlib.Core.Bool.{Bool}
use mathlib.Core.List.{List, [], ◌∷◌, ◌++◌}
use mathlib.Core.Logic.{⊎_elim}
use Prim.Native.Nat.{ℕ, ◌+◌, ◌≤◌, ◌<◌}
use native.Mathlib.Omega.{arith}
use lib.ListN.{length, length-append}
use Rattle.laws.proofs.Bools.{either, below?}
use Rattle.ipc_rules.specs.Views.{queue_of, ephemeral_of}
use Rattle.ipc_rules.specs.declared.state.Channel.{Channel}
use Rattle.ipc_rules.specs.declared.state.Message.{Message}
use Rattle.history.specs.Calls.{Call, create, created, answer}
use Rattle.history.specs.World.{World, step, run, Reached, fresh, then}
use Rattle.history.specs.Channels.{LivesIn}
use Rattle.history.specs.Ids.{Makes, CreatedIn, EachCreated}
use Rattle.history.specs.Traffic.{revokes, all_given, all_accepted, Spares, none, more}
use Rattle.history.specs.Messages.{BehindCounted}
use Rattle.history.specs.Waits.{KindStays}
use Rattle.history.proofs.Kept.{run_on, reached_run}
use Rattle.history.proofs.Steps.{StepWays, settles, births, step_ways}
use Rattle.history.proofs.Tidy.{Tidy, step_grows, start_tidy, reached_tidy}
use Rattle.history.proofs.Ids.{Placed, placed, one_channel}
use Rattle.history.proofs.Lives.{step_lived, run_gone}
use Rattle.history.proofs.Turns.{turn}
use Rattle.history.proofs.Messages.{messages_in_order}
use Rattle.history.proofs.Gone.{revoked_gone}

-- ---- its creation
-- one call more
created_on : (w : World) (n : ℕ) (c : Call) → CreatedIn w n → CreatedIn (step w c) n
unfolding run
created_on w n c x =
    record {
      before = x.before;
      reached = x.reached;
      ephemeral = x.ephemeral;
      ids = x.ids;
      makes = x.makes;
      later = x.later ++ (c ∷ []);
      comes = ap (λ v. step v c) x.comes ∙ sym (run_on (step x.before (create x.ephemeral)) x.later (c ∷ []));
    }

-- a number that no channel had before is that of the channel that the call makes
created_now : (w : World) → Reached w → (c : Call) (n k : ℕ) → w.made < n → LivesIn (step w c) n k → CreatedIn (step w c) n
unfolding run answer
created_now w r c n k up l = by (step_ways w c (reached_tidy r).sound)
  where
    few : n ≤ (step w c).made
    few = let p = (step_grows w c (reached_tidy r)).tidy.last k l.live in let e = l.tenant in omega arith

    by : StepWays w c (step w c) → CreatedIn (step w c) n
    by (settles _ q) = let e : (step w c).made ≡ w.made = ap (λ (v : World). v.made) q in let f = few in absurd (omega arith)
    by (births b _ _ _ e β) =
        let m = β.made in
        let f = few in
        record {
          before = w;
          reached = r;
          ephemeral = b;
          ids = _;
          makes = record { answers = ap created β.makes.answer; number = omega arith };
          later = [];
          comes = ap (step w) e;
        }

has_creation : {w : World} → Reached w → (n k : ℕ) → LivesIn w n k → CreatedIn w n
has_creation (fresh z h) n k l = let τ = start_tidy z h in let p = τ.first k l.live in let q = τ.last k l.live in absurd (omega arith)
has_creation (then {w} r c) n k l =
    ⊎_elim (λ up. created_now w r c n k up l) (λ past. created_on w n c (has_creation r n k (step_lived w c n k (reached_tidy r) past l).lives)) (below? w.made n)

pub each_created : EachCreated
each_created w r = has_creation r

-- ---- a channel that lives after a run
-- no call revoked it, and it is of the kind it was
record Through (w : World) (n k : ℕ) (cs : List Call) : Type 0 where
  spared : Spares w n cs
  kind : ephemeral_of (run w cs).table k ≡ ephemeral_of w.table k

through : (w : World) → Tidy w → (n k j : ℕ) → LivesIn w n k → (cs : List Call) → LivesIn (run w cs) n j → Through w n k cs
unfolding run
through w τ n k j h [] l = record { spared = none; kind = refl }
through w τ n k j h (c ∷ cs) l =
    ⊎_elim
    (λ e.
    let a = step_grows w c τ in
    let g = revoked_gone w n τ c e in
    let p = g.past in
    let m = a.more in
    absurd (run_gone (step w c) cs n a.tidy (omega arith) g.gone j l))
    (λ e.
    let a = turn w τ n k h c e in
    let r = through (step w c) (step_grows w c τ).tidy n k j a.lives cs l in
    record { spared = more e r.spared; kind = r.kind ∙ a.kind })
    (either (revokes w n c))

-- ---- from the creation on
module _ (w : World) (reached : Reached w) (b : Bool) (n : ℕ) (ids : Channel) (m : Makes w b n ids) where
  abbrev p : Placed w b ids
  p = placed w b n ids (reached_tidy reached).sound m

  abbrev v : World
  v = step w (create b)

  born_in : LivesIn v n p.box
  born_in = let β = p.births in record { live = rw β.table β.makes.live; tenant = β.tenant ∙ sym m.number }

  born_kind : ephemeral_of v.table p.box ≡ b
  born_kind = let β = p.births in rw β.table β.makes.kind

  born_empty : queue_of v.table p.box ≡ []
  born_empty = let β = p.births in rw β.table β.makes.queue

  module _ (later : List Call) (k : ℕ) (l : LivesIn (run v later) n k) where
    since : Through v n p.box later
    since = through v (step_grows w (create b) (reached_tidy reached)).tidy n p.box k born_in later l

    order : LivesIn (run v later) n p.box × (all_given v n later ++ queue_of (run v later).table p.box ≡ queue_of v.table p.box ++ all_accepted v n later)
    order = messages_in_order v (then reached (create b)) n p.box born_in later since.spared

    -- it lives where it was created
    here : k ≡ p.box
    here = one_channel (run v later) (reached_run (then reached (create b)) later) n k p.box l order.0

    same_kind : ephemeral_of (run v later).table k ≡ b
    same_kind = rw here (since.kind ∙ born_kind)

    pub all_since : all_given v n later ++ queue_of (run v later).table k ≡ all_accepted v n later
    all_since = rw here (order.1 ∙ ap (λ (q : List Message). q ++ all_accepted v n later) born_empty)

pub kind_stays : KindStays
kind_stays = same_kind

pub behind_counted : BehindCounted
behind_counted w reached b n ids m before k q c p row a =
    let v = step w (create b) in
    let l = a.lives in
    let e = all_since w reached b n ids m before k l in
    let size : length (all_given v n before) + length (queue_of (run v before).table k) ≡ length (all_accepted v n before) =
    sym (length-append (all_given v n before) (queue_of (run v before).table k)) ∙ ap length e in
    let o = a.others in
    record { unrevoked = (since w reached b n ids m before k l).spared; count = omega arith; order = e }
