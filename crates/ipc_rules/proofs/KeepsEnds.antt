-- When a mailbox keeps its two ends while other endpoints change. Assumes nothing.
use mathlib.Core.Path.{◌≡◌, sym, ap, ◌∙◌}
use mathlib.Core.Bool.{true}
use mathlib.Core.List.{List}
use Prim.Native.Nat.{ℕ}
use Rattle.cap.specs.Rights.{send_right, receive_right}
use Rattle.cap.specs.declared.CapRights.{CapRights}
use Rattle.ipc_rules.specs.State.{end_in, end_live}
use Rattle.ipc_rules.specs.Sound.{IsEnd, OneEnd, Ends}
use Rattle.ipc_rules.specs.declared.state.Endpoint.{Endpoint}

-- an endpoint that is the same is an end of the same mailbox
end_moved : {es now : List Endpoint} (w : CapRights) (k i : ℕ) → end_in now i ≡ end_in es i → IsEnd es w k i → IsEnd now w k i
end_moved w k i q h = record { live = ap (λ (e : Endpoint). e.live) q ∙ h.live; rights = rw q h.rights; names = rw q h.names }

-- each live endpoint that names mailbox k, before or afterwards, is the same before and afterwards
module _ (es now : List Endpoint) (k : ℕ) (stays : (i : ℕ) → end_live es i ≡ true → (end_in es i).mailbox ≡ k → end_in now i ≡ end_in es i)
    (stood : (i : ℕ) → end_live now i ≡ true → (end_in now i).mailbox ≡ k → end_in now i ≡ end_in es i) where
  one_kept : (w : CapRights) (i : ℕ) → OneEnd es w k i → OneEnd now w k i
  one_kept w i o =
      record {
        is = end_moved w k i (stays i o.is.live o.is.names) o.is;
        only = λ j h. o.only j (end_moved w k j (sym (stood j h.live h.names)) h);
      }

  pub ends_kept : Ends es k → Ends now k
  ends_kept x =
      let q = stays x.send x.one_send.is.live x.one_send.is.names in
      let u = stays x.recv x.one_recv.is.live x.one_recv.is.names in
      record {
        send = x.send;
        recv = x.recv;
        one_send = one_kept send_right x.send x.one_send;
        one_recv = one_kept receive_right x.recv x.one_recv;
        one_generation = rw (q, u) x.one_generation;
        some_generation = rw q x.some_generation;
      }
