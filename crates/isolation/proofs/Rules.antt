-- On a kept desk the border serves, and each call is its rule. Assumes nothing.
use mathlib.Core.Path.{◌≡◌, refl, ap, ◌∙◌}
use mathlib.Core.List.{List, [], ◌∷◌}
use Rattle.dispatcher_rules.specs.Open.{open_job_of}
use Rattle.dispatcher_rules.specs.Close.{close_job_of}
use Rattle.dispatcher_rules.specs.Slots.{slot_send_of, slot_recv_of, slot_park_of}
use Rattle.dispatcher_rules.specs.declared.state.Desk.{Desk}
use Rattle.isolation.specs.Runs.{JobCall, open_for, close, send, receive, park, opened, closed, sent, received, parked, after, run}
use Rattle.isolation.proofs.Kept.{Kept}
use Rattle.isolation.proofs.Reaches.{serves, after_kept}

unfoldable pub rule_after : Desk → JobCall → Desk
rule_after w (open_for tag x) = opened (open_job_of w.dispatcher w.rows w.channels tag x)
rule_after w (close p) = closed (close_job_of w.dispatcher w.rows w.channels p)
rule_after w (send r s x) = sent (slot_send_of w.dispatcher w.rows w.channels r s x)
rule_after w (receive r s) = received (slot_recv_of w.dispatcher w.rows w.channels r s)
rule_after w (park r s task) = parked (slot_park_of w.dispatcher w.rows w.channels r s task)

unfoldable pub rule_run : Desk → List JobCall → Desk
rule_run w [] = w
rule_run w (c ∷ cs) = rule_run (rule_after w c) cs

pub after_rule : (w : Desk) → Kept w → (c : JobCall) → after w c ≡ rule_after w c
unfolding after rule_after
after_rule w κ (open_for tag x) = rw (serves w.dispatcher w.channels κ.ready)
after_rule w κ (close p) = rw (serves w.dispatcher w.channels κ.ready)
after_rule w κ (send r s x) = rw (serves w.dispatcher w.channels κ.ready)
after_rule w κ (receive r s) = rw (serves w.dispatcher w.channels κ.ready)
after_rule w κ (park r s task) = rw (serves w.dispatcher w.channels κ.ready)

pub run_rule : (w : Desk) → Kept w → (cs : List JobCall) → run w cs ≡ rule_run w cs
unfolding run rule_run
run_rule w κ [] = refl
run_rule w κ (c ∷ cs) = run_rule (after w c) (after_kept w κ c) cs ∙ ap (λ (v : Desk). rule_run v cs) (after_rule w κ c)
