-- Each open place has its own live channel with its own two ids and its one hold. Assumes nothing.
use mathlib.Core.Path.{◌≡◌, ap, ◌∙◌}
use Rattle.cap.specs.Rights.{send_right, receive_right}
use Rattle.ipc_rules.specs.declared.opening.Opening.TheVariants.{Opens}
use Rattle.isolation.specs.Own.{SlotsOfJobs, OwnChannels, ChannelsApart}
use Rattle.isolation.proofs.Ids.{one_box, unlike}
use Rattle.isolation.proofs.Reaches.{all_kept}

pub slots_of_jobs : SlotsOfJobs
slots_of_jobs w ρ = (all_kept w ρ).slots

pub own_channels : OwnChannels
own_channels w ρ = (all_kept w ρ).own

pub channels_apart : ChannelsApart
channels_apart w ρ p q o h ne mine other =
    let t = w.channels in
    let a = mine.channel in
    let b = other.channel in
    let boxes : mine.box ≡ other.box → ⊥ = λ e. ne ((all_kept w ρ).apart p q o h other.box (a.sends ∙ ap Opens e) b.sends) in
    record {
      boxes = boxes;
      sends = λ e. boxes (one_box t _ _ send_right _ _ e a.sends b.sends);
      receives = λ e. boxes (one_box t _ _ receive_right _ _ e a.receives b.receives);
      crossed = unlike t _ _ send_right _ a.sends b.receives_only;
    }
