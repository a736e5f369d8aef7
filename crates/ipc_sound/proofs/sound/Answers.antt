-- `ipc_sound::sound` computes `sound_test`, and what passes it is sound. Assumes nothing.
use mathlib.Core.Path.{◌≡◌, sym, ◌∙◌}
use mathlib.Core.Bool.{Bool, true, false}
use Prim.Native.Nat.{◌≤◌}
use Rattle.laws.proofs.Lists.{unmapped}
use Rattle.ipc_rules.specs.State.{Shape}
use Rattle.ipc_rules.specs.Make.{in_range}
use Rattle.ipc_rules.specs.Sound.{Sound}
use Rattle.ipc_sound.specs.SoundTest.{sound_test}
use Rattle.ipc_rules.specs.declared.state.Table.{Table}
use Rattle.ipc_rules.proofs.Fresh.{in_range_of}
use Rattle.ipc_sound.proofs.Decide.{sound_of}
use borrow.Author.Rules.{rules}
use Rattle.ipc_sound.proofs.sound.Goals as goal
use Rattle.ipc_sound.proofs.sound.Goals.{Else-not-in_range, Start}

shape : (c : Start) → Shape c.args.t
shape c = record { endpoints = search (rules, unmapped); mailboxes = search (rules, unmapped); messages = search (rules, unmapped) }

in_range_lem : (c : Else-not-in_range) → in_range c.args.t.sizes ≡ true
in_range_lem c = sym c.in_range.ensures ∙ c.if-not-in_range.false

told : (t : Table) {q : Bool} → Shape t → q ≡ sound_test t → (q ≡ sound_test t) × (q ≡ true → Sound t)
told t s e = (e, λ y. sound_of t s (sym e ∙ y))

refused : (t : Table) → in_range t.sizes ≡ false → false ≡ sound_test t
unfolding sound_test
refused t h = rw h

pub returns-then-not-in_range : goal.returns-then-not-in_range
returns-then-not-in_range c =
    told _ (shape (goal.at.returns-then-not-in_range c).Start) (refused _ (sym c.in_range.ensures ∙ c.if-not-in_range.true))

pub mailboxes_ok-requires : goal.mailboxes_ok-requires
mailboxes_ok-requires c =
    let shallow : c.args.t.sizes.depth ≤ 8 = (in_range_of c.args.t.sizes (in_range_lem (goal.at.mailboxes_ok-requires c).Else-not-in_range)).depth in
    record { last = c.last_ends-l.ensures; shallow = shallow }

pub returns : goal.returns
unfolding sound_test
returns c =
    told _ (shape (goal.at.returns c).Start)
    (simp (c.places_ok.ensures, c.mailboxes_ok.ensures, c.endpoints_ok.ensures, in_range_lem (goal.at.returns c).Else-not-in_range))
