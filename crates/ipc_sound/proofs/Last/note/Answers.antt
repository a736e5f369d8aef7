-- `ipc_sound::Last::note`: where the endpoint is an end, its place is set. Assumes nothing.
use borrow.Author.Rules.{rules}
use Rattle.std.specs.Prelude.{None, Some}
use Rattle.ipc_sound.proofs.LastEnds.{noted_end, noted_none}
use Rattle.ipc_sound.proofs.Last.note.Goals as goal

pub returns-then-is_live-eq : goal.returns-then-is_live-eq
returns-then-is_live-eq c =
    rw c.from.ensures (noted_end c.args.self.now.at c.args.e c.args.w (Some c.args.i) None (search rules) (rw (c.is_live.ensures, c.eq.ensures) at c.if-is_live-eq.true))

pub returns-else-is_live-eq : goal.returns-else-is_live-eq
returns-else-is_live-eq c = noted_none c.args.self.now.at c.args.e c.args.w (Some c.args.i) None (rw (c.is_live.ensures, c.eq.ensures) at c.if-is_live-eq.false)
