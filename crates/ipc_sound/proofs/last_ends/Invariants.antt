-- What each turn of `last_ends` keeps.
use Rattle.cap.specs.Rights.{send_right, receive_right}
use Rattle.ipc_sound.specs.SoundTest.{Remembers}
use Rattle.ipc_sound.proofs.last_ends.Given as goal

abbrev pub invariant-loop-i : goal.invariant-loop-i
invariant-loop-i l = record { send : Remembers l.es send_right l.i l.send.at; recv : Remembers l.es receive_right l.i l.recv.at }
