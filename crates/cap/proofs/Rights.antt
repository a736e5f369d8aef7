-- `contains_all` says of each bit that it is there: the flags of one are all among the other's. Assumes nothing.
use mathlib.Core.Path.{◌≡◌, refl}
use mathlib.Core.Bool.{true, false}
use Rattle.cap.specs.Rights.{contains_all, send_right, receive_right, union_of}

-- a single right holds itself and no other, and both together hold each
pub send_holds_send : contains_all send_right send_right ≡ true
send_holds_send = refl

pub send_lacks_receive : contains_all send_right receive_right ≡ false
send_lacks_receive = refl

pub receive_holds_receive : contains_all receive_right receive_right ≡ true
receive_holds_receive = refl

pub receive_lacks_send : contains_all receive_right send_right ≡ false
receive_lacks_send = refl

pub send_lacks_both : contains_all send_right (union_of send_right receive_right) ≡ false
send_lacks_both = refl

pub receive_lacks_both : contains_all receive_right (union_of send_right receive_right) ≡ false
receive_lacks_both = refl
