use denote.RattleType.{RattleType}
use denote.Param.Send.{IsSend}
use Rattle.raw_slots.specs.contracts.row.Row.{the_row}
use Rattle.raw_slots.proofs.Sent.{row_keyless}

pub send : (T : RattleType) → IsSend T → IsSend (the_row T)
send T s = record { owned = λ d vs. ((λ vss. (tt, (tt, tt))), row_keyless T s d.at d.total d.values); leaving = λ k f vs. tt }
