use denote.RattleType.{RattleType}
use denote.Param.Send.{IsSend, IsSync}
use Rattle.raw_slots.specs.contracts.place.Held.{the_row}
use Rattle.raw_slots.proofs.Sent.{held_keyless}

pub send : (T V : RattleType) → IsSync T → IsSend (the_row T V)
send T V y = record { owned = λ d vs. ((λ vss. (tt, (tt, ((λ uss. (tt, tt)), tt)))), held_keyless T V.coded.code d.at d.value y d.stake d.id); leaving = λ k f vs. tt }
