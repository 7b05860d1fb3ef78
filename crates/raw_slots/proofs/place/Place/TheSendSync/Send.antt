use denote.RattleType.{RattleType}
use denote.Param.Send.{IsSend, IsSync}
use Rattle.raw_slots.specs.contracts.place.Place.{the_row}
use Rattle.raw_slots.proofs.Sent.{place_keyless}

pub send : (T V : RattleType) → IsSend T → IsSync T → IsSend (the_row T V)
send T V s y = record { owned = λ d vs. ((λ vss. (tt, (tt, ((λ uss. (tt, tt)), tt)))), place_keyless T V.coded.code d.at d.value s y d.stake); leaving = λ k f vs. tt }
