use mathlib.Core.List.{[], ◌∷◌}
use denote.RattleType.{RattleType}
use denote.Param.Send.{IsSync, sendable}
use denote.Struct.Struct.{Struct}
use denote.Struct.Owning.{shape}
use Rattle.std_alloc.proofs.SendSync.{seen}
use Rattle.raw_slots.specs.contracts.place.Held.{the_row, the_type}

pub sync : (T V : RattleType) → IsSync T → IsSync (the_row T V)
sync T V y = let fields : IsSync (Struct (shape (the_type T V))) = search sendable depth 20 in
    record { shared = λ d b o κ. (fields.shared (d.at, (tt, tt)) b o κ, ((λ q. tt), seen T y d.at d.value (d.stake.life ∷ []))) }
