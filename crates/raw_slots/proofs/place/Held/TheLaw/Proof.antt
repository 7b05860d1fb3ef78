-- A `&` to a claim holds a share of its piece. Assumes `Logic`.
use denote.RattleType.{RattleType}
use denote.Param.Laws.{Laws}
use denote.Param.Shared.{copy_shared}
use denote.Struct.Field.{RawPtr-field}
use denote.Struct.Laws.{RawPtr-copy, field_copy}
use denote.Struct.Lending.{of_Lends, lent_at, lent_at_shr_laws}
use Rattle.core.specs.contracts.marker.PhantomData as marker
use Rattle.raw_slots.specs.contracts.place.Held as C
use Rattle.raw_slots.proofs.place.Held.TheLaw.Statement.{statement}
use Rattle.raw_slots.proofs.Holding.{lent_laws, Lends-claim}

pub shares : (T V : RattleType) (L : Laws T) (L' : Laws V) → statement T V L L'
shares T V L L' = of_Lends (C.struct T V) (C.the_codes T.Denot V.Denot T.coded V.coded (marker.the_row V).coded) (C.the_heap T V) (C.the_lent T V)
    (λ d p. lent_laws (lent_at T d.at d.value) (lent_at_shr_laws T L.shr_laws d.at d.value) V.coded.code d.stake.views d.stake.tally d.stake.life d.stake.key d.id)
    (copy_shared RawPtr-field RawPtr-copy, (copy_shared (marker.the_field V) (field_copy (marker.the_type V) tt), tt))
    (λ M 𝓤 𝓛 d p. Lends-claim (lent_at T d.at d.value) (lent_at_shr_laws T L.shr_laws d.at d.value) V.coded.code d.stake.views d.stake.tally d.stake.life d.stake.key d.id 𝓛 (C.the_row T V).lives)
