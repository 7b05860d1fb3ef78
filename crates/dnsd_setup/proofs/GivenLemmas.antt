-- A store that is served was given by a start.
use Rattle.std.proofs.Common.{ℕ, List, Option, inl, inr}
use Rattle.dns_name.specs.Name.{Name}
use Rattle.store_recovery.specs.declared.choices.Take.{Take}
use Rattle.store_server.specs.declared.resume.OpenStore.{OpenStore}
use Rattle.store_server.specs.declared.start.Served.{Served}
use Rattle.store_server.specs.declared.start.Served.TheVariants.{Created, Same, Store, StoreThoughOther, Zone}
use Rattle.store_server.specs.Started.{IsCreatedWith, IsServedBy}
use Rattle.store_server.specs.OpenStore.{IsGiven}

begun : (text : List ℕ) (origin : Name) (random : List ℕ) (store : OpenStore) → IsCreatedWith text origin random store → IsGiven store
begun text origin random store with = inr (with.zone, with.number, random, text, with.begun)

pub given : (text : List ℕ) (origin : Name) (taken : Option Take) (random : List ℕ) (store : OpenStore) (served : Served) → IsServedBy text origin taken random store served → IsGiven store
given text origin taken random store Created is = begun text origin random store is
given text origin taken random store (Zone change) is = inl (is.0, is.4.octets, is.4.later, is.4.goes_on)
given text origin taken random store Same is = inl (is.0, is.1, is.2.start, is.3)
given text origin taken random store Store is = inl (is.0, is.1, is.2.start, is.3)
given text origin taken random store (StoreThoughOther serial) is = inl (is.0, is.1, is.2.start, is.3)
