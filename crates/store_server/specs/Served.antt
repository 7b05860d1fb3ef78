-- Where a server writes updates, by what its store has (RFC 2136, 3.5; own).
use Rattle.std.specs.Prelude.{ℕ, List}
use Rattle.dns_rdata.specs.Record.{Record}
use Rattle.zone_tree.specs.Version.{Version}
use Rattle.journal.specs.Batch.{Messages}
use Rattle.store_server.specs.declared.served.ServerStore.{ServerStore}
use Rattle.store_server.specs.declared.served.ServerStore.TheVariants.{Nowhere, Store}

module _ {S L : Type 0} where
  -- what the store has; nothing is claimed if there is no store
  abbrev pub HasIn : (List Record → S → List Version → List Messages → Type 0) → List Record → ServerStore S L → List Version → List Messages → Type 0
  HasIn has zone Nowhere published updates = Unit {0}
  HasIn has zone (Store logged) published updates = has zone logged.store published updates

  -- what a crash at any moment leaves of the store; nothing is claimed if there was no store
  abbrev pub LeavesIn : (List Record → S → S → List Messages → Type 0) → List Record → ServerStore S L → ServerStore S L → List Messages → Type 0
  LeavesIn leaves zone Nowhere new updates = Unit {0}
  LeavesIn leaves zone (Store old) Nowhere updates = ⊥
  LeavesIn leaves zone (Store old) (Store new) updates = leaves zone old.store new.store updates
