-- Creating a store from a zone (own).
use Rattle.std.specs.Prelude.{◌≡◌, ℕ, List, []}
use Rattle.dns_rdata.specs.Record.{Record}
use Rattle.journal.specs.declared.heads.Head.{Head}
use Rattle.journal.specs.declared.heads.TextSum.{TextSum}
use Rattle.master_file.specs.WrittenZone.{zone_text}
use Rattle.store_recovery.specs.Store.{IsStore}

-- a text is what is written of a zone, and a head names it, with this number, these random octets and the text that the store was first created from; without batches
-- they are a store of that zone and of no update
pub record IsCreated (zone : List Record) (number : ℕ) (random : List ℕ) (origin : TextSum) (text : List ℕ) (head : Head) : Type 0 where
  pub written : text ≡ zone_text zone
  pub numbered : head.number ≡ number
  pub salted : head.random ≡ random
  pub given : head.origin ≡ origin
  pub store : IsStore text head [] zone []
