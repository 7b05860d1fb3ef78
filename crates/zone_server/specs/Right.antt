-- The holder of the right to publish in a server counts the versions (own).
use Rattle.std.specs.Prelude.{◌≡◌, ◌≤◌, ℕ, length}
use Rattle.dns_engine.specs.Held.{EngineState}
use Rattle.zone_server.specs.declared.right.ServerLedgers.{ServerLedgers}

-- one ledger counts the versions that an engine has published, and another one those reserved, which are sure to find room
pub record AreCounted (engine : EngineState) (published reserved : ℕ) : Type 0 where
  pub published_is : published ≡ length engine.held.published
  pub reserved_fit : reserved ≤ engine.free

-- ledgers have these names, and one part each
pub record AreNamed (published reserved : ℕ) (ledgers : ServerLedgers) : Type 0 where
  pub published_is : ledgers.published.name ≡ published
  pub published_whole : ledgers.published.parts ≡ 1
  pub reserved_is : ledgers.reserved.name ≡ reserved
  pub reserved_whole : ledgers.reserved.parts ≡ 1
