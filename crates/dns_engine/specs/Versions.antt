-- Which versions of a zone may be published (RFC 2136, 3).
use Rattle.std.specs.Prelude.{◌≡◌, ◌≢◌, ◌+◌, true, List, [], ◌∷◌, None, Some}
use Rattle.dns_rdata.specs.Record.{Record}
use Rattle.dns_message.specs.declared.update.Update.{Update}
use Rattle.zone_tree.specs.Version.{Version, KnowsChanges}
use Rattle.update_core.specs.Verdict.{verdict}
use Rattle.update_core.specs.Act.{act}

-- the first version: its number is 0, its zone is the first one, and it knows of no change
pub record IsFirst (first : List Record) (version : Version) : Type 0 where
  pub number : version.number ≡ 0
  pub zone : version.zone ≡ first
  pub changes : version.changes ≡ None

-- an update makes of a version the next one: no rule gives it a code, it changes the zone, and the next version has the zone that it makes
-- and the next number, and knows what it changed (RFC 2136, 3; RFC 1995, 4)
pub record Makes (update : Update) (version next : Version) : Type 0 where
  pub taken : verdict version.zone update true ≡ None
  pub zone : act version.zone update ≡ Some next.zone
  pub changed : next.zone ≢ version.zone
  pub number : next.number ≡ version.number + 1
  pub changes : KnowsChanges version.zone next

-- a version may be published after another: some update makes it
pub record IsNext (version next : Version) : Type 0 where
  pub update : Update
  pub makes : Makes update version next

-- versions may be published one after another after a version
abbrev pub AreNext : Version → List Version → Type 0
AreNext version [] = Unit {0}
AreNext version (next ∷ later) = IsNext version next × AreNext next later
