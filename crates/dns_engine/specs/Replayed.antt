-- What a published version is: the first zone, with updates replayed (RFC 2136, 3).
use Rattle.std.specs.Prelude.{◌≡◌, ◌≢◌, true, List, [], ◌∷◌, length, None, unwrap_or}
use Rattle.dns_rdata.specs.Record.{Record}
use Rattle.dns_message.specs.declared.update.Update.{Update}
use Rattle.zone_tree.specs.Version.{Version}
use Rattle.update_core.specs.Verdict.{verdict}
use Rattle.update_core.specs.Act.{act, replay}

-- updates that come one after another each change the zone that those before them leave, and no rule gives one of them a code
abbrev pub EachChanges : List Record → List Update → Type 0
EachChanges zone [] = Unit {0}
EachChanges zone (update ∷ updates) =
    (verdict zone update true ≡ None) × (unwrap_or (act zone update) zone ≢ zone) × EachChanges (unwrap_or (act zone update) zone) updates

-- a version is the first zone with updates replayed, as many as its number, each of which changed the zone
pub record IsReplay (first : List Record) (version : Version) : Type 0 where
  pub updates : List Update
  pub changing : EachChanges first updates
  pub zone : version.zone ≡ replay first updates
  pub number : length updates ≡ version.number
