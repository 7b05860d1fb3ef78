-- What a reader has seen once it has loaded.
use Rattle.std.proofs.Common.{ℕ, List, sym, subst}
use Rattle.dns_rdata.specs.Record.{Record}
use Rattle.zone_tree.specs.Version.{Version}
use Rattle.cell_core.specs.declared.words.Version.{Version as Numbered}
use Rattle.snapshot_cell.specs.Tokens.{ReaderState, IsLoad}
use Rattle.dns_engine.specs.Versions.{IsFirst, IsNext}
use Rattle.dns_engine.specs.Held.{IsLatest}
use Rattle.dns_engine.specs.Replayed.{IsReplay}
use Rattle.dns_engine.proofs.ReplayLemmas.{last_number_of, last_latest, last_replay_of}
use Rattle.zone_server.specs.Known.{HasLoaded}

-- a version that is loaded has the number that it is published with
pub loads : (first : List Record) (before after : ReaderState Version) (version : Numbered Version) → IsLoad (IsFirst first) IsNext before after version → HasLoaded first before after version.value
loads first before after version load =
    subst (λ (n : ℕ). IsLoad (IsFirst first) IsNext before after (record { number = n; value = version.value })) (sym (last_number_of first after.seen version load.history load.last)) load

-- and is the latest that the reader has then seen, and a replay
pub loaded_latest : (first : List Record) (before after : ReaderState Version) (version : Numbered Version) → IsLoad (IsFirst first) IsNext before after version → IsLatest first after.seen version.value
loaded_latest first before after version load = last_latest first after.seen version load.history load.last

pub loaded_replay : (first : List Record) (before after : ReaderState Version) (version : Numbered Version) → IsLoad (IsFirst first) IsNext before after version → IsReplay first version.value
loaded_replay first before after version load = last_replay_of first after.seen version load.history load.last
