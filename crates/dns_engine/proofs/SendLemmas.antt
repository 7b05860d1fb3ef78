-- A version may be sent to another thread and be shared by threads, and so may what owns it; an engine may be sent.
use denote.Param.Send.{IsSend, IsSync, sendable}
use denote.RattleType.{RattleType}
use denote.Ref.{NamedLft}
use Rattle.arrayvec.proofs.array_vec.ArrayVec.TheSendSync as array_vec
use Rattle.arrayvec.proofs.cells.Cells.TheSendSync as cells
use Rattle.dns_engine.specs.contracts.engine.Engine as engine
use Rattle.dns_engine.specs.contracts.owners.Owners as owners
use Rattle.dns_engine.specs.contracts.shared.SharedVersion as shared
use Rattle.dns_engine.specs.declared.versions.FirstZone.{Ghosts}
use Rattle.dns_rdata.specs.contracts.data.RData as rdata
use Rattle.dns_rdata.specs.contracts.rrset.RRset as rrset
use Rattle.snapshot_cell.proofs.SendLemmas as cell
use Rattle.snapshot_cell.specs.declared.named.Naming as naming
use Rattle.std.proofs.Crossing as crossing
use Rattle.std.proofs.option.Option.TheSendSync as option
use Rattle.weak_history.proofs.SendLemmas as history
use Rattle.zone_tree.below.shared_tree.proofs.node.Link.TheLaws.TheKnot as knot
use Rattle.zone_tree.below.smallvec.proofs.small_vec.SmallVec.TheSendSync as small_vec
use Rattle.zone_tree.specs.contracts.version.Version as version
use Rattle.zone_tree.specs.contracts.zone.Zone as zone

-- what a zone is made of, step by step: one search for all of it breaks off
rdata_send : IsSend rdata.the_row
rdata_send = search (crossing.crosses, sendable) depth 60 fits 20000

rdata_sync : IsSync rdata.the_row
rdata_sync = search (crossing.crosses, sendable) depth 60 fits 20000

rrset_send : IsSend rrset.the_row
rrset_send = search (rdata_send, small_vec.the_send, crossing.crosses, sendable) depth 60 fits 20000

rrset_sync : IsSync rrset.the_row
rrset_sync = search (rdata_sync, small_vec.the_sync, crossing.crosses, sendable) depth 60 fits 20000

zone_send : IsSend zone.the_row
zone_send = search (rrset_send, rrset_sync, small_vec.the_send, small_vec.the_sync, crossing.crosses, knot.crosses_both, sendable) depth 60 fits 20000

zone_sync : IsSync zone.the_row
zone_sync = search (rrset_send, rrset_sync, small_vec.the_send, small_vec.the_sync, crossing.crosses, knot.crosses_both, sendable) depth 60 fits 20000

pub version_send : IsSend version.the_row
version_send = search (zone_send, rrset_send, crossing.crosses, sendable) depth 60 fits 20000

pub version_sync : IsSync version.the_row
version_sync = search (zone_sync, rrset_sync, crossing.crosses, sendable) depth 60 fits 20000

pub shared_send : IsSend shared.the_row
shared_send = search (version_send, version_sync, crossing.crosses, sendable) depth 60 fits 20000

pub shared_sync : IsSync shared.the_row
shared_sync = search (version_send, version_sync, crossing.crosses, sendable) depth 60 fits 20000

module _ (a : NamedLft) (T : RattleType) (g : Ghosts T.Denot) (N : RattleType) (n : naming.Ghosts N.Denot) where
  owners_send : IsSend (owners.the_row a T N g n)
  owners_send =
      search (shared_send, shared_sync, array_vec.the_send, cells.the_field_send, option.the_field_send, option.the_send, cell.crosses, crossing.crosses, sendable)
      depth 60 fits 20000

  pub engine_send : IsSend (engine.the_row a T N g n)
  engine_send = search (shared_send, shared_sync, owners_send, history.crosses, cell.crosses, crossing.crosses, sendable) depth 60 fits 20000

-- what the engine has to do with, as a set for search
pub ruleset crosses = (version_send, version_sync, shared_send, shared_sync, engine_send)
