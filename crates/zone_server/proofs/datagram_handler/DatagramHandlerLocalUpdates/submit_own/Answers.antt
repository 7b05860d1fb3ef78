-- The reader meets what is published.
use Rattle.zone_server.proofs.NowLemmas.{met_grows}
use Rattle.zone_server.proofs.datagram_handler.DatagramHandlerLocalUpdates.submit_own.Goals as goal

pub returns : goal.returns
returns g c = record { grows = met_grows g.Z.FirstZone.zone c.submit_own.ensures.met.1.0 _ _ c.submit_own.ensures.met.1.1 }
