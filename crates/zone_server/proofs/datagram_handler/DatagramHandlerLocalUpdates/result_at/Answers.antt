-- The reader meets what is published.
use Rattle.zone_server.proofs.NowLemmas.{met_grows}
use Rattle.zone_server.proofs.datagram_handler.DatagramHandlerLocalUpdates.result_at.Goals as goal

pub returns : goal.returns
returns g c = record { grows = met_grows g.Z.FirstZone.zone c.fetch-fetched.ensures.met.0 _ _ c.fetch-fetched.ensures.met.1 }
