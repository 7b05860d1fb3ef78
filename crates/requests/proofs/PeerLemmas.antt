-- The peer that rules make of who sends a request.
use Rattle.std.proofs.Common.{◌≡◌, refl, Bool, ◌&&◌, List, ℕ, ap, ◌∙◌, sym, ◌⊎◌}
use Rattle.std.specs.Net.Socket.{socket_ip}
use Rattle.std.specs.declared.net.ip_addr.IpAddr.{IpAddr}
use Rattle.std.specs.declared.net.socket_addr.SocketAddr.{SocketAddr}
use Rattle.dns_message.specs.Request.{is_update, reads}
use Rattle.rights.specs.Address.{number_of}
use Rattle.rights.specs.Rights.{may_transfer}
use Rattle.rights.specs.declared.requestor.Requestor.{Requestor}
use Rattle.rights.specs.declared.rule.Rule.{Rule}
use Rattle.serve_core.specs.Transport.{is_stream}
use Rattle.serve_core.specs.declared.peer.Peer.{Peer}
use Rattle.serve_core.specs.declared.transport.Transport.{Transport}
use Rattle.serve_core.specs.declared.transport.Transport.TheVariants.{Udp}
use Rattle.requests.specs.Allowed.{requestor_at, permits, IsPeer}

abbrev pub peer_at : List Rule → SocketAddr → List ℕ → Peer
peer_at rules from request = record { may_update = is_update request && permits rules (requestor_at Udp from) (reads request); may_transfer = may_transfer rules (requestor_at Udp from); transport = Udp }

pub is_peer_at : (rules : List Rule) (from : SocketAddr) (request : List ℕ) → IsPeer rules Udp from request (peer_at rules from request)
is_peer_at rules from request = record { over = refl; update = refl; transfer = refl }

-- who asks from an address over a transport, by its number and whether that is TCP
pub requestor_as : (who : Requestor) (transport : Transport) (from : SocketAddr) (ip : IpAddr) → ip ≡ socket_ip from → who.bits ≡ number_of ip → who.is_tcp ≡ is_stream transport → who ≡ requestor_at transport from
requestor_as who transport from ip here bits tcp = λ i. let own : Requestor = record { bits = (bits ∙ ap number_of here) i; is_tcp = tcp i } in own

-- the peer by what it may
pub peer_as : (rules : List Rule) (who : Requestor) (transport : Transport) (from : SocketAddr) (request : List ℕ) (ip : IpAddr) (stream update transfer : Bool) → ip ≡ socket_ip from → who.bits ≡ number_of ip → who.is_tcp ≡ stream → stream ≡ is_stream transport
    → update ≡ is_update request && permits rules who (reads request) → transfer ≡ may_transfer rules who → IsPeer rules transport from request (record { may_update = update; may_transfer = transfer; transport = transport })
peer_as rules who transport from request ip stream update transfer here bits tcp over may_update transfers =
    let same : who ≡ requestor_at transport from = requestor_as who transport from ip here bits (tcp ∙ over) in
    record {
      over = refl;
      update = may_update ∙ ap (λ (w : Requestor). is_update request && permits rules w (reads request)) same;
      transfer = transfers ∙ ap (λ (w : Requestor). may_transfer rules w) same;
    }
