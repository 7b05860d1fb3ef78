-- The messages of what changed, and which requests are for no transfer.
use Rattle.std.proofs.Common.{◌≡◌, refl, ℕ, Bool, true, false, not, ◌==◌, List, [], ◌∷◌, Option, Some, ap, ◌∙◌}
use Rattle.dns_rdata.specs.Numbers.{class_IN}
use Rattle.dns_rdata.specs.Record.{Record}
use Rattle.dns_message.specs.declared.edns.Opt.{Opt}
use Rattle.dns_message.specs.declared.query.Query.{Query as QueryAsked}
use Rattle.dns_message.specs.Opt.{udp_limit}
use Rattle.zone_tree.specs.Zone.{soa_of}
use Rattle.zone_tree.specs.Version.{Version}
use Rattle.transfer_core.specs.Chain.{zones_of, LeadTo, told_changes}
use Rattle.transfer_core.specs.Lists.{incremental}
use Rattle.transfer_core.specs.Packed.{packed, octets_of, datagram}
use Rattle.transfer_core.proofs.VersionLemmas.{list_told}
use Rattle.serve_core.specs.declared.peer.Peer.{Peer}
use Rattle.serve_core.specs.Heading.{reply_opt}
use Rattle.serve_core.specs.Reply.{asks_transfer, reply_to}
use Rattle.serve_core.specs.Transport.{is_stream}
use Rattle.serve_core.specs.Transfers.{list_for, messages_to, reply_to_peer}

-- a whole chain that leads to the served zone tells of what changed
pub told_whole : (zone : List Record) (versions : List Version) (served : List Record) (whole : Bool) → whole ≡ true → LeadTo zone versions served → told_changes whole (soa_of served) versions ≡ Some (incremental zone (zones_of versions))
told_whole zone versions served whole e h = rw e (ap Some (list_told zone versions served h.behind h.last))

-- over a stream, and over UDP
pub sent_by_stream : (zone : List Record) (changes reported : Option (List Record)) (peer : Peer) (query : QueryAsked) (opt : Option Opt) (list : List Record) (octets : List (List ℕ)) → is_stream peer.transport ≡ true → reported ≡ changes → opt ≡ reply_opt query.edns → list ≡ list_for zone reported query
    → octets ≡ octets_of (packed query.head query.question opt list) → octets ≡ messages_to zone changes peer query
sent_by_stream zone changes reported peer query opt list octets e f own g h =
    rw e (h ∙ ap (λ (o : Option Opt). octets_of (packed query.head query.question o list)) own ∙ ap (λ l. octets_of (packed query.head query.question (reply_opt query.edns) l)) (g ∙ ap (λ o. list_for zone o query) f))

pub sent_by_datagram : (zone : List Record) (changes reported : Option (List Record)) (peer : Peer) (query : QueryAsked) (opt : Option Opt) (limit : ℕ) (list soa : List Record) (octets : List (List ℕ)) → is_stream peer.transport ≡ false → reported ≡ changes → opt ≡ reply_opt query.edns → limit ≡ udp_limit query.edns → list ≡ list_for zone reported query → soa ≡ soa_of zone
    → octets ≡ datagram query.head query.question opt limit list soa ∷ [] → octets ≡ messages_to zone changes peer query
sent_by_datagram zone changes reported peer query opt limit list soa octets e f own most g k h =
    rw e (h ∙ ap (λ (o : Option Opt). datagram query.head query.question o limit list soa ∷ []) own ∙ ap (λ (n : ℕ). datagram query.head query.question (reply_opt query.edns) n list soa ∷ []) most ∙ ap (λ l. datagram query.head query.question (reply_opt query.edns) (udp_limit query.edns) l soa ∷ []) (g ∙ ap (λ o. list_for zone o query) f) ∙ ap (λ s. datagram query.head query.question (reply_opt query.edns) (udp_limit query.edns) (list_for zone changes query) s ∷ []) k)

-- a question of another class than IN, and one that asks for no transfer, get the reply to a query
pub of_other_class : (zone : List Record) (peer : Peer) (query : QueryAsked) → not (query.question.class.0 == class_IN) ≡ true → reply_to_peer zone peer query ≡ reply_to zone query
of_other_class zone peer query e = rw e refl

pub of_no_transfer : (zone : List Record) (peer : Peer) (query : QueryAsked) → not (query.question.class.0 == class_IN) ≡ false → asks_transfer query.question ≡ false → reply_to_peer zone peer query ≡ reply_to zone query
of_no_transfer zone peer query e f = rw (e, f) refl
