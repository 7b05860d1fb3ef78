-- What a request gets that is not answered at once (RFC 1995, 4; RFC 2136, 3; RFC 5936, 2.2).
use Rattle.std.specs.Prelude.{◌≡◌, ◌≤◌, ◌⊎◌, ℕ, true, List, [], ◌∷◌, take}
use Rattle.dns_rdata.specs.Record.{Record}
use Rattle.dns_message.specs.declared.query.Query.{Query as QueryAsked}
use Rattle.dns_message.specs.declared.query.Parsed.TheVariants.{Query}
use Rattle.dns_message.specs.Request.{reads}
use Rattle.zone_tree.specs.Zone.{soa_of}
use Rattle.zone_tree.specs.Version.{Version}
use Rattle.snapshot_cell.specs.Tokens.{ReaderState}
use Rattle.dns_engine.specs.Chain.{changes_by}
use Rattle.requests.specs.Served.{Grows}
use Rattle.serve_core.specs.declared.peer.Peer.{Peer}
use Rattle.serve_core.specs.Served.{limit_for}
use Rattle.serve_core.specs.Transfers.{is_permitted, messages_to}
use Rattle.zone_server.specs.Known.{learned_by, HasLoaded, HasGone, HasTooFew}
use Rattle.zone_server.specs.Replied.{IsReplied, IsQuery, IsTransfer}
use Rattle.zone_server.specs.Updated.{IsUpdateTold}
use Rattle.zone_server.specs.declared.served.Served.{Served}
use Rattle.zone_server.specs.declared.served.Served.TheVariants.{Reply, Updated, Transfer, Spent}

-- a reader has loaded a version, and may have learned more since then (own)
abbrev pub HasSeen : List Record → ReaderState Version → ReaderState Version → Version → Type 0
HasSeen first before after version = (loaded : ReaderState Version) × HasLoaded first before loaded version × Grows (learned_by after) (learned_by loaded)

-- a transfer fails for lack of grants: the reader has none left, and is unchanged, or it has loaded a version, and then has too few for the versions since the client's (own)
abbrev pub LoadsInVain : List Record → QueryAsked → ReaderState Version → ReaderState Version → Type 0
LoadsInVain first query before after =
    HasGone before after ⊎ ((version : Version) × (loaded : ReaderState Version) × HasLoaded first before loaded version × HasTooFew first query version loaded after)

-- what is answered by the engine or from its versions, with a reader before and after: the reply to a query in a buffer; the reply to an update and its result; a permitted
-- transfer, whose messages are the reply in a version that is not older than what was seen; or, for a permitted transfer only, that its reader lacks grants for it
abbrev pub IsServed : List Record → Peer → List ℕ → ReaderState Version → ReaderState Version → List ℕ → Served → Type 0
IsServed first peer request before after out (Reply len) =
    (len ≤ limit_for peer.transport (reads request)) × (replied : IsReplied first peer (learned_by before) (learned_by after) request (take len out ∷ [])) × IsQuery request
    × HasLoaded first before after replied.version
IsServed first peer request before after out (Updated len reported) =
    (len ≤ limit_for peer.transport (reads request)) × IsReplied first peer (learned_by before) (learned_by after) request (take len out ∷ [])
    × IsUpdateTold first peer request before after (take len out) reported
IsServed first peer request before after out (Transfer version chain query) =
    (is_permitted version.zone peer query ≡ true)
    × ((replied : IsReplied first peer (learned_by before) (learned_by after) request (messages_to version.zone (changes_by (soa_of version.zone) chain) peer query)) × (replied.version ≡ version))
    × (reads request ≡ Query query) × HasSeen first before after version
IsServed first peer request before after out Spent = (transfer : IsTransfer first peer request) × LoadsInVain first transfer.query before after
