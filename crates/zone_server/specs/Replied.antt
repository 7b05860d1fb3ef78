-- What the running server replies (RFC 1034, 4.3.2; RFC 1995, 4; RFC 2136, 3; RFC 5936, 2.2).
use Rattle.std.specs.Prelude.{◌≡◌, ◌≤◌, ◌⊎◌, ◌==◌, ◌&&◌, ℕ, Bool, true, false, List, [], ◌∷◌, take, Option}
use Rattle.dns_rdata.specs.Numbers.{type_IXFR}
use Rattle.dns_rdata.specs.Record.{Record}
use Rattle.dns_message.specs.declared.query.Query.{Query as QueryAsked}
use Rattle.dns_message.specs.declared.query.Parsed.{Parsed}
use Rattle.dns_message.specs.declared.query.Parsed.TheVariants.{Silent as IsSilent, Fault, BadOpt, Query, Update, NoMemory}
use Rattle.dns_message.specs.Request.{is_update, reads}
use Rattle.zone_tree.specs.Zone.{soa_of}
use Rattle.zone_tree.specs.Version.{Version}
use Rattle.snapshot_cell.specs.Tokens.{ReaderState}
use Rattle.dns_engine.specs.Replayed.{IsReplay}
use Rattle.dns_engine.specs.Held.{IsLatest}
use Rattle.dns_engine.specs.Chain.{ChainState, TellsSince, changes_by}
use Rattle.requests.specs.Served.{Learned, Grows}
use Rattle.serve_core.specs.declared.peer.Peer.{Peer}
use Rattle.serve_core.specs.Served.{Want, limit_for}
use Rattle.serve_core.specs.Replies.{replies_to, IsNoTransfer}
use Rattle.serve_core.specs.Transfers.{is_permitted, list_for}
use Rattle.zone_server.specs.Known.{learned_by, HasLoaded, HasGone, IsNoOlder}
use Rattle.zone_server.specs.Updated.{TellsOf}
use Rattle.zone_server.specs.declared.answer.Now.{Now}
use Rattle.zone_server.specs.declared.answer.Now.TheVariants.{Bytes, Silent, Later, Spent}

-- a query asks for an incremental transfer, and it is permitted in a zone (RFC 1995, 2)
abbrev pub asks_changes : List Record → Peer → QueryAsked → Bool
asks_changes zone peer query = is_permitted zone peer query && query.question.rtype.0 == type_IXFR

-- what a query is answered by in a version. For an incremental transfer, the version is not older than the last one known before, and the list of changes is that of the
-- versions known to be published when the reply is made, from the one with the serial in the query, unless a version needed for it is known to be buried. Any other query is
-- answered in the last of those versions (RFC 1995, 4)
abbrev pub TellsFor : List Record → Peer → Learned Version → Learned Version → Version → Option (List Record) → Parsed → Type 0
TellsFor first peer known later version changes IsSilent = Unit {0}
TellsFor first peer known later version changes (Fault head code) = Unit {0}
TellsFor first peer known later version changes (BadOpt head question code dnssec_ok) = Unit {0}
TellsFor first peer known later version changes (Query query) =
    (asks_changes version.zone peer query ≡ true → IsNoOlder known.published version × TellsSince first later.published later.buried version query.serial changes) × (asks_changes version.zone peer query ≡ false → IsLatest first later.published version)
TellsFor first peer known later version changes (Update update) = Unit {0}
TellsFor first peer known later version changes (NoMemory head) = Unit {0}

-- the reply to an update is about the versions known to be published when it is made, wherever memory is short. So a client that gets the reply that an update was taken which
-- changes the zone knows the version that it makes (RFC 2136, 3)
abbrev pub TellsAbout : List Record → Peer → Learned Version → Learned Version → Version → Want → Parsed → Type 0
TellsAbout first peer known later version want IsSilent = Unit {0}
TellsAbout first peer known later version want (Fault head code) = Unit {0}
TellsAbout first peer known later version want (BadOpt head question code dnssec_ok) = Unit {0}
TellsAbout first peer known later version want (Query query) = Unit {0}
TellsAbout first peer known later version want (Update update) = TellsOf first peer.may_update known.published later.published version want update
TellsAbout first peer known later version want (NoMemory head) = Unit {0}

-- messages are the reply to a request in one version, which is the first zone with updates replayed. For a query it is the last version known to be published when the reply is
-- made, or for IXFR one that is not older than the last known before. A permitted transfer gets its messages, for IXFR with what these versions say has changed since the
-- client's, if none that is needed is known to be buried. An update may also get what it gets when memory is short. It is judged in one of these versions, with the one that it
-- makes after it
pub record IsReplied (first : List Record) (peer : Peer) (known later : Learned Version) (request : List ℕ) (messages : List (List ℕ)) : Type 0 where
  pub version : Version
  pub replayed : IsReplay first version
  pub changes : Option (List Record)
  pub reported : TellsFor first peer known later version changes (reads request)
  pub want : Want
  pub about : TellsAbout first peer known later version want (reads request)
  pub reply : messages ≡ replies_to version.zone changes peer want (reads request)

-- a chain of versions gives the client of an IXFR the list of changes up to a version, through the versions that a reader has then seen published, which begin with those seen
-- before. If it is not whole because a version is missing, the reader has seen that one buried (RFC 1995, 4; own)
pub record TellsBy (first : List Record) (query : QueryAsked) (version : Version) (before after : ReaderState Version) (chain : ChainState) : Type 0 where
  pub grown : Grows (learned_by after) (learned_by before)
  pub changes : Option (List Record)
  pub reported : TellsSince first after.seen after.gone version query.serial changes
  pub list : list_for version.zone (changes_by (soa_of version.zone) chain) query ≡ list_for version.zone changes query

-- the chain for a query: for IXFR one that gives what changed, for any other query none, and its reader is unchanged (own)
abbrev pub IsChained : List Record → QueryAsked → Version → ReaderState Version → ReaderState Version → ChainState → Type 0
IsChained first query version before after chain =
    ((query.question.rtype.0 == type_IXFR) ≡ true → TellsBy first query version before after chain)
    × ((query.question.rtype.0 == type_IXFR) ≡ false → (after ≡ before) × (chain ≡ record { whole = false; versions = [] }))

-- a request asks for an update, by its header alone, whether it can be parsed as one or not (RFC 2136, 1.3 and 2.2)
abbrev pub IsUpdate : List ℕ → Type 0
IsUpdate request = is_update request ≡ true

-- a request can be parsed as a query (RFC 1035, 4.1)
abbrev pub IsQuery : List ℕ → Type 0
IsQuery request = (query : QueryAsked) × (reads request ≡ Query query)

-- a request asks for a transfer that is permitted in a version, which is the first zone with updates replayed (RFC 5936, 2.2.1)
pub record IsTransfer (first : List Record) (peer : Peer) (request : List ℕ) : Type 0 where
  pub query : QueryAsked
  pub asked : reads request ≡ Query query
  pub version : Version
  pub replayed : IsReplay first version
  pub permitted : is_permitted version.zone peer query ≡ true

-- a request is answered at once in a version: it asks for no update, and for no transfer that is permitted there (own)
pub record IsAtOnce (peer : Peer) (request : List ℕ) (version : Version) : Type 0 where
  pub other : is_update request ≡ false
  pub plain : IsNoTransfer version.zone peer (reads request)

-- how a request that is answered at once in a version changes the reader: a query's version is loaded, once, and no other request loads any (own)
abbrev pub LoadsFor : List Record → ReaderState Version → ReaderState Version → Version → Parsed → Type 0
LoadsFor first before after version IsSilent = after ≡ before
LoadsFor first before after version (Fault head code) = after ≡ before
LoadsFor first before after version (BadOpt head question code dnssec_ok) = after ≡ before
LoadsFor first before after version (Query query) = HasLoaded first before after version
LoadsFor first before after version (Update update) = after ≡ before
LoadsFor first before after version (NoMemory head) = after ≡ before

-- what is answered at once, with a reader before and after: the reply of a version, in a buffer, to a request that is answered at once in it; nothing, to octets that get no
-- reply; that a request asks for an update, or for a transfer that is permitted in the version loaded; or, for a query only, that no load is left. So octets without a reply
-- and updates give the same result whether a load is left or not, a request that cannot be parsed as a query gets its code, and each query takes one load, but no other request
-- does
abbrev pub IsNow : List Record → Peer → List ℕ → ReaderState Version → ReaderState Version → List ℕ → Now → Type 0
IsNow first peer request before after out (Bytes len) =
    (len ≤ limit_for peer.transport (reads request)) × (replied : IsReplied first peer (learned_by before) (learned_by after) request (take len out ∷ [])) × IsAtOnce peer request replied.version
    × LoadsFor first before after replied.version (reads request)
IsNow first peer request before after out Silent = (reads request ≡ IsSilent) × (after ≡ before)
IsNow first peer request before after out Later =
    (IsUpdate request × (after ≡ before)) ⊎ ((transfer : IsTransfer first peer request) × HasLoaded first before after transfer.version)
IsNow first peer request before after out Spent = IsQuery request × HasGone before after

-- nothing is answered: to a query if its reader has no grant left, or to a permitted transfer if none is left after it (own)
abbrev pub HasNoAnswer : List Record → Peer → List ℕ → ReaderState Version → ReaderState Version → Type 0
HasNoAnswer first peer request before after = (IsQuery request × (before.left ≡ 0)) ⊎ (IsTransfer first peer request × (after.left ≡ 0))
