-- What a request gets in the version that is loaded for it, and how a transfer that is permitted there starts (RFC 1034, 4.3.2; RFC 1995, 4; RFC 2136, 3; RFC 5936, 2.2).
use Rattle.std.specs.Prelude.{◌≡◌, ⊤, ℕ, true, List}
use Rattle.dns_rdata.specs.Record.{Record}
use Rattle.dns_message.specs.declared.query.Query.{Query as QueryAsked}
use Rattle.dns_message.specs.declared.query.Parsed.{Parsed}
use Rattle.dns_message.specs.declared.query.Parsed.TheVariants.{Query, BadOpt}
use Rattle.dns_message.specs.Request.{reads}
use Rattle.zone_tree.specs.Zone.{soa_of}
use Rattle.zone_tree.specs.Version.{Version}
use Rattle.cell_core.specs.declared.words.Version.{Version as Numbered}
use Rattle.snapshot_cell.specs.Tokens.{ReaderState}
use Rattle.dns_engine.specs.Chain.{ChainState, changes_by}
use Rattle.serve_core.specs.declared.peer.Peer.{Peer}
use Rattle.serve_core.specs.Transfers.{is_permitted, messages_to}
use Rattle.zone_server.specs.Known.{HasLoaded}
use Rattle.zone_server.specs.Replied.{IsChained, IsUpdate, IsNow}
use Rattle.zone_server.specs.declared.answer.Now.TheVariants as now
use Rattle.zone_server.specs.declared.request_answer.Answer.{Answer}
use Rattle.zone_server.specs.declared.request_answer.Answer.TheVariants.{Bytes, Silent, Update, Transfer, Spent}

-- a request asks by a query for a transfer, which is permitted in the version that is loaded for it, once, and owned (RFC 5936, 2.2.1; RFC 1995, 2)
pub record PermitsTransfer (first : List Record) (peer : Peer) (request : List ℕ) (before after : ReaderState Version) (query : QueryAsked) (owned : Numbered Version) : Type 0 where
  pub asked : reads request ≡ Query query
  pub permitted : is_permitted owned.value.zone peer query ≡ true
  pub number : owned.value.number ≡ owned.number
  pub loaded : HasLoaded first before after owned.value

-- what a request gets in the version that is loaded for it, with a reader before and after, and the query that it is read into: what is answered at once; of an update that it is
-- one, and nothing is loaded; or of a transfer that is permitted in that version the version's owner
abbrev pub IsAnswer : {Z N : Type 0} → List Record → Peer → List ℕ → ReaderState Version → ReaderState Version → QueryAsked → List ℕ → Answer Z N → Type 0
IsAnswer first peer request before after query out (Bytes len) = IsNow first peer request before after out (now.Bytes len)
IsAnswer first peer request before after query out Silent = IsNow first peer request before after out now.Silent
IsAnswer first peer request before after query out Update = IsUpdate request × (after ≡ before)
IsAnswer first peer request before after query out (Transfer owned) = PermitsTransfer first peer request before after query owned
IsAnswer first peer request before after query out Spent = IsNow first peer request before after out now.Spent

-- a query is the one that a request is parsed as, or has the question of one whose OPT is not obeyed (RFC 1035, 4.1; RFC 6891, 6.1.3)
abbrev pub IsQueryOf : Parsed → QueryAsked → Type 0
IsQueryOf (Query asked) query = query ≡ asked
IsQueryOf (BadOpt head question code dnssec_ok) query = query.question ≡ question
IsQueryOf _ query = ⊤

-- a request that gets a reply at once has been read into a query
abbrev pub HasRead : {Z N : Type 0} → Answer Z N → Parsed → QueryAsked → Type 0
HasRead (Bytes len) said query = IsQueryOf said query
HasRead _ said query = ⊤

-- messages are those of the transfer of a version that a query asks for, for IXFR with what the versions that a reader then knows tell has changed since the client's (RFC 1995, 4;
-- RFC 5936, 2.2)
abbrev pub IsStarted : List Record → Peer → QueryAsked → Version → ReaderState Version → ReaderState Version → List (List ℕ) → Type 0
IsStarted first peer query version before after messages =
    (chain : ChainState) × IsChained first query version before after chain × (messages ≡ messages_to version.zone (changes_by (soa_of version.zone) chain) peer query)
