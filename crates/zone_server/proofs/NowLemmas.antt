-- What a reader has seen behind a request, and when no load is left for it.
use Rattle.std.proofs.Common.{◌≡◌, ◌↔◌, refl, ℕ, ◌+◌, ◌-◌, List, [], ⊎_elim, sym, ap, ◌∙◌, subst, arith}
use Rattle.dns_rdata.specs.Record.{Record}
use Rattle.dns_message.specs.Request.{reads}
use Rattle.dns_message.specs.declared.query.Query.{Query as QueryAsked}
use Rattle.dns_message.specs.declared.query.Parsed.{Parsed}
use Rattle.dns_message.specs.declared.query.Parsed.TheVariants.{Silent as IsSilent, Fault, BadOpt, Query, Update as SaysUpdate, NoMemory}
use Rattle.dns_message.specs.declared.update.Update.{Update}
use Rattle.zone_tree.specs.Version.{Version}
use Rattle.snapshot_cell.specs.Tokens.{ReaderState}
use Rattle.serve_core.specs.declared.heading.Heading.{Heading}
use Rattle.serve_core.specs.declared.peer.Peer.{Peer}
use Rattle.requests.specs.Served.{Grows}
use Rattle.requests.proofs.TurnLemmas.{grows_itself, grows_more}
use Rattle.dns_engine.specs.Held.{EngineState}
use Rattle.zone_server.specs.Known.{learned_by, HasLoaded, HasMet, HasTooFew}
use Rattle.zone_server.specs.Updated.{IsUpdated, IsJudged, by_engine as judged_by_engine, in_version, IsToldOf, read, unread, bad_opt, starved}
use Rattle.zone_server.specs.Replied.{IsQuery, IsUpdate, IsTransfer, LoadsFor, IsNow}
use Rattle.zone_server.specs.declared.answer.UpdateOutcome.{UpdateOutcome}
use Rattle.zone_server.specs.declared.answer.Now.{Now}
use Rattle.zone_server.specs.declared.answer.Now.TheVariants.{Bytes, Silent, Later, Spent}
use Rattle.zone_server.proofs.ReplyLemmas.{update_is_no_query}

-- who has loaded has seen what one had seen, and perhaps more
pub load_grows : (first : List Record) (before after : ReaderState Version) (version : Version) → HasLoaded first before after version → Grows (learned_by after) (learned_by before)
load_grows first before after version load = record { published = (load.begun.0, sym load.begun.1); buried = ([], load.gone) }

pub same_grows : (before after : ReaderState Version) → after ≡ before → Grows (learned_by after) (learned_by before)
same_grows before after same = subst (λ (r : ReaderState Version). Grows (learned_by r) (learned_by before)) (sym same) (grows_itself (learned_by before))

loads_grow : (first : List Record) (before after : ReaderState Version) (version : Version) (said : Parsed) → LoadsFor first before after version said → Grows (learned_by after) (learned_by before)
loads_grow first before after version IsSilent same = same_grows before after same
loads_grow first before after version (Fault head code) same = same_grows before after same
loads_grow first before after version (BadOpt head question code dnssec_ok) same = same_grows before after same
loads_grow first before after version (Query query) load = load_grows first before after version load
loads_grow first before after version (SaysUpdate update) same = same_grows before after same
loads_grow first before after version (NoMemory head) same = same_grows before after same

-- what is answered at once
pub now_grows : (first : List Record) (peer : Peer) (request : List ℕ) (before after : ReaderState Version) (out : List ℕ) (now : Now) → IsNow first peer request before after out now → Grows (learned_by after) (learned_by before)
now_grows first peer request before after out (Bytes len) is = loads_grow first before after is.1.version (reads request) is.3
now_grows first peer request before after out Silent is = same_grows before after is.1
now_grows first peer request before after out Later is =
    ⊎_elim (λ (u : IsUpdate request × (after ≡ before)). same_grows before after u.1) (λ (t : (transfer : IsTransfer first peer request) × HasLoaded first before after transfer.version). load_grows first before after t.0.version t.1) is
now_grows first peer request before after out Spent is = same_grows before after is.1.1

pub met_grows : (first : List Record) (engine : EngineState) (before after : ReaderState Version) → HasMet first engine before after → Grows (learned_by after) (learned_by before)
met_grows first engine before after m = record {
  published = (m.begun.0, ap (λ (r : ReaderState Version). r.seen) m.seen ∙ sym m.begun.1);
  buried = ([], ap (λ (r : ReaderState Version). r.gone) m.seen);
}

updated_grows : (first : List Record) (update : Update) (may : _) (before after : ReaderState Version) (code : _) (serials : _) → IsUpdated first update may before after code serials → Grows (learned_by after) (learned_by before)
updated_grows first update may before after code serials u = grows_more (learned_by before) (learned_by u.met) (learned_by after) (met_grows first u.old before u.met u.meets) (met_grows first u.new u.met after u.meets_again)

judged_grows : (first : List Record) (update : Update) (may : _) (before after : ReaderState Version) (reported : UpdateOutcome) → IsJudged first update may before after reported → Grows (learned_by after) (learned_by before)
judged_grows first update may before after reported (judged_by_engine serials asks is updated) = updated_grows first update may before after reported.code serials updated
judged_grows first update may before after reported (in_version version stranger replayed load gives none) = load_grows first before after version load

pub told_grows : (first : List Record) (may : _) (request : List ℕ) (before after : ReaderState Version) (heading : Heading) (reported : UpdateOutcome) → IsToldOf first may request before after heading reported → Grows (learned_by after) (learned_by before)
told_grows first may request before after heading reported (read update reading repeats judged) = judged_grows first update may before after reported judged
told_grows first may request before after heading reported (unread head reading alone none same) = same_grows before after same
told_grows first may request before after heading reported (bad_opt head question dnssec_ok reading repeats none same) = same_grows before after same
told_grows first may request before after heading reported (starved head want alone code none same) = same_grows before after same

-- a reader that has too few grants has learned more
pub few_grows : (first : List Record) (query : QueryAsked) (version : Version) (before after : ReaderState Version) → HasTooFew first query version before after → Grows (learned_by after) (learned_by before)
few_grows first query version before after f = record {
  published = (f.begun.0, ap (λ (r : ReaderState Version). r.seen) f.few.spent ∙ sym f.begun.1);
  buried = ([], ap (λ (r : ReaderState Version). r.gone) f.few.spent);
}

-- who has loaded had a load left
pub had_one : (first : List Record) (before after : ReaderState Version) (version : Version) → HasLoaded first before after version → before.left ≡ 0 → ⊥
had_one first before after version load none = absurd (by before.left after.left load.left none)
  where
    by : (old new : ℕ) → old ≡ new + 1 → old ≡ 0 → ⊥
    by old new less none = omega arith

-- no load is told to be left exactly of a query for which none is
pub now_spent : (first : List Record) (peer : Peer) (request : List ℕ) (before after : ReaderState Version) (out : List ℕ) (now : Now) → IsNow first peer request before after out now → (now ≡ Spent) ↔ (IsQuery request × (before.left ≡ 0))
now_spent first peer request before after out (Bytes len) is =
    (λ same. absurd (cc), λ (q : IsQuery request × (before.left ≡ 0)). absurd (had_one first before after is.1.version (subst (LoadsFor first before after is.1.version) q.0.1 is.3) q.1))
now_spent first peer request before after out Silent is = (λ same. absurd (cc), λ (q : IsQuery request × (before.left ≡ 0)). absurd (by q.0.0 (sym is.0 ∙ q.0.1)))
  where
    by : (query : QueryAsked) → IsSilent ≡ Query query → ⊥
    by query same = cc
now_spent first peer request before after out Later is = (
  λ same. absurd (cc),
  λ (q : IsQuery request × (before.left ≡ 0)). absurd (⊎_elim (λ (u : IsUpdate request × (after ≡ before)). update_is_no_query request u.0 q.0)
      (λ (t : (transfer : IsTransfer first peer request) × HasLoaded first before after transfer.version). had_one first before after t.0.version t.1 q.1) is),
)
now_spent first peer request before after out Spent is = (λ same. (is.0, is.1.0), λ q. refl)
