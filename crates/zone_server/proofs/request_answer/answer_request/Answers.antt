-- The reply is that of the version that was loaded, and a transfer is permitted in it.
use Rattle.std.proofs.Common.{◌≡◌, true, false, List, refl, sym, ap, subst, ◌∙◌}
use Rattle.dns_rdata.specs.Record.{Record}
use Rattle.zone_tree.specs.Version.{Version}
use Rattle.dns_message.specs.Octets.{fit}
use Rattle.dns_message.specs.Request.{is_update, said_in}
use Rattle.dns_message.specs.declared.query.Parsed.{Parsed}
use Rattle.dns_message.specs.declared.query.Parsed.TheVariants.{Fault, BadOpt}
use Rattle.serve_core.specs.Transfers.{is_permitted, reply_to_peer}
use Rattle.serve_core.specs.Transport.{limit_of}
use Rattle.dns_engine.proofs.ReplayLemmas.{last_number_of}
use Rattle.zone_server.specs.Answer.{PermitsTransfer, IsQueryOf}
use Rattle.zone_server.specs.Replied.{IsNow}
use Rattle.zone_server.specs.declared.answer.Now.TheVariants as now
use Rattle.zone_server.specs.declared.request_answer.Answer.TheVariants.{Bytes, Transfer, Spent}
use Rattle.zone_server.proofs.AnswerLemmas.{answer_spent}
use Rattle.zone_server.proofs.KnownLemmas.{loads, loaded_latest, loaded_replay}
use Rattle.zone_server.proofs.ReplyLemmas.{code_now, query_now}
use Rattle.zone_server.proofs.request_answer.answer_request.Goals as goal

pub returns-in-Fault : goal.returns-in-Fault
returns-in-Fault g c =
    let other : is_update c.args.request.now ≡ false = sym c.is_update.ensures ∙ c.if-is_update.false in
    let is : IsNow g.Z.FirstZone.zone c.args.peer c.args.request.now c.args.reader.now c.args.reader.now c.write_code_by.new.out (now.Bytes c.write_code_by.result) =
    code_now g.Z.FirstZone.zone c.args.peer c.args.reader.now c.args.request.now c.write_code_by.new.out (Fault c.in-Fault.head c.in-Fault.code) _ _ c.in-Fault.code c.write_code_by.result other (sym c.parse_into.ensures ∙ ap (said_in c.parse_into.new.query) c.in-Fault.is) tt c.write_code_by.ensures.len refl c.header_alone-heading.ensures refl
    (λ zone. tt) (λ version. refl) c.write_code_by.ensures.octets in
    record { answer = is; query = subst (λ (p : Parsed). IsQueryOf p c.parse_into.new.query) (sym (sym c.parse_into.ensures ∙ ap (said_in c.parse_into.new.query) c.in-Fault.is)) tt; spent = answer_spent g.Z.FirstZone.zone c.args.peer c.args.request.now c.args.reader.now c.args.reader.now c.parse_into.new.query c.write_code_by.new.out (Bytes c.write_code_by.result) is }

pub returns-in-BadOpt : goal.returns-in-BadOpt
returns-in-BadOpt g c =
    let other : is_update c.args.request.now ≡ false = sym c.is_update.ensures ∙ c.if-is_update.false in
    let said = BadOpt c.in-BadOpt.head c.parse_into.new.query.question c.in-BadOpt.code c.in-BadOpt.dnssec_ok in
    let is : IsNow g.Z.FirstZone.zone c.args.peer c.args.request.now c.args.reader.now c.args.reader.now c.write_code_by-in-BadOpt.new.out (now.Bytes c.write_code_by-in-BadOpt.result) =
    code_now g.Z.FirstZone.zone c.args.peer c.args.reader.now c.args.request.now c.write_code_by-in-BadOpt.new.out said _ _ c.in-BadOpt.code c.write_code_by-in-BadOpt.result other (sym c.parse_into.ensures ∙ ap (said_in c.parse_into.new.query) c.in-BadOpt.is) tt c.write_code_by-in-BadOpt.ensures.len refl c.of_bad-heading.ensures refl
    (λ zone. tt) (λ version. refl) c.write_code_by-in-BadOpt.ensures.octets in
    record { answer = is; query = subst (λ (p : Parsed). IsQueryOf p c.parse_into.new.query) (sym (sym c.parse_into.ensures ∙ ap (said_in c.parse_into.new.query) c.in-BadOpt.is)) refl; spent = answer_spent g.Z.FirstZone.zone c.args.peer c.args.request.now c.args.reader.now c.args.reader.now c.parse_into.new.query c.write_code_by-in-BadOpt.new.out (Bytes c.write_code_by-in-BadOpt.result) is }

pub returns-in_default : goal.returns-in_default
returns-in_default g c =
    let is : IsNow g.Z.FirstZone.zone c.args.peer c.args.request.now c.args.reader.now c.load.new.reader c.args.out.now now.Spent = ((c.parse_into.new.query, sym c.parse_into.ensures ∙ ap (said_in c.parse_into.new.query) c.in-Query.is), c.in_default.ensures.spent) in
    record { answer = is; query = tt; spent = answer_spent g.Z.FirstZone.zone c.args.peer c.args.request.now c.args.reader.now c.load.new.reader c.parse_into.new.query c.args.out.now Spent is }

pub returns-then-is_permitted : goal.returns-then-is_permitted
returns-then-is_permitted g c =
    let first = g.Z.FirstZone.zone in
    let query = c.parse_into.new.query in
    let load = c.in-Ok.ensures.loaded in
    let permitted : is_permitted c.in-Ok.strong.value.zone c.args.peer query ≡ true =
    ap (λ (v : Version). is_permitted v.zone c.args.peer query) (sym (c.get-version.ensures ∙ c.get.ensures)) ∙ sym c.is_permitted.ensures ∙ c.if-is_permitted.true in
    let permits : PermitsTransfer first c.args.peer c.args.request.now c.args.reader.now c.load.new.reader query c.in-Ok.strong = record {
      asked = sym c.parse_into.ensures ∙ ap (said_in c.parse_into.new.query) c.in-Query.is;
      permitted = permitted;
      number = last_number_of first c.load.new.reader.seen c.in-Ok.strong load.history load.last;
      loaded = loads first _ _ c.in-Ok.strong load;
    } in
    record { answer = permits; query = tt; spent = answer_spent g.Z.FirstZone.zone c.args.peer c.args.request.now c.args.reader.now c.load.new.reader c.parse_into.new.query c.args.out.now (Transfer c.in-Ok.strong) permits }

pub returns-else-is_permitted : goal.returns-else-is_permitted
returns-else-is_permitted g c =
    let first = g.Z.FirstZone.zone in
    let query = c.parse_into.new.query in
    let load = c.in-Ok.ensures.loaded in
    let version = c.in-Ok.strong.value in
    let got = c.get-version.ensures ∙ c.get.ensures in
    let refused : is_permitted version.zone c.args.peer query ≡ false = ap (λ (v : Version). is_permitted v.zone c.args.peer query) (sym got) ∙ sym c.is_permitted.ensures ∙ c.if-is_permitted.false in
    let zone : c.zone.result.now ≡ version.zone = c.zone.ensures ∙ ap (λ (v : Version). v.zone) got in
    let written = c.respond_by.ensures.octets ∙ ap (λ (z : List Record). fit (reply_to_peer z c.args.peer query) (limit_of c.args.peer.transport query.edns)) zone in
    let latest = loaded_latest first c.args.reader.now c.load.new.reader c.in-Ok.strong load in
    let other : is_update c.args.request.now ≡ false = sym c.is_update.ensures ∙ c.if-is_update.false in
    let is : IsNow first c.args.peer c.args.request.now c.args.reader.now c.load.new.reader c.respond_by.new.out (now.Bytes c.respond_by.result) =
    query_now first c.args.peer c.args.reader.now c.load.new.reader version c.args.request.now c.respond_by.new.out query c.respond_by.result (loaded_replay first _ _ c.in-Ok.strong load) latest (loads first _ _ c.in-Ok.strong load) other
    (sym c.parse_into.ensures ∙ ap (said_in c.parse_into.new.query) c.in-Query.is) refused written c.respond_by.ensures.len in
    record { answer = is; query = subst (λ (p : Parsed). IsQueryOf p query) (sym (sym c.parse_into.ensures ∙ ap (said_in query) c.in-Query.is)) refl; spent = answer_spent g.Z.FirstZone.zone c.args.peer c.args.request.now c.args.reader.now c.load.new.reader c.parse_into.new.query c.respond_by.new.out (Bytes c.respond_by.result) is }
