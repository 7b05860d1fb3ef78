-- The code that is told of an update is its reply.
use Rattle.std.proofs.Common.{◌≤◌, ℕ, sym, subst}
use Rattle.zone_server.proofs.ReplyLemmas.{told_replied, update_limit}
use Rattle.zone_server.proofs.answer.serve_update.Goals as goal

pub returns : goal.returns
returns g c =
    let heading = c.outcome_of-heading.result.0 in
    let said = c.outcome_of-heading.result.1 in
    let asks = c.requires.update in
    record {
      bound = subst (λ (n : ℕ). c.write_code-len.result ≤ n) (sym (update_limit c.args.peer.transport c.args.request.now asks)) c.write_code-len.ensures.len;
      replied = told_replied g.Z.FirstZone.zone c.args.peer c.args.reader.now c.outcome_of-heading.new.reader c.args.request.now c.write_code-len.new.out c.write_code-len.result c.write_code-len.ensures.len heading said c.outcome_of-heading.ensures c.write_code-len.ensures.octets;
      reported = record { asks = asks; heading = heading; tells = c.outcome_of-heading.ensures; reply = c.write_code-len.ensures.octets };
    }
