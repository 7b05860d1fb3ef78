-- A chain of the server's history tells what changed.
use Rattle.std.proofs.Common.{◌≡◌, ◌==◌, true, sym, ◌∙◌, rules}
use Rattle.dns_rdata.specs.Numbers.{type_IXFR}
use Rattle.zone_server.proofs.ChainLemmas.{chained_of, few_of}
use Rattle.zone_server.proofs.transfer_start.chain_for.Goals as goal

pub returns-clause-chained : goal.returns-clause-chained
returns-clause-chained g c =
    let query = c.args.query.now in
    let version = c.args.strong.now.value in
    let ixfr : (query.question.rtype.0 == type_IXFR) ≡ true = search rules in
    chained_of c.of.result g.Z.FirstZone.zone query c.in-Some.serial version c.number.result c.args.reader.now c.chain-reported.new.reader c.chain-reported.result c.in-Some.is ixfr c.requires.0 (c.number.ensures ∙ sym c.requires.1) c.chain-reported.ensures c.of.ensures.copied

pub returns-clause-spent : goal.returns-clause-spent
returns-clause-spent g c =
    let query = c.args.query.now in
    let version = c.args.strong.now.value in
    let ixfr : (query.question.rtype.0 == type_IXFR) ≡ true = search rules in
    few_of c.of.result g.Z.FirstZone.zone query c.in-Some.serial version c.number.result c.args.reader.now c.chain-reported.new.reader c.chain-reported.result c.in-Some.is ixfr (c.number.ensures ∙ sym c.requires.1) c.chain-reported.ensures c.of.ensures.spent
