use Rattle.std.proofs.Common.{◌≡◌, [], ◌++◌, map, drop, sym, ap, ◌∙◌}
use Rattle.std.proofs.lemmas.List.{append-nil, drop_all}
use Rattle.dns_rdata.specs.Record.{owner_of, rtype_of, ttl_of}
use Rattle.zone_change.specs.Change.{as_sent}
use Rattle.zone_change.proofs.UpdateLemmas.{sent_all, sent_records}
use Rattle.zone_change.proofs.update.put_all.Goals as goal

pub returns : goal.returns
returns c =
    let set = c.args.set.now in
    let class = c.args.class.0 in
    let ds = c.data-rdata-items.result.now in
    let all = sent_all (owner_of set) (rtype_of set) class c.ttl_sent-ttl.result in
    let left : all (drop c.loop-rdata.rdata-index ds) ≡ [] = ap all (drop_all c.loop-rdata.rdata-index ds c.loop-rdata-test.false) in
    let same : all ds ≡ map (as_sent class) set =
    ap (λ t. sent_all (owner_of set) (rtype_of set) class t ds) c.ttl_sent-ttl.ensures
    ∙ sent_records (owner_of set) (rtype_of set) class (ttl_of set) ds
    ∙ ap (map (as_sent class)) (sym c.data-rdata-items.ensures.records) in
    sym (ap (λ rs. c.loop-rdata.raws.items ++ rs) left ∙ append-nil c.loop-rdata.raws.items) ∙ c.loop-rdata.invariant ∙ ap (λ rs. c.args.raws.now.items ++ rs) same
