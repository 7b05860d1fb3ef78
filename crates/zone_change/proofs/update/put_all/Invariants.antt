use Rattle.std.proofs.Common.{◌≡◌, ◌++◌, drop}
use Rattle.dns_rdata.specs.Record.{owner_of, rtype_of}
use Rattle.zone_change.proofs.UpdateLemmas.{sent_all}
use Rattle.zone_change.proofs.update.put_all.Given as goal

-- what was put, with what is left, is all
abbrev pub invariant-loop-rdata : goal.invariant-loop-rdata
invariant-loop-rdata l =
    let all = sent_all (owner_of l.set) (rtype_of l.set) l.class.0 l.ttl in
    l.raws.items ++ all (drop l.rdata-index l.rdata-items) ≡ l.initial.raws.items ++ all l.rdata-items
