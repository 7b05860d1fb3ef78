-- Where no host may be named, no address comes along.
use Rattle.std.proofs.Common.{◌≡◌, List, take, sym, ap, ◌∙◌, subst}
use Rattle.std.specs.List.{list_any}
use Rattle.dns_rdata.specs.Record.{Record}
use Rattle.dns_rdata.specs.declared.shown.Shown.{Shown}
use Rattle.dns_message.specs.Octets.{fit}
use Rattle.lookup_core.specs.Additional.{has_hosts}
use Rattle.lookup_core.specs.Sections.{Sections}
use Rattle.lookup_core.specs.Shown.{section_shown, front_shown}
use Rattle.lookup_core.proofs.HostLemmas.{without_hosts}
use Rattle.serve_core.specs.Reply.{answered}
use Rattle.serve_core.specs.Transport.{limit_of}
use Rattle.serve_core.proofs.reply.write_more.Goals as goal

pub returns-clause-octets : goal.returns-clause-octets
returns-clause-octets g c =
    let zone = g.Z.ZoneRead.records c.args.zone.now in
    let query = c.args.query.now in
    let front = c.fill_front.new.front in
    let limit = limit_of c.args.transport query.edns in
    let any = λ (section : List Shown). list_any (λ (r : Record). has_hosts r.rtype) (section_shown section) in
    let none =
    without_hosts zone (section_shown front.answer.items) (section_shown front.authority.items)
    (ap any (sym c.as_slice.ensures.value) ∙ sym c.may_name_hosts.ensures ∙ c.if-may_name_hosts.false)
    (ap any (sym c.as_slice-2.ensures.value) ∙ sym c.may_name_hosts-else-may_name_hosts.ensures ∙ c.if-may_name_hosts-2.false)
    in
    let octets = rw (c.limit-limit.ensures.limit, c.reply_opt.ensures, c.as_slice.ensures.value, c.as_slice-2.ensures.value) at c.write_reply_by.ensures.octets in
    let reported = subst (λ (more : List Record). take c.write_reply_by.result c.write_reply_by.new.out ≡ fit (record (answered query (front_shown zone front)) { additional = more }) limit) (sym none) octets in
    subst (λ (sections : Sections). take c.write_reply_by.result c.write_reply_by.new.out ≡ fit (answered query sections) limit) c.fill_front.ensures reported
