-- An answer of one section is what the first look tells.
use Rattle.std.proofs.Common.{List, [], sym, ap, ◌∙◌, append-nil}
use Rattle.dns_rdata.specs.declared.numbers.Rcode.TheVariants.{NoError, NxDomain}
use Rattle.dns_rdata.specs.declared.shown.Shown.{Shown}
use Rattle.dns_rdata.specs.Shown.{records_shown}
use Rattle.dns_message.specs.Message.{section_of}
use Rattle.dns_message.specs.Octets.{fit}
use Rattle.lookup_core.specs.First.{alone}
use Rattle.serve_core.specs.Reply.{answered, answered_in}
use Rattle.serve_core.proofs.reply.write_answer.Goals as goal

pub returns-in-NoData-clause-octets : goal.returns-in-NoData-clause-octets
returns-in-NoData-clause-octets g c =
    let query = c.args.query.now in
    c.write_reply_by-in-NoData.ensures.octets
    ∙ ap (λ m. fit m c.limit-limit.result)
    (c.alone-reply-in-NoData.ensures ∙ ap (λ (section : List Shown). answered query (alone NoError [] (section_of section))) c.from_ref-in-NoData.ensures.value
    ∙ ap (λ rs. answered query (alone NoError [] rs)) (append-nil (records_shown c.in-NoData.shown)) ∙ ap (answered query) (sym c.in-NoData.ensures))
    ∙ ap (fit (answered_in (g.Z.ZoneRead.records c.args.zone.now) query)) c.limit-limit.ensures.limit

pub returns-in-NoName-clause-octets : goal.returns-in-NoName-clause-octets
returns-in-NoName-clause-octets g c =
    let query = c.args.query.now in
    c.write_reply_by-in-NoName.ensures.octets
    ∙ ap (λ m. fit m c.limit-limit.result)
    (c.alone-reply-in-NoName.ensures ∙ ap (λ (section : List Shown). answered query (alone NxDomain [] (section_of section))) c.from_ref-in-NoName.ensures.value
    ∙ ap (λ rs. answered query (alone NxDomain [] rs)) (append-nil (records_shown c.in-NoName.shown)) ∙ ap (answered query) (sym c.in-NoName.ensures))
    ∙ ap (fit (answered_in (g.Z.ZoneRead.records c.args.zone.now) query)) c.limit-limit.ensures.limit
