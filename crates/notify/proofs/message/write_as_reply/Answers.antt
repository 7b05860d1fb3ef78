use Rattle.std.proofs.Common.{◌≡◌, map, List, Some, None, ap, ◌∙◌}
use Rattle.std.proofs.lemmas.List.{append-nil}
use Rattle.std.specs.List.{flat_map}
use Rattle.dns_name.specs.Name.{Name}
use Rattle.dns_rdata.specs.Record.{Record, shown_as}
use Rattle.dns_message.specs.Answers.{answers}
use Rattle.dns_message.specs.Message.{section_of}
use Rattle.dns_message.specs.Octets.{fit}
use Rattle.notify.proofs.message.write_as_reply.Goals as goal

pub returns-clause-octets : goal.returns-clause-octets
returns-clause-octets c =
    let q = c.args.question.now in
    let soa = c.args.soa.now in
    let answer : section_of c.from_ref-2.result.now ≡ map (shown_as q.name None) soa = ap section_of c.from_ref-2.ensures.value
    ∙ append-nil _
    ∙ ap (λ (sets : List (List Record)). map (shown_as c.spelt.result None) (flat_map (λ set. set) sets)) c.from_ref.ensures.value
    ∙ ap (map (shown_as c.spelt.result None)) (append-nil soa)
    ∙ ap (λ (n : Name). map (shown_as n None) soa) c.spelt.ensures in
    c.write_reply.ensures.octets ∙ ap (λ (rs : List Record). fit (answers c.args.head (Some q) None rs) 512) answer
