use Rattle.std.proofs.Common.{◌≡◌, ◌++◌, [], not, length, map, List, ℕ, Some, None, ap, ◌∙◌}
use Rattle.std.proofs.lemmas.List.{append-nil}
use Rattle.std.specs.List.{flat_map}
use Rattle.std.specs.Option.{option_to_list}
use Rattle.dns_name.specs.Name.{Name}
use Rattle.dns_rdata.specs.Record.{Record, shown_as}
use Rattle.dns_message.specs.Answers.{answers, filled}
use Rattle.dns_message.specs.Message.{section_of}
use Rattle.dns_message.specs.Octets.{fit, reply_octets}
use Rattle.transfer_core.specs.Packed.{spelt, listed, whole_or}
use Rattle.transfer_core.proofs.PackedLemmas.{some_left}
use Rattle.transfer_core.proofs.packer.write_datagram.Goals as goal

pub returns-clause-octets : goal.returns-clause-octets
returns-clause-octets g c =
    let head = c.args.head in
    let q = c.args.question.now in
    let soa = c.args.soa.now in
    let list = map (spelt c.args.records.now.name.now) (option_to_list c.args.records.now.next ++ listed c.args.records.now.rest) in
    let answer : section_of c.from_ref-2.result.now ≡ map (shown_as q.name None) soa = ap section_of c.from_ref-2.ensures.value
    ∙ append-nil _
    ∙ ap (λ (sets : List (List Record)). map (shown_as c.spelt.result None) (flat_map (λ set. set) sets)) c.from_ref.ensures.value
    ∙ ap (map (shown_as c.spelt.result None)) (append-nil soa)
    ∙ ap (λ (n : Name). map (shown_as n None) soa) c.spelt.ensures in
    let opt = c.args.opt in
    let limit = length c.args.out.now in
    let single = fit (answers head (Some q) opt (map (shown_as q.name None) soa)) limit in
    let parts = filled head (Some q) opt limit [] list in
    c.write_reply.ensures.octets
    ∙ ap (λ (n : ℕ). fit (answers head (Some q) opt (section_of c.from_ref-2.result.now)) n) c.write_answers-len.auto.out
    ∙ ap (λ (rs : List Record). fit (answers head (Some q) opt rs) limit) answer
    ∙ some_left (reply_octets (answers head (Some q) opt parts.0)) single c.first.result _ c.first.ensures.shown (c.is_none-is_whole.ensures ∙ ap not c.if-is_whole.false)
    ∙ ap (whole_or (reply_octets (answers head (Some q) opt parts.0)) single) c.write_answers-len.ensures.left
