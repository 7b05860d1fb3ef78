use Rattle.std.proofs.Common.{◌≡◌, ◌∙◌, ◌-◌, length, take, drop, sym, ap, arith}
use Rattle.std.proofs.lemmas.Bool.Decides.{Decides-eqb}
use Rattle.std.proofs.lemmas.List.{length-drop, take_all}
use Rattle.std.proofs.lemmas.Slice.Eq.{starts_is}
use Rattle.dns_name.specs.Front.{number_of}
use Rattle.dns_name.proofs.FrontLemmas.{front_at}
use Rattle.dns_name.proofs.front.front_of.Goals as goal

pub returns-then-starts_with : goal.returns-then-starts_with
returns-then-starts_with c =
    let octets = c.args.octets.now in
    let base = c.args.base.now in
    let starts = starts_is Decides-eqb octets base c.starts_with.result c.starts_with.ensures.value in
    let is = starts.0 c.if-starts_with.true in
    let len = length-drop (length base) octets in
    let rest : take (length octets - length base) (drop (length base) octets) ≡ drop (length base) octets = take_all (length octets - length base) (drop (length base) octets) (omega arith) in
    c.number_of.ensures ∙ ap (number_of 8) rest ∙ sym (front_at base octets (drop (length base) octets) is)
