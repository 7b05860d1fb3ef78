use Rattle.std.proofs.Common.{Ok, sym, ap, ◌∙◌, option_map}
use Rattle.dns_message.specs.Reads.{typed, record_of}
use Rattle.dns_message.proofs.ReadLemmas.{type_found}
use Rattle.dns_message.proofs.entry.type_at.Goals as goal

pub returns : goal.returns
returns c =
    type_found _ _ _ _ (sym c.in_ok-at.was ∙ c.behind_name.ensures)
    (λ owner. c.type_behind.ensures owner ∙ ap (λ msg. option_map typed (record_of msg (Ok (owner, c.in_ok-at.at)))) c.octets.ensures)
