use Rattle.std.proofs.Common.{◌++◌, ◌∷◌, [], sym, ap, ◌∙◌}
use Rattle.hex.specs.Hex.{encode_lower}
use Rattle.zone_change.specs.Message.{message_octets}
use Rattle.change_command.proofs.LineLemmas.{same_hex, other_hex}
use Rattle.change_command.proofs.hex_line.write_message.Goals as goal

pub returns-in_default-clause-text : goal.returns-in_default-clause-text
returns-in_default-clause-text c = c.new.ensures.bytes ∙ sym (same_hex c.args.old.now c.args.next.now (rw c.in_default.is at c.in_ok-update.ensures.update))

pub returns-clause-text : goal.returns-clause-text
returns-clause-text c =
    let reported = rw c.in-Some.is at c.in_ok-update.ensures.update in
    c.in_ok-line.ensures
    ∙ ap (λ os. encode_lower os ++ 10 ∷ []) (c.as_slice.ensures.value ∙ c.in_ok-message.ensures.octets ∙ ap message_octets reported.0)
    ∙ sym (other_hex c.args.old.now c.args.next.now reported.1)
