use Rattle.std.proofs.Common.{ℕ, get_or, ap, ◌∙◌}
use Rattle.wire_names.proofs.TableLemmas.{four_octets}
use Rattle.wire_names.proofs.key.key_up_to.Goals as goal

pub returns : goal.returns
returns c =
    let at = λ (i : ℕ). get_or c.args.octets.now i 0 in
    four_octets _ _ _ _ _ _ _ _ (c.octet_at.ensures.octet ∙ ap at c.saturating_sub.ensures) (c.octet_at-2.ensures.octet ∙ ap at c.saturating_sub-2.ensures)
    (c.octet_at-3.ensures.octet ∙ ap at c.saturating_sub-3.ensures) c.octet_at-4.ensures.octet
