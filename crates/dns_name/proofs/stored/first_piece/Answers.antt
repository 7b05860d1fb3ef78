use Rattle.std.proofs.Common.{◌≡◌, ◌+◌, ◌-◌, ◌∙◌, length, take, drop, refl, sym, arith}
use Rattle.std.proofs.lemmas.List.{length-drop, take_all}
use Rattle.dns_name.proofs.StoredLemmas.{no_piece, one_piece}
use Rattle.dns_name.proofs.stored.first_piece.Goals as goal

pub returns-in_err-at : goal.returns-in_err-at
returns-in_err-at c =
    let none = no_piece _ _ c.requires refl (sym c.first_closing.ensures ∙ c.in_err-at.was) in
    rw c.from_residual.ensures none

pub returns : goal.returns
returns c =
    let octets = c.args.octets.now in
    let at = c.in_ok-at.at in
    let cut = one_piece _ octets at c.requires refl (sym c.first_closing.ensures ∙ c.in_ok-at.was) in
    let len = length-drop (at + 1) octets in
    let rest : take (length octets - (at + 1)) (drop (at + 1) octets) ≡ drop (at + 1) octets = take_all (length octets - (at + 1)) (drop (at + 1) octets) (omega arith) in
    rw rest cut.first
