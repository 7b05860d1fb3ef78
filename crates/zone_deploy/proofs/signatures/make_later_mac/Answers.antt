use Rattle.std.proofs.Common.{◌≡◌, ◌<◌, ℕ, List, length, take, sym, ap, ◌∙◌, arith, subst}
use Rattle.dns_message.specs.Message.{number_at}
use Rattle.tsig.proofs.ListLemmas.{number_of_first}
use Rattle.zone_deploy.proofs.signatures.make_later_mac.Goals as goal

pub sign_later-requires-clause-counted : goal.sign_later-requires-clause-counted
sign_later-requires-clause-counted c =
    let P : ℕ → Type 0 = λ n. n < 65535 in
    let front : take (length c.args.text.now) c.deref_mut.result.now ≡ c.args.text.now = ap (take (length c.args.text.now)) c.deref_mut.ensures.value ∙ c.in_ok-octets.ensures.front in
    subst P (sym (sym (number_of_first c.deref_mut.result.now 10 (length c.args.text.now) (omega (arith, c.requires.header))) ∙ ap (λ (l : List ℕ). number_at l 10) front)) c.requires.counted
