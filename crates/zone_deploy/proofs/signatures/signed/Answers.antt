use Rattle.std.proofs.Common.{rules, ◌≡◌, ◌<◌, ℕ, List, length, take, sym, ap, ◌∙◌, arith, subst}
use Rattle.dns_message.specs.Message.{number_at}
use Rattle.tsig.proofs.ListLemmas.{number_of_first}
use Rattle.zone_deploy.proofs.signatures.signed.Goals as goal

pub sign_whole-len-requires-clause-counted : goal.sign_whole-len-requires-clause-counted
sign_whole-len-requires-clause-counted c =
    let P : ℕ → Type 0 = λ n. n < 65535 in
    let front : take (length c.args.request.now) c.deref_mut.result.now ≡ c.args.request.now = ap (take (length c.args.request.now)) c.deref_mut.ensures.value ∙ c.in_ok-octets.ensures.front in
    let own : number_at c.args.request.now 10 < 65535 = search rules in
    subst P (sym (sym (number_of_first c.deref_mut.result.now 10 (length c.args.request.now) (omega (arith, c.requires))) ∙ ap (λ (l : List ℕ). number_at l 10) front)) own
