use Rattle.std.proofs.Common.{ℕ, List, Option, ◌∙◌, sym, ap, Ok, ok_or}
use Rattle.std.specs.Net.Addr.{ipv4_octets}
use Rattle.record_text.specs.declared.cause.Cause.TheVariants.{BadData}
use Rattle.record_text.proofs.AddressLemmas.{IsDotted-dotted, dotted-none}
use Rattle.record_text.proofs.addresses.dotted.Goals as goal

pub returns-in-Ok : goal.returns-in-Ok
returns-in-Ok c =
    let text = c.args.text.now in
    ap Ok c.octets.ensures
    ∙ ap (λ (o : Option (List ℕ)). ok_or o BadData) (sym (IsDotted-dotted text (ipv4_octets c.in-Ok.address) c.in-Ok.ensures))

pub returns-in-Err : goal.returns-in-Err
returns-in-Err c =
    let text = c.args.text.now in
    ap (λ (o : Option (List ℕ)). ok_or o BadData) (sym (dotted-none text c.in-Err.ensures))
