use Rattle.std.proofs.Common.{ℕ, List, Option, ◌∙◌, sym, ap, Ok, ok_or}
use Rattle.std.specs.Net.Addr.{ipv6_segments}
use Rattle.record_text.specs.declared.cause.Cause.TheVariants.{BadData}
use Rattle.record_text.proofs.AddressLemmas.{IsColonHex-colon_hex, colon_hex-none}
use Rattle.record_text.proofs.addresses.colon_hex.Goals as goal

pub returns-in-Ok : goal.returns-in-Ok
returns-in-Ok c =
    let text = c.args.text.now in
    ap Ok c.octets.ensures
    ∙ ap (λ (o : Option (List ℕ)). ok_or o BadData) (sym (IsColonHex-colon_hex text (ipv6_segments c.in-Ok.address) c.in-Ok.ensures))

pub returns-in-Err : goal.returns-in-Err
returns-in-Err c =
    let text = c.args.text.now in
    ap (λ (o : Option (List ℕ)). ok_or o BadData) (sym (colon_hex-none text c.in-Err.ensures))
