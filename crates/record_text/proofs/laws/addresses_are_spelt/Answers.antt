use Rattle.std.proofs.Common.{◌∙◌, sym, ap, Some}
use Rattle.record_text.proofs.AddressLemmas.{dotted-IsDotted, IsDotted-dotted, colon_hex-IsColonHex, IsColonHex-colon_hex}
use Rattle.record_text.proofs.laws.addresses_are_spelt.Goals as goal

pub returns : goal.returns
returns c = record {
  address = λ text octets. (dotted-IsDotted text octets, IsDotted-dotted text octets);
  address6 = λ text octets. (colon_hex-IsColonHex text octets, λ is. IsColonHex-colon_hex text is.0 is.1 ∙ ap Some (sym is.2));
}
