use Rattle.std.proofs.Common.{ℕ, ◌<◌, [], refl, sym, subst, arith}
use Rattle.std.proofs.lemmas.List.Elements.{All-nil}
use Rattle.dns_rdata.specs.Data.{IsData, data_of}
use Rattle.dns_rdata.specs.Layout.{layout_of}
use Rattle.dns_rdata.proofs.data.RDataMadeWithGlobal.made_with.Goals as goal

-- no octets are data of a type that has no form
none_is_data : IsData (record { rtype = 65535; octets = [] })
unfolding data_of layout_of
none_is_data = record { form = refl; short = omega arith; bytes = All-nil (λ (octet : ℕ). octet < 256) }

pub invariant_of-result : goal.invariant_of-result
invariant_of-result c = subst (λ octets. IsData (record { rtype = 65535; octets = octets })) (sym c.none.ensures) none_is_data
