-- What a reply is that tells an error, unsigned.
use Rattle.std.proofs.Common.{◌≡◌, ℕ, List, ap, ◌∙◌}
use Rattle.dns_name.specs.Name.{Name}
use Rattle.tsig.specs.Fields.{Fields}
use Rattle.tsig.specs.Signing.{with_record, unsigned, with_error_tsig}
use Rattle.tsig.specs.Tsig.{Tsig, record_octets}
use Rattle.tsig.specs.declared.tsig_error.TsigError.{TsigError}

-- the record behind it has the names of the request's TSIG, and the fields that tell the error
pub with_error_tsig_as : (plain added items : List ℕ) (tsig : Tsig) (error : TsigError) (owner algorithm : Name) (f g : Fields) → added ≡ items
    → items ≡ record_octets (record { owner = owner; algorithm = algorithm; fields = f }) → owner ≡ tsig.owner → algorithm ≡ tsig.algorithm → f ≡ unsigned g error plain → g ≡ tsig.fields
    → with_record plain added ≡ with_error_tsig tsig error plain
with_error_tsig_as plain added items tsig error owner algorithm f g same is owner_is algorithm_is f_is g_is =
    ap (with_record plain) (
    same
    ∙ is
    ∙ ap (λ n. record_octets (record { owner = n; algorithm = algorithm; fields = f })) owner_is
    ∙ ap (λ n. record_octets (record { owner = tsig.owner; algorithm = n; fields = f })) algorithm_is
    ∙ ap (λ h. record_octets (record { owner = tsig.owner; algorithm = tsig.algorithm; fields = h })) (f_is ∙ ap (λ h. unsigned h error plain) g_is))
