use Rattle.std.proofs.Common.{◌≡◌, ℕ, List, [], ◌∷◌, get_or, ap, subst, ◌∙◌}
use Rattle.std.specs.Int.{to_be_bytes, w16, w32}
use Rattle.wire_names.specs.Written.{WritesOctets}
use Rattle.dns_rdata.specs.Numbers.{class_IN}
use Rattle.dns_message.proofs.EncodedLemmas.{WritesParts-octets}
use Rattle.dns_message.proofs.records.put_fixed.Goals as goal

-- eight octets in three parts
abbrev eight : List ℕ → List ℕ → List ℕ → List ℕ
eight a b d = get_or a 0 0 ∷ get_or a 1 0 ∷ get_or b 0 0 ∷ get_or b 1 0 ∷ get_or d 0 0 ∷ get_or d 1 0 ∷ get_or d 2 0 ∷ get_or d 3 0 ∷ []

pub returns : goal.returns
returns c =
    let rtype = to_be_bytes w16 c.args.rtype.0 in
    let class = to_be_bytes w16 class_IN in
    let ttl = to_be_bytes w32 c.args.ttl.0 in
    let same : eight c.to_be_bytes.result c.to_be_bytes-2.result c.to_be_bytes-3.result ≡ eight rtype class ttl =
    ap (λ (octets : List ℕ). eight octets c.to_be_bytes-2.result c.to_be_bytes-3.result) c.to_be_bytes.ensures
    ∙ ap (λ (octets : List ℕ). eight rtype octets c.to_be_bytes-3.result) c.to_be_bytes-2.ensures
    ∙ ap (λ (octets : List ℕ). eight rtype class octets) c.to_be_bytes-3.ensures in
    WritesParts-octets c.args.out.now c.put.new.out c.args.at (eight rtype class ttl) c.put.result
    (subst (λ (octets : List ℕ). WritesOctets c.args.out.now c.put.new.out c.args.at octets c.put.result) same c.put.ensures)
