-- How many octets the parts of a TSIG have.
use Rattle.std.proofs.Common.{◌≡◌, ℕ, ◌+◌, ◌≤◌, List, ◌++◌, length, refl, ap, ◌∙◌, arith, length-append, lit≤}
use Rattle.dns_name.specs.Name.{Name, wire_of}
use Rattle.hmac.specs.Hmac.{mac_size}
use Rattle.hmac.specs.declared.algorithm.Algorithm.{Algorithm}
use Rattle.hmac.specs.declared.algorithm.Algorithm.TheVariants.{Sha256, Sha384, Sha512}
use Rattle.tsig.specs.Fields.{Fields, written, with_length}
use Rattle.tsig.specs.Keys.{algorithm_name}
use Rattle.tsig.specs.Tsig.{Tsig, record_octets}

-- the name of an algorithm has 13 octets
pub name_size : (algorithm : Algorithm) → length (wire_of (algorithm_name algorithm)) ≡ 13
name_size Sha256 = refl
name_size Sha384 = refl
name_size Sha512 = refl

-- a MAC has at most 64
pub mac_few : (algorithm : Algorithm) → mac_size algorithm ≤ 64
mac_few Sha256 = lit≤ tt
mac_few Sha384 = lit≤ tt
mac_few Sha512 = lit≤ tt

-- the fields
pub length-written : (f : Fields) → length (written f) ≡ 16 + length f.mac + length f.other
length-written f = simp length-append (omega arith)

-- a record
pub length-record_octets : (t : Tsig) → length (record_octets t) ≡ length (wire_of t.owner) + 10 + length (wire_of t.algorithm) + 16 + length t.fields.mac + length t.fields.other
length-record_octets t =
    let all : length (wire_of t.algorithm ++ written t.fields) ≡ length (wire_of t.algorithm) + (16 + length t.fields.mac + length t.fields.other) =
    length-append (wire_of t.algorithm) (written t.fields) ∙ ap (λ n. length (wire_of t.algorithm) + n) (length-written t.fields) in
    length-append (wire_of t.owner) _ ∙ omega (arith, all)
