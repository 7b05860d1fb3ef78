-- What has room for a TSIG of ours is signed as it is.
use Rattle.std.proofs.Common.{◌≡◌, ◌≤◌, ◌<◌, ℕ, ◌+◌, ◌-◌, ◌^◌, List, length, take, refl, sym, ap, ◌∙◌, arith, lit≤, subst}
use Rattle.std.proofs.lemmas.Bool.{le-leb, lt-ltb}
use Rattle.std.proofs.lemmas.List.{length-take-le}
use Rattle.dns_name.specs.Name.{wire_of}
use Rattle.dns_message.specs.Message.{number_at}
use Rattle.tsig.specs.Fields.{other_of}
use Rattle.tsig.specs.Keys.{SharedKey}
use Rattle.tsig.specs.Signing.{tsig_size, fitted}
use Rattle.tsig.specs.declared.stamp.Stamp.{Stamp}
use Rattle.tsig.specs.declared.tsig_error.TsigError.{TsigError}
use Rattle.tsig.specs.declared.tsig_error.TsigError.TheVariants.{NoError, BadSig, BadKey, BadTime, BadTrunc}
use Rattle.tsig.proofs.ListLemmas.{number_of_first}
use Rattle.tsig.proofs.SizeLemmas.{name_size, mac_few}

-- Other Data has at most six octets
other_few : (error : TsigError) → length (other_of error) ≤ 6
other_few NoError = lit≤ tt
other_few BadSig = lit≤ tt
other_few BadKey = lit≤ tt
other_few (BadTime now) = lit≤ tt
other_few BadTrunc = lit≤ tt

-- a TSIG of ours has at most 237 octets
pub size_most : (key : SharedKey) (stamp : Stamp) → length (wire_of key.name) ≤ 128 → tsig_size key stamp ≤ 237
size_most key stamp short = omega (arith, short, name_size key.secret.algorithm, mac_few key.secret.algorithm, other_few stamp.error)

-- what has room for one is signed as it is
pub fits : (size limit : ℕ) (plain : List ℕ) → length plain + size ≤ limit → number_at plain 10 < 2 ^ 16 - 1 → fitted size limit plain ≡ plain
fits size limit plain room counted =
    let a = le-leb (length plain + size) limit room in
    let b = lt-ltb (number_at plain 10) (2 ^ 16 - 1) counted in
    rw (a, b) refl

-- and so is the front of a buffer with room behind it
pub front_fits : (key : SharedKey) (stamp : Stamp) (out : List ℕ) (len : ℕ) → length (wire_of key.name) ≤ 128 → 12 ≤ len → len + 237 ≤ length out → number_at out 10 < 2 ^ 16 - 1
    → fitted (tsig_size key stamp) (length out) (take len out) ≡ take len out
front_fits key stamp out len short header room counted =
    let P : ℕ → Type 0 = λ n. n < 65535 in
    fits (tsig_size key stamp) (length out) (take len out) (omega (arith, room, size_most key stamp short, length-take-le len out (omega (arith, room))))
    (subst P (sym (number_of_first out 10 len (omega (arith, header)))) counted)
