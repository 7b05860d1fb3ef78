-- Hexadecimal digits, and pairs of them with hyphens between, are read as the octets that they were written of.
use Rattle.std.proofs.Common.{◌≡◌, ℕ, zero, suc, ◌*◌, ◌/◌, ◌%◌, ◌<◌, ◌≤◌, Bool, true, cond, ◌==◌, nat_le, List, [], ◌∷◌, length, take, slice_index, Result, Ok, Err, refl, ap, ◌∙◌, arith}
use Rattle.std.proofs.lemmas.Bool.Decides.{nat_tests}
use Rattle.std.proofs.lemmas.List.{length-take-le}
use Rattle.std.proofs.lemmas.List.Elements.{All-head, All-tail, All-take}
use Rattle.hex.specs.Hex.{encode_lower, encode_with, lower_digits}
use Rattle.hex.specs.declared.error.FromHexError.{FromHexError}
use Rattle.hex.proofs.HexLemmas.{decode_of-encode_lower, length-encode_with}
use Rattle.record_text.specs.Reading.{on_ok, and_then}
use Rattle.record_text.specs.declared.cause.Cause.{Cause}
use Rattle.record_text.specs.declared.cause.Cause.TheVariants.{BadData}
use Rattle.record_text.proofs.BackLemmas.{AreOctets}
use Rattle.record_text.proofs.DataLemmas.{equal_test}
use Rattle.wide_text.specs.Encoded.{eui_digits, eui_in, hex_in}
use Rattle.wide_text.specs.Words.{pairs}

pub are_bytes : (octets : List ℕ) → AreOctets octets → (i : ℕ) → slice_index octets i < 256
are_bytes [] h i = omega arith
are_bytes (octet ∷ octets) h zero = All-head (λ (c : ℕ). c < 256) octet octets h
are_bytes (octet ∷ octets) h (suc i) = are_bytes octets (All-tail (λ (c : ℕ). c < 256) octet octets h) i

pub hex_back : (octets : List ℕ) → AreOctets octets → hex_in (encode_lower octets) ≡ Ok octets
unfolding hex_in
hex_back octets h =
    ap (λ (r : Result (List ℕ) FromHexError). elim r as (λ _. Result (List ℕ) Cause) [ Ok own ↦ Ok own | Err fault ↦ Err BadData ]) (decode_of-encode_lower octets (are_bytes octets h))

-- the digits of pairs
digits_of_pairs : (o : ℕ) (octets : List ℕ) → eui_digits (pairs (o ∷ octets)) ≡ Ok (encode_lower (o ∷ octets))
unfolding encode_with
digits_of_pairs o [] = refl
digits_of_pairs o (p ∷ octets) =
    ap (on_ok (λ (more : List ℕ). slice_index lower_digits (o / 16) ∷ slice_index lower_digits (o % 16) ∷ more)) (digits_of_pairs p octets)

abbrev in_pairs : ℕ → List ℕ → Result (List ℕ) Cause
in_pairs count digits = cond (length digits == count * 2) (hex_in digits) (Err BadData)

pub eui_back : (count : ℕ) (octets : List ℕ) → 0 < count → AreOctets octets → length octets ≡ count → eui_in count (pairs octets) ≡ Ok octets
eui_back count [] some h e = absurd (omega arith)
eui_back count (o ∷ octets) some h e =
    let len = length-encode_with lower_digits (o ∷ octets) in
    let all : length (encode_lower (o ∷ octets)) ≡ count * 2 = omega arith in
    ap (λ (r : Result (List ℕ) Cause). and_then r (in_pairs count)) (digits_of_pairs o octets)
    ∙ ap (λ (b : Bool). cond b (hex_in (encode_lower (o ∷ octets))) (Err BadData)) (equal_test (length (encode_lower (o ∷ octets))) (count * 2) all)
    ∙ hex_back (o ∷ octets) h

pub taken_back : (count : ℕ) (octets : List ℕ) → 0 < count → AreOctets octets → nat_le count (length octets) ≡ true → eui_in count (pairs (take count octets)) ≡ Ok (take count octets)
taken_back count octets some h e =
    let long : count ≤ length octets = grind (arith, nat_tests) in
    eui_back count (take count octets) some (All-take (λ (x : ℕ). x < 256) count octets h) (length-take-le count octets long)
