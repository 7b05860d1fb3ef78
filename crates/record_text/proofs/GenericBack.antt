-- Octets that are written behind `\#` are read as the same octets.
use Rattle.std.proofs.Common.{◌≡◌, ℕ, zero, suc, ◌<◌, ◌≤◌, Bool, true, cond, ◌==◌, nat_le, List, [], ◌∷◌, ◌++◌, length, drop, slice_index, decimal, bytes_eq, All, Option, Some, None, Result, Ok, Err, eq-eqb, refl, ap, ◌∙◌, arith}
use Rattle.std.proofs.lemmas.Bool.Decides.{nat_tests}
use Rattle.std.proofs.lemmas.List.{append-nil}
use Rattle.std.proofs.lemmas.List.Elements.{All-head, All-tail}
use Rattle.std.proofs.lemmas.Slice.Eq.{bytes_eq-Decides}
use Rattle.hex.specs.Hex.{decode_of, encode_lower}
use Rattle.hex.specs.declared.error.FromHexError.{FromHexError}
use Rattle.hex.proofs.HexLemmas.{decode_of-encode_lower}
use Rattle.dns_rdata.specs.Data.{data_of}
use Rattle.record_text.specs.declared.cause.Cause.{Cause}
use Rattle.record_text.specs.declared.cause.Cause.TheVariants.{BadData, Number, Limit}
use Rattle.record_text.specs.Data.{as_own_data}
use Rattle.record_text.specs.Generic.{size_of, hexes_of, generic_of, hex_words, generic_words}
use Rattle.record_text.specs.Number.{are_digits, value_of}
use Rattle.record_text.specs.Reading.{on_ok, and_then}
use Rattle.zone_lexing.specs.Word.Written.{Plain}
use Rattle.record_text.proofs.BackLemmas.{AreOctets, IsDecimal, decimal_read}

size_by : (n : ℕ) (text : List ℕ) → IsDecimal n text → n ≤ 4096 → size_of (Plain text) ≡ Ok n
size_by n text is short =
    let within : nat_le n 4096 ≡ true = grind (arith, nat_tests) in
    ap (λ (b : Bool). cond b (cond (nat_le (value_of text) 4096) (Ok (value_of text)) (Err Limit)) (Err Number)) is.digits
    ∙ ap (λ (v : ℕ). cond (nat_le v 4096) (Ok v) (Err Limit)) is.value
    ∙ ap (λ (b : Bool). cond b (Ok n) (Err Limit)) within

-- how many octets there are is read
size_back : (n : ℕ) → n ≤ 4096 → size_of (Plain (decimal n)) ≡ Ok n
size_back n short = size_by n (decimal n) (decimal_read n (omega arith)) short

are_bytes : (octets : List ℕ) → AreOctets octets → (i : ℕ) → slice_index octets i < 256
are_bytes [] h i = omega arith
are_bytes (octet ∷ octets) h zero = All-head (λ (c : ℕ). c < 256) octet octets h
are_bytes (octet ∷ octets) h (suc i) = are_bytes octets (All-tail (λ (c : ℕ). c < 256) octet octets h) i

-- what a decoding tells
abbrev reported : Result (List ℕ) FromHexError → Result (List ℕ) Cause
reported decoded = elim decoded as (λ _. Result (List ℕ) Cause) [ Ok octets ↦ Ok octets | Err fault ↦ Err BadData ]

-- and so are their digits
hexes_back : (octets : List ℕ) → AreOctets octets → hexes_of (hex_words octets) ≡ Ok octets
hexes_back [] h = refl
hexes_back (octet ∷ octets) h =
    ap (λ (r : Result (List ℕ) FromHexError). and_then (reported r) (λ (front : List ℕ). Ok (front ++ []))) (decode_of-encode_lower (octet ∷ octets) (are_bytes (octet ∷ octets) h))
    ∙ ap (λ (os : List ℕ). Ok os) (append-nil (octet ∷ octets))

words_back : (octets : List ℕ) → length octets ≤ 4096 → AreOctets octets → generic_of (drop 1 (generic_words octets)) ≡ Ok octets
unfolding generic_of
words_back octets short h =
    let same : (length octets == length octets) ≡ true = eq-eqb (length octets) (length octets) refl in
    ap (λ (r : Result ℕ Cause). and_then r (λ size. and_then (hexes_of (hex_words octets)) (λ os. cond (length os == size) (Ok os) (Err BadData)))) (size_back (length octets) short)
    ∙ ap (λ (r : Result (List ℕ) Cause). and_then r (λ os. cond (length os == length octets) (Ok os) (Err BadData))) (hexes_back octets h)
    ∙ ap (λ (b : Bool). cond b (Ok octets) (Err BadData)) same

-- octets that are data as they stand
pub own_data : (rtype : ℕ) (octets : List ℕ) → data_of rtype octets ≡ Some octets → as_own_data rtype octets ≡ Ok octets
unfolding as_own_data
own_data rtype octets e =
    let same : bytes_eq octets octets ≡ true = (bytes_eq-Decides octets octets).1 refl in
    ap (λ (o : Option (List ℕ)). elim o as (λ _. Result (List ℕ) Cause) [ None ↦ Err BadData | Some own ↦ cond (bytes_eq own octets) (Ok own) (Err BadData) ]) e
    ∙ ap (λ (b : Bool). cond b (Ok octets) (Err BadData)) same

pub generic_back : (rtype : ℕ) (octets : List ℕ) → data_of rtype octets ≡ Some octets → length octets ≤ 4096 → AreOctets octets → and_then (generic_of (drop 1 (generic_words octets))) (as_own_data rtype) ≡ Ok octets
generic_back rtype octets e short h = ap (λ (r : Result (List ℕ) Cause). and_then r (as_own_data rtype)) (words_back octets short h) ∙ own_data rtype octets e
