-- The records of sets as they are shown, one behind another.
use Rattle.std.proofs.Common.{◌≡◌, ℕ, List, [], ◌∷◌, map, Option, Some, None, unwrap_or, option_map, refl, sym, ap, ◌∙◌}
use Rattle.std.proofs.lemmas.List.{map-append}
use Rattle.std.specs.List.{flat_map}
use Rattle.dns_rdata.specs.declared.numbers.RType.{RType}
use Rattle.dns_rdata.specs.declared.numbers.Ttl.{Ttl}
use Rattle.dns_rdata.specs.Record.{Record, records_with, owner_of, rtype_of, ttl_of, shown_as}
use Rattle.dns_rdata.specs.Data.{Data}
use Rattle.dns_message.specs.Encoding.{Encoding, before, each}
use Rattle.dns_message.specs.Octets.{record_octets}
use Rattle.dns_message.proofs.EncodedLemmas.{each-append}

-- the elements of each list's elements are all elements
pub each-flat_map : {A B : Type 0} (put : B → Encoding) (g : A → List B) (xs : List A) → each put (flat_map g xs) ≡ each (λ x. each put (g x)) xs
unfolding each
each-flat_map put g [] = refl
each-flat_map put g (x ∷ xs) = each-append put (g x) (flat_map g xs) ∙ ap (before (each put (g x))) (each-flat_map put g xs)

-- a datum, shown under an owner
abbrev pub datum_octets : List (List ℕ) → ℕ → ℕ → Data → Encoding
datum_octets owner rtype ttl d = record_octets (record { owner = owner; rtype = rtype; ttl = ttl; rdata = d.octets })

-- a set's records, as they are shown
set_octets : (owner own : List (List ℕ)) (ttl : Option ℕ) (rtype old : ℕ) (ds : List Data) → each record_octets (map (shown_as owner ttl) (records_with own rtype old ds)) ≡ each (datum_octets owner rtype (unwrap_or ttl old)) ds
unfolding each
set_octets owner own ttl rtype old [] = refl
set_octets owner own ttl rtype old (d ∷ ds) = ap (before (datum_octets owner rtype (unwrap_or ttl old) d)) (set_octets owner own ttl rtype old ds)

-- the TTL that a record is shown with, as a number
unwrap_ttl : (ttl : Option Ttl) (own shown : Ttl) (n : ℕ) → own.0 ≡ n → shown ≡ unwrap_or ttl own → unwrap_or (option_map (λ t. t.0) ttl) n ≡ shown.0
unwrap_ttl None own shown n h e = sym h ∙ ap (λ t. t.0) (sym e)
unwrap_ttl (Some t) own shown n h e = ap (λ u. u.0) (sym e)

-- the records of a set that has these data
pub set_octets_of : (owner : List (List ℕ)) (ttl : Option Ttl) (set : List Record) (ds : List Data) (rtype : RType) (own shown : Ttl) → set ≡ records_with (owner_of set) (rtype_of set) (ttl_of set) ds → rtype.0 ≡ rtype_of set → own.0 ≡ ttl_of set → shown ≡ unwrap_or ttl own → each record_octets (map (shown_as owner (option_map (λ t. t.0) ttl)) set) ≡ each (datum_octets owner rtype.0 shown.0) ds
set_octets_of owner ttl set ds rtype own shown e h k w =
    ap (λ s. each record_octets (map (shown_as owner (option_map (λ t. t.0) ttl)) s)) e
    ∙ set_octets owner (owner_of set) (option_map (λ t. t.0) ttl) (rtype_of set) (ttl_of set) ds
    ∙ ap (λ n. each (datum_octets owner n (unwrap_or (option_map (λ t. t.0) ttl) (ttl_of set))) ds) (sym h)
    ∙ ap (λ n. each (datum_octets owner rtype.0 n) ds) (unwrap_ttl ttl own shown (ttl_of set) k w)

-- the records of sets, as they are shown
pub sets_octets : (owner : List (List ℕ)) (ttl : Option ℕ) (sets : List (List Record)) → each record_octets (map (shown_as owner ttl) (flat_map (λ set. set) sets)) ≡ each (λ set. each record_octets (map (shown_as owner ttl) set)) sets
unfolding each
sets_octets owner ttl [] = refl
sets_octets owner ttl (set ∷ sets) =
    ap (each record_octets) (map-append (shown_as owner ttl) set (flat_map (λ set. set) sets))
    ∙ each-append record_octets (map (shown_as owner ttl) set) (map (shown_as owner ttl) (flat_map (λ set. set) sets))
    ∙ ap (before (each record_octets (map (shown_as owner ttl) set))) (sets_octets owner ttl sets)
