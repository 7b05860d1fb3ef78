-- Lines of records after a sign, one set after another.
use Rattle.std.proofs.Common.{◌≡◌, refl, sym, ap, ◌∙◌, ℕ, false, List, [], ◌∷◌, ◌++◌, All, flat_map, if◌then◌else◌}
use Rattle.std.specs.List.{AllByRecursion}
use Rattle.std.specs.Cmp.Lexicographic.{pointwise}
use Rattle.std.proofs.lemmas.List.{append_assoc}
use Rattle.std.proofs.lemmas.Grind.{flat_map-append}
use Rattle.std.proofs.lemmas.List.Elements.{recursion_from_All}
use Rattle.dns_name.specs.Name.{Name}
use Rattle.dns_rdata.specs.Data.{Data}
use Rattle.dns_rdata.specs.Record.{Record, records_with}
use Rattle.hex.specs.Hex.{encode_lower}
use Rattle.zone_tree.specs.Change.{is_same_record}
use Rattle.zone_tree.specs.Sets.{records_in}
use Rattle.zone_change.specs.Change.{aimed, change_to}
use Rattle.zone_change.specs.Message.{message_octets}
use Rattle.zone_change.proofs.Law.{pointwise_itself}
use Rattle.change_command.specs.ChangeText.{signed_line, differences, change_text, change_hex}

-- the lines of data of one owner and TTL
abbrev pub data_lines : List ℕ → Name → ℕ → List Data → List ℕ
data_lines sign owner ttl ds = flat_map (λ d. signed_line sign (record { owner = owner; rtype = d.rtype; ttl = ttl; rdata = d.octets })) ds

typed_lines : (sign : List ℕ) (owner : Name) (rtype ttl : ℕ) (ds : List Data) → AllByRecursion (λ d. d.rtype ≡ rtype) ds → data_lines sign owner ttl ds ≡ flat_map (signed_line sign) (records_with owner rtype ttl ds)
typed_lines sign owner rtype ttl [] typed = refl
typed_lines sign owner rtype ttl (d ∷ ds) typed =
    λ i. signed_line sign (record { owner = owner; rtype = typed.0 i; ttl = ttl; rdata = d.octets }) ++ typed_lines sign owner rtype ttl ds typed.1 i

-- they are the lines of the records that have these data
pub data_lines-records : (sign : List ℕ) (owner : Name) (rtype ttl : ℕ) (ds : List Data) → All (λ d. d.rtype ≡ rtype) ds → data_lines sign owner ttl ds ≡ flat_map (signed_line sign) (records_with owner rtype ttl ds)
data_lines-records sign owner rtype ttl ds typed = typed_lines sign owner rtype ttl ds (recursion_from_All (λ (d : Data). d.rtype ≡ rtype) ds typed)

-- the lines of sets, one after another, and of records behind others
pub lines_of_sets : (sign : List ℕ) (sets : List (List Record)) → flat_map (flat_map (signed_line sign)) sets ≡ flat_map (signed_line sign) (records_in sets)
lines_of_sets sign [] = refl
lines_of_sets sign (set ∷ sets) = ap (λ os. flat_map (signed_line sign) set ++ os) (lines_of_sets sign sets) ∙ sym (flat_map-append (signed_line sign) set (records_in sets))

pub four_parts : (f g : Record → List ℕ) (a b c d : List Record) (text : List ℕ) → (((text ++ flat_map f a) ++ flat_map f b) ++ flat_map g c) ++ flat_map g d ≡ text ++ (flat_map f (a ++ b) ++ flat_map g (c ++ d))
four_parts f g a b c d text =
    append_assoc ((text ++ flat_map f a) ++ flat_map f b) (flat_map g c) (flat_map g d)
    ∙ (λ i. append_assoc text (flat_map f a) (flat_map f b) i ++ sym (flat_map-append g c d) i)
    ∙ append_assoc text (flat_map f a ++ flat_map f b) (flat_map g (c ++ d))
    ∙ ap (λ os. text ++ (os ++ flat_map g (c ++ d))) (sym (flat_map-append f a b))

-- the text where nothing changes
pub same_text : (old next : List Record) → aimed old next ≡ old → change_text old next ≡ []
same_text old next e = ap (λ z. if pointwise is_same_record old z then [] else differences old z) e ∙ ap (λ b. if b then [] else differences old old) (pointwise_itself old)

pub same_hex : (old next : List Record) → aimed old next ≡ old → change_hex old next ≡ []
same_hex old next e =
    ap (λ z. if pointwise is_same_record old z then [] else encode_lower (message_octets (change_to old next)) ++ 10 ∷ []) e
    ∙ ap (λ b. if b then [] else encode_lower (message_octets (change_to old next)) ++ 10 ∷ []) (pointwise_itself old)

-- and where it does
pub other_text : (old next : List Record) → pointwise is_same_record old (aimed old next) ≡ false → change_text old next ≡ differences old (aimed old next)
other_text old next e = ap (λ b. if b then [] else differences old (aimed old next)) e

pub other_hex : (old next : List Record) → pointwise is_same_record old (aimed old next) ≡ false → change_hex old next ≡ encode_lower (message_octets (change_to old next)) ++ 10 ∷ []
other_hex old next e = ap (λ b. if b then [] else encode_lower (message_octets (change_to old next)) ++ 10 ∷ []) e
