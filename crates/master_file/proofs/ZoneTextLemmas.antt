-- A zone's lines, one set after another.
use Rattle.std.proofs.Common.{◌≡◌, ℕ, true, false, not, ◌==◌, List, [], ◌∷◌, ◌++◌, All, filter, flat_map, refl, ap, ◌∙◌}
use Rattle.std.specs.List.{AllByRecursion}
use Rattle.std.proofs.lemmas.List.Elements.{recursion_from_All, filter-append}
use Rattle.std.proofs.lemmas.Grind.{flat_map-append}
use Rattle.dns_rdata.specs.Data.{Data}
use Rattle.dns_rdata.specs.Record.{Record, records_with}
use Rattle.zone_tree.specs.Sets.{records_in}
use Rattle.master_file.specs.WrittenZone.{record_line, is_other}

-- the lines of data of one owner and TTL
abbrev pub data_lines : List (List ℕ) → ℕ → List Data → List ℕ
data_lines owner ttl ds = flat_map (λ d. record_line (record { owner = owner; rtype = d.rtype; ttl = ttl; rdata = d.octets })) ds

typed_lines : (owner : List (List ℕ)) (rtype ttl : ℕ) (ds : List Data) → AllByRecursion (λ d. d.rtype ≡ rtype) ds → data_lines owner ttl ds ≡ flat_map record_line (records_with owner rtype ttl ds)
typed_lines owner rtype ttl [] typed = refl
typed_lines owner rtype ttl (d ∷ ds) typed =
    let first = ap (λ (n : ℕ). record_line (record { owner = owner; rtype = n; ttl = ttl; rdata = d.octets })) typed.0 in
    let more = typed_lines owner rtype ttl ds typed.1 in
    ap (λ (line : List ℕ). line ++ data_lines owner ttl ds) first
    ∙ ap (λ (lines : List ℕ). record_line (record { owner = owner; rtype = rtype; ttl = ttl; rdata = d.octets }) ++ lines) more

-- they are the lines of the records that have these data
pub data_lines-records : (owner : List (List ℕ)) (rtype ttl : ℕ) (ds : List Data) → All (λ d. d.rtype ≡ rtype) ds → data_lines owner ttl ds ≡ flat_map record_line (records_with owner rtype ttl ds)
data_lines-records owner rtype ttl ds typed = typed_lines owner rtype ttl ds (recursion_from_All (λ (d : Data). d.rtype ≡ rtype) ds typed)

-- the lines of the records of sets that are no SOA
abbrev pub other_lines : List (List Record) → List ℕ
other_lines sets = flat_map record_line (filter is_other (records_in sets))

others_all : (rtype : ℕ) (rs : List Record) → AllByRecursion (λ r. r.rtype ≡ rtype) rs → not (rtype == 6) ≡ true → filter is_other rs ≡ rs
others_all rtype [] typed e = refl
others_all rtype (r ∷ rs) typed e =
    let more = others_all rtype rs typed.1 e in
    let other : is_other r ≡ true = ap (λ (n : ℕ). not (n == 6)) typed.0 ∙ e in
    rw (other) (ap (λ (os : List Record). r ∷ os) more)

others_none : (rtype : ℕ) (rs : List Record) → AllByRecursion (λ r. r.rtype ≡ rtype) rs → not (rtype == 6) ≡ false → filter is_other rs ≡ []
others_none rtype [] typed e = refl
others_none rtype (r ∷ rs) typed e =
    let none = others_none rtype rs typed.1 e in
    let other : is_other r ≡ false = ap (λ (n : ℕ). not (n == 6)) typed.0 ∙ e in
    rw (other) none

-- a set in front of others
in_front : (set : List Record) (sets : List (List Record)) → other_lines (set ∷ sets) ≡ flat_map record_line (filter is_other set) ++ other_lines sets
in_front set sets = ap (flat_map record_line) (filter-append is_other set (records_in sets)) ∙ flat_map-append record_line (filter is_other set) (filter is_other (records_in sets))

pub set_in_front : (rtype : ℕ) (set : List Record) (sets : List (List Record)) → All (λ r. r.rtype ≡ rtype) set → not (rtype == 6) ≡ true → other_lines (set ∷ sets) ≡ flat_map record_line set ++ other_lines sets
set_in_front rtype set sets typed e = in_front set sets ∙ ap (λ (rs : List Record). flat_map record_line rs ++ other_lines sets) (others_all rtype set (recursion_from_All (λ (r : Record). r.rtype ≡ rtype) set typed) e)

pub soa_in_front : (rtype : ℕ) (set : List Record) (sets : List (List Record)) → All (λ r. r.rtype ≡ rtype) set → not (rtype == 6) ≡ false → other_lines (set ∷ sets) ≡ other_lines sets
soa_in_front rtype set sets typed e = in_front set sets ∙ ap (λ (rs : List Record). flat_map record_line rs ++ other_lines sets) (others_none rtype set (recursion_from_All (λ (r : Record). r.rtype ≡ rtype) set typed) e)
