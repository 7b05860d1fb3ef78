-- An owner whose labels stand before a pointer to the zone's name is read as that owner.
use Rattle.std.proofs.Common.{◌≡◌, ℕ, ◌+◌, ◌-◌, ◌<◌, false, List, [], ◌∷◌, ◌++◌, length, take, drop, All, Ok, refl, sym, ap, subst, ◌∙◌, append_assoc, length-append, arith}
use Rattle.std.proofs.Math.Seq.{drop-append_seam}
use Rattle.std.proofs.lemmas.List.{take_at, drop_at}
use Rattle.std.proofs.lemmas.List.Elements.{All-nil, All-head, All-tail}
use Rattle.dns_name.specs.Name.{Name, IsLabel, IsName, wire_of}
use Rattle.wire_names.specs.NameAt.{name_at}
use Rattle.wire_names.specs.Parts.{part_at, part_of, label_at}
use Rattle.wire_names.specs.Spells.{Spells, label, pointer}
use Rattle.wire_names.specs.Table.{IsEntry}
use Rattle.wire_names.proofs.GrammarLemmas.{computed_spelt}
use Rattle.wire_names.proofs.WrittenLemmas.{part_of-label, written_spelt}
use Rattle.zone_change.specs.Message.{owner_octets}

-- labels, each after its length
abbrev pub labels_octets : Name → List ℕ
labels_octets [] = []
labels_octets (own ∷ labels) = length own ∷ own ++ labels_octets labels

-- a pointer to the name that stands after a header (RFC 1035, 4.1.4)
abbrev pub to_zone : List ℕ
to_zone = 192 ∷ 12 ∷ []

wire_under : (labels zone : Name) → wire_of (labels ++ zone) ≡ labels_octets labels ++ wire_of zone
wire_under [] zone = refl
wire_under (own ∷ labels) zone =
    ap (λ (o : List ℕ). length own ∷ own ++ o) (wire_under labels zone) ∙ ap (λ (o : List ℕ). length own ∷ o) (sym (append_assoc own (labels_octets labels) (wire_of zone)))

pub under_long : (labels zone : Name) → length (wire_of (labels ++ zone)) ≡ length (labels_octets labels) + length (wire_of zone)
under_long labels zone = ap length (wire_under labels zone) ∙ length-append (labels_octets labels) (wire_of zone)

pub owner_under : (labels zone : Name) → owner_octets zone (labels ++ zone) ≡ labels_octets labels ++ to_zone
owner_under labels zone =
    let wire = wire_of (labels ++ zone) in
    let before = labels_octets labels in
    let many : length wire - length (wire_of zone) ≡ length before = omega (arith, ap length (wire_under labels zone), length-append before (wire_of zone)) in
    ap (λ (k : ℕ). take k wire ++ to_zone) many
    ∙ (ap (λ (o : List ℕ). take (length before) o ++ to_zone) (wire_under labels zone) ∙ ap (λ (o : List ℕ). o ++ to_zone) (take_at before (wire_of zone) (length before) refl))

part_here : (front octets : List ℕ) → part_at (front ++ octets) (length front) ≡ part_of octets
part_here front octets = ap part_of (drop-append_seam front octets)

label_here : (front own rest : List ℕ) → label_at (front ++ (length own ∷ own ++ rest)) (length front) (length own) ≡ own
label_here front own rest =
    let more = append_assoc front (length own ∷ []) (own ++ rest) in
    let len = length-append front (length own ∷ []) in
    let skip : drop (length front + 1) (front ++ (length own ∷ own ++ rest)) ≡ own ++ rest =
    ap (drop (length front + 1)) (sym more) ∙ drop_at (front ++ length own ∷ []) (own ++ rest) (length front + 1) len in
    ap (take (length own)) skip ∙ take_at own rest (length own) refl

-- the octets of a label, and those after it
one_label : (front own labels rest : List ℕ) → front ++ (((length own ∷ own ++ labels) ++ to_zone) ++ rest) ≡ front ++ (length own ∷ own ++ ((labels ++ to_zone) ++ rest))
one_label front own labels rest = simp append_assoc

spells_under : (whole front rest : List ℕ) (run next : ℕ) (labels zone : Name) → whole ≡ front ++ ((labels_octets labels ++ to_zone) ++ rest) → 12 < run → All IsLabel (labels ++ zone)
    → Spells whole 12 12 zone next → Spells whole run (length front) (labels ++ zone) (length front + (length (labels_octets labels) + 2))
spells_under whole front rest run next [] zone is low lawful there =
    pointer {target = 12} (ap (λ (o : List ℕ). part_at o (length front)) is ∙ part_here front (to_zone ++ rest)) low there refl
spells_under whole front rest run next (own ∷ labels) zone is low lawful there =
    let more = (labels_octets labels ++ to_zone) ++ rest in
    let lies : whole ≡ front ++ (length own ∷ own ++ more) = is ∙ one_label front own (labels_octets labels) rest in
    let deep : whole ≡ (front ++ length own ∷ own) ++ more = lies ∙ sym (append_assoc front (length own ∷ own) more) in
    let place : length (front ++ length own ∷ own) ≡ length front + 1 + length own = omega (arith, length-append front (length own ∷ own)) in
    let end : length (front ++ length own ∷ own) + (length (labels_octets labels) + 2) ≡ length front + (length (length own ∷ own ++ labels_octets labels) + 2) =
    omega (arith, length-append front (length own ∷ own), length-append own (labels_octets labels)) in
    let part =
    ap (λ (o : List ℕ). part_at o (length front)) lies ∙ (part_here front (length own ∷ own ++ more) ∙ part_of-label own more (All-head IsLabel own (labels ++ zone) lawful)) in
    let octets : label_at whole (length front) (length own) ≡ own = ap (λ (o : List ℕ). label_at o (length front) (length own)) lies ∙ label_here front own more in
    let behind = spells_under whole (front ++ length own ∷ own) rest run next labels zone deep low (All-tail IsLabel own (labels ++ zone) lawful) there in
    label part (sym octets)
    (subst (λ (k : ℕ). Spells whole run (length front + 1 + length own) (labels ++ zone) k) end
    (subst (λ (k : ℕ). Spells whole run k (labels ++ zone) (length (front ++ length own ∷ own) + (length (labels_octets labels) + 2))) place behind))

-- the zone's name after a header
pub zone_spelt : (whole head rest : List ℕ) (zone : Name) → length head ≡ 12 → whole ≡ head ++ (wire_of zone ++ rest) → IsName zone
    → Spells whole 12 12 zone (12 + length (wire_of zone))
zone_spelt whole head rest zone twelve is lawful =
    let spelt = written_spelt false head [] rest zone (All-nil (IsEntry head)) lawful in
    subst (λ (k : ℕ). Spells whole k k zone (k + length (wire_of zone))) twelve
    (subst (λ (o : List ℕ). Spells o (length head) (length head) zone (length head + length (wire_of zone))) (sym is) spelt)

pub owner_read : (whole front rest : List ℕ) (next : ℕ) (labels zone : Name) → whole ≡ front ++ ((labels_octets labels ++ to_zone) ++ rest) → 12 < length front → IsName (labels ++ zone)
    → Spells whole 12 12 zone next → name_at whole (length front) ≡ Ok (labels ++ zone, length front + (length (labels_octets labels) + 2))
owner_read whole front rest next labels zone is low lawful there =
    computed_spelt whole (length front) (length front + (length (labels_octets labels) + 2)) (labels ++ zone)
    (spells_under whole front rest (length front) next labels zone is low lawful.labels there) lawful.short
