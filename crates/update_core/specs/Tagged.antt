-- An order of owners that costs little to tell: by a number that a name's octets make, and then that of names (own).
use Rattle.std.specs.Prelude.{◌≡◌, ℕ, ◌+◌, ◌*◌, ◌^◌, ◌%◌, false, List, [], ◌∷◌, reverse}
use Rattle.std.specs.List.{flat_map}
use Rattle.std.specs.Cmp.{IsTotalOrder}
use Rattle.std.specs.Ordering.{nat_cmp, is_eq, ordering_then}
use Rattle.std.specs.declared.cmp.Ordering.{Ordering}
use Rattle.std.specs.declared.cmp.Ordering.TheVariants.{Less, Equal, Greater}
use Rattle.std.proofs.Common.{refl, sym, ap, ◌∙◌}
use Rattle.std.proofs.lemmas.Cmp.{nat_cmp_total, on_total, then_total, tied_itself}
use Rattle.dns_name.specs.Name.{Name, canonical_cmp, is_same}
use Rattle.dns_name.specs.Order.{canonical_total, is_same_tied, is_same_Decides}
use Rattle.dns_name.specs.Stored.{stored_label, stored_of}

-- the number that octets make after others that made one
abbrev pub tag_from : ℕ → List ℕ → ℕ
tag_from tag [] = tag
tag_from tag (octet ∷ octets) = tag_from ((tag * 31 % 2 ^ 64 + octet) % 2 ^ 64) octets

-- the number of a name: that of the octets that a zone keeps for it
abbrev pub tag_of : Name → ℕ
tag_of name = tag_from 0 (stored_of name)

abbrev pub tagged_cmp : Name → Name → Ordering
tagged_cmp a b = ordering_then (nat_cmp (tag_of a) (tag_of b)) (canonical_cmp a b)

-- it is total
pub tagged_total : IsTotalOrder tagged_cmp
tagged_total = then_total (on_total tag_of nat_cmp_total) canonical_total

-- and ties the names that are the same
pub same_tag : (a b : Name) → canonical_cmp a b ≡ Equal → tag_of a ≡ tag_of b
same_tag a b e = ap (λ (n : Name). tag_from 0 (flat_map stored_label (reverse n))) ((is_same_Decides a b).0 (is_same_tied a b ∙ ap is_eq e))

pub same_at : (a b : Name) → is_eq (tagged_cmp a b) ≡ is_eq (canonical_cmp a b)
same_at a b = by (canonical_cmp a b) refl
  where
    apart : (o p : Ordering) → is_eq p ≡ false → is_eq (ordering_then o p) ≡ false
    apart Less p e = refl
    apart Equal p e = e
    apart Greater p e = refl

    by : (p : Ordering) → canonical_cmp a b ≡ p → is_eq (ordering_then (nat_cmp (tag_of a) (tag_of b)) p) ≡ is_eq p
    by Less e = apart (nat_cmp (tag_of a) (tag_of b)) Less refl
    by Greater e = apart (nat_cmp (tag_of a) (tag_of b)) Greater refl
    by Equal e = ap (λ o. is_eq (ordering_then o Equal)) (ap (λ t. nat_cmp t (tag_of b)) (same_tag a b e) ∙ tied_itself nat_cmp_total (tag_of b))

pub same_tied : (a b : Name) → is_same a b ≡ is_eq (tagged_cmp a b)
same_tied a b = is_same_tied a b ∙ sym (same_at a b)
