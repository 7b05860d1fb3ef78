-- The zone that a change is to lead to, by the serials, and what changes to it.
use Rattle.std.proofs.Common.{◌≡◌, refl, sym, ap, ◌∙◌, subst, ℕ, ◌<◌, Bool, true, false, nat_lt, cond, List, [], ◌∷◌, ◌++◌, length, All, arith, true≢false}
use Rattle.std.specs.List.{AllByRecursion}
use Rattle.std.specs.Cmp.Lexicographic.{pointwise}
use Rattle.std.proofs.lemmas.Bool.Decides.{nat_tests}
use Rattle.std.proofs.lemmas.List.Elements.{recursion_from_All}
use Rattle.dns_rdata.specs.Record.{Record}
use Rattle.dns_rdata.specs.SerialOrder.{serial_less, serial_next}
use Rattle.zone_tree.specs.Zone.{IsZone, soa_of}
use Rattle.zone_tree.specs.Change.{is_same_record, left_out}
use Rattle.zone_tree.specs.Sets.{records_in, IsRRset}
use Rattle.zone_tree.specs.Version.{zone_serial, Changes, AreChanges}
use Rattle.zone_tree.proofs.DeltaLemmas.{left_out_itself}
use Rattle.update_core.specs.Act.{at_serial}
use Rattle.update_core.proofs.ActKeeps.{serial_zone}
use Rattle.update_core.proofs.SerialLaw.{next_serial_less}
use Rattle.zone_change.specs.Change.{aimed}
use Rattle.zone_change.proofs.Lists.{by_false}
use Rattle.zone_change.proofs.Steps.{plain}
use Rattle.zone_change.proofs.Law.{pointwise_itself, pointwise_one}
use Rattle.zone_change.proofs.Serials.{out_of_serial, serial_left_out, soa_at, one_zone}

module _ (old next : List Record) where
  abbrev here : List Record
  here = at_serial (zone_serial old) next

  abbrev after : List Record
  after = at_serial (serial_next (zone_serial old)) next

  pub aimed_less : serial_less (zone_serial old) (zone_serial next) ≡ true → aimed old next ≡ next
  aimed_less e = ap (λ b. cond b next (cond (pointwise is_same_record old here) old after)) e

  pub aimed_same : serial_less (zone_serial old) (zone_serial next) ≡ false → pointwise is_same_record old here ≡ true → aimed old next ≡ old
  aimed_same e f = λ i. cond (e i) next (cond (f i) old after)

  pub aimed_after : serial_less (zone_serial old) (zone_serial next) ≡ false → pointwise is_same_record old here ≡ false → aimed old next ≡ after
  aimed_after e f = λ i. cond (e i) next (cond (f i) old after)

-- a serial isn't less than itself, so a zone of a greater one is another
not_less : (n : ℕ) → serial_less n n ≡ false
not_less n = let none : nat_lt n n ≡ false = grind (arith, nat_tests) in rw none refl

pub another : (old next : List Record) → serial_less (zone_serial old) (zone_serial next) ≡ true → next ≡ old → ⊥
another old next e is = true≢false (sym e ∙ ap (λ z. serial_less (zone_serial old) (zone_serial z)) is ∙ not_less (zone_serial old))

pub another_after : (old next : List Record) → IsZone old → IsZone next → after old next ≡ old → ⊥
another_after old next h k is = another old (after old next) (next_serial_less old next h k) is

-- changes to a zone are those to it at another serial
pub changes_at : (n : ℕ) (d : Changes) (old next : List Record) → AreChanges d old next → AreChanges d old (at_serial n next)
changes_at n d old next h = record {
  old_soa = h.old_soa;
  deletions = h.deletions ∙ sym (out_of_serial n old next);
  additions = h.additions ∙ sym (serial_left_out n next old);
}

-- two zones differ in nothing but a serial where nothing goes or comes, and the SOA is the same at that serial
module _ (d : Changes) (old next : List Record) (h : IsZone old) (k : IsZone next) (is : AreChanges d old next) where
  at : IsZone (here old next)
  at = (serial_zone (zone_serial old) next k).is

  pub same_from : d.deletions ≡ [] → d.additions ≡ [] → at_serial (zone_serial old) (soa_of next) ≡ soa_of old → pointwise is_same_record old (here old next) ≡ true
  same_from none nothing soa =
      let one = one_zone old (here old next) (plain old h) (plain (here old next) at) (sym soa ∙ sym (soa_at (zone_serial old) next))
      (out_of_serial (zone_serial old) old next ∙ sym is.deletions ∙ none) (serial_left_out (zone_serial old) next old ∙ sym is.additions ∙ nothing) in
      subst (λ z. pointwise is_same_record old z ≡ true) one (pointwise_itself old)

  one_from : pointwise is_same_record old (here old next) ≡ true → old ≡ here old next
  one_from e = pointwise_one old (here old next) (plain old h).lawful (plain (here old next) at).lawful e

  pub no_deletions : pointwise is_same_record old (here old next) ≡ true → d.deletions ≡ []
  no_deletions e = is.deletions ∙ sym (out_of_serial (zone_serial old) old next) ∙ ap (left_out old) (sym (one_from e)) ∙ left_out_itself old

  pub no_additions : pointwise is_same_record old (here old next) ≡ true → d.additions ≡ []
  no_additions e = is.additions ∙ sym (serial_left_out (zone_serial old) next old) ∙ ap (λ z. left_out z old) (sym (one_from e)) ∙ left_out_itself old

  pub same_soa : pointwise is_same_record old (here old next) ≡ true → at_serial (zone_serial old) (soa_of next) ≡ soa_of old
  same_soa e = sym (soa_at (zone_serial old) next) ∙ ap soa_of (sym (one_from e))

  -- by what a test tells of what goes and comes
  pub same_by : (b : Bool) → (b ≡ true → (d.deletions ≡ []) × (d.additions ≡ [])) → (b ≡ false → d.deletions ≡ [] → d.additions ≡ [] → ⊥) → at_serial (zone_serial old) (soa_of next) ≡ soa_of old → b ≡ pointwise is_same_record old (here old next)
  same_by true f g soa = let none = f refl in sym (same_from none.0 none.1 soa)
  same_by false f g soa = sym (by_false (pointwise is_same_record old (here old next)) (λ e. g refl (no_deletions e) (no_additions e)))

  pub other_soa : (at_serial (zone_serial old) (soa_of next) ≡ soa_of old → ⊥) → false ≡ pointwise is_same_record old (here old next)
  other_soa f = sym (by_false (pointwise is_same_record old (here old next)) (λ e. f (same_soa e)))

-- what changes to a zone, and its SOA; the zone has other records
abbrev pub IsChange : Changes → List Record → List Record → List Record → Type 0
IsChange d soa old aim = AreChanges d old aim × (soa ≡ soa_of aim) × (pointwise is_same_record old aim ≡ false)

apart_from : (old aim : List Record) → IsZone old → IsZone aim → (aim ≡ old → ⊥) → pointwise is_same_record old aim ≡ false
apart_from old aim h k f = by_false (pointwise is_same_record old aim) (λ e. f (sym (pointwise_one old aim (plain old h).lawful (plain aim k).lawful e)))

pub change_less : (d : Changes) (soa old next : List Record) → IsZone old → IsZone next → serial_less (zone_serial old) (zone_serial next) ≡ true → AreChanges d old next → soa ≡ soa_of next → IsChange d soa old (aimed old next)
change_less d soa old next h k e is are = subst (IsChange d soa old) (sym (aimed_less old next e)) (is, are, apart_from old next h k (another old next e))

pub change_after : (d : Changes) (soa old next : List Record) → IsZone old → IsZone next → serial_less (zone_serial old) (zone_serial next) ≡ false → pointwise is_same_record old (at_serial (zone_serial old) next) ≡ false → AreChanges d old next
    → soa ≡ at_serial (serial_next (zone_serial old)) (soa_of next) → IsChange d soa old (aimed old next)
change_after d soa old next h k e f is are =
    subst (IsChange d soa old) (sym (aimed_after old next e f))
    (changes_at (serial_next (zone_serial old)) d old next is, are ∙ sym (soa_at (serial_next (zone_serial old)) next), apart_from old (after old next) h (serial_zone (serial_next (zone_serial old)) next k).is (another_after old next h k))

-- sets that have no record are none
pub no_sets : (sets : List (List Record)) → All IsRRset sets → records_in sets ≡ [] → length sets ≡ 0
no_sets sets h e = by sets (recursion_from_All IsRRset sets h) e
  where
    some : (set rest : List Record) → 0 < length set → set ++ rest ≡ [] → ⊥
    some [] rest l f = absurd (omega arith)
    some (r ∷ set) rest l f = cc

    by : (ss : List (List Record)) → AllByRecursion IsRRset ss → records_in ss ≡ [] → length ss ≡ 0
    by [] k f = refl
    by (set ∷ ss) k f = absurd (some set (records_in ss) k.0.some f)
