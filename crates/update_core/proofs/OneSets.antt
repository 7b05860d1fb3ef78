-- What stands of a type among an owner's sets, and what they are with another set in its place.
use Rattle.std.proofs.Common.{◌≡◌, ℕ, ◌<◌, ◌≤◌, Bool, true, false, not, ◌==◌, cond, bytes_eq, List, [], ◌∷◌, length, filter, Option, None, Some, MatchOption, sym, ap, subst, ◌∙◌, arith}
use Rattle.std.specs.List.{find, AllByRecursion}
use Rattle.std.specs.Ordering.{nat_cmp}
use Rattle.dns_name.specs.Name.{Name}
use Rattle.dns_rdata.specs.Limits.{max_set}
use Rattle.dns_rdata.specs.Numbers.{class_IN, class_NONE}
use Rattle.dns_rdata.specs.Record.{Record, rtype_of, without_data}
use Rattle.dns_rdata.specs.Raw.{RawRecord}
use Rattle.zone_tree.specs.Zone.{is_of, rrset_of, rrsets_of}
use Rattle.zone_tree.specs.Sets.{records_in, IsRRset}
use Rattle.zone_tree.specs.Edit.{put_at, AreOwn}
use Rattle.zone_tree.proofs.Rising.{each_filter}
use Rattle.update_core.specs.Applied.{set_behind}
use Rattle.update_core.specs.Overlay.{set_or_none, set_left, change_for, changed_sets, IsChanged}
use Rattle.update_core.proofs.ZoneParts.{each_passes}
use Rattle.update_core.proofs.RowEffects.{first_of, own_behind}
use Rattle.update_core.proofs.OwnSets.{put_over}
use Rattle.update_core.proofs.OverlayLooks.{set_found}

-- the set of a type that is found is all that the zone has of it
pub old_is : (zone : List Record) (owner : Name) (own : List (List Record)) → AreOwn owner own → records_in own ≡ rrsets_of zone owner → (rtype : ℕ) (old : Option (List Record)) → old ≡ find (λ s. rtype_of s == rtype) own
    → set_or_none old ≡ rrset_of zone owner rtype
old_is zone owner own mine is rtype old e = by old (set_found zone owner own mine is rtype old e)
  where
    by : (old : Option (List Record)) → MatchOption old (rrset_of zone owner rtype ≡ []) (λ s. (s ≡ rrset_of zone owner rtype) × (rrset_of zone owner rtype ≡ [] → ⊥)) → set_or_none old ≡ rrset_of zone owner rtype
    by None h = sym h
    by (Some s) h = h.0

-- by another number of the type
pub found_as : (own : List (List Record)) (old : Option (List Record)) (t u : ℕ) → t ≡ u → old ≡ find (λ s. rtype_of s == t) own → old ≡ find (λ s. rtype_of s == u) own
found_as own old t u e is = is ∙ (λ i. find (λ (s : List Record). rtype_of s == e i) own)

pub kept_as : (own kept : List (List Record)) (t u : ℕ) → t ≡ u → kept ≡ filter (λ s. not (rtype_of s == t)) own → kept ≡ filter (λ s. not (rtype_of s == u)) own
kept_as own kept t u e is = is ∙ (λ i. filter (λ (s : List Record). not (rtype_of s == e i)) own)

-- the sets with another one in its place, or without it
pub put_is : (r : RawRecord) (own kept next : List (List Record)) (set : List Record) → kept ≡ filter (λ s. not (rtype_of s == r.rtype)) own → rtype_of set ≡ r.rtype → 0 < length set
    → next ≡ put_at (λ s. nat_cmp (rtype_of s) (rtype_of set)) (set ∷ []) kept → next ≡ changed_sets own (change_for r set)
put_is r own kept next [] is typed some e = absurd (omega arith)
put_is r own kept next (s ∷ set) is typed some e = e ∙ put_over own kept (s ∷ set) (is ∙ (λ i. filter (λ (u : List Record). not (rtype_of u == sym typed i)) own))

pub gone_is : (r : RawRecord) (own next : List (List Record)) (set : List Record) → set ≡ [] → next ≡ filter (λ s. not (rtype_of s == r.rtype)) own → next ≡ changed_sets own (change_for r set)
gone_is r own next set none is = is ∙ ap (λ (set : List Record). changed_sets own (change_for r set)) (sym none)

-- the set behind a record has its type
pub left_typed : (zone : List Record) (r : RawRecord) → 0 < length (set_left zone r) → rtype_of (set_left zone r) ≡ r.rtype
left_typed zone r some = (first_of r.owner r.rtype (set_left zone r) some (by (r.class == class_IN) (r.class == class_NONE))).1
  where
    by : (a b : Bool) → AllByRecursion (λ s. is_of r.owner r.rtype s ≡ true) (cond a (set_behind zone r) (cond b (without_data (rrset_of zone r.owner r.rtype) r.octets) []))
    by true b = own_behind zone r
    by false true = each_filter (λ s. not (bytes_eq r.octets s.rdata)) (λ s. is_of r.owner r.rtype s ≡ true) (rrset_of zone r.owner r.rtype) (each_passes r.owner r.rtype (is_of r.owner r.rtype) zone)
    by false false = tt

-- the sets are those behind the record
pub changed_put : (zone : List Record) (r : RawRecord) (own kept next : List (List Record)) (set : List Record) → kept ≡ filter (λ s. not (rtype_of s == r.rtype)) own → set ≡ set_left zone r → IsRRset set × (length set ≤ max_set)
    → next ≡ put_at (λ s. nat_cmp (rtype_of s) (rtype_of set)) (set ∷ []) kept → IsChanged zone r own next
changed_put zone r own kept next set is left lawful e =
    let some : 0 < length (set_left zone r) = subst (λ (l : List Record). 0 < length l) left lawful.0.some in
    (put_is r own kept next set is (ap rtype_of left ∙ left_typed zone r some) lawful.0.some e ∙ ap (λ (l : List Record). changed_sets own (change_for r l)) left, λ _. subst (λ (l : List Record). IsRRset l × (length l ≤ max_set)) left lawful)

pub changed_gone : (zone : List Record) (r : RawRecord) (own next : List (List Record)) → [] ≡ set_left zone r → next ≡ filter (λ s. not (rtype_of s == r.rtype)) own → IsChanged zone r own next
changed_gone zone r own next left is = (gone_is r own next (set_left zone r) (sym left) is, λ some. absurd (omega (arith, ap length left)))
