-- What a run of labels tells of the name that begins with it.
use Rattle.std.proofs.Common.{◌≡◌, ℕ, ◌+◌, ◌<◌, ◌≤◌, inl, inr, true, false, nat_lt, if◌then◌else◌, List, [], ◌∷◌, ◌++◌, length, drop, Some, None, Result, Ok, Err, refl, sym, ap, subst, ◌∙◌, arith}
use Rattle.std.proofs.lemmas.Bool.Decides.{nat_tests}
use Rattle.std.proofs.lemmas.List.{length-append, length-drop, get_or-set_other}
use Rattle.std.proofs.lemmas.Grind.{get_or-set_at}
use Rattle.std.proofs.Common.{slice_set, slice_index}
use Rattle.dns_name.specs.Gather.{front_of}
use Rattle.dns_name.specs.Name.{wire_of}
use Rattle.dns_name.proofs.GatherLemmas.{wire_of-front}
use Rattle.dns_name.proofs.ReadLemmas.{wire_some}
use Rattle.wire_names.specs.NameAt.{name_at}
use Rattle.wire_names.specs.Parts.{part_at, part_of, label_at}
use Rattle.wire_names.specs.declared.part.Part.{Part}
use Rattle.wire_names.specs.Sizes.{size_of, behind_of, AreSizes, joined, size_by, IsRun}
use Rattle.wire_names.specs.Spells.{Refuses, no_part, too_long, bad_pointer}
use Rattle.wire_names.specs.declared.part.NameReadFault.{NameReadFault}
use Rattle.wire_names.specs.declared.part.NameReadFault.TheVariants.{TooLong, BadPointer}
use Rattle.wire_names.specs.declared.part.Part.TheVariants.{Closing, Label, Pointer}
use Rattle.wire_names.specs.declared.pass.Run.{Run}
use Rattle.wire_names.proofs.GrammarLemmas.{Outcome, read, not_read, outcome_behind, computed_spelt, computed_fault, name_at_spelt, apart, le_or_lt, label_size, IsLabelAt-part}
use Rattle.wire_names.proofs.ReadLemmas.{IsUnderWay, UnderWay-start, UnderWay-label, UnderWay-pointer, IsClosed-way, labels_closed, name_in-way}

-- labels of so many octets were passed over
pub record IsPassing (msg : List ℕ) (at place used : ℕ) : Type 0 where
  pub octets : List ℕ
  pub way : IsUnderWay msg at at place None octets
  pub used_is : used ≡ length octets

pub Passing-start : (msg : List ℕ) (at : ℕ) → IsPassing msg at at 0
Passing-start msg at = record { octets = []; way = UnderWay-start msg at [] refl; used_is = refl }

pub Passing-label : (msg : List ℕ) (at place used n : ℕ) → IsPassing msg at place used → part_at msg place ≡ Ok (Label n) → used + (n + 2) ≤ 255 → IsPassing msg at (place + (1 + n)) (used + (n + 1))
Passing-label msg at place used n on p h =
    let own = label_at msg place n in
    let size = label_size msg place n (IsLabelAt-part msg place n p) in
    let is = on.used_is in
    let more = length-append on.octets (length own ∷ own) in
    record {
      octets = on.octets ++ length own ∷ own;
      way = UnderWay-label msg at at place n None on.octets (on.octets ++ length own ∷ own) own on.way p refl (omega arith) refl;
      used_is = omega arith;
    }

-- a fault
no_size : (msg : List ℕ) (at : ℕ) (fault : NameReadFault) → Refuses msg at at 0 fault → size_of (name_at msg at) ≡ 0
no_size msg at fault r = ap size_of (computed_fault msg at fault r)

pub size_fault : (msg : List ℕ) (at place used : ℕ) (fault : NameReadFault) → IsPassing msg at place used → part_at msg place ≡ Err fault → size_of (name_at msg at) ≡ 0
size_fault msg at place used fault on p = no_size msg at fault (on.way.refused fault (no_part p))

pub size_long : (msg : List ℕ) (at place used n : ℕ) → IsPassing msg at place used → part_at msg place ≡ Ok (Label n) → 255 < used + (n + 2) → size_of (name_at msg at) ≡ 0
size_long msg at place used n on p h =
    let is = on.used_is in
    no_size msg at TooLong (on.way.refused TooLong (too_long p (omega arith) refl))

-- what is part of a name stands in the message
some_octets : (octets : List ℕ) (part : Part) → part_of octets ≡ Ok part → 0 < length octets
some_octets [] part p = absurd (cc)
some_octets (x ∷ octets) part p = omega arith

part_within : (msg : List ℕ) (at : ℕ) (part : Part) → part_at msg at ≡ Ok part → at < length msg
part_within msg at part p =
    let some = some_octets (drop at msg) part p in
    let left = length-drop at msg in
    omega arith

-- a name that is known ends where it ends
ends_there : (o : Result (List (List ℕ) × ℕ) NameReadFault) (name : List (List ℕ)) (next : ℕ) (r : List (List ℕ) × ℕ) → o ≡ Ok (name, next) → o ≡ Ok r → r.1 ≡ next
ends_there o name next r e f = let same : Ok r ≡ Ok (name, next) = sym f ∙ e in cc

-- a zero octet
pub run_closing : (msg : List ℕ) (at place used : ℕ) → IsPassing msg at place used → part_at msg place ≡ Ok Closing → IsRun msg at (record { used = used; place = place; target = None })
run_closing msg at place used on p =
    let way = on.way in
    let all = on.octets ++ 0 ∷ [] in
    let closed = IsClosed-way msg at at place (place + 1) None on.octets all way.labels way p refl (sym (name_in-way msg at at place None on.octets all way refl)) refl in
    let wire = ap length (labels_closed msg at at place None on.octets way) in
    let both = length-append on.octets (0 ∷ []) in
    let is = on.used_is in
    let room = way.room in
    let reported = computed_spelt msg at (place + 1) way.labels closed.spells closed.lawful.short in
    record {
      few = omega arith;
      within = part_within msg place Closing p;
      size = ap size_of reported ∙ omega arith;
      behind = λ r e. ends_there (name_at msg at) way.labels (place + 1) r reported e;
    }

-- what a pointer below its run's start tells, by what stands at its target
record IsLed (msg : List ℕ) (at place used target : ℕ) : Type 0 where
  size : size_of (name_at msg at) ≡ joined used (size_of (name_at msg target))
  behind : (r : List (List ℕ) × ℕ) → name_at msg at ≡ Ok r → r.1 ≡ place + 2

joined_short : (used size : ℕ) → 0 < size → used + size ≤ 255 → joined used size ≡ used + size
joined_short used size g h = grind (arith, nat_tests)

joined_long : (used size : ℕ) → 255 < used + size → joined used size ≡ 0
joined_long used size h = grind (arith, nat_tests)

pub joined_none : (used : ℕ) → joined used 0 ≡ 0
joined_none used = refl

-- a fault behind the labels, by what the target spells
not_joined : (msg : List ℕ) (used target : ℕ) (fault : NameReadFault) → Refuses msg target target used fault → (o : Result (List (List ℕ) × ℕ) NameReadFault) → name_at msg target ≡ o → joined used (size_of o) ≡ 0
not_joined msg used target fault r (Err other) e = refl
not_joined msg used target fault r (Ok is) e =
    let spelt = (name_at_spelt msg target (is.1) (is.0)).0 e in
    elim (le_or_lt (used + length (wire_of (is.0))) 255) [
      | inl g ↦ absurd (apart msg target target used (is.1) (is.0) fault spelt.0 g r)
      | inr g ↦ joined_long used (length (wire_of (is.0))) g
    ]

no_name : {A : Type 0} (o : Result (List (List ℕ) × ℕ) NameReadFault) (fault : NameReadFault) (r : List (List ℕ) × ℕ) → o ≡ Err fault → o ≡ Ok r → A
no_name o fault r e f = absurd (cc)

led_by : (msg : List ℕ) (at place used target : ℕ) (octets : List ℕ) → used ≡ length octets → IsUnderWay msg at target target (Some (place + 2)) octets → Outcome msg target target used → IsLed msg at place used target
led_by msg at place used target octets is way (read {next = next} {name = name} s h) =
    let some = wire_some name in
    let there = computed_spelt msg target next name s (omega arith) in
    let whole = way.found name next s in
    let join = wire_of-front way.labels name in
    let front = ap length way.are in
    let both = length-append (front_of way.labels) (wire_of name) in
    let wire = ap length join in
    let long : length (wire_of (way.labels ++ name)) ≡ used + length (wire_of name) = omega arith in
    let reported = computed_spelt msg at (place + 2) (way.labels ++ name) whole (omega arith) in
    record {
      size = ap size_of reported ∙ long ∙ sym (joined_short used (length (wire_of name)) (omega arith) h) ∙ ap (λ o. joined used (size_of o)) (sym there);
      behind = λ r e. ends_there (name_at msg at) (way.labels ++ name) (place + 2) r reported e;
    }
led_by msg at place used target octets is way (not_read {fault = fault} r) =
    let refused = computed_fault msg at fault (way.refused fault (subst (λ (x : ℕ). Refuses msg target target x fault) is r)) in
    record {
      size = ap size_of refused ∙ sym (not_joined msg used target fault r (name_at msg target) refl);
      behind = λ r e. no_name (name_at msg at) fault r refused e;
    }

below_if : (target at x : ℕ) → target < at → (if nat_lt target at then x else 0) ≡ x
below_if target at x g = let t : nat_lt target at ≡ true = grind (arith, nat_tests) in rw t

above_if : (target at x : ℕ) → at ≤ target → (if nat_lt target at then x else 0) ≡ 0
above_if target at x g = let t : nat_lt target at ≡ false = grind (arith, nat_tests) in rw t

-- a pointer
pub run_pointer : (msg : List ℕ) (at place used target : ℕ) → IsPassing msg at place used → part_at msg place ≡ Ok (Pointer target) → IsRun msg at (record { used = used; place = place; target = Some target })
run_pointer msg at place used target on p =
    let is = on.used_is in
    let room = on.way.room in
    elim (le_or_lt at target) [
      | inl up ↦
          let refused = on.way.refused BadPointer (bad_pointer p up refl) in
          record {
            few = omega arith;
            within = part_within msg place (Pointer target) p;
            size = no_size msg at BadPointer refused ∙ sym (above_if target at (joined used (size_of (name_at msg target))) up);
            behind = λ r e. no_name (name_at msg at) BadPointer r (computed_fault msg at BadPointer refused) e;
          }
      | inr down ↦
          let way = UnderWay-pointer msg at at place target (place + 2) None on.octets on.way p down refl in
          let led = led_by msg at place used target on.octets is way (outcome_behind msg target used (omega arith)) in
          record {
            few = omega arith;
            within = part_within msg place (Pointer target) p;
            size = led.size ∙ sym (below_if target at (joined used (size_of (name_at msg target))) down);
            behind = led.behind;
          }
    ]

-- one more place is known
pub more_sizes : (msg sizes : List ℕ) (at size : ℕ) → AreSizes msg sizes at → at < length sizes → size ≡ size_of (name_at msg at) → AreSizes msg (slice_set sizes at size) (at + 1)
more_sizes msg sizes at size are g is =
    λ place h. elim (le_or_lt at place) [
      | inl up ↦
          let same : at ≡ place = omega arith in
          let there : slice_index (slice_set sizes at size) place ≡ size = get_or-set_at sizes at place size 0 (sym same) g in
          there ∙ is ∙ ap (λ x. size_of (name_at msg x)) same
      | inr down ↦
          let there : slice_index (slice_set sizes at size) place ≡ slice_index sizes place = get_or-set_other sizes at place size 0 (λ e. absurd (omega (arith, e))) in
          there ∙ are place down
    ]

-- a name that has no octets has a fault
pub none_behind : (o : Result (List (List ℕ) × ℕ) NameReadFault) → size_of o ≡ 0 → None ≡ behind_of o
none_behind (Ok r) e = let some = wire_some r.0 in absurd (omega (arith, e))
none_behind (Err fault) e = refl

pub up_behind : (msg : List ℕ) (at target : ℕ) (run : Run) → IsRun msg at run → run.target ≡ Some target → at ≤ target → None ≡ behind_of (name_at msg at)
up_behind msg at target run is e up =
    none_behind (name_at msg at) (is.size ∙ ap (size_by msg at run.used) e ∙ above_if target at (joined run.used (size_of (name_at msg target))) up)

led_size : (msg : List ℕ) (at target size : ℕ) (run : Run) → run.target ≡ Some target → target < at → size ≡ size_of (name_at msg target) → size_by msg at run.used run.target ≡ joined run.used size
led_size msg at target size run e down s =
    ap (size_by msg at run.used) e ∙ below_if target at (joined run.used (size_of (name_at msg target))) down ∙ ap (joined run.used) (sym s)

pub not_led_behind : (msg : List ℕ) (at target size : ℕ) (run : Run) → IsRun msg at run → run.target ≡ Some target → target < at → size ≡ size_of (name_at msg target) → joined run.used size ≡ 0 → None ≡ behind_of (name_at msg at)
not_led_behind msg at target size run is e down s none =
    none_behind (name_at msg at) (is.size ∙ led_size msg at target size run e down s ∙ none)
