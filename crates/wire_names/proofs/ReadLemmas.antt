-- What the reader of a name keeps: the labels that it has read, and what the octets ahead of it complete.
use Rattle.std.proofs.Common.{◌≡◌, ℕ, ◌+◌, ◌<◌, ◌≤◌, inl, inr, Bool, true, false, IsTrue, List, [], ◌∷◌, ◌++◌, length, All, Option, Some, None, option_map, Ok, refl, sym, ap, subst, ◌∙◌, arith}
use Rattle.std.specs.Bool.{OnTrue}
use Rattle.std.specs.Option.{unwrap_or, IsSome}
use Rattle.std.proofs.lemmas.List.{length-append, append_assoc, append-nil}
use Rattle.std.proofs.lemmas.List.Elements.{All-nil, All-cons, All-append}
use Rattle.dns_name.specs.Gather.{front_of}
use Rattle.dns_name.specs.Labels.{labels_in, IsWhole}
use Rattle.dns_name.specs.Name.{wire_of, IsLabel, IsName, name_in}
use Rattle.dns_name.proofs.GatherLemmas.{front_of-append, wire_of-front}
use Rattle.dns_name.proofs.LabelLemmas.{IsWhole-wire_of, labels_in-wire_of}
use Rattle.dns_name.proofs.LawLemmas.{name_in-wire_of}
use Rattle.wire_names.specs.NameAt.{name_at}
use Rattle.wire_names.specs.Parts.{part_at, label_at}
use Rattle.wire_names.specs.Spells.{Spells, closing, label, pointer, Refuses, too_long, behind_label, bad_pointer, behind_pointer}
use Rattle.wire_names.specs.declared.part.NameReadFault.{NameReadFault}
use Rattle.wire_names.specs.declared.part.NameReadFault.TheVariants.{BadPointer, TooLong}
use Rattle.wire_names.specs.declared.part.Part.TheVariants.{Closing, Label, Pointer}
use Rattle.wire_names.proofs.GrammarLemmas.{IsLabelAt-part, IsLabel-at, label_size, computed_spelt, le_or_lt}

-- on the way: the octets of the labels so far, and what the rest completes
pub record IsUnderWay (msg : List ℕ) (at run place : ℕ) (behind : Option ℕ) (octets : List ℕ) : Type 0 where
  pub labels : List (List ℕ)
  pub lawful : All IsLabel labels
  pub are : octets ≡ front_of labels
  pub room : length octets < 255
  pub found : (ls : List (List ℕ)) (next : ℕ) → Spells msg run place ls next → Spells msg at at (labels ++ ls) (unwrap_or behind next)
  pub refused : (fault : NameReadFault) → Refuses msg run place (length octets) fault → Refuses msg at at 0 fault

-- reading begins
pub UnderWay-start : (msg : List ℕ) (at : ℕ) (octets : List ℕ) → octets ≡ [] → IsUnderWay msg at at at None octets
UnderWay-start msg at octets e =
    let none = ap length e in
    record {
      labels = [];
      lawful = All-nil IsLabel;
      are = e;
      room = omega arith;
      found = λ ls next s. s;
      refused = λ fault r. subst (λ (n : ℕ). Refuses msg at at n fault) none r;
    }

-- a label is read
pub UnderWay-label : (msg : List ℕ) (at run place n : ℕ) (behind : Option ℕ) (octets more own : List ℕ) → IsUnderWay msg at run place behind octets → part_at msg place ≡ Ok (Label n) → own ≡ label_at msg place n → length octets + (length own + 2) ≤ 255 → more ≡ octets ++ length own ∷ own → IsUnderWay msg at run (place + (1 + n)) behind more
UnderWay-label msg at run place n behind octets more own way p e g put =
    let lawful = IsLabel-at msg place n p in
    let size : length own ≡ n = ap length e ∙ label_size msg place n (IsLabelAt-part msg place n p) in
    let next_place : place + (1 + n) ≡ place + 1 + n = omega arith in
    let both = length-append octets (length own ∷ own) in
    let len : length more ≡ length octets + (n + 1) = omega (arith, ap length put) in
    let assoc = append-nil own in
    let front : front_of (own ∷ []) ≡ length own ∷ own = ap (λ (xs : List ℕ). length own ∷ xs) assoc in
    let join = front_of-append way.labels (own ∷ []) in
    let are = way.are in
    record {
      labels = way.labels ++ own ∷ [];
      lawful = All-append IsLabel way.labels (own ∷ []) way.lawful (All-cons IsLabel own [] (subst IsLabel (sym e) lawful) (All-nil IsLabel));
      are = cc;
      room = omega arith;
      found = λ ls next s.
          let on = subst (λ (x : ℕ). Spells msg run x ls next) next_place s in
          let whole = way.found (own ∷ ls) next (label p e on) in
          subst (λ (x : List (List ℕ)). Spells msg at at x (unwrap_or behind next)) (sym (append_assoc way.labels (own ∷ []) ls)) whole;
      refused = λ fault r.
          let on = subst (λ (x : ℕ). Refuses msg run x (length more) fault) next_place r in
          let used = subst (λ (x : ℕ). Refuses msg run (place + 1 + n) x fault) len on in
          way.refused fault (behind_label p (omega arith) used);
    }

-- a pointer is followed
pub UnderWay-pointer : (msg : List ℕ) (at run place target next : ℕ) (behind : Option ℕ) (octets : List ℕ) → IsUnderWay msg at run place behind octets → part_at msg place ≡ Ok (Pointer target) → target < run → next ≡ unwrap_or behind (place + 2) → IsUnderWay msg at target target (Some next) octets
UnderWay-pointer msg at run place target next behind octets way p g e =
    record {
      labels = way.labels;
      lawful = way.lawful;
      are = way.are;
      room = way.room;
      found = λ ls beyond s. subst (λ (x : ℕ). Spells msg at at (way.labels ++ ls) x) (sym e) (way.found ls (place + 2) (pointer p g s refl));
      refused = λ fault r. way.refused fault (behind_pointer p g r);
    }

-- the name is closed
pub record IsClosed (msg : List ℕ) (at : ℕ) (name : List (List ℕ)) (next : ℕ) : Type 0 where
  pub spells : Spells msg at at name next
  pub lawful : IsName name

pub labels_closed : (msg : List ℕ) (at run place : ℕ) (behind : Option ℕ) (octets : List ℕ) (way : IsUnderWay msg at run place behind octets) → octets ++ 0 ∷ [] ≡ wire_of way.labels
labels_closed msg at run place behind octets way =
    let are = way.are in
    let join = wire_of-front way.labels [] in
    let nil = append-nil way.labels in
    let e : wire_of (way.labels ++ []) ≡ wire_of way.labels = ap wire_of nil in
    cc

IsName-way : (msg : List ℕ) (at run place : ℕ) (behind : Option ℕ) (octets : List ℕ) (way : IsUnderWay msg at run place behind octets) → IsName way.labels
IsName-way msg at run place behind octets way =
    let octets_are = ap length (labels_closed msg at run place behind octets way) in
    let both = length-append octets (0 ∷ []) in
    let room = way.room in
    record { labels = way.lawful; short = omega arith }

pub name_in-way : (msg : List ℕ) (at run place : ℕ) (behind : Option ℕ) (octets all : List ℕ) (way : IsUnderWay msg at run place behind octets) → all ≡ octets ++ 0 ∷ [] → name_in all ≡ Some way.labels
name_in-way msg at run place behind octets all way e =
    let closed = labels_closed msg at run place behind octets way in
    let nil = append-nil (wire_of way.labels) in
    let same : all ≡ wire_of way.labels ++ [] = cc in
    ap name_in same ∙ name_in-wire_of way.labels [] (IsName-way msg at run place behind octets way)

pub IsClosed-way : (msg : List ℕ) (at run place next : ℕ) (behind : Option ℕ) (octets all : List ℕ) (name : List (List ℕ)) → IsUnderWay msg at run place behind octets → part_at msg place ≡ Ok Closing → all ≡ octets ++ 0 ∷ [] → Some name ≡ name_in all → next ≡ unwrap_or behind (place + 1) → IsClosed msg at name next
IsClosed-way msg at run place next behind octets all name way p e is n =
    let read = name_in-way msg at run place behind octets all way e in
    let same : way.labels ≡ name = cc in
    let nil = append-nil way.labels in
    let whole = way.found [] (place + 1) (closing p refl) in
    let labels = subst (λ (x : List (List ℕ)). Spells msg at at x (unwrap_or behind (place + 1))) (nil ∙ same) whole in
    record {
      spells = subst (λ (x : ℕ). Spells msg at at name x) (sym n) labels;
      lawful = subst IsName same (IsName-way msg at run place behind octets way);
    }

-- and computed
pub computed_closed : (msg : List ℕ) (at next : ℕ) (name : List (List ℕ)) → IsClosed msg at name next → Ok (name, next) ≡ name_at msg at
computed_closed msg at next name is = sym (computed_spelt msg at next name is.spells is.lawful.short)

-- the octets of a name that is closed, and the name
pub whole_way : (msg : List ℕ) (at run place : ℕ) (behind : Option ℕ) (octets all : List ℕ) (way : IsUnderWay msg at run place behind octets) → all ≡ octets ++ 0 ∷ [] → IsWhole all
whole_way msg at run place behind octets all way e =
    subst IsWhole (sym (e ∙ labels_closed msg at run place behind octets way)) (IsWhole-wire_of way.labels way.lawful)

pub named_way : (msg : List ℕ) (at run place : ℕ) (behind : Option ℕ) (octets all : List ℕ) (name : List (List ℕ)) (way : IsUnderWay msg at run place behind octets) → all ≡ octets ++ 0 ∷ [] → name ≡ labels_in all → Some name ≡ name_in all
named_way msg at run place behind octets all name way e is =
    let labels = ap labels_in (e ∙ labels_closed msg at run place behind octets way) ∙ labels_in-wire_of way.labels way.lawful in
    ap Some (is ∙ labels) ∙ sym (name_in-way msg at run place behind octets all way e)

no_room : (b : Bool) (x : ℕ) → b ≡ false → (x ≤ 255 → IsTrue b) → 255 < x
no_room true x e h = cc
no_room false x e h = elim (le_or_lt x 255) [ inl g ↦ let k : false ≡ true = h g in cc | inr g ↦ g ]

-- a label that has no room is refused
pub refused_label : (msg : List ℕ) (at run place n : ℕ) (behind : Option ℕ) (octets own : List ℕ) (put : Bool) → IsUnderWay msg at run place behind octets → part_at msg place ≡ Ok (Label n) → own ≡ label_at msg place n → put ≡ false → (length octets + (length own + 2) ≤ 255 → IsTrue put) → Refuses msg at at 0 TooLong
refused_label msg at run place n behind octets own put way p e not room =
    let size : length own ≡ n = ap length e ∙ label_size msg place n (IsLabelAt-part msg place n p) in
    let long = no_room put (length octets + (length own + 2)) not room in
    way.refused TooLong (too_long p (omega arith) refl)

-- one that has is read
pub UnderWay-put : (msg : List ℕ) (at run place n : ℕ) (behind : Option ℕ) (octets more own : List ℕ) (put : Bool) → IsUnderWay msg at run place behind octets → part_at msg place ≡ Ok (Label n) → own ≡ label_at msg place n → put ≡ true → (IsTrue put → length octets + (length own + 2) ≤ 255) → OnTrue put (more ≡ octets ++ length own ∷ own) → IsUnderWay msg at run (place + (1 + n)) behind more
UnderWay-put msg at run place n behind octets more own false way p e is room put = cc
UnderWay-put msg at run place n behind octets more own true way p e is room put = UnderWay-label msg at run place n behind octets more own way p e (room refl) put

pub Refused-pointer : (msg : List ℕ) (at run place target : ℕ) (behind : Option ℕ) (octets : List ℕ) → IsUnderWay msg at run place behind octets → part_at msg place ≡ Ok (Pointer target) → run ≤ target → Refuses msg at at 0 BadPointer
Refused-pointer msg at run place target behind octets way p g = way.refused BadPointer (bad_pointer p g refl)
