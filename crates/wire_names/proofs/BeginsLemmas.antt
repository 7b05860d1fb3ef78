-- Names that begin with the same label.
use Rattle.std.proofs.Common.{◌≡◌, ℕ, suc, ◌+◌, ◌-◌, ◌<◌, ◌≤◌, ◌==◌, ◌↔◌, Bool, true, false, not, IsTrue, nat_lt, nat_le, cond, List, [], ◌∷◌, ◌++◌, length, take, drop, get_or, All, Ok, Err, refl, sym, ap, ◌∙◌, arith}
use Rattle.std.specs.Str.{bytes_eq}
use Rattle.std.proofs.lemmas.Slice.Eq.{bytes_eq-Decides}
use Rattle.std.proofs.lemmas.List.{length-append, length-drop, get_or-drop, get_or-take, get_or_append_left, take_at}
use Rattle.std.proofs.lemmas.List.Elements.{All-head}
use Rattle.dns_name.specs.Labels.{labels_in, IsWhole}
use Rattle.dns_name.specs.Name.{Name, wire_of, IsLabel}
use Rattle.dns_name.proofs.LabelLemmas.{wire_of-labels_in, IsLabel_each}
use Rattle.wire_names.specs.Parts.{part_of, label_of, pointer_of, label_at}
use Rattle.wire_names.specs.NameAt.{name_at}
use Rattle.wire_names.specs.Table.{IsLabelAt, spelt_at}
use Rattle.wire_names.specs.declared.part.NameReadFault.TheVariants.{Short, BadLength}
use Rattle.wire_names.specs.declared.part.Part.TheVariants.{Closing, Label}
use Rattle.wire_names.proofs.GrammarLemmas.{IsLabelAt-part, label_size, name_at_spelt}
use Rattle.wire_names.proofs.TableLemmas.{reads_at, spells_label}

-- the first label of a name's octets, where there is one
pub record HasLabel (octets : List ℕ) : Type 0 where
  pub label : List ℕ
  pub name : Name
  pub is : labels_in octets ≡ label ∷ name
  pub octets_are : octets ≡ length label ∷ label ++ wire_of name
  pub lawful : IsLabel label

has_label_if : (octets : List ℕ) (name : Name) → labels_in octets ≡ name → wire_of name ≡ octets → All IsLabel name → 1 < length octets → HasLabel octets
has_label_if octets [] e wire lawful some = let size = ap length wire in absurd (omega arith)
has_label_if octets (label ∷ name) e wire lawful some = record { label = label; name = name; is = e; octets_are = sym wire; lawful = All-head IsLabel label name lawful }

pub HasLabel-whole : (octets : List ℕ) → IsWhole octets → 1 < length octets → HasLabel octets
HasLabel-whole octets whole some = has_label_if octets (labels_in octets) refl (wire_of-labels_in octets whole) (IsLabel_each octets whole) some

length_if : (z s b : Bool) (x n : ℕ) (octets : List ℕ) → cond z (Ok Closing) (cond s (label_of x octets) (cond b (Err BadLength) (pointer_of (x - 192) octets))) ≡ Ok (Label n) → x ≡ n
length_if true s b x n octets e = cc
length_if false true b x n octets e = length_in (nat_le x (length octets)) x n e
  where
    length_in : (b : Bool) (m n : ℕ) → cond b (Ok (Label m)) (Err Short) ≡ Ok (Label n) → m ≡ n
    length_in true m n e = cc
    length_in false m n e = cc
length_if false false true x n octets e = cc
length_if false false false x n [] e = cc
length_if false false false x n (low ∷ octets) e = cc

length_front : (octets : List ℕ) (n : ℕ) → part_of octets ≡ Ok (Label n) → get_or octets 0 0 ≡ n
length_front [] n e = cc
length_front (x ∷ octets) n e = length_if (x == 0) (nat_lt x 64) (nat_lt x 192) x n octets e

-- the label where a name begins, and the name's rest
pub record BeginsAt (msg : List ℕ) (at n : ℕ) : Type 0 where
  pub some : 0 < n
  pub within : at + 1 + n ≤ length msg
  pub first : get_or msg at 0 ≡ n
  pub rest : Name
  pub spelt : spelt_at msg at ≡ label_at msg at n ∷ rest
  pub size : length (label_at msg at n) ≡ n

pub BeginsAt-label : (msg : List ℕ) (at : ℕ) (is : IsLabelAt msg at) → BeginsAt msg at is.len
BeginsAt-label msg at is =
    let there = IsLabelAt-part msg at is.len is.label in
    let read = reads_at msg at (name_at msg at) refl is.read in
    let spells = ((name_at_spelt msg at read.next (spelt_at msg at)).0 read.is).0 in
    let own = spells_label msg at at read.next is.len (spelt_at msg at) is.label spells in
    let zero_is : at ≡ at + 0 = omega arith in
    record {
      some = there.some;
      within = there.within;
      first = ap (λ (i : ℕ). get_or msg i 0) zero_is ∙ sym (get_or-drop at msg 0 0) ∙ length_front (drop at msg) is.len is.label;
      rest = own.rest;
      spelt = own.is;
      size = label_size msg at is.len there;
    }

-- octets of a label
label_octet : (msg : List ℕ) (at n i : ℕ) → i < n → get_or (label_at msg at n) i 0 ≡ get_or msg (at + 1 + i) 0
label_octet msg at n i h = get_or-take n (drop (at + 1) msg) i 0 h ∙ get_or-drop (at + 1) msg i 0

own_octet : (label : List ℕ) (name : Name) (i : ℕ) → i < length label → get_or (length label ∷ label ++ wire_of name) (suc i) 0 ≡ get_or label i 0
own_octet label name i h = get_or_append_left label (wire_of name) 0 i h

-- labels of two octets or more that begin alike, and go on alike
same_by : (xs ys : List ℕ) → length xs ≡ length ys → 2 ≤ length xs → get_or xs 0 0 ≡ get_or ys 0 0 → get_or xs 1 0 ≡ get_or ys 1 0 → drop 2 xs ≡ drop 2 ys → xs ≡ ys
same_by [] ys e some a b r = absurd (omega arith)
same_by (x ∷ []) ys e some a b r = absurd (omega arith)
same_by (x ∷ y ∷ xs) [] e some a b r = cc
same_by (x ∷ y ∷ xs) (z ∷ []) e some a b r = absurd (omega arith)
same_by (x ∷ y ∷ xs) (z ∷ w ∷ ys) e some a b r = cc

same_one : (xs ys : List ℕ) → length xs ≡ 1 → length ys ≡ 1 → get_or xs 0 0 ≡ get_or ys 0 0 → xs ≡ ys
same_one [] ys e f a = cc
same_one (x ∷ []) [] e f a = cc
same_one (x ∷ []) (y ∷ []) e f a = cc
same_one (x ∷ []) (y ∷ z ∷ ys) e f a = absurd (omega arith)
same_one (x ∷ w ∷ xs) ys e f a = absurd (omega arith)

both_empty : (xs ys : List ℕ) → length xs ≡ 0 → length ys ≡ 0 → xs ≡ ys
both_empty [] [] e f = refl
both_empty [] (y ∷ ys) e f = cc
both_empty (x ∷ xs) ys e f = cc

-- whether a name at a position begins with the first label of some octets is whether these are the same
abbrev pub BeginsAlikeAt : List ℕ → ℕ → List ℕ → Bool → Type 0
BeginsAlikeAt msg at octets b = IsTrue b ↔ (take 1 (spelt_at msg at) ≡ take 1 (labels_in octets))

module _ (msg octets : List ℕ) (at : ℕ) (is : IsLabelAt msg at) (whole : IsWhole octets) (some : 1 < length octets) where
  abbrev pub own : HasLabel octets
  own = HasLabel-whole octets whole some

  abbrev pub there : BeginsAt msg at is.len
  there = BeginsAt-label msg at is

  abbrev pub text : List ℕ
  text = label_at msg at is.len

  pub own_length : get_or octets 0 0 ≡ length own.label
  own_length = ap (λ (xs : List ℕ). get_or xs 0 0) own.octets_are

  pub begins_yes : text ≡ own.label → BeginsAlikeAt msg at octets true
  begins_yes same = (λ e. ap (take 1) there.spelt ∙ ap (λ (x : List ℕ). x ∷ []) same ∙ sym (ap (take 1) own.is), λ e. refl)

  pub begins_no : (text ≡ own.label → ⊥) → BeginsAlikeAt msg at octets false
  begins_no differs = (λ e. cc, λ e. absurd (differs (let one : text ∷ [] ≡ own.label ∷ [] = sym (ap (take 1) there.spelt) ∙ e ∙ ap (take 1) own.is in cc)))

  at_octet : (i : ℕ) → i < is.len → get_or text i 0 ≡ get_or msg (at + (1 + i)) 0
  at_octet i h = let same : at + 1 + i ≡ at + (1 + i) = omega arith in label_octet msg at is.len i h ∙ ap (λ (n : ℕ). get_or msg n 0) same

  own_at : (i : ℕ) → i < length own.label → get_or own.label i 0 ≡ get_or octets (1 + i) 0
  own_at i h =
      let next : suc i ≡ 1 + i = omega arith in
      sym (own_octet own.label own.name i h) ∙ ap (λ (n : ℕ). get_or (length own.label ∷ own.label ++ wire_of own.name) n 0) next ∙ ap (λ (xs : List ℕ). get_or xs (1 + i) 0) (sym own.octets_are)

  pub other_length : (n len : ℕ) → n ≡ get_or msg at 0 → len ≡ get_or octets 0 0 → (n ≡ len → ⊥) → BeginsAlikeAt msg at octets false
  other_length n len a b differs = begins_no (λ same. let size = ap length same in let s = there.size in let f = there.first in let o = own_length in absurd (differs (omega arith)))

  pub other_octet : (i : ℕ) → i < is.len → (get_or msg (at + (1 + i)) 0 ≡ get_or octets (1 + i) 0 → ⊥) → BeginsAlikeAt msg at octets false
  other_octet i h differs = begins_no (λ same. let size = ap length same in let s = there.size in
      absurd (differs (sym (at_octet i h) ∙ ap (λ (xs : List ℕ). get_or xs i 0) same ∙ own_at i (omega arith))))

  pub one_octet : (n len : ℕ) → n ≡ get_or msg at 0 → len ≡ get_or octets 0 0 → n ≡ len → len ≡ 1 → get_or msg (at + 1) 0 ≡ get_or octets 1 0 → BeginsAlikeAt msg at octets true
  one_octet n len a b same one first =
      let s = there.size in let f = there.first in let o = own_length in
      begins_yes (same_one text own.label (omega arith) (omega arith) (at_octet 0 (omega arith) ∙ first ∙ sym (own_at 0 (omega arith))))

  pub two_octets : (n len : ℕ) → n ≡ get_or msg at 0 → len ≡ get_or octets 0 0 → n ≡ len → len ≡ 2 → get_or msg (at + 1) 0 ≡ get_or octets 1 0 → get_or msg (at + 2) 0 ≡ get_or octets 2 0 → BeginsAlikeAt msg at octets true
  two_octets n len a b same two first second =
      let s = there.size in let f = there.first in let o = own_length in
      let l = length-drop 2 text in let m = length-drop 2 own.label in
      begins_yes (same_by text own.label (omega arith) (omega arith) (at_octet 0 (omega arith) ∙ first ∙ sym (own_at 0 (omega arith)))
      (at_octet 1 (omega arith) ∙ second ∙ sym (own_at 1 (omega arith))) (both_empty (drop 2 text) (drop 2 own.label) (omega arith) (omega arith)))

  pub own_text : (len : ℕ) → len ≡ get_or octets 0 0 → label_at octets 0 len ≡ own.label
  own_text len b =
      ap (label_at octets 0) (b ∙ own_length) ∙ ap (λ (xs : List ℕ). take (length own.label) (drop 1 xs)) own.octets_are ∙ take_at own.label (wire_of own.name) (length own.label) refl

  pub all_octets : (n len : ℕ) (xs ys : List ℕ) (d : Bool) → n ≡ get_or msg at 0 → len ≡ get_or octets 0 0 → n ≡ len → xs ≡ label_at octets 0 len → ys ≡ label_at msg at len → d ≡ not (bytes_eq xs ys) → BeginsAlikeAt msg at octets (not d)
  all_octets n len xs ys d a b same x y e =
      let size : len ≡ is.len = sym same ∙ a ∙ there.first in
      let left : xs ≡ own.label = x ∙ own_text len b in
      let right : ys ≡ text = y ∙ ap (label_at msg at) size in
      differ_if d (bytes_eq xs ys) refl e left right
    where
      differ_if : (d t : Bool) → bytes_eq xs ys ≡ t → d ≡ not t → xs ≡ own.label → ys ≡ text → BeginsAlikeAt msg at octets (not d)
      differ_if false true t e left right = begins_yes (sym right ∙ sym ((bytes_eq-Decides xs ys).0 t) ∙ left)
      differ_if true true t e left right = cc
      differ_if false false t e left right = cc
      differ_if true false t e left right = begins_no (λ alike. let yes_it = (bytes_eq-Decides xs ys).1 (left ∙ sym alike ∙ sym right) in cc)

  pub label_bounds : (n len : ℕ) → n ≡ get_or msg at 0 → len ≡ get_or octets 0 0 → n ≡ len → (at + 1 + len ≤ length msg) × (0 + 1 + len ≤ length octets)
  label_bounds n len a b same =
      let f = there.first in let o = own_length in let w = there.within in
      let size = ap length own.octets_are in
      let both = length-append own.label (wire_of own.name) in
      (omega arith, omega arith)
