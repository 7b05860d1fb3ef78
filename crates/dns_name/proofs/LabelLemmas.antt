-- How octets and the labels in them go together.
use Rattle.std.proofs.Common.{◌≡◌, ℕ, ◌*◌, ◌<◌, List, [], ◌∷◌, ◌++◌, length, take, drop, map, nat_lt, Bool, true, false, ◌≤◌, All, Option, Some, None, refl, sym, ap, subst, ◌∙◌, arith}
use Rattle.std.specs.Char.{to_ascii_lowercase}
use Rattle.std.specs.List.{refill}
use Rattle.std.proofs.lemmas.List.{length-append, length-map, drop_all, append-nil, take_all, take_at, drop_at, map-append}
use Rattle.std.proofs.lemmas.List.Elements.{All-nil, All-cons, All-head, All-tail, All-map, All-weaker}
use Rattle.std.proofs.lemmas.Str.Ascii.{lowercase_is, lowercase_ascii}
use Rattle.std.proofs.lemmas.Bool.Decides.{nat_tests}
use Rattle.dns_name.specs.Labels.{labels_in, IsWhole}
use Rattle.dns_name.specs.Name.{wire_of, IsLabel, fold_name, labels_read}
use Rattle.dns_name.proofs.ReadLemmas.{wire_some, IsRead-from, labels_read-wire_of}

-- the octets of the labels in octets are those octets
pub wire_of-labels_in : (octets : List ℕ) → IsWhole octets → wire_of (labels_in octets) ≡ octets
wire_of-labels_in octets h =
    let read = IsRead-from 0 octets (labels_in octets, []) h in
    sym (read.stand ∙ append-nil (wire_of (labels_in octets)))

-- each of them is a label
pub IsLabel_each : (octets : List ℕ) → IsWhole octets → All IsLabel (labels_in octets)
IsLabel_each octets h = (IsRead-from 0 octets (labels_in octets, []) h).labels

-- an octet is left where whole labels are
pub IsWhole_longer : (octets : List ℕ) → IsWhole octets → 0 < length octets
IsWhole_longer octets h =
    let some = wire_some (labels_in octets) in
    let len = ap length (wire_of-labels_in octets h) in
    omega arith

-- the labels in a name's octets are the name
read_whole : (name : List (List ℕ)) → All IsLabel name → labels_read 0 (wire_of name) ≡ Some (name, [])
read_whole name h = ap (labels_read 0) (sym (append-nil (wire_of name))) ∙ labels_read-wire_of name [] h

pub labels_in-wire_of : (name : List (List ℕ)) → All IsLabel name → labels_in (wire_of name) ≡ name
labels_in-wire_of name h = ap (λ (r : Option (List (List ℕ) × List ℕ)). elim r [ Some read ↦ read.0 | None ↦ [] ]) (read_whole name h)

-- and those octets are whole
pub IsWhole-wire_of : (name : List (List ℕ)) → All IsLabel name → IsWhole (wire_of name)
IsWhole-wire_of name h = read_whole name h ∙ ap (λ (n : List (List ℕ)). Some (n, [])) (sym (labels_in-wire_of name h))

-- a length octet is below the letters
lower_length : (n : ℕ) → n < 64 → to_ascii_lowercase n ≡ n
lower_length n h = (lowercase_is n).1 (omega arith)

-- the octets of a folded name are the folded octets
pub wire_of-fold : (name : List (List ℕ)) → All IsLabel name → wire_of (fold_name name) ≡ map to_ascii_lowercase (wire_of name)
wire_of-fold [] h = refl
wire_of-fold (label ∷ name) h =
    let head = All-head IsLabel label name h in
    let len = length-map label to_ascii_lowercase in
    let lower = lower_length (length label) head.short in
    let both = map-append to_ascii_lowercase label (wire_of name) in
    let rest = wire_of-fold name (All-tail IsLabel label name h) in
    cc

pub fold_labels : (name : List (List ℕ)) → All IsLabel name → All IsLabel (fold_name name)
fold_labels name h =
    All-map IsLabel (map to_ascii_lowercase) name
    (All-weaker IsLabel (λ (label : List ℕ). IsLabel (map to_ascii_lowercase label)) (λ (label : List ℕ) is. let len = length-map label to_ascii_lowercase in record { some = omega (arith, is.some); short = omega (arith, is.short) }) name h)

-- what stands at a length octet: the label behind it, then whole labels again
pub record HasFirst (n : ℕ) (octets : List ℕ) : Type 0 where
  pub labels : labels_in (n ∷ octets) ≡ take n octets ∷ labels_in (drop n octets)
  pub behind : IsWhole (drop n octets)
  pub short : n < 64
  pub within : n < length octets

first_of : (n : ℕ) (octets : List ℕ) (name : List (List ℕ)) → All IsLabel name → labels_in (n ∷ octets) ≡ name → wire_of name ≡ n ∷ octets → (n ≡ 0 → ⊥) → HasFirst n octets
first_of n octets [] h is e ne = absurd (ne cc)
first_of n octets (label ∷ name) h is e ne =
    let head = All-head IsLabel label name h in
    let rest = All-tail IsLabel label name h in
    let len : length label ≡ n = cc in
    let octets_are : label ++ wire_of name ≡ octets = cc in
    let front : take n octets ≡ label = ap (take n) (sym octets_are) ∙ take_at label (wire_of name) n len in
    let behind : drop n octets ≡ wire_of name = ap (drop n) (sym octets_are) ∙ drop_at label (wire_of name) n len in
    let name_is : labels_in (drop n octets) ≡ name = ap labels_in behind ∙ labels_in-wire_of name rest in
    let whole : IsWhole (drop n octets) = subst IsWhole (sym behind) (IsWhole-wire_of name rest) in
    let both = length-append label (wire_of name) in
    let all = ap length octets_are in
    let some = wire_some name in
    let short = head.short in
    record {
      labels = is ∙ ap (λ (l : List ℕ). l ∷ name) (sym front) ∙ ap (λ (ls : List (List ℕ)). take n octets ∷ ls) (sym name_is);
      behind = whole;
      short = omega arith;
      within = omega arith;
    }

pub HasFirst-at : (n : ℕ) (octets : List ℕ) → (n ≡ 0 → ⊥) → IsWhole (n ∷ octets) → HasFirst n octets
HasFirst-at n octets ne h = first_of n octets (labels_in (n ∷ octets)) (IsLabel_each (n ∷ octets) h) refl (wire_of-labels_in (n ∷ octets) h) ne

-- only the root has a single octet
alone_nil : (name : List (List ℕ)) → length (wire_of name) ≡ 1 → name ≡ []
alone_nil [] e = refl
alone_nil (label ∷ name) e =
    let both = length-append label (wire_of name) in
    let some = wire_some name in
    absurd (omega arith)

pub root_alone : (octets : List ℕ) → IsWhole octets → length octets ≡ 1 → labels_in octets ≡ []
root_alone octets h e = let len = ap length (wire_of-labels_in octets h) in alone_nil (labels_in octets) (len ∙ e)

pub alone_root : (octets : List ℕ) → IsWhole octets → labels_in octets ≡ [] → length octets ≡ 1
alone_root octets h e = ap length (sym (wire_of-labels_in octets h) ∙ ap wire_of e)

-- a buffer that is folded in its place
pub refill_folded : (octets folded : List ℕ) → folded ≡ map to_ascii_lowercase octets → refill (length octets) octets folded ≡ map to_ascii_lowercase octets
refill_folded octets folded e =
    let len = length-map octets to_ascii_lowercase in
    let size : length folded ≡ length octets = cc in
    let none = drop_all (length folded) octets (omega arith) in
    let nil = append-nil folded in
    let all = take_all (length octets) folded (omega arith) in
    cc

-- whole octets are at least two for each label, and one
few_of : (name : List (List ℕ)) → All IsLabel name → 2 * length name < length (wire_of name)
few_of [] h = omega arith
few_of (label ∷ name) h =
    let head = All-head IsLabel label name h in
    let some = head.some in
    let both = length-append label (wire_of name) in
    let rest = few_of name (All-tail IsLabel label name h) in
    omega arith

pub labels_few : (octets : List ℕ) → IsWhole octets → 2 * length (labels_in octets) < length octets
labels_few octets h =
    let few = few_of (labels_in octets) (IsLabel_each octets h) in
    let len = ap length (wire_of-labels_in octets h) in
    omega arith

-- octets are below 256
abbrev AreOctets : List ℕ → Type 0
AreOctets octets = All (λ octet. octet < 256) octets

pub octets_front : (xs ys : List ℕ) → All (λ octet. octet < 256) (xs ++ ys) → All (λ octet. octet < 256) xs
octets_front [] ys h = All-nil (λ (octet : ℕ). octet < 256)
octets_front (x ∷ xs) ys h =
    All-cons (λ (octet : ℕ). octet < 256) x xs (All-head (λ (octet : ℕ). octet < 256) x (xs ++ ys) h)
    (octets_front xs ys (All-tail (λ (octet : ℕ). octet < 256) x (xs ++ ys) h))

pub octets_back : (xs ys : List ℕ) → All (λ octet. octet < 256) (xs ++ ys) → All (λ octet. octet < 256) ys
octets_back [] ys h = h
octets_back (x ∷ xs) ys h = octets_back xs ys (All-tail (λ (octet : ℕ). octet < 256) x (xs ++ ys) h)

-- what is below 256 on the wire is so in the labels
pub AreOctets-name : (name : List (List ℕ)) → All (λ octet. octet < 256) (wire_of name) → All (All (λ octet. octet < 256)) name
AreOctets-name [] h = All-nil AreOctets
AreOctets-name (label ∷ name) h =
    let behind = All-tail (λ (octet : ℕ). octet < 256) (length label) (label ++ wire_of name) h in
    All-cons AreOctets label name (octets_front label (wire_of name) behind) (AreOctets-name name (octets_back label (wire_of name) behind))

-- folding keeps octets below 256
lower_octet_by : (c : ℕ) (b : Bool) → nat_lt c 128 ≡ b → c < 256 → to_ascii_lowercase c < 256
lower_octet_by c true t h = let few : c < 128 = grind (arith, nat_tests) in omega (arith, lowercase_ascii c few)
lower_octet_by c false t h = let more : 128 ≤ c = grind (arith, nat_tests) in rw ((lowercase_is c).2 (omega arith)) h

pub AreOctets-label : (label : List ℕ) → All (λ octet. octet < 256) label → All (λ octet. octet < 256) (map to_ascii_lowercase label)
AreOctets-label label h =
    All-map (λ (octet : ℕ). octet < 256) to_ascii_lowercase label
    (All-weaker (λ (octet : ℕ). octet < 256) (λ (octet : ℕ). to_ascii_lowercase octet < 256) (λ (c : ℕ) small. lower_octet_by c (nat_lt c 128) refl small) label h)

pub AreOctets-fold : (name : List (List ℕ)) → All (All (λ octet. octet < 256)) name → All (All (λ octet. octet < 256)) (fold_name name)
AreOctets-fold name h = All-map AreOctets (map to_ascii_lowercase) name (All-weaker AreOctets (λ (label : List ℕ). AreOctets (map to_ascii_lowercase label)) AreOctets-label name h)
