-- The keys of labels.
use Rattle.std.proofs.Common.{◌≡◌, ℕ, ◌+◌, ◌-◌, ◌%◌, ◌^◌, ◌<◌, ◌≤◌, List, [], ◌∷◌, ◌++◌, length, take, drop, get_or, sym, ap, ◌∙◌, arith}
use Rattle.std.proofs.lemmas.List.{length-append, take-append-le}
use Rattle.dns_name.specs.Labels.{labels_in, IsWhole}
use Rattle.dns_name.specs.Name.{wire_of}
use Rattle.dns_name.proofs.LabelLemmas.{wire_of-labels_in}
use Rattle.wire_names.specs.Table.{first_key, first_end, front_key}

-- the key of a label of few octets is their number
key_short_if : (name : List (List ℕ)) (n end : ℕ) → n ≡ get_or (wire_of name) 0 0 → n ≤ 4 → end ≡ first_end name → end < 2 ^ 32 → end ≡ first_key name
key_short_if [] n end own few e low = e
key_short_if (label ∷ name) n end own few e low =
    let none : length label - 4 ≡ 0 = omega arith in
    let front : front_key (take (length label - 4) label) ≡ 0 = ap (λ (k : ℕ). front_key (take k label)) none in
    omega arith

pub key_short : (octets : List ℕ) (n end : ℕ) → IsWhole octets → n ≡ get_or octets 0 0 → n ≤ 4 → end ≡ first_end (labels_in octets) → end < 2 ^ 32 → end ≡ first_key (labels_in octets)
key_short octets n end whole own few e low =
    key_short_if (labels_in octets) n end (own ∙ ap (λ (xs : List ℕ). get_or xs 0 0) (sym (wire_of-labels_in octets whole))) few e low

-- and that of another one is made of their number and of those in front of them
key_long_if : (name : List (List ℕ)) (n front end key : ℕ) (part : List ℕ) → n ≡ get_or (wire_of name) 0 0 → 4 < n → part ≡ take (n - 4) (drop 1 (wire_of name)) → front ≡ front_key part → end ≡ first_end name → key ≡ (front + end) % 2 ^ 32 → key ≡ first_key name
key_long_if [] n front end key part own many p f e k = absurd (omega arith)
key_long_if (label ∷ name) n front end key part own many p f e k =
    let size : n - 4 ≡ length label - 4 = omega arith in
    let within : length label - 4 ≤ length label = omega arith in
    let text : part ≡ take (length label - 4) label = p ∙ ap (λ (m : ℕ). take m (label ++ wire_of name)) size ∙ take-append-le (length label - 4) label (wire_of name) within in
    let own_front : front ≡ front_key (take (length label - 4) label) = f ∙ ap front_key text in
    k ∙ ap (λ (m : ℕ). (m + end) % 2 ^ 32) own_front ∙ ap (λ (m : ℕ). (front_key (take (length label - 4) label) + m) % 2 ^ 32) e

pub key_long : (octets : List ℕ) (n front end key : ℕ) (part : List ℕ) → IsWhole octets → n ≡ get_or octets 0 0 → 4 < n → part ≡ take (n - 4) (drop 1 octets) → front ≡ front_key part → end ≡ first_end (labels_in octets) → key ≡ (front + end) % 2 ^ 32 → key ≡ first_key (labels_in octets)
key_long octets n front end key part whole own many p f e k =
    let wire = wire_of-labels_in octets whole in
    key_long_if (labels_in octets) n front end key part (own ∙ ap (λ (xs : List ℕ). get_or xs 0 0) (sym wire)) many (p ∙ ap (λ (xs : List ℕ). take (n - 4) (drop 1 xs)) (sym wire)) f e k

-- the first label is within the octets
within_if : (name : List (List ℕ)) (n : ℕ) → n ≡ get_or (wire_of name) 0 0 → n < length (wire_of name)
within_if [] n own = omega arith
within_if (label ∷ name) n own = let both = length-append label (wire_of name) in omega arith

pub label_within : (octets : List ℕ) (n : ℕ) → IsWhole octets → n ≡ get_or octets 0 0 → n < length octets
label_within octets n whole own =
    let wire = wire_of-labels_in octets whole in
    let size = ap length wire in
    let first = within_if (labels_in octets) n (own ∙ ap (λ (xs : List ℕ). get_or xs 0 0) (sym wire)) in
    omega arith
