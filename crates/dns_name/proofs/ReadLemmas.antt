-- What a name takes of the octets that it is read from.
use Rattle.std.proofs.Common.{◌≡◌, ℕ, zero, suc, ◌+◌, ◌<◌, ◌≤◌, Bool, true, false, cond, nat_lt, nat_le, List, [], ◌∷◌, ◌++◌, length, get_or, take, drop, All, Option, Some, None, option_map, option_and_then, refl, sym, ap, subst, ◌∙◌, arith}
use Rattle.std.proofs.lemmas.Bool.Decides.{nat_tests, Decides-ltb}
use Rattle.std.proofs.lemmas.List.{length-append, append_assoc, length-take-le, take-append-drop, take_at, drop-drop, drop_more, get_or_read}
use Rattle.std.proofs.lemmas.List.Elements.{All-nil, All-cons, All-head, All-tail}
use Rattle.dns_name.specs.Name.{wire_of, IsLabel, IsName, labels_read, name_in}

-- what the parts of an `Option` say where the whole is `Some`
pub map_some : {A B : Type 0} (f : A → B) (o : Option A) (y : B) → option_map f o ≡ Some y → (x : A) × (o ≡ Some x) × (f x ≡ y)
map_some f None y e = cc
map_some f (Some x) y e = (x, refl, cc)

pub cond_is_some : {A : Type 0} (b : Bool) (o : Option A) (y : A) → cond b o None ≡ Some y → (b ≡ true) × (o ≡ Some y)
cond_is_some true o y e = (refl, e)
cond_is_some false o y e = cc

leb_le : (a b : ℕ) → nat_le a b ≡ true → a ≤ b
leb_le a b e = grind (arith, nat_tests)

-- how many octets the labels take that the octets begin with, with the zero octet behind them
abbrev pub len_of : List (List ℕ) → ℕ
len_of name = length (wire_of name)

abbrev pub len_read : List ℕ → Option ℕ
len_read octets = option_map (λ read. len_of read.0) (labels_read 0 octets)

labels_read-drop : (k : ℕ) (octets : List ℕ) → labels_read k octets ≡ labels_read 0 (drop k octets)
labels_read-drop zero octets = refl
labels_read-drop (suc k) [] = refl
labels_read-drop (suc k) (x ∷ octets) = labels_read-drop k octets

labels_read_longer : (k : ℕ) (octets : List ℕ) (read : List (List ℕ) × List ℕ) → labels_read k octets ≡ Some read → k < length octets
labels_read_longer k [] read e = cc
labels_read_longer zero (x ∷ octets) read e = omega arith
labels_read_longer (suc k) (x ∷ octets) read e = omega (arith, labels_read_longer k octets read e)

pub wire_some : (name : List (List ℕ)) → 0 < len_of name
wire_some [] = omega arith
wire_some (label ∷ name) = omega arith

-- what is read is labels, and their octets stand there, with those that are left behind them
pub record IsRead (k : ℕ) (octets : List ℕ) (read : List (List ℕ) × List ℕ) : Type 0 where
  pub labels : All IsLabel read.0
  pub stand : drop k octets ≡ wire_of read.0 ++ read.1

-- a label in front of what is read
abbrev onto : List ℕ → List (List ℕ) × List ℕ → List (List ℕ) × List ℕ
onto label read = (label ∷ read.0, read.1)

pub IsRead-from : (k : ℕ) (octets : List ℕ) (read : List (List ℕ) × List ℕ) → labels_read k octets ≡ Some read → IsRead k octets read
IsRead-from k [] read e = cc
IsRead-from zero (zero ∷ octets) read e =
    let nil : ([], octets) ≡ read = cc in
    let root : IsRead 0 (0 ∷ octets) ([], octets) = record { labels = All-nil IsLabel; stand = refl } in
    subst (IsRead 0 (0 ∷ octets)) nil root
IsRead-from zero (suc n ∷ octets) read e =
    let test = cond_is_some (nat_lt (suc n) 64) _ read e in
    let parts = map_some (onto (take (suc n) octets)) (labels_read (suc n) octets) read test.1 in
    let rest = IsRead-from (suc n) octets parts.0 parts.1 in
    let long = labels_read_longer (suc n) octets parts.0 parts.1 in
    let short : suc n < 64 = (Decides-ltb (suc n) 64).0 test.0 in
    let len : length (take (suc n) octets) ≡ suc n = length-take-le (suc n) octets (omega arith) in
    let join = take-append-drop (suc n) octets in
    let assoc = append_assoc (take (suc n) octets) (wire_of parts.0.0) parts.0.1 in
    let stand : suc n ∷ octets ≡ wire_of (take (suc n) octets ∷ parts.0.0) ++ parts.0.1 = cc (rest.stand) in
    let whole : IsRead 0 (suc n ∷ octets) (onto (take (suc n) octets) parts.0) = record {
      labels = All-cons IsLabel _ _ (record { some = omega arith; short = omega arith }) rest.labels;
      stand = stand;
    } in
    subst (IsRead 0 (suc n ∷ octets)) parts.2 whole
IsRead-from (suc k) (x ∷ octets) read e =
    let rest = IsRead-from k octets read e in record { labels = rest.labels; stand = rest.stand }

-- a name's octets are read as its labels, with what is behind them left
labels_read-append : (label octets : List ℕ) → labels_read (length label) (label ++ octets) ≡ labels_read 0 octets
labels_read-append [] octets = refl
labels_read-append (x ∷ label) octets = labels_read-append label octets

one_more : (n : ℕ) (octets label : List ℕ) (read : List (List ℕ) × List ℕ) → suc n < 64 → take (suc n) octets ≡ label → labels_read (suc n) octets ≡ Some read → labels_read 0 (suc n ∷ octets) ≡ Some (label ∷ read.0, read.1)
one_more n octets label read h first rest =
    let t : nat_lt (suc n) 64 ≡ true = (Decides-ltb (suc n) 64).1 h in
    rw (t, rest, first)

pub labels_read-wire_of : (name : List (List ℕ)) (rest : List ℕ) → All IsLabel name → labels_read 0 (wire_of name ++ rest) ≡ Some (name, rest)
labels_read-wire_of [] rest h = refl
labels_read-wire_of ([] ∷ name) rest h = let head = All-head IsLabel [] name h in absurd (omega (arith, head.some))
labels_read-wire_of ((x ∷ label) ∷ name) rest h =
    let head = All-head IsLabel (x ∷ label) name h in
    let tail = labels_read-wire_of name rest (All-tail IsLabel (x ∷ label) name h) in
    let assoc = append_assoc (x ∷ label) (wire_of name) rest in
    let first = take_at (x ∷ label) (wire_of name ++ rest) (length (x ∷ label)) refl in
    let behind = labels_read-append (x ∷ label) (wire_of name ++ rest) in
    let all = one_more (length label) ((x ∷ label) ++ (wire_of name ++ rest)) (x ∷ label) (name, rest) head.short first (behind ∙ tail) in
    ap (λ (xs : List ℕ). labels_read 0 (length (x ∷ label) ∷ xs)) assoc ∙ all

pub len_read-long : (n : ℕ) (octets : List ℕ) → 63 < n → len_read (n ∷ octets) ≡ None
len_read-long zero octets h = absurd (omega arith)
len_read-long (suc n) octets h = let f : nat_lt (suc n) 64 ≡ false = grind (arith, nat_tests) in rw f

step_over : (o : Option (List (List ℕ) × List ℕ)) (label : List ℕ) (n : ℕ) → ((read : List (List ℕ) × List ℕ) → o ≡ Some read → length label ≡ n) → option_map (λ (read : List (List ℕ) × List ℕ). len_of read.0) (option_map (onto label) o) ≡ option_map (λ (m : ℕ). n + 1 + m) (option_map (λ (read : List (List ℕ) × List ℕ). len_of read.0) o)
step_over None label n h = refl
step_over (Some read) label n h =
    let len = h read refl in
    let both = length-append label (wire_of read.0) in
    let e : len_of (label ∷ read.0) ≡ n + 1 + len_of read.0 = omega arith in
    ap Some e

-- the octets of a label and its length, and then those of the rest
pub len_read-step : (n : ℕ) (octets : List ℕ) → (n ≡ 0 → ⊥) → n < 64 → len_read (n ∷ octets) ≡ option_map (λ m. n + 1 + m) (len_read (drop n octets))
len_read-step zero octets ne h = absurd (ne refl)
len_read-step (suc n) octets ne h =
    let t : nat_lt (suc n) 64 ≡ true = grind (arith, nat_tests) in
    let over = step_over (labels_read (suc n) octets) (take (suc n) octets) (suc n)
    (λ name e. let long = labels_read_longer (suc n) octets name e in length-take-le (suc n) octets (omega arith)) in
    rw t (over ∙ ap (λ (o : Option (List (List ℕ) × List ℕ)). option_map (λ (m : ℕ). suc n + 1 + m) (option_map (λ (read : List (List ℕ) × List ℕ). len_of read.0) o)) (labels_read-drop (suc n) octets))

-- the limit on a name's octets, over their number
abbrev pub limited : Option ℕ → Option ℕ
limited o = option_and_then (λ n. cond (nat_le n 255) (Some n) None) o

within_limit : Option (List (List ℕ) × List ℕ) → Option (List (List ℕ))
within_limit o = option_and_then (λ read. cond (nat_le (len_of read.0) 255) (Some read.0) None) o

len_limited : (o : Option (List (List ℕ) × List ℕ)) → option_map len_of (within_limit o) ≡ limited (option_map (λ read. len_of read.0) o)
unfolding within_limit
len_limited None = refl
len_limited (Some read) =
    elim (nat_le (len_of read.0) 255) as (λ b. option_map len_of (cond b (Some read.0) None) ≡ cond b (Some (len_of read.0)) None) [ true ↦ refl | false ↦ refl ]

pub len_in : (octets : List ℕ) → option_map len_of (name_in octets) ≡ limited (len_read octets)
unfolding within_limit
len_in octets = len_limited (labels_read 0 octets)

-- the steps of the walk: what is read at a place, by the octets left there
shifted : (a b : ℕ) (o : Option ℕ) → option_map (λ (m : ℕ). a + m) (option_map (λ (m : ℕ). b + m) o) ≡ option_map (λ (m : ℕ). a + b + m) o
shifted a b None = refl
shifted a b (Some m) = ap Some (omega arith)

pub walk_step : (octets : List ℕ) (at n : ℕ) → len_read octets ≡ option_map (λ m. at + m) (len_read (drop at octets)) → at < length octets → get_or octets at 0 ≡ n → (n ≡ 0 → ⊥) → n < 64 → len_read octets ≡ option_map (λ m. at + (n + 1) + m) (len_read (drop (at + (n + 1)) octets))
walk_step octets at n so_far within here ne h =
    let more = drop_more octets at 0 within in
    let step = len_read-step n (drop (at + 1) octets) ne h in
    let skip = drop-drop n (at + 1) octets in
    let place : at + 1 + n ≡ at + (n + 1) = omega arith in
    let sum = shifted at (n + 1) (len_read (drop (at + (n + 1)) octets)) in
    let e : len_read (drop at octets) ≡ option_map (λ (m : ℕ). n + 1 + m) (len_read (drop (at + (n + 1)) octets)) = cc in
    cc

past_limit : (at : ℕ) (o : Option ℕ) → 255 ≤ at → ((m : ℕ) → o ≡ Some m → 0 < m) → limited (option_map (λ (m : ℕ). at + m) o) ≡ None
past_limit at None h some = refl
past_limit at (Some m) h some =
    let more = some m refl in
    let f : nat_le (at + m) 255 ≡ false = grind (arith, nat_tests) in
    rw f

some_octet : (octets : List ℕ) (m : ℕ) → len_read octets ≡ Some m → 0 < m
some_octet octets m e =
    let parts = map_some (λ (read : List (List ℕ) × List ℕ). len_of read.0) (labels_read 0 octets) m e in
    let len = wire_some parts.0.0 in
    omega (arith, parts.2)

pub walk_past : (octets : List ℕ) (at : ℕ) → len_read octets ≡ option_map (λ m. at + m) (len_read (drop at octets)) → 255 ≤ at → limited (len_read octets) ≡ None
walk_past octets at so_far past = ap limited so_far ∙ past_limit at (len_read (drop at octets)) past (some_octet (drop at octets))

-- a name that is read, and the octets that are left
pub record IsReadAs (o : Option (List (List ℕ) × List ℕ)) (name : List (List ℕ)) : Type 0 where
  pub rest : List ℕ
  pub is : o ≡ Some (name, rest)
  pub short : len_of name ≤ 255

limit_some : (o : Option (List (List ℕ) × List ℕ)) (name : List (List ℕ)) → within_limit o ≡ Some name → IsReadAs o name
unfolding within_limit
limit_some None name e = cc
limit_some (Some own) name e =
    let test = cond_is_some (nat_le (len_of own.0) 255) (Some own.0) name e in
    let le = leb_le (len_of own.0) 255 test.0 in
    let same : own.0 ≡ name = cc in
    let len = ap len_of same in
    record { rest = own.1; is = ap (λ (n : List (List ℕ)). Some (n, own.1)) same; short = omega arith }

pub name_in_read : (octets : List ℕ) (name : List (List ℕ)) → name_in octets ≡ Some name → IsReadAs (labels_read 0 octets) name
unfolding within_limit
name_in_read octets name e = limit_some (labels_read 0 octets) name e

-- the name that octets begin with, by its length
pub record IsBegun (octets : List ℕ) (len : ℕ) : Type 0 where
  pub name : List (List ℕ)
  pub is : name_in octets ≡ Some name
  pub lawful : IsName name
  pub size : len_of name ≡ len
  pub front : take len octets ≡ wire_of name
  pub within : len ≤ length octets

pub IsBegun-from : (octets : List ℕ) (len : ℕ) → Some len ≡ option_map len_of (name_in octets) → IsBegun octets len
unfolding within_limit
IsBegun-from octets len e =
    let parts = map_some len_of (name_in octets) len (sym e) in
    let read = limit_some (labels_read 0 octets) parts.0 parts.1 in
    let is = IsRead-from 0 octets (parts.0, read.rest) read.is in
    let size = parts.2 in
    let stand = is.stand in
    let both = length-append (wire_of parts.0) read.rest in
    let front = take_at (wire_of parts.0) read.rest len size in
    record {
      name = parts.0;
      is = parts.1;
      lawful = record { labels = is.labels; short = read.short };
      size = size;
      front = cc;
      within = omega (arith, ap length stand);
    }

-- the octet that the walk reads
pub record Reads (octets : List ℕ) (at n : ℕ) : Type 0 where
  pub within : at < length octets
  pub is : get_or octets at 0 ≡ n

pub Reads-from : (octets : List ℕ) (at n x : ℕ) → true ≡ nat_lt at (length octets) → x ≡ get_or octets at x → n ≡ x → Reads octets at n
Reads-from octets at n x test read same =
    let within : at < length octets = (Decides-ltb at (length octets)).0 (sym test) in
    let is = get_or_read octets at x within read 0 in
    record { within = within; is = cc }
