-- What the plain grammar reads is read alike: what stands before the data.
use Rattle.std.proofs.Common.{◌≡◌, ◌<◌, ℕ, Bool, true, false, cond, not, ◌&&◌, ◌||◌, ◌==◌, nat_lt, List, [], ◌∷◌, length, Option, Some, None, Result, Ok, Err, ok_or, refl, sym, ap, ◌∙◌, lit<, arith}
use Rattle.std.specs.Char.{is_ascii_digit, to_ascii_lowercase}
use Rattle.std.specs.List.{list_all}
use Rattle.std.specs.Option.{is_some, option_or}
use Rattle.std.proofs.lemmas.Bool.Decides.{nat_tests}
use Rattle.dns_rdata.specs.declared.numbers.Ttl.{Ttl}
use Rattle.record_text.specs.Front.{Front, front_from as plain_from}
use Rattle.record_text.specs.Mnemonics.{type_of, class_of, type_named, type_numbered, class_named}
use Rattle.record_text.specs.Number.{number_of, is_number}
use Rattle.record_text.specs.Reading.{on_ok, and_then}
use Rattle.record_text.specs.declared.cause.Cause.{Cause}
use Rattle.record_text.specs.declared.cause.Cause.TheVariants.{UnknownType}
use Rattle.wide_text.specs.Forms.{other_type_named}
use Rattle.wide_text.specs.Front.{front_from, wide_type_of}
use Rattle.wide_text.specs.Times.{is_time, is_time_text, has_units_after}
use Rattle.wide_text.proofs.GenericLemmas.{read_first}
use Rattle.wide_text.proofs.PlainLemmas.{number_is_time, read_on}
use Rattle.zone_lexing.specs.Word.{Written}
use Rattle.zone_lexing.specs.Word.Written.{Plain, Quoted, Unclosed}

-- a time begins with a digit
first_true : (a b : Bool) → (a && b) ≡ true → a ≡ true
first_true true b e = refl
first_true false b e = cc

-- and no word of a type or of a class does
no_letter : (c : ℕ) → is_ascii_digit c ≡ true → (k : ℕ) → 96 < k → (to_ascii_lowercase c == k) ≡ false
no_letter c e k h = grind (arith, nat_tests)

no_time : (x : Bool) → ((x && false) || (x && false)) ≡ true → false ≡ true
no_time true e = e
no_time false e = e

time_first : (c : ℕ) (text : List ℕ) → is_time_text (c ∷ text) ≡ true → is_ascii_digit c ≡ true
time_first c text e = by (is_ascii_digit c) refl e
  where
    by : (d : Bool) → is_ascii_digit c ≡ d → ((nat_lt 0 (length (c ∷ text)) && (d && list_all is_ascii_digit text)) || (nat_lt 0 (length (c ∷ text)) && cond d (has_units_after true text) false)) ≡ true → is_ascii_digit c ≡ true
    by true k f = k
    by false k f = k ∙ no_time (nat_lt 0 (length (c ∷ text))) f

-- so a time names no type, and no class
no_type : (c : ℕ) (text : List ℕ) → is_ascii_digit c ≡ true → type_named (c ∷ text) ≡ None
unfolding type_named type_numbered
no_type c text e =
    let a = no_letter c e 97 (lit< tt) in
    let n = no_letter c e 110 (lit< tt) in
    let l = no_letter c e 99 (lit< tt) in
    let s = no_letter c e 115 (lit< tt) in
    let p = no_letter c e 112 (lit< tt) in
    let m = no_letter c e 109 (lit< tt) in
    let t = no_letter c e 116 (lit< tt) in
    simp (a, n, l, s, p, m, t) refl

no_class : (c : ℕ) (text : List ℕ) → is_ascii_digit c ≡ true → class_named (c ∷ text) ≡ Ok false
unfolding class_named
no_class c text e =
    let i = no_letter c e 105 (lit< tt) in
    let l = no_letter c e 99 (lit< tt) in
    let h = no_letter c e 104 (lit< tt) in
    simp (i, l, h) refl

-- the type
some_ok : (o : Option ℕ) (n : ℕ) → ok_or o UnknownType ≡ Ok n → o ≡ Some n
some_ok None n e = cc
some_ok (Some m) n e = cc

type_widens : (word : Written) (n : ℕ) → type_of word ≡ Ok n → wide_type_of word ≡ Ok n
type_widens (Plain text) n e = ap (λ (o : Option ℕ). ok_or (option_or o (other_type_named text)) UnknownType) (some_ok (type_named text) n e)
type_widens (Quoted text) n e = cc
type_widens Unclosed n e = cc

-- a time is neither
time_is_neither : (word : Written) → is_time word ≡ true → (type_of word ≡ Err UnknownType) × (class_of word ≡ Ok false)
time_is_neither (Plain []) t = cc
time_is_neither (Plain (c ∷ text)) t =
    let digit = time_first c text t in
    (ap (λ (o : Option ℕ). ok_or o UnknownType) (no_type c text digit), no_class c text digit)
time_is_neither (Quoted text) t = cc
time_is_neither Unclosed t = cc

-- a number is a time
digits_time : (word : Written) → is_number word ≡ true → is_time word ≡ true
digits_time (Plain text) e = rw e refl
digits_time (Quoted text) e = cc
digits_time Unclosed e = cc

-- readings in turn
after_on_ok : {A B C : Type 0} (r : Result A Cause) (f : A → B) (g : B → Result C Cause) → and_then (on_ok f r) g ≡ and_then r (λ x. g (f x))
after_on_ok (Ok x) f g = refl
after_on_ok (Err cause) f g = refl

after_twice : {A B C : Type 0} (r : Result A Cause) (f : A → Result B Cause) (g : B → Result C Cause) → and_then (and_then r f) g ≡ and_then r (λ x. and_then (f x) g)
after_twice (Ok x) f g = refl
after_twice (Err cause) f g = refl

by_answer : (r : Result Bool Cause) (g : Bool → Result Front Cause) (front : Front) {X : Type 0} → and_then r g ≡ Ok front → (r ≡ Ok true → g true ≡ Ok front → X) → (r ≡ Ok false → g false ≡ Ok front → X) → X
by_answer (Ok true) g front e in_class in_type = in_class refl e
by_answer (Ok false) g front e in_class in_type = in_type refl e
by_answer (Err cause) g front e in_class in_type = cc

abbrev as_ttl : ℕ → Ttl
as_ttl n = record { 0 = n }

-- the record's front where its type is read
abbrev typed : Option Ttl → List Written → Result ℕ Cause → Result Front Cause
typed ttl words r = and_then r (λ n. Ok (record { ttl = ttl; rtype = n; words = words }))

no_both : (a t : Bool) → (t ≡ true → ⊥) → (a && t) ≡ false
no_both true true h = absurd (h refl)
no_both true false h = refl
no_both false t h = refl

both_true : (a b : Bool) → (a && b) ≡ true → (a ≡ true) × (b ≡ true)
both_true true b e = (refl, e)
both_true false b e = cc

-- a type is read alike, where no time stands
type_alike : (ttl : Option Ttl) (words : List Written) (word : Written) (front : Front) → typed ttl words (type_of word) ≡ Ok front → (is_time word ≡ true → ⊥) × (typed ttl words (wide_type_of word) ≡ Ok front)
type_alike ttl words word front e =
    let read = read_first (type_of word) (λ (n : ℕ). Ok (record { ttl = ttl; rtype = n; words = words })) front e in
    let is = read.1 in
    ((λ t. let none = (time_is_neither word t).0 in cc), ap (typed ttl words) (type_widens word read.0 read.1) ∙ read.2)

-- the front, by what the first word is
abbrev Alike : Option Ttl → Bool → List Written → Front → Type 0
Alike ttl classed words front = plain_from ttl classed words ≡ Ok front → front_from ttl classed words ≡ Ok front

by_first : (ttl : Option Ttl) (classed : Bool) (word : Written) (words : List Written) (front : Front) (test : Bool) → ((own : Option Ttl) (c : Bool) → Alike own c words front) → (not (is_some ttl) && is_number word) ≡ test → Alike ttl classed (word ∷ words) front
by_first ttl classed word words front true more t e =
    let parts = both_true (not (is_some ttl)) (is_number word) t in
    let timed = rw t at e in
    let read = read_first (on_ok as_ttl (number_of 2147483647 word)) (λ (own : Ttl). plain_from (Some own) classed words) front (sym (after_on_ok (on_ok as_ttl (number_of 2147483647 word)) _ _) ∙ timed) in
    let inner = read_on (number_of 2147483647 word) as_ttl read.0 read.1 in
    let seconds = ap (on_ok as_ttl) (number_is_time 2147483647 word inner.0 inner.1) ∙ ap Ok inner.2 in
    let time = digits_time word parts.1 in
    let first = parts.0 in
    rw (first, time, seconds) (more (Some read.0) classed read.2)
by_first ttl true word words front false more t e =
    let rest = rw t at e in
    let alike = type_alike ttl words word front (sym (after_on_ok (type_of word) _ _) ∙ rest) in
    let none = no_both (not (is_some ttl)) (is_time word) alike.0 in
    rw none (after_on_ok (wide_type_of word) _ _ ∙ alike.1)
by_first ttl false word words front false more t e =
    let rest = rw t at e in
    by_answer (class_of word) _ front (sym (after_twice (class_of word) _ _) ∙ rest)
    (λ c h.
    let none = no_both (not (is_some ttl)) (is_time word) (λ t. let no = (time_is_neither word t).1 in cc) in
    rw (none, c) (more ttl true h))
    (λ c h.
    let alike = type_alike ttl words word front (sym (after_on_ok (type_of word) _ _) ∙ h) in
    let none = no_both (not (is_some ttl)) (is_time word) alike.0 in
    rw (none, c) (after_on_ok (wide_type_of word) _ _ ∙ alike.1))

pub plain_front_is_wide : (ttl : Option Ttl) (classed : Bool) (words : List Written) (front : Front) → plain_from ttl classed words ≡ Ok front → front_from ttl classed words ≡ Ok front
plain_front_is_wide ttl classed [] front e = cc
plain_front_is_wide ttl classed (word ∷ words) front e =
    by_first ttl classed word words front (not (is_some ttl) && is_number word) (λ own c. plain_front_is_wide own c words front) refl e
