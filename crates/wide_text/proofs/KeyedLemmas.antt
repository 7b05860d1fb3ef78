-- Octets put among others, at their place.
use Rattle.std.proofs.Common.{◌≡◌, ℕ, zero, suc, ◌+◌, ◌<◌, ◌≤◌, true, false, ◌==◌, nat_lt, List, [], ◌∷◌, map, length, take, get_or, All, Ok, Err, refl, ap, ◌∙◌, add-one, arith}
use Rattle.std.specs.List.{insert}
use Rattle.std.proofs.lemmas.Bool.Decides.{nat_tests}
use Rattle.std.proofs.lemmas.List.Elements.{All-nil, All-cons, All-head, All-tail}
use Rattle.record_text.specs.Reading.{on_ok}
use Rattle.record_text.specs.declared.cause.Cause.TheVariants.{BadData}
use Rattle.wide_text.specs.Params.{Keyed, keyed_seen, put_among}
use Rattle.wide_text.specs.declared.keyed.Keyed as declared

-- all keys are less
abbrev pub AreLess : ℕ → List declared.Keyed → Type 0
AreLess key others = All (λ (o : declared.Keyed). o.key < key) others

-- the tests at a key
lesser : (own other : Keyed) (others : List Keyed) → other.key < own.key → put_among own (other ∷ others) ≡ on_ok (λ (more : List Keyed). other ∷ more) (put_among own others)
lesser own other others h =
    let lt : nat_lt own.key other.key ≡ false = grind (arith, nat_tests) in
    let eq : (own.key == other.key) ≡ false = grind (arith, nat_tests) in
    rw (lt, eq) refl

greater : (own other : Keyed) (others : List Keyed) → own.key < other.key → put_among own (other ∷ others) ≡ Ok (own ∷ other ∷ others)
greater own other others h =
    let lt : nat_lt own.key other.key ≡ true = grind (arith, nat_tests) in
    rw lt refl

same : (own other : Keyed) (others : List Keyed) → own.key ≡ other.key → put_among own (other ∷ others) ≡ Err BadData
same own other others h =
    let lt : nat_lt own.key other.key ≡ false = grind (arith, nat_tests) in
    let eq : (own.key == other.key) ≡ true = grind (arith, nat_tests) in
    rw (lt, eq) refl

-- the place of the first key that is greater
pub found : (others : List declared.Keyed) (key i : ℕ) (d : declared.Keyed) → i < length others → AreLess key (take i others) → key < (get_or others i d).key
    → (own : Keyed) → own.key ≡ key → put_among own (map keyed_seen others) ≡ Ok (insert (map keyed_seen others) i own)
found [] key i d h less more own e = absurd (omega arith)
found (o ∷ others) key zero d h less more own e = greater own (keyed_seen o) (map keyed_seen others) (omega arith)
found (o ∷ others) key (suc i) d h less more own e =
    let first = All-head (λ (o : declared.Keyed). o.key < key) o (take i others) less in
    lesser own (keyed_seen o) (map keyed_seen others) (omega arith)
    ∙ ap (on_ok (λ (all : List Keyed). keyed_seen o ∷ all)) (found others key i d (omega arith) (All-tail (λ (o : declared.Keyed). o.key < key) o (take i others) less) more own e)

-- the first key that isn't less is the same
pub twice : (others : List declared.Keyed) (key i : ℕ) (d : declared.Keyed) → i < length others → AreLess key (take i others) → key ≡ (get_or others i d).key
    → (own : Keyed) → own.key ≡ key → put_among own (map keyed_seen others) ≡ Err BadData
twice [] key i d h less more own e = absurd (omega arith)
twice (o ∷ others) key zero d h less more own e = same own (keyed_seen o) (map keyed_seen others) (omega arith)
twice (o ∷ others) key (suc i) d h less more own e =
    let first = All-head (λ (o : declared.Keyed). o.key < key) o (take i others) less in
    lesser own (keyed_seen o) (map keyed_seen others) (omega arith)
    ∙ ap (on_ok (λ (all : List Keyed). keyed_seen o ∷ all)) (twice others key i d (omega arith) (All-tail (λ (o : declared.Keyed). o.key < key) o (take i others) less) more own e)

-- all keys are less
pub passed : (others : List declared.Keyed) (key i : ℕ) → length others ≤ i → AreLess key (take i others)
    → (own : Keyed) → own.key ≡ key → put_among own (map keyed_seen others) ≡ Ok (insert (map keyed_seen others) (length others) own)
passed [] key i h less own e = refl
passed (o ∷ others) key zero h less own e = absurd (omega arith)
passed (o ∷ others) key (suc i) h less own e =
    let first = All-head (λ (o : declared.Keyed). o.key < key) o (take i others) less in
    lesser own (keyed_seen o) (map keyed_seen others) (omega arith)
    ∙ ap (on_ok (λ (all : List Keyed). keyed_seen o ∷ all)) (passed others key i (omega arith) (All-tail (λ (o : declared.Keyed). o.key < key) o (take i others) less) own e)

-- one key more is less
less_next : (others : List declared.Keyed) (key i : ℕ) (d : declared.Keyed) → i < length others → AreLess key (take i others) → (get_or others i d).key < key → AreLess key (take (suc i) others)
less_next [] key i d h less more = absurd (omega arith)
less_next (o ∷ others) key zero d h less more = All-cons (λ (o : declared.Keyed). o.key < key) o [] more (All-nil (λ (o : declared.Keyed). o.key < key))
less_next (o ∷ others) key (suc i) d h less more =
    All-cons (λ (o : declared.Keyed). o.key < key) o (take (suc i) others) (All-head (λ (o : declared.Keyed). o.key < key) o (take i others) less)
    (less_next others key i d (omega arith) (All-tail (λ (o : declared.Keyed). o.key < key) o (take i others) less) more)

pub less_on : (others : List declared.Keyed) (key i : ℕ) (d : declared.Keyed) → i < length others → AreLess key (take i others) → (get_or others i d).key < key → AreLess key (take (i + 1) others)
less_on others key i d h less more = rw add-one (less_next others key i d h less more)

-- what is put at a place is seen there
pub seen_insert : (others : List declared.Keyed) (i : ℕ) (own : declared.Keyed) → map keyed_seen (insert others i own) ≡ insert (map keyed_seen others) i (keyed_seen own)
seen_insert others zero own = refl
seen_insert [] (suc i) own = refl
seen_insert (o ∷ others) (suc i) own = ap (λ (all : List Keyed). keyed_seen o ∷ all) (seen_insert others i own)
