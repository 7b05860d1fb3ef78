-- Names that stand in a message in full.
use Rattle.std.proofs.Common.{◌≡◌, ℕ, ◌+◌, ◌≤◌, ◌↔◌, IsTrue, Bool, true, false, List, ◌++◌, length, take, drop, eqb, Ok, refl, ap, subst, sym, ◌∙◌, arith}
use Rattle.std.specs.Bool.{OnTrue}
use Rattle.std.specs.List.{starts_with}
use Rattle.std.proofs.lemmas.Bool.Decides.{Decides-eqb}
use Rattle.std.proofs.lemmas.Slice.Eq.{starts_is}
use Rattle.std.proofs.lemmas.List.{length-append, length-drop, length-take-le, take-append-drop}
use Rattle.dns_name.specs.Labels.{labels_in, IsWhole}
use Rattle.dns_name.specs.Name.{Name, IsName, wire_of}
use Rattle.dns_name.proofs.LabelLemmas.{IsWhole_longer, IsWhole-wire_of, labels_in-wire_of}
use Rattle.wire_names.specs.NameAt.{name_at}
use Rattle.wire_names.specs.Spells.{Spells}
use Rattle.wire_names.proofs.GrammarLemmas.{computed_spelt}
use Rattle.wire_names.proofs.TableLemmas.{Answers}
use Rattle.wire_names.proofs.WrittenLemmas.{plain_spelt}

-- what holds where a test says so
pub on_true : (b : Bool) (P : Type 0) → b ≡ true → OnTrue b P → P
on_true true P e h = h
on_true false P e h = cc

-- the very octets of a name stand at a position: it spells the name
pub plain_at : (msg octets : List ℕ) (at : ℕ) → IsWhole octets → drop at msg ≡ octets ++ drop (length octets) (drop at msg) → Spells msg at at (labels_in octets) (at + length octets)
plain_at msg octets at whole there =
    let front = take at msg in
    let behind = drop (length octets) (drop at msg) in
    let some = IsWhole_longer octets whole in
    let left = length-drop at msg in
    let both = length-append octets behind in
    let same = ap length there in
    let within : at ≤ length msg = omega arith in
    let len : length front ≡ at = length-take-le at msg within in
    let split : front ++ (octets ++ behind) ≡ msg = ap (λ (x : List ℕ). front ++ x) (sym there) ∙ take-append-drop at msg in
    subst (λ (m : List ℕ). Spells m at at (labels_in octets) (at + length octets)) split
    (subst (λ (n : ℕ). Spells (front ++ (octets ++ behind)) n n (labels_in octets) (n + length octets)) len (plain_spelt front octets behind whole))

pub answers_plain : (msg octets : List ℕ) (at : ℕ) → IsWhole octets → drop at msg ≡ octets ++ drop (length octets) (drop at msg) → Answers msg at (labels_in octets) true
answers_plain msg octets at whole there = (λ e. (at + length octets, plain_at msg octets at whole there), λ s. refl)

-- what holds exactly where a test says so
pub where_true : (b : Bool) (P : Type 0) → (IsTrue b ↔ P) → OnTrue b P
where_true true P h = h.0 refl
where_true false P h = tt

-- what a test of what others begin with tells
pub stands_by : (msg rest octets : List ℕ) (at : ℕ) (test : Bool) → rest ≡ drop at msg → test ≡ starts_with eqb rest octets → OnTrue test (drop at msg ≡ octets ++ drop (length octets) (drop at msg))
stands_by msg rest octets at true from is = subst (λ (xs : List ℕ). xs ≡ octets ++ drop (length octets) xs) from ((starts_is Decides-eqb rest octets true is).0 refl)
stands_by msg rest octets at false from is = tt

-- a name that stands in full at a position is what is read there
pub plain_name : (msg rest : List ℕ) (at len : ℕ) (name : Name) → rest ≡ drop at msg → IsName name → len ≡ length (wire_of name) → rest ≡ wire_of name ++ drop len rest → name_at msg at ≡ Ok (name, at + len)
plain_name msg rest at len name from lawful size there =
    let octets = wire_of name in
    let same : labels_in octets ≡ name = labels_in-wire_of name lawful.labels in
    let is_present : drop at msg ≡ octets ++ drop (length octets) (drop at msg) =
    sym from ∙ there ∙ ap (λ (n : ℕ). octets ++ drop n rest) size ∙ ap (λ (xs : List ℕ). octets ++ drop (length octets) xs) from in
    let spelt = plain_at msg octets at (IsWhole-wire_of name lawful.labels) is_present in
    let named = subst (λ (n : Name). Spells msg at at n (at + length octets)) same spelt in
    computed_spelt msg at (at + length octets) name named lawful.short ∙ ap (λ (n : ℕ). Ok (name, at + n)) (sym size)
