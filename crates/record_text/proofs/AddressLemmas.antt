-- What std's readers of addresses give, and the grammar of the addresses.
use Rattle.std.proofs.Common.{◌≡◌, ℕ, Bool, true, false, cond, ◌==◌, List, [], length, Option, Some, None, option_map, refl, sym, ap, subst, ◌∙◌, lit≤, append-nil}
use Rattle.std.proofs.lemmas.Bool.Decides.{Decides-eqb}
use Rattle.std.proofs.lemmas.List.{nil_from_length}
use Rattle.std.specs.Net.Addr.{octets_of}
use Rattle.std.specs.Net.Grammar.{IsDotted, IsColonHex, IsIpv4Text, IsIpv6Text}
use Rattle.std.specs.Net.Reader.{read_ipv4, read_ipv6, whole_value}
use Rattle.std.specs.declared.net.ipv4_addr.Ipv4Addr.{Ipv4Addr}
use Rattle.std.specs.declared.net.ipv6_addr.Ipv6Addr.{Ipv6Addr}
use Rattle.std.proofs.NetLemmas.Ipv4.{read_ipv4_sound, read_ipv4_complete}
use Rattle.std.proofs.NetLemmas.Ipv6.{read_ipv6_sound, read_ipv6_complete, EndsGroups-nil}
use Rattle.record_text.specs.Address.{dotted, colon_hex}

whole_cond : (read rest value : List ℕ) (b : Bool) → (length rest == 0) ≡ b → cond b (Some read) None ≡ Some value → ◌≡◌ {A = Option (List ℕ × List ℕ)} (Some (read, rest)) (Some (value, []))
whole_cond read rest value true t e =
    let nil = nil_from_length rest ((Decides-eqb (length rest) 0).0 t) in
    let same : read ≡ value = cc in
    cc
whole_cond read rest value false t e = cc

-- the text is read whole
whole_some : (r : Option (List ℕ × List ℕ)) (value : List ℕ) → whole_value r ≡ Some value → r ≡ Some (value, [])
whole_some None value e = cc
whole_some (Some p) value e = whole_cond p.0 p.1 value (length p.1 == 0) refl e

pub dotted-IsDotted : (text octets : List ℕ) → dotted text ≡ Some octets → IsDotted text octets
unfolding dotted
dotted-IsDotted text octets e =
    let sound = read_ipv4_sound text octets [] (whole_some (read_ipv4 text) octets e) in
    subst (λ (t : List ℕ). IsDotted t octets) (sym (sound.1 ∙ append-nil sound.0)) sound.2

pub IsDotted-dotted : (text octets : List ℕ) → IsDotted text octets → dotted text ≡ Some octets
unfolding dotted
IsDotted-dotted text octets h =
    let read = rw append-nil at (read_ipv4_complete text octets [] h (lit≤ tt)) in
    ap whole_value read

groups_of-IsColonHex : (text groups : List ℕ) → whole_value (read_ipv6 text) ≡ Some groups → IsColonHex text groups
groups_of-IsColonHex text groups e =
    let sound = read_ipv6_sound text groups [] (whole_some (read_ipv6 text) groups e) in
    subst (λ (t : List ℕ). IsColonHex t groups) (sym (sound.1 ∙ append-nil sound.0)) sound.2

map_some : {A B : Type 0} (f : A → B) (o : Option A) (y : B) → option_map f o ≡ Some y → (x : A) × (o ≡ Some x) × (f x ≡ y)
map_some f None y e = cc
map_some f (Some x) y e = (x, refl, cc)

pub colon_hex-IsColonHex : (text octets : List ℕ) → colon_hex text ≡ Some octets → (groups : List ℕ) × IsColonHex text groups × (octets ≡ octets_of groups)
unfolding colon_hex
colon_hex-IsColonHex text octets e =
    let parts = map_some octets_of (whole_value (read_ipv6 text)) octets e in
    (parts.0, groups_of-IsColonHex text parts.0 parts.1, sym parts.2)

pub IsColonHex-colon_hex : (text groups : List ℕ) → IsColonHex text groups → colon_hex text ≡ Some (octets_of groups)
unfolding colon_hex
IsColonHex-colon_hex text groups h =
    let read = rw append-nil at (read_ipv6_complete text groups [] h EndsGroups-nil) in
    ap (λ (r : Option (List ℕ × List ℕ)). option_map octets_of (whole_value r)) read

none_or : {A : Type 0} (o : Option A) → ((x : A) → o ≡ Some x → ⊥) → o ≡ None
none_or None h = refl
none_or (Some x) h = absurd (h x refl)

pub dotted-none : (text : List ℕ) → ((a : Ipv4Addr) → IsIpv4Text text a → ⊥) → dotted text ≡ None
dotted-none text h = none_or (dotted text) (λ octets e. h (record { octets = octets }) (dotted-IsDotted text octets e))

pub colon_hex-none : (text : List ℕ) → ((a : Ipv6Addr) → IsIpv6Text text a → ⊥) → colon_hex text ≡ None
colon_hex-none text h = none_or (colon_hex text) (λ octets e. let is = colon_hex-IsColonHex text octets e in h (record { segments = is.0 }) is.1)
