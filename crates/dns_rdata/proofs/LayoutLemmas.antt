-- The types that are known, one after another, and all others.
use Rattle.std.proofs.Common.{◌≡◌, ◌<◌, ◌^◌, ◌↔◌, ℕ, Bool, true, false, cond, ◌||◌, ◌==◌, nat_le, Option, Some, None, IsSome, lit<, refl, sym, subst, ◌∙◌, arith}
use Rattle.std.proofs.lemmas.Bool.{or_parts}
use Rattle.std.proofs.lemmas.Bool.Decides.{Decides-eqb, nat_tests}
use Rattle.dns_rdata.specs.declared.layout.Layout.{Layout}
use Rattle.dns_rdata.specs.declared.layout.Layout.TheVariants.{Fields, Strings, Opaque}
use Rattle.dns_rdata.specs.Layout.{layout_of}
use Rattle.dns_rdata.specs.Numbers.{is_metatype}

by_test : (P : Type 0) (b : Bool) → (b ≡ true → P) → (b ≡ false → P) → P
by_test P true is isnt = is refl
by_test P false is isnt = isnt refl

-- a type by its number
at_type : (P : ℕ → Type 0) (rtype n : ℕ) → P n → (rtype == n) ≡ true → P rtype
at_type P rtype n h e = subst P (sym ((Decides-eqb rtype n).0 e)) h

abbrev others : ℕ → Option Layout
others rtype = cond (is_metatype rtype || nat_le (2 ^ 16) rtype) None (Some Opaque)

other_layout : (rtype : ℕ) → (rtype == 1) ≡ false → (rtype == 2) ≡ false → (rtype == 5) ≡ false → (rtype == 6) ≡ false → (rtype == 12) ≡ false → (rtype == 15) ≡ false → (rtype == 16) ≡ false → (rtype == 28) ≡ false → (rtype == 33) ≡ false → layout_of rtype ≡ others rtype
unfolding layout_of
other_layout rtype a b c d e f g h i = rw (a, b, c, d, e, f, g, h, i) refl

-- a type that nobody knows, and a record of a zone can have
pub record IsOpaque (rtype : ℕ) : Type 0 where
  pub layout : layout_of rtype ≡ Some Opaque
  pub own : is_metatype rtype ≡ false
  pub short : rtype < 2 ^ 16

is_opaque : (rtype : ℕ) → layout_of rtype ≡ others rtype → (is_metatype rtype || nat_le (2 ^ 16) rtype) ≡ false → IsOpaque rtype
is_opaque rtype is e =
    let both = or_parts (is_metatype rtype) (nat_le (2 ^ 16) rtype) e in
    record { layout = is ∙ (rw e refl); own = both.0; short = let f = both.1 in grind (arith, nat_tests) }

-- a number that no record of a zone has as its type
pub record IsForeign (rtype : ℕ) : Type 0 where
  pub layout : layout_of rtype ≡ None
  pub foreign : (is_metatype rtype || nat_le (2 ^ 16) rtype) ≡ true

-- what holds of each type that is known, and of each other that a record of a zone can have, holds of each type that has a layout
pub by_type : (P : ℕ → Type 0) (rtype : ℕ) → P 1 → P 2 → P 5 → P 6 → P 12 → P 15 → P 16 → P 28 → P 33 → (IsOpaque rtype → P rtype) → (IsForeign rtype → P rtype) → P rtype
by_type P rtype address ns cname soa ptr mx txt aaaa srv opaque none =
    by_test (P rtype) (rtype == 1) (at_type P rtype 1 address) (λ a.
    by_test (P rtype) (rtype == 2) (at_type P rtype 2 ns) (λ b.
    by_test (P rtype) (rtype == 5) (at_type P rtype 5 cname) (λ c.
    by_test (P rtype) (rtype == 6) (at_type P rtype 6 soa) (λ d.
    by_test (P rtype) (rtype == 12) (at_type P rtype 12 ptr) (λ e.
    by_test (P rtype) (rtype == 15) (at_type P rtype 15 mx) (λ f.
    by_test (P rtype) (rtype == 16) (at_type P rtype 16 txt) (λ g.
    by_test (P rtype) (rtype == 28) (at_type P rtype 28 aaaa) (λ h.
    by_test (P rtype) (rtype == 33) (at_type P rtype 33 srv) (λ i.
    let is = other_layout rtype a b c d e f g h i in
    by_test (P rtype) (is_metatype rtype || nat_le (2 ^ 16) rtype) (λ m. none (record { layout = is ∙ (rw m refl); foreign = m })) (λ m. opaque (is_opaque rtype is m)))))))))))

-- a type of a zone's records
abbrev IsOwn : ℕ → Type 0
IsOwn rtype = IsSome (layout_of rtype) → (is_metatype rtype ≡ false) × (rtype < 2 ^ 16)

served-own : (rtype : ℕ) → IsOwn rtype
served-own rtype = by_type IsOwn rtype (λ _. (refl, lit< tt)) (λ _. (refl, lit< tt)) (λ _. (refl, lit< tt)) (λ _. (refl, lit< tt)) (λ _. (refl, lit< tt)) (λ _. (refl, lit< tt)) (λ _. (refl, lit< tt)) (λ _. (refl, lit< tt)) (λ _. (refl, lit< tt)) (λ opaque _. (opaque.own, opaque.short)) (λ foreign some. let is = rw foreign.layout at some in cc)

abbrev HasLayout : ℕ → Type 0
HasLayout rtype = is_metatype rtype ≡ false → rtype < 2 ^ 16 → IsSome (layout_of rtype)

has_layout : (rtype : ℕ) (layout : Layout) → layout_of rtype ≡ Some layout → IsSome (layout_of rtype)
has_layout rtype layout e = rw e refl

own-served : (rtype : ℕ) → HasLayout rtype
unfolding layout_of
own-served rtype = by_type HasLayout rtype
    (λ _ _. has_layout 1 (Fields 4 0 0 false) refl)
    (λ _ _. has_layout 2 (Fields 0 1 0 true) refl)
    (λ _ _. has_layout 5 (Fields 0 1 0 true) refl)
    (λ _ _. has_layout 6 (Fields 0 2 20 true) refl)
    (λ _ _. has_layout 12 (Fields 0 1 0 true) refl)
    (λ _ _. has_layout 15 (Fields 2 1 0 true) refl)
    (λ _ _. has_layout 16 Strings refl)
    (λ _ _. has_layout 28 (Fields 16 0 0 false) refl)
    (λ _ _. has_layout 33 (Fields 6 1 0 false) refl)
    (λ opaque _ _. has_layout rtype Opaque opaque.layout)
    (λ foreign own short.
    let small : nat_le (2 ^ 16) rtype ≡ false = grind (arith, nat_tests) in
    let t = foreign.foreign in
    cc)

pub served_types-are : (rtype : ℕ) → IsSome (layout_of rtype) ↔ ((is_metatype rtype ≡ false) × (rtype < 2 ^ 16))
served_types-are rtype = (served-own rtype, λ both. own-served rtype both.0 both.1)
