-- The types that data has: those that have a word, and all others by their number.
use Rattle.std.proofs.Common.{◌≡◌, ℕ, ◌<◌, ◌^◌, Bool, true, false, ◌||◌, ◌&&◌, ◌==◌, nat_le, List, ◌++◌, codes, decimal, Option, Some, None, IsSome, refl, arith}
use Rattle.std.proofs.lemmas.Bool.Decides.{nat_tests}
use Rattle.dns_rdata.specs.declared.layout.Layout.{Layout}
use Rattle.dns_rdata.specs.Data.{data_of}
use Rattle.dns_rdata.specs.Layout.{layout_of}
use Rattle.dns_rdata.specs.Numbers.{is_metatype}
use Rattle.dns_rdata.proofs.LayoutLemmas.{served_types-are}
use Rattle.dns_rdata.proofs.NameLemmas.{and_then_some}
use Rattle.record_text.specs.Data.{form_of}
use Rattle.record_text.specs.Mnemonics.{type_word}

some_layout : (rtype : ℕ) (layout : Layout) → layout_of rtype ≡ Some layout → IsSome (layout_of rtype)
some_layout rtype layout e = rw e refl

-- a type of data is no metatype, and has 16 bits
pub record IsTyped (rtype : ℕ) : Type 0 where
  pub own : is_metatype rtype ≡ false
  pub short : rtype < 2 ^ 16

pub IsTyped-data : (rtype : ℕ) (octets own : List ℕ) → data_of rtype octets ≡ Some own → IsTyped rtype
unfolding data_of
IsTyped-data rtype octets own e =
    let layout = and_then_some _ (layout_of rtype) own e in
    let both = (served_types-are rtype).0 (some_layout rtype layout.0 layout.1) in
    record { own = both.0; short = both.1 }

-- and it isn't 0
pub not_zero : (rtype : ℕ) → is_metatype rtype ≡ false → 0 < rtype
not_zero rtype e = grind (arith, nat_tests)

-- a type that has no word
pub record IsNumbered (rtype : ℕ) : Type 0 where
  pub address : (rtype == 1) ≡ false
  pub ns : (rtype == 2) ≡ false
  pub cname : (rtype == 5) ≡ false
  pub soa : (rtype == 6) ≡ false
  pub ptr : (rtype == 12) ≡ false
  pub mx : (rtype == 15) ≡ false
  pub txt : (rtype == 16) ≡ false
  pub aaaa : (rtype == 28) ≡ false
  pub srv : (rtype == 33) ≡ false

by_test : (P : Type 0) (b : Bool) → (b ≡ true → P) → (b ≡ false → P) → P
by_test P true h k = h refl
by_test P false h k = k refl

-- what holds of each type that has a word, and of all that have none, holds of each type
pub by_word : (P : Type 0) (rtype : ℕ) → ((rtype == 1) ≡ true → P) → ((rtype == 2) ≡ true → P) → ((rtype == 5) ≡ true → P) → ((rtype == 6) ≡ true → P) → ((rtype == 12) ≡ true → P) → ((rtype == 15) ≡ true → P) → ((rtype == 16) ≡ true → P) → ((rtype == 28) ≡ true → P) → ((rtype == 33) ≡ true → P) → (IsNumbered rtype → P) → P
by_word P rtype address ns cname soa ptr mx txt aaaa srv numbered =
    by_test P (rtype == 1) address (λ a.
    by_test P (rtype == 2) ns (λ b.
    by_test P (rtype == 5) cname (λ c.
    by_test P (rtype == 6) soa (λ d.
    by_test P (rtype == 12) ptr (λ e.
    by_test P (rtype == 15) mx (λ f.
    by_test P (rtype == 16) txt (λ g.
    by_test P (rtype == 28) aaaa (λ h.
    by_test P (rtype == 33) srv (λ i.
    numbered (record { address = a; ns = b; cname = c; soa = d; ptr = e; mx = f; txt = g; aaaa = h; srv = i }))))))))))

-- it is written by its number, and its data has no fields
pub word_numbered : (rtype : ℕ) → IsNumbered rtype → type_word rtype ≡ codes "TYPE" ++ decimal rtype
unfolding type_word
word_numbered rtype n = rw (n.address, n.ns, n.cname, n.soa, n.ptr, n.mx, n.txt, n.aaaa, n.srv) refl

pub form_numbered : (rtype : ℕ) → IsNumbered rtype → form_of rtype ≡ None
unfolding form_of
form_numbered rtype n = rw (n.address, n.ns, n.cname, n.soa, n.ptr, n.mx, n.aaaa, n.srv) refl
