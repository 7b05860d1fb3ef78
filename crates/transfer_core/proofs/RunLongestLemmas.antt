-- A window is the longest run that fits.
use Rattle.std.proofs.Common.{◌≡◌, ℕ, Bool, true, false, List, [], ◌∷◌, ◌++◌, refl, sym, ap, ◌∙◌, inl, inr}
use Rattle.dns_rdata.specs.Record.{Record}
use Rattle.transfer_core.specs.Window.{fits, serials_of, window, IsLongestRun}

abbrev Zones : Type 0
Zones = List (List Record)

tail_of : Zones → Zones
tail_of [] = []
tail_of (zone ∷ zones) = zones

tails : (zone other : List Record) (zones others : Zones) → zone ∷ zones ≡ other ∷ others → zones ≡ others
unfolding tail_of
tails zone other zones others e = ap tail_of e

first_of : List Record → Zones → List Record
first_of d [] = d
first_of d (zone ∷ zones) = zone

heads : (zone other : List Record) (zones others : Zones) → zone ∷ zones ≡ other ∷ others → zone ≡ other
unfolding first_of
heads zone other zones others e = ap (first_of zone) e

module _ (size : ℕ) (newer : Zones) where
  -- one more zone that doesn't fit
  earlier : (zone : List Record) (zones run : Zones) → fits size (serials_of ((zone ∷ zones) ++ newer)) ≡ false → IsLongestRun size newer zones run → IsLongestRun size newer (zone ∷ zones) run
  earlier zone zones run e h = record {
    older = zone ∷ h.older;
    split = ap (λ l. zone ∷ l) h.split;
    fit = h.fit;
    longest = none;
  }
    where
      none : (front rest : Zones) (other : List Record) → zone ∷ h.older ≡ front ++ other ∷ rest → fits size (serials_of (((other ∷ rest) ++ run) ++ newer)) ≡ false
      none [] rest other k =
          ap (λ l. fits size (serials_of (l ++ newer))) (ap (λ l. l ++ run) (sym k) ∙ ap (λ l. zone ∷ l) (sym h.split)) ∙ e
      none (f ∷ front) rest other k = h.longest front rest other (tails zone f h.older (front ++ other ∷ rest) k)

  by_fit : (zone : List Record) (zones : Zones) (b : Bool) → fits size (serials_of ((zone ∷ zones) ++ newer)) ≡ b → IsLongestRun size newer zones (window size newer zones)
      → IsLongestRun size newer (zone ∷ zones) (window size newer (zone ∷ zones))
  by_fit zone zones true e h = rw e (record {
    older = [];
    split = refl;
    fit = inr e;
    longest = none;
  })
    where
      none : (front rest : Zones) (other : List Record) → [] ≡ front ++ other ∷ rest → fits size (serials_of (((other ∷ rest) ++ zone ∷ zones) ++ newer)) ≡ false
      none [] rest other k = cc
      none (f ∷ front) rest other k = cc
  by_fit zone zones false e h = rw e (earlier zone zones (window size newer zones) e h)

  pub longest_run : (zones : Zones) → IsLongestRun size newer zones (window size newer zones)
  longest_run [] = record { older = []; split = refl; fit = inl refl; longest = none }
    where
      none : (front rest : Zones) (other : List Record) → [] ≡ front ++ other ∷ rest → fits size (serials_of (((other ∷ rest) ++ []) ++ newer)) ≡ false
      none [] rest other k = cc
      none (f ∷ front) rest other k = cc
  longest_run (zone ∷ zones) = by_fit zone zones (fits size (serials_of ((zone ∷ zones) ++ newer))) refl (longest_run zones)
