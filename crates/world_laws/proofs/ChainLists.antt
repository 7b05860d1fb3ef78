-- The zones that updates make one after the other, and the lists of what changed through them.
use Rattle.std.proofs.Common.{◌≡◌, ◌≢◌, refl, sym, ap, ◌∙◌, subst, ℕ, zero, suc, ◌+◌, ◌-◌, ◌^◌, ◌<◌, ◌≤◌, true, ◌⊎◌, inl, inr, List, [], ◌∷◌, ◌++◌, length, map, arith, Option, Some, None, All, AllPairs, length-append}
use Rattle.std.proofs.lemmas.List.Elements.{All-nil, All-cons}
use Rattle.std.specs.Prelude.{◌&&◌, nat_lt, Ok}
use Rattle.std.specs.List.{slice_get}
use Rattle.std.specs.Option.{option_or}
use Rattle.std.proofs.lemmas.Bool.{cases_Bool, ltb-false}
use Rattle.std.proofs.lemmas.Bool.Decides.{nat_tests, eqb_tells}
use Rattle.std.proofs.lemmas.List.{map-append, length-map, append_assoc, get_or-map}
use Rattle.std.proofs.lemmas.Option.{slice_get_within, get_or_from_slice_get}
use Rattle.dns_rdata.specs.Record.{Record}
use Rattle.dns_rdata.specs.SerialOrder.{serial_less}
use Rattle.zone_tree.specs.Version.{zone_serial}
use Rattle.zone_tree.specs.Zone.{IsZone, apex_of}
use Rattle.transfer_core.proofs.ChainLemmas.{incremental_taken}
use Rattle.transfer_core.proofs.RingLemmas.{all_differ}
use Rattle.transfer_core.proofs.RunLongestLemmas.{longest_run}
use Rattle.transfer_core.specs.Lists.{AreVersions, incremental, newest, as_sent}
use Rattle.transfer_core.specs.Take.{take as taken_by}
use Rattle.transfer_core.specs.Window.{span, fits, serials_of, AreRising, window, held_here, held, changes_from, changes_since}

abbrev pub Zone : Type 0
Zone = List Record

-- zones one behind the other: of one apex, with serials that rise
abbrev pub IsChain : Zone → List Zone → Type 0
IsChain zone [] = IsZone zone × (zone_serial zone < 2 ^ 32)
IsChain zone (next ∷ zones) = IsZone zone × (zone_serial zone < 2 ^ 32) × (apex_of next ≡ apex_of zone) × (serial_less (zone_serial zone) (zone_serial next) ≡ true) × IsChain next zones

abbrev pub AreChain : List Zone → Type 0
AreChain [] = Unit {0}
AreChain (zone ∷ zones) = IsChain zone zones

chain_tail : (zone : Zone) (zones : List Zone) → IsChain zone zones → AreChain zones
chain_tail zone [] h = tt
chain_tail zone (next ∷ zones) h = h.4

chain_back : (front back : List Zone) → AreChain (front ++ back) → AreChain back
chain_back [] back h = h
chain_back (zone ∷ front) back h = chain_back front back (chain_tail zone (front ++ back) h)

chain_front : (zone : Zone) (zones more : List Zone) → IsChain zone (zones ++ more) → IsChain zone zones
chain_front zone [] [] h = h
chain_front zone [] (next ∷ more) h = (h.0, h.1)
chain_front zone (next ∷ zones) more h = (h.0, h.1, h.2, h.3, chain_front next zones more h.4)

chain_zones : (zone : Zone) (zones : List Zone) → IsChain zone zones → All IsZone (zone ∷ zones)
chain_zones zone [] h = All-cons IsZone zone [] h.0 (All-nil IsZone)
chain_zones zone (next ∷ zones) h = All-cons IsZone zone (next ∷ zones) h.0 (chain_zones next zones h.4)

chain_apex : (zone other : Zone) (zones : List Zone) → apex_of zone ≡ apex_of other → IsChain zone zones → All (λ z. apex_of z ≡ apex_of other) zones
chain_apex zone other [] e h = All-nil (λ z. apex_of z ≡ apex_of other)
chain_apex zone other (next ∷ zones) e h = All-cons (λ z. apex_of z ≡ apex_of other) next zones (h.2 ∙ e) (chain_apex next other zones (h.2 ∙ e) h.4)

chain_rises : (zone : Zone) (zones : List Zone) → IsChain zone zones → AreRising (zone_serial zone) (serials_of zones)
chain_rises zone [] h = h.1
chain_rises zone (next ∷ zones) h = (h.1, h.3, chain_rises next zones h.4)

-- serials of zones that differ
zones_differ : (zones : List Zone) → AllPairs (λ (a b : ℕ). a ≢ b) (serials_of zones) → AllPairs (λ older newer. zone_serial older ≢ zone_serial newer) zones
zones_differ zones differ i j d before within e =
    let n : length (serials_of zones) ≡ length zones = length-map zones zone_serial in
    let a = get_or-map zone_serial zones i d (zone_serial d) (omega arith) in
    let b = get_or-map zone_serial zones j d (zone_serial d) within in
    differ i j (zone_serial d) before (omega (arith, n)) (a ∙ (e ∙ sym b))

-- part of a run that fits does so
shorter : (size s t : ℕ) (r : List ℕ) → fits size (s ∷ t ∷ r) ≡ true → fits size (t ∷ r) ≡ true
shorter size s t r e = grind (arith, nat_tests)

pub fits_less : (size s : ℕ) (r : List ℕ) → fits size (s ∷ r) ≡ true → fits size r ≡ true
fits_less size s [] e = refl
fits_less size s (t ∷ r) e = shorter size s t r e

fits_back : (size : ℕ) (front back : List ℕ) → fits size (front ++ back) ≡ true → fits size back ≡ true
fits_back size [] back e = e
fits_back size (s ∷ front) back e = fits_back size front back (fits_less size s (front ++ back) e)

span_front : (s : ℕ) (xs more : List ℕ) → span s xs ≤ span s (xs ++ more)
span_front s [] more = omega arith
span_front s (x ∷ xs) more = let rest = span_front x xs more in omega (arith, rest)

fits_by : (size a b c d : ℕ) → a ≤ b → c ≤ d → (nat_lt b size && nat_lt d (2 ^ 31)) ≡ true → (nat_lt a size && nat_lt c (2 ^ 31)) ≡ true
fits_by size a b c d l m e = grind (arith, nat_tests)

pub fits_front : (size : ℕ) (xs more : List ℕ) → fits size (xs ++ more) ≡ true → fits size xs ≡ true
fits_front size [] more e = refl
fits_front size (s ∷ xs) more e =
    let n = length-append xs more in
    fits_by size (length xs) (length (xs ++ more)) (span s xs) (span s (xs ++ more)) (omega (arith, n)) (span_front s xs more) e

-- zones one behind the other that fit are versions of one apex, whose serials differ
pub are_versions : (size : ℕ) (zone : Zone) (behind : List Zone) → IsChain zone behind → fits size (serials_of (zone ∷ behind)) ≡ true → AreVersions zone behind
are_versions size zone behind c fit = record {
  each = chain_zones zone behind c;
  apex = chain_apex zone zone behind refl c;
  serials = zones_differ (zone ∷ behind) (all_differ size (zone_serial zone) (serials_of behind) (chain_rises zone behind c) fit);
}

-- the zone of a serial, with those behind it
record Found (serial : ℕ) (run : List Zone) (zone : Zone) (behind : List Zone) : Type 0 where
  front : List Zone
  split : run ≡ front ++ zone ∷ behind
  serial_is : zone_serial zone ≡ serial
  next : Zone
  more : List Zone
  some : behind ≡ next ∷ more

found_here : (serial : ℕ) (zone : Zone) (zones : List Zone) (it : Zone × List Zone) → held_here serial zone zones ≡ Some it → Found serial (zone ∷ zones) it.0 it.1
found_here serial zone [] it e = absurd (let wrong = e in cc)
found_here serial zone (next ∷ zones) it e =
    elim (eqb_tells (zone_serial zone) serial) [
      | inl same ↦ (
          let here = rw same.0 at e in
          let is : (zone, next ∷ zones) ≡ it = (let f = here in cc) in
          let a : zone ≡ it.0 = ap (λ (p : Zone × List Zone). p.0) is in
          let b : next ∷ zones ≡ it.1 = ap (λ (p : Zone × List Zone). p.1) is in
          record { front = []; split = ap (λ z. z ∷ next ∷ zones) a ∙ ap (λ zs. it.0 ∷ zs) b; serial_is = ap zone_serial (sym a) ∙ same.1; next = next; more = zones; some = sym b }
          )
      | inr other ↦ (let none = rw other.0 at e in absurd (let wrong = none in cc))
    ]

found_by : (serial : ℕ) (zone : Zone) (zones : List Zone) (o : Option (Zone × List Zone)) (it : Zone × List Zone) → ((it : Zone × List Zone) → o ≡ Some it → Found serial zones it.0 it.1) → option_or o (held_here serial zone zones) ≡ Some it → Found serial (zone ∷ zones) it.0 it.1
found_by serial zone zones None it rest e = found_here serial zone zones it e
found_by serial zone zones (Some other) it rest e =
    let is : other ≡ it = (let f = e in cc) in
    let f = rest it (ap Some is) in
    record { front = zone ∷ f.front; split = ap (λ zs. zone ∷ zs) f.split; serial_is = f.serial_is; next = f.next; more = f.more; some = f.some }

found : (serial : ℕ) (zones : List Zone) (it : Zone × List Zone) → held serial zones ≡ Some it → Found serial zones it.0 it.1
found serial [] it e = absurd (let wrong = e in cc)
found serial (zone ∷ zones) it e = found_by serial zone zones (held serial zones) it (λ other is. found serial zones other is) e

newest_at : (front : List Zone) (zone first : Zone) (behind : List Zone) → newest first (front ++ zone ∷ behind) ≡ newest zone behind
newest_at [] zone first behind = refl
newest_at (other ∷ front) zone first behind = newest_at front zone other behind

-- what is told leads from the zone of a serial to the last: a zone of the window, whose serial none behind it has
pub record ListLeads (size : ℕ) (newer : List Zone) (serial : ℕ) (zones : List Zone) (list : List Record) : Type 0 where
  pub front : List Zone
  pub zone : Zone
  pub behind : List Zone
  pub split : zones ≡ front ++ zone ∷ behind
  pub some : 0 < length behind
  pub near : length behind + length newer < size
  pub newest_is : (k : ℕ) (other : Zone) → length front < k → slice_get zones k ≡ Some other → zone_serial other ≢ serial
  pub serial_is : zone_serial zone ≡ serial
  pub taken : taken_by zone (map as_sent list) ≡ Ok (newest [] zones)

-- those behind one, by their places
behind_at : (front : List Zone) (zone : Zone) (behind : List Zone) (k : ℕ) → length front < k → slice_get (front ++ zone ∷ behind) k ≡ slice_get behind (k - (length front + 1))
behind_at [] zone behind zero l = absurd (omega (arith, l))
behind_at [] zone behind (suc k) l = let e : k ≡ suc k - (0 + 1) = omega arith in ap (slice_get behind) e
behind_at (x ∷ front) zone behind zero l = absurd (omega (arith, l))
behind_at (x ∷ front) zone behind (suc k) l =
    let e : k - (length front + 1) ≡ suc k - (length (x ∷ front) + 1) = omega arith in
    behind_at front zone behind k (omega (arith, l)) ∙ ap (slice_get behind) e

pub differs_behind : (serial : ℕ) (zone : Zone) (behind : List Zone) (j : ℕ) (other : Zone) → zone_serial zone ≡ serial → AllPairs (λ older newer. zone_serial older ≢ zone_serial newer) (zone ∷ behind) → slice_get behind j ≡ Some other → zone_serial other ≢ serial
differs_behind serial zone behind j other is differ e same =
    let w = slice_get_within behind j other e in
    differ 0 (suc j) other (omega arith) (omega (arith, w)) (is ∙ (sym same ∙ sym (ap zone_serial (get_or_from_slice_get behind j other other e))))

short_by : (a size c : ℕ) → (nat_lt a size && nat_lt c (2 ^ 31)) ≡ true → a < size
short_by a size c e = grind (arith, nat_tests)

list_taken : (size serial : ℕ) (newer zones run : List Zone) (zone : Zone) (behind : List Zone) → (front : List Zone) → zones ≡ front ++ run → (run ≡ []) ⊎ (fits size (serials_of (run ++ newer)) ≡ true) → AreChain (zones ++ newer) → Found serial run zone behind → ListLeads size newer serial zones (incremental zone behind)
list_taken size serial newer zones run zone behind older split fit chain f =
    let whole : zones ≡ (older ++ f.front) ++ zone ∷ behind = split ∙ (ap (λ r. older ++ r) f.split ∙ sym (append_assoc older f.front (zone ∷ behind))) in
    let fitting : fits size (serials_of (run ++ newer)) ≡ true = elim fit [
      | inl none ↦ absurd (some_run f.front zone behind (sym none ∙ f.split))
      | inr it ↦ it
    ] in
    let all : zones ++ newer ≡ (older ++ f.front) ++ (zone ∷ behind ++ newer) = ap (λ z. z ++ newer) whole ∙ append_assoc (older ++ f.front) (zone ∷ behind) newer in
    let c : IsChain zone behind = chain_front zone behind newer (chain_back (older ++ f.front) (zone ∷ behind ++ newer) (subst AreChain all chain)) in
    let serials : serials_of (run ++ newer) ≡ serials_of f.front ++ (serials_of (zone ∷ behind) ++ serials_of newer) =
    ap (λ r. serials_of (r ++ newer)) f.split ∙ (ap serials_of (append_assoc f.front (zone ∷ behind) newer) ∙ (map-append zone_serial f.front (zone ∷ behind ++ newer) ∙ ap (λ s. serials_of f.front ++ s) (map-append zone_serial (zone ∷ behind) newer))) in
    let fits_all : fits size (serials_of (zone ∷ behind) ++ serials_of newer) ≡ true = fits_back size (serials_of f.front) (serials_of (zone ∷ behind) ++ serials_of newer) (subst (λ s. fits size s ≡ true) serials fitting) in
    let fits_so : fits size (serials_of (zone ∷ behind)) ≡ true = fits_front size (serials_of (zone ∷ behind)) (serials_of newer) fits_all in
    let short = short_by (length (serials_of behind ++ serials_of newer)) size (span (zone_serial zone) (serials_of behind ++ serials_of newer)) fits_all in
    let sum = length-append (serials_of behind) (serials_of newer) in
    let behind_n = length-map behind zone_serial in
    let newer_n = length-map newer zone_serial in
    let versions = are_versions size zone behind c fits_so in
    record {
      front = older ++ f.front;
      zone = zone;
      behind = behind;
      split = whole;
      some = (let n : length behind ≡ length (f.next ∷ f.more) = ap length f.some in omega (arith, n));
      near = omega (arith, short, sum, behind_n, newer_n);
      newest_is = λ k other later there. differs_behind serial zone behind (k - (length (older ++ f.front) + 1)) other f.serial_is versions.serials (sym (behind_at (older ++ f.front) zone behind k later) ∙ (ap (λ z. slice_get z k) (sym whole) ∙ there));
      serial_is = f.serial_is;
      taken = taken_so zone behind f.next f.more f.some versions ∙ ap Ok (sym (ap (newest []) whole ∙ newest_at (older ++ f.front) zone [] behind));
    }
  where
    some_run : (front : List Zone) (zone : Zone) (behind : List Zone) → [] ≡ front ++ zone ∷ behind → ⊥
    some_run [] zone behind e = let wrong = e in cc
    some_run (x ∷ front) zone behind e = let wrong = e in cc

    taken_so : (zone : Zone) (behind : List Zone) (next : Zone) (more : List Zone) → behind ≡ next ∷ more → AreVersions zone behind → taken_by zone (map as_sent (incremental zone behind)) ≡ Ok (newest zone behind)
    taken_so zone behind next more is versions =
        subst (λ b. taken_by zone (map as_sent (incremental zone b)) ≡ Ok (newest zone b)) (sym is) (incremental_taken zone next more (subst (λ b. AreVersions zone b) is versions))

changes_by : (kept : ℕ) (list : List Record) (o : Option (Zone × List Zone)) → changes_from kept o ≡ Some list → (it : Zone × List Zone) × (o ≡ Some it) × (incremental it.0 it.1 ≡ list)
changes_by kept list None e = absurd (let wrong = e in cc)
changes_by kept list (Some it) e =
    elim (cases_Bool (nat_lt kept (length it.1))) [
      | inl more ↦ (let none = rw more at e in absurd (let wrong = none in cc))
      | inr all ↦ (let is = rw all at e in (it, refl, (let f = is in cc)))
    ]

pub list_leads : (size kept serial : ℕ) (newer zones : List Zone) (list : List Record) → AreChain (zones ++ newer) → changes_since size newer kept serial zones ≡ Some list → ListLeads size newer serial zones list
list_leads size kept serial newer zones list chain e =
    let run = longest_run size newer zones in
    let by = changes_by kept list (held serial (window size newer zones)) e in
    subst (λ l. ListLeads size newer serial zones l) by.2 (list_taken size serial newer zones (window size newer zones) by.0.0 by.0.1 run.older run.split run.fit chain (found serial (window size newer zones) by.0 by.1))

-- nothing is told where no version behind the asker's is kept
none_by : (serial : ℕ) (run : List Zone) (o : Option (Zone × List Zone)) → ((it : Zone × List Zone) → o ≡ Some it → Found serial run it.0 it.1) → changes_from 0 o ≡ None
none_by serial run None f = refl
none_by serial run (Some it) f =
    let is = f it refl in
    let some : length it.1 ≡ length (is.next ∷ is.more) = ap length is.some in
    elim (cases_Bool (nat_lt 0 (length it.1))) [
      | inl more ↦ rw more refl
      | inr none ↦ (let l = ltb-false 0 (length it.1) none in absurd (omega (arith, l, some)))
    ]

pub none_kept : (serial : ℕ) (run : List Zone) → changes_from 0 (held serial run) ≡ None
none_kept serial run = none_by serial run (held serial run) (λ it e. found serial run it e)
