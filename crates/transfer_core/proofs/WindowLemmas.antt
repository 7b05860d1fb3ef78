-- The versions that are told of are those of the window that are kept.
use Rattle.std.proofs.Common.{◌≡◌, ℕ, ◌+◌, ◌<◌, ◌≤◌, Bool, true, false, ◌&&◌, ◌==◌, nat_lt, List, [], ◌∷◌, ◌++◌, length, drop, take, Option, Some, None, is_some, unwrap_or, if◌then◌else◌, MatchOption, refl, sym, ap, ◌∙◌, subst, arith}
use Rattle.std.specs.Option.{option_or}
use Rattle.std.specs.List.{slice_get}
use Rattle.std.proofs.lemmas.Bool.Decides.{nat_tests}
use Rattle.std.proofs.lemmas.List.{map-append, length-map, length-append, length-take-le, take-append-drop, drop-append-le}
use Rattle.std.proofs.lemmas.Option.{slice_get-get_or, get_or_from_slice_get}
use Rattle.std.proofs.Math.ListN.{get_or, get_or-append}
use Rattle.dns_rdata.specs.Record.{Record}
use Rattle.zone_tree.specs.Zone.{soa_of}
use Rattle.zone_tree.specs.Version.{Version, Changes, AreChanges, zone_serial}
use Rattle.transfer_core.specs.Lists.{newest, incremental}
use Rattle.transfer_core.specs.Chain.{zones_of, AreBehind, told_changes}
use Rattle.transfer_core.specs.Window.{fits, serials_of, window, held_here, held, changes_from, changes_since, AreKept, serial_before, is_held_before, kept_since}
use Rattle.transfer_core.proofs.VersionLemmas.{drop_here, list_told}

abbrev Zone : Type 0
Zone = List Record

-- a run that fits does so without its oldest version
shorter : (size s t : ℕ) (r : List ℕ) → fits size (s ∷ t ∷ r) ≡ true → fits size (t ∷ r) ≡ true
shorter size s t r e = grind (arith, nat_tests)

fits_less : (size s : ℕ) (r : List ℕ) → fits size (s ∷ r) ≡ true → fits size r ≡ true
fits_less size s [] e = refl
fits_less size s (t ∷ r) e = shorter size s t r e

or_none : {A : Type 0} (o : Option A) → option_or o None ≡ o
or_none None = refl
or_none (Some x) = refl

module _ (size serial : ℕ) (newer : List Version) where
  -- the version of a serial in the window, found at once
  abbrev found_here : Zone → List Zone → Option (Zone × List Zone)
  found_here zone zones = if fits size (serials_of ((zone ∷ zones) ++ zones_of newer)) then held_here serial zone zones else None

  abbrev found : List Zone → Option (Zone × List Zone)
  found [] = None
  found (zone ∷ zones) = option_or (found zones) (found_here zone zones)

  -- where all fit
  all_fit : (zones : List Zone) → fits size (serials_of (zones ++ zones_of newer)) ≡ true → held serial zones ≡ found zones
  all_fit [] e = refl
  all_fit (zone ∷ zones) e =
      rw e (ap (λ o. option_or o (held_here serial zone zones)) (all_fit zones (fits_less size (zone_serial zone) (serials_of (zones ++ zones_of newer)) e)))

  in_window_by : (zone : Zone) (zones : List Zone) (b : Bool) → fits size (serials_of ((zone ∷ zones) ++ zones_of newer)) ≡ b → held serial (window size (zones_of newer) zones) ≡ found zones
      → held serial (window size (zones_of newer) (zone ∷ zones)) ≡ found (zone ∷ zones)
  in_window_by zone zones true e more = rw e (ap (λ o. option_or o (held_here serial zone zones)) (all_fit zones (fits_less size (zone_serial zone) (serials_of (zones ++ zones_of newer)) e)))
  in_window_by zone zones false e more = rw e (more ∙ sym (or_none (found zones)))

  in_window : (zones : List Zone) → held serial (window size (zones_of newer) zones) ≡ found zones
  in_window [] = refl
  in_window (zone ∷ zones) = in_window_by zone zones (fits size (serials_of ((zone ∷ zones) ++ zones_of newer))) refl (in_window zones)

  -- where more versions stand behind the one of a serial than are kept, nothing is told
  too_many : (n : ℕ) (zone : Zone) (zones : List Zone) (b c : Bool) → n < length zones → changes_from n (if c then (if b then Some (zone, zones) else None) else None) ≡ None
  too_many n zone zones b false h = refl
  too_many n zone zones false true h = refl
  too_many n zone zones true true h =
      let e : nat_lt n (length zones) ≡ true = grind (arith, nat_tests) in
      rw e refl

  too_many_here : (n : ℕ) (zone : Zone) (zones : List Zone) → n < length zones → changes_from n (found_here zone zones) ≡ None
  too_many_here n zone [] h = absurd (omega arith)
  too_many_here n zone (next ∷ zones) h = too_many n zone (next ∷ zones) (zone_serial zone == serial) (fits size (serials_of ((zone ∷ next ∷ zones) ++ zones_of newer))) h

  or_passed : (n : ℕ) (o p : Option (Zone × List Zone)) → changes_from n p ≡ None → changes_from n (option_or o p) ≡ changes_from n o
  or_passed n None p e = e
  or_passed n (Some x) p e = refl

  -- an older one
  passed : (n : ℕ) (zone : Zone) (zones : List Zone) → n < length zones → changes_from n (found (zone ∷ zones)) ≡ changes_from n (found zones)
  passed n zone zones h = or_passed n (found zones) (found_here zone zones) (too_many_here n zone zones h)

  -- the version of a serial with those behind it, as it is found among zones and among versions: so many versions at most, up to the
  -- same last
  abbrev Alike : ℕ → Zone → Option (Zone × List Zone) → Option (List Version) → Type 0
  Alike n last None None = Unit {0}
  Alike n last None (Some ws) = ⊥
  Alike n last (Some p) None = ⊥
  Alike n last (Some p) (Some ws) = (p.1 ≡ zones_of ws) × AreBehind p.0 ws × (newest p.0 p.1 ≡ last) × (length p.1 ≤ n)

  alike_or : (n : ℕ) (last : Zone) (o p : Option (Zone × List Zone)) (s t : Option (List Version)) → Alike n last o s → Alike n last p t → Alike n last (option_or o p) (option_or s t)
  alike_or n last None p None t h k = k
  alike_or n last None p (Some ws) t h k = absurd h
  alike_or n last (Some q) p None t h k = absurd h
  alike_or n last (Some q) p (Some ws) t h k = h

  alike_if : (n : ℕ) (last zone : Zone) (zones : List Zone) (ws : List Version) (b c d : Bool) → d ≡ b && c → Alike n last (Some (zone, zones)) (Some ws)
      → Alike n last (if c then (if b then Some (zone, zones) else None) else None) (if d then Some ws else None)
  alike_if n last zone zones ws true true d e h = rw e h
  alike_if n last zone zones ws true false d e h = rw e tt
  alike_if n last zone zones ws false true d e h = rw e tt
  alike_if n last zone zones ws false false d e h = rw e tt

  -- the version before one that knows what it changed of it
  before_is : (zone : Zone) (zones : List Zone) (o : Option Changes) (after : Zone) → MatchOption o ⊥ (λ c. AreChanges c zone after)
      → is_held_before size serial zones (serial_before o) ≡ (zone_serial zone == serial) && fits size (serials_of (zone ∷ zones))
  before_is zone zones None after h = absurd h
  before_is zone zones (Some c) after h = rw (h.old_soa) refl

  zones_apart : (vs : List Version) → zones_of (vs ++ newer) ≡ zones_of vs ++ zones_of newer
  zones_apart vs = map-append (λ (v : Version). v.zone) vs newer

  found_alike : (n : ℕ) (zone : Zone) (vs : List Version) → length vs ≤ n → AreBehind zone vs → Alike n (newest zone (zones_of vs)) (found (zone ∷ zones_of vs)) (kept_since size newer serial vs)
  found_alike n zone [] few h = by (fits size (serials_of ((zone ∷ []) ++ zones_of newer)))
    where
      by : (c : Bool) → Alike n zone (if c then None else None) None
      by true = tt
      by false = tt
  found_alike n zone (v ∷ vs) few h =
      alike_or n (newest v.zone (zones_of vs)) (found (v.zone ∷ zones_of vs)) (found_here zone (v.zone ∷ zones_of vs)) (kept_since size newer serial vs)
      (if is_held_before size serial (zones_of ((v ∷ vs) ++ newer)) (serial_before v.changes) then Some (v ∷ vs) else None)
      (found_alike n v.zone vs (omega (arith, few)) h.1)
      (alike_if n (newest v.zone (zones_of vs)) zone (v.zone ∷ zones_of vs) (v ∷ vs) (zone_serial zone == serial) (fits size (serials_of ((zone ∷ v.zone ∷ zones_of vs) ++ zones_of newer)))
      (is_held_before size serial (zones_of ((v ∷ vs) ++ newer)) (serial_before v.changes))
      (before_is zone (zones_of ((v ∷ vs) ++ newer)) v.changes v.zone h.0
      ∙ ap (λ l. (zone_serial zone == serial) && fits size (serials_of (zone ∷ v.zone ∷ l))) (zones_apart vs))
      (refl, h, refl, rw (length-map (v ∷ vs) (λ (w : Version). w.zone)) few))

  -- what is told of those that are alike
  told_alike : (n : ℕ) (last : Zone) (o : Option (Zone × List Zone)) (s : Option (List Version)) → Alike n last o s → changes_from n o ≡ told_changes (is_some s) (soa_of last) (unwrap_or s [])
  told_alike n last None None h = refl
  told_alike n last None (Some ws) h = absurd h
  told_alike n last (Some p) None h = absurd h
  told_alike n last (Some p) (Some ws) h =
      let few = h.3 in
      let e : nat_lt n (length p.1) ≡ false = grind (arith, nat_tests) in
      rw e (ap Some (ap (λ l. incremental p.0 l) h.0 ∙ sym (list_told p.0 ws last h.1 (ap (newest p.0) (sym h.0) ∙ h.2))))

  -- of versions that are kept, the first of them
  behind_front : (zone : Zone) (vs ws : List Version) → AreBehind zone (vs ++ ws) → AreBehind zone vs
  behind_front zone [] ws h = tt
  behind_front zone (v ∷ vs) ws h = (h.0, behind_front v.zone vs ws h.1)

  abbrev told_of : List Version → Option (List Record)
  told_of vs = told_changes (is_some (kept_since size newer serial vs)) (soa_of (newest [] (zones_of vs))) (unwrap_or (kept_since size newer serial vs) [])

  -- behind one that isn't kept
  behind_one : (zone : Zone) (vs : List Version) → AreBehind zone (vs ++ newer) → changes_from (length vs) (found (zone ∷ zones_of vs)) ≡ told_of vs
  behind_one zone [] h = told_alike 0 zone (found (zone ∷ [])) None (found_alike 0 zone [] (omega arith) tt)
  behind_one zone (v ∷ vs) h =
      told_alike (length (v ∷ vs)) (newest v.zone (zones_of vs)) (found (zone ∷ zones_of (v ∷ vs))) (kept_since size newer serial (v ∷ vs))
      (found_alike (length (v ∷ vs)) zone (v ∷ vs) (omega arith) (behind_front zone (v ∷ vs) newer h))

  -- where all are kept, the very first too
  all_kept : (v : Version) (vs : List Version) → v.changes ≡ None → AreBehind v.zone (vs ++ newer) → changes_from (length (v ∷ vs)) (found (zones_of (v ∷ vs))) ≡ told_of (v ∷ vs)
  all_kept v vs none h =
      told_alike (length (v ∷ vs)) (newest v.zone (zones_of vs)) (found (zones_of (v ∷ vs))) (kept_since size newer serial vs)
      (found_alike (length (v ∷ vs)) v.zone vs (omega arith) (behind_front v.zone vs newer h))
      ∙ ap (λ o. told_changes (is_some o) (soa_of (newest v.zone (zones_of vs))) (unwrap_or o []))
      (sym (ap (λ o. option_or (kept_since size newer serial vs) (if is_held_before size serial (zones_of ((v ∷ vs) ++ newer)) (serial_before o) then Some (v ∷ vs) else None)) none ∙ or_none (kept_since size newer serial vs)))

  -- behind all older ones
  behind_older : (older : List Zone) (vs : List Version) → AreKept older (vs ++ newer) → changes_from (length vs) (found (older ++ zones_of vs)) ≡ told_of vs
  behind_older [] [] h = refl
  behind_older [] (v ∷ vs) h = all_kept v vs h.0 h.1
  behind_older (zone ∷ []) vs h = behind_one zone vs h
  behind_older (zone ∷ next ∷ older) vs h =
      passed (length vs) zone ((next ∷ older) ++ zones_of vs) few ∙ behind_older (next ∷ older) vs h
    where
      few : length vs < length ((next ∷ older) ++ zones_of vs)
      few =
          let e : length ((next ∷ older) ++ zones_of vs) ≡ length (next ∷ older) + length (zones_of vs) = length-append (next ∷ older) (zones_of vs) in
          let f : length (zones_of vs) ≡ length vs = length-map vs (λ (w : Version). w.zone) in
          omega (arith, e, f)

-- what is told of versions that are kept, by the definitions
pub told_kept : (size serial : ℕ) (all : List Version) (upto : ℕ) (older : List Zone) → upto ≤ length all → AreKept older all
    → told_changes (is_some (kept_since size (drop upto all) serial (take upto all))) (soa_of (newest [] (zones_of (take upto all)))) (unwrap_or (kept_since size (drop upto all) serial (take upto all)) [])
    ≡ changes_since size (zones_of (drop upto all)) upto serial (older ++ zones_of (take upto all))
told_kept size serial all upto older within kept =
    sym (ap (changes_from upto) (in_window size serial (drop upto all) (older ++ zones_of (take upto all)))
    ∙ ap (λ n. changes_from n (found size serial (drop upto all) (older ++ zones_of (take upto all)))) (sym (length-take-le upto all within))
    ∙ behind_older size serial (drop upto all) older (take upto all) (subst (AreKept older) (sym (take-append-drop upto all)) kept))

-- as it was found
pub told_found : (size serial : ℕ) (all : List Version) (upto : ℕ) (older : List Zone) (o : Option (List Version)) → upto ≤ length all → AreKept older all → o ≡ kept_since size (drop upto all) serial (take upto all)
    → told_changes (is_some o) (soa_of (newest [] (zones_of (take upto all)))) (unwrap_or o []) ≡ changes_since size (zones_of (drop upto all)) upto serial (older ++ zones_of (take upto all))
told_found size serial all upto older o within kept e =
    ap (λ p. told_changes (is_some p) (soa_of (newest [] (zones_of (take upto all)))) (unwrap_or p [])) e ∙ told_kept size serial all upto older within kept

-- a list has what stands at a place in it
is_present : {A : Type 0} (xs : List A) (at : ℕ) → at < length xs → (x : A) × (slice_get xs at ≡ Some x)
is_present [] at h = absurd (omega arith)
is_present (x ∷ xs) at h = (get_or (x ∷ xs) at x, slice_get-get_or (x ∷ xs) at x h)

or_shift : {A : Type 0} (o : Option A) (x : A) (p : Option A) → option_or (option_or o (Some x)) p ≡ option_or o (Some x)
or_shift None x p = refl
or_shift (Some y) x p = refl

-- the version at a place, and those behind it
module _ (size serial : ℕ) (all xs ys : List Version) (split : xs ++ ys ≡ all) (at : ℕ) (within : at < length xs) (b : Bool)
    (looked : (v : Version) → slice_get all at ≡ Some v → b ≡ is_held_before size serial (zones_of (drop at all)) (serial_before v.changes)) where
  here : (v : Version) × (slice_get (xs ++ ys) at ≡ Some v) × (drop at xs ≡ v ∷ drop (at + 1) xs)
  here =
      let p = is_present xs at within in
      let e : get_or (xs ++ ys) at p.0 ≡ p.0 = get_or-append xs ys p.0 at within ∙ get_or_from_slice_get xs at p.0 p.0 p.1 in
      let whole : at < length (xs ++ ys) = let k = length-append xs ys in omega (arith, k, within) in
      (p.0, slice_get-get_or (xs ++ ys) at p.0 whole ∙ ap Some e, drop_here xs at p.0 (sym p.1))

  here_is : b ≡ is_held_before size serial (zones_of ((here.0 ∷ drop (at + 1) xs) ++ ys)) (serial_before here.0.changes)
  here_is =
      looked here.0 (ap (λ l. slice_get l at) (sym split) ∙ here.1)
      ∙ ap (λ l. is_held_before size serial (zones_of l) (serial_before here.0.changes)) (ap (drop at) (sym split) ∙ drop-append-le at xs ys (omega (arith, within)) ∙ ap (λ l. l ++ ys) here.2)

  pub found_at : (place : Option (List Version)) (total : Option (List Version)) → b ≡ true → option_or (kept_since size ys serial (drop at xs)) place ≡ total → option_or (kept_since size ys serial (drop (at + 1) xs)) (Some (drop at xs)) ≡ total
  found_at place total e h =
      ap (λ l. option_or (kept_since size ys serial (drop (at + 1) xs)) (Some l)) here.2
      ∙ sym (or_shift (kept_since size ys serial (drop (at + 1) xs)) (here.0 ∷ drop (at + 1) xs) place)
      ∙ sym (ap (λ l. option_or (kept_since size ys serial l) place) here.2 ∙ ap (λ c. option_or (option_or (kept_since size ys serial (drop (at + 1) xs)) (if c then Some (here.0 ∷ drop (at + 1) xs) else None)) place) (sym here_is ∙ e))
      ∙ h

  pub passed_at : (place : Option (List Version)) (total : Option (List Version)) → b ≡ false → option_or (kept_since size ys serial (drop at xs)) place ≡ total → option_or (kept_since size ys serial (drop (at + 1) xs)) place ≡ total
  passed_at place total e h =
      ap (λ o. option_or o place) (sym (or_none (kept_since size ys serial (drop (at + 1) xs))))
      ∙ sym (ap (λ l. option_or (kept_since size ys serial l) place) here.2 ∙ ap (λ c. option_or (option_or (kept_since size ys serial (drop (at + 1) xs)) (if c then Some (here.0 ∷ drop (at + 1) xs) else None)) place) (sym here_is ∙ e))
      ∙ h
