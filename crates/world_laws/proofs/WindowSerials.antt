-- The window's entries have the serials of their versions.
use Rattle.std.proofs.Common.{◌≡◌, refl, sym, ap, ◌∙◌, subst, ℕ, zero, suc, ◌+◌, ◌<◌, ◌≤◌, true, false, inl, inr, List, [], ◌∷◌, ◌++◌, length, drop, take, arith, Some, length-append}
use Rattle.std.specs.Prelude.{nat_lt}
use Rattle.std.specs.List.{slice_get}
use Rattle.std.proofs.lemmas.Bool.{cases_Bool, ltb-true, ltb-false}
use Rattle.std.proofs.lemmas.List.{map-append, take_all, take-append-le}
use Rattle.cell_core.proofs.SeatLemmas.{get_push_new}
use Rattle.cell_core.specs.declared.words.Owner.{Owner}
use Rattle.dns_message.specs.declared.update.Update.{Update as DynamicUpdate}
use Rattle.transfer_core.specs.Window.{fits}
use Rattle.update_core.specs.Act.{replay}
use Rattle.zone_tree.specs.Version.{zone_serial}
use Rattle.world_run.specs.declared.entries.Entry.{Entry}
use Rattle.world_run.specs.Entries.{serials_in, leaving, entered}
use Rattle.world_run.specs.World.{World}
use Rattle.world_laws.specs.Leads.{zones_behind}
use Rattle.world_laws.proofs.CallReplays.{Script, Placed, updates_in}
use Rattle.world_laws.proofs.ChainLists.{Zone}
use Rattle.world_laws.proofs.UseEnds.{no_swaps}
use Rattle.world_laws.proofs.UseLemmas.{AllFit}
use Rattle.world_laws.proofs.UseLists.{window_uses}
use Rattle.world_laws.proofs.UseWorld.{AllInUse}
use Rattle.world_laws.proofs.HeldLemmas.{parts_of, same_length}
use Rattle.world_laws.proofs.LeadLemmas.{zone_at}
use Rattle.world_laws.proofs.OtherCalls.{any_update}
use Rattle.world_laws.proofs.ReplayLemmas.{Goes, WindowComes}

-- the zones of earlier versions stay where there are more updates
pub zone_more : (first : Zone) (ups more : List DynamicUpdate) (k : ℕ) → k ≤ length ups → zone_at first (ups ++ more) k ≡ zone_at first ups k
zone_more first ups more k within = ap (replay first) (take-append-le k ups more within)

pub zones_more : (first : Zone) (ups more : List DynamicUpdate) (k n : ℕ) → k + n ≤ length ups → zones_behind first (ups ++ more) k n ≡ zones_behind first ups k n
zones_more first ups more k zero within = refl
zones_more first ups more k (suc n) within =
    ap (λ z. z ∷ zones_behind first (ups ++ more) (k + 1) n) (zone_more first ups more (k + 1) (omega (arith, within)))
    ∙ ap (λ zs. zone_at first ups (k + 1) ∷ zs) (zones_more first ups more (k + 1) n (omega (arith, within)))

-- each entry has the serial of the version of its number
abbrev pub IsSerial : Zone → List DynamicUpdate → Entry → Type 0
IsSerial first ups entry = (entry.number ≤ length ups) × (entry.serial.0 ≡ zone_serial (zone_at first ups entry.number))

abbrev pub AreSerials : Zone → List DynamicUpdate → List Entry → Type 0
AreSerials first ups [] = Unit {0}
AreSerials first ups (entry ∷ entries) = IsSerial first ups entry × AreSerials first ups entries

pub serial_at : (first : Zone) (ups : List DynamicUpdate) (entries : List Entry) (place : ℕ) (entry : Entry) → AreSerials first ups entries → slice_get entries place ≡ Some entry → IsSerial first ups entry
serial_at first ups [] place entry all e = absurd (let wrong = e in cc)
serial_at first ups (x ∷ entries) zero entry all e = (let same : x ≡ entry = (let f = e in cc) in subst (IsSerial first ups) same all.0)
serial_at first ups (x ∷ entries) (suc place) entry all e = serial_at first ups entries place entry all.1 e

serials_more : (first : Zone) (ups more : List DynamicUpdate) (entries : List Entry) → AreSerials first ups entries → AreSerials first (ups ++ more) entries
serials_more first ups more [] all = tt
serials_more first ups more (entry ∷ entries) all =
    let within = all.0.0 in
    let n = length-append ups more in
    ((omega (arith, within, n), all.0.1 ∙ ap zone_serial (sym (zone_more first ups more entry.number within))), serials_more first ups more entries all.1)

serials_drop : (first : Zone) (ups : List DynamicUpdate) (n : ℕ) (entries : List Entry) → AreSerials first ups entries → AreSerials first ups (drop n entries)
serials_drop first ups zero entries all = all
serials_drop first ups (suc n) [] all = tt
serials_drop first ups (suc n) (entry ∷ entries) all = serials_drop first ups n entries all.1

serials_with : (first : Zone) (ups : List DynamicUpdate) (entries : List Entry) (entry : Entry) → AreSerials first ups entries → IsSerial first ups entry → AreSerials first ups (entries ++ entry ∷ [])
serials_with first ups [] entry all is = (is, tt)
serials_with first ups (x ∷ entries) entry all is = (all.0, serials_with first ups entries entry all.1 is)

-- the entries that stay fit with the one that is entered
entered_one : (size : ℕ) (entry : Entry) → 0 < size → fits size (serials_in (entry ∷ [])) ≡ true
entered_one size entry some = elim (cases_Bool (nat_lt 0 size)) [ inl fit ↦ rw fit refl | inr not_fit ↦ absurd (let none = ltb-false 0 size not_fit in omega (arith, some, none)) ]

entered_stays : (size : ℕ) (entry x : Entry) (entries : List Entry) → fits size (serials_in (x ∷ entries) ++ entry.serial.0 ∷ []) ≡ true → entered size (x ∷ entries) entry ≡ (x ∷ entries) ++ entry ∷ []
entered_stays size entry x entries fit = rw fit refl

entered_leaves : (size : ℕ) (entry x : Entry) (entries : List Entry) → fits size (serials_in (x ∷ entries) ++ entry.serial.0 ∷ []) ≡ false → entered size (x ∷ entries) entry ≡ entered size entries entry
entered_leaves size entry x entries not_fit = rw not_fit refl

entered_fit : (size : ℕ) (entry : Entry) (entries : List Entry) → 0 < size → fits size (serials_in (entered size entries entry)) ≡ true
entered_fit size entry [] some = entered_one size entry some
entered_fit size entry (x ∷ entries) some =
    elim (cases_Bool (fits size (serials_in (x ∷ entries) ++ entry.serial.0 ∷ []))) [
      | inl fit ↦ (
          let serials : serials_in ((x ∷ entries) ++ entry ∷ []) ≡ serials_in (x ∷ entries) ++ entry.serial.0 ∷ [] = map-append (λ (e : Entry). e.serial.0) (x ∷ entries) (entry ∷ []) in
          ap (λ es. fits size (serials_in es)) (entered_stays size entry x entries fit) ∙ (ap (fits size) serials ∙ fit)
          )
      | inr not_fit ↦ ap (λ es. fits size (serials_in es)) (entered_leaves size entry x entries not_fit) ∙ entered_fit size entry entries some
    ]

-- the window's numbers are in turn, up to the last
pub window_numbers : (owners : List Owner) (total : ℕ) (entries : List Entry) (place : ℕ) (entry : Entry) → AllFit owners (window_uses total entries) → slice_get entries place ≡ Some entry → entry.number + length entries ≡ total + place
window_numbers owners total [] place entry fits_so e = absurd (let wrong = e in cc)
window_numbers owners total (x ∷ entries) zero entry fits_so e =
    let same : x ≡ entry = (let f = e in cc) in
    let n : entry.number ≡ x.number = ap (λ (y : Entry). y.number) (sym same) in
    let m = fits_so.0.0 in
    omega (arith, n, m)
window_numbers owners total (x ∷ entries) (suc place) entry fits_so e = (let more = window_numbers owners total entries place entry fits_so.1 e in omega (arith, more))

-- they are in hand while no update is under way
pub window_fits : (S : Script) (first : Zone) (world : World) (g : Goes S first world) (h : AllInUse world) → any_update world.calls ≡ false → AllFit world.words.owners (window_uses (length (updates_in g.us) + 1) world.entries)
window_fits S first world g h none =
    let fits_so : AllFit world.words.owners (window_uses (h.from + length world.kept) world.entries) = rw none at (parts_of world h).2 in
    let swaps = no_swaps world.calls none in
    let same = same_length world.words h.cell g.tells.cell h.shows g.tells.shows in
    let total : h.from + length world.kept ≡ length (updates_in g.us) + 1 = omega (arith, h.kept_count, h.swapped, swaps, h.counted, same, g.tells.replays.counted) in
    subst (λ n. AllFit world.words.owners (window_uses n world.entries)) total fits_so

-- there is a window where it has an entry
some_window : (world : World) (front : List Entry) (entry : Entry) → AllInUse world → world.entries ≡ front ++ entry ∷ [] → 0 < world.window
some_window world front entry h is =
    elim (cases_Bool (nat_lt 0 world.window)) [
      | inl some ↦ ltb-true 0 world.window some
      | inr none ↦ absurd (let n : length world.entries ≡ 0 = ap length (h.shut none) in let m : length world.entries ≡ length (front ++ entry ∷ []) = ap length is in let k = length-append front (entry ∷ []) in omega (arith, n, m, k))
    ]

-- the serials behind a line, and that they fit
pub record Serials (first : Zone) (ups : List DynamicUpdate) (window : ℕ) (entries : List Entry) : Type 0 where
  pub each : AreSerials first ups entries
  pub fit : fits window (serials_in entries) ≡ true

pub serials_on : (S : Script) (first : Zone) (before after : World) (ups more : List DynamicUpdate) (us : List Placed) (g : Goes S first after) → AllInUse after → after.window ≡ before.window → updates_in g.us ≡ ups ++ more → updates_in us ≡ updates_in g.us → WindowComes first before us after
    → Serials first ups before.window before.entries → Serials first (updates_in g.us) after.window after.entries
serials_on S first before after ups more us g h same_window grown same_us comes s =
    let each : AreSerials first (updates_in g.us) before.entries = subst (λ u. AreSerials first u before.entries) (sym grown) (serials_more first ups more before.entries s.each) in
    elim comes [
      | inl same ↦ record {
        each = subst (AreSerials first (updates_in g.us)) (sym same) each;
        fit = ap (λ w. fits w (serials_in after.entries)) same_window ∙ (ap (λ es. fits before.window (serials_in es)) same ∙ s.fit);
      }
      | inr it ↦ (
          let entry = it.entry in
          let front = drop (length (leaving before.window before.entries entry.serial.0)) before.entries in
          let is : after.entries ≡ front ++ entry ∷ [] = it.entered_so in
          let there : slice_get after.entries (length front) ≡ Some entry = ap (λ es. slice_get es (length front)) is ∙ get_push_new front entry (length front) refl in
          let number = window_numbers after.words.owners (length (updates_in g.us) + 1) after.entries (length front) entry (window_fits S first after g h it.ended) there in
          let n : length after.entries ≡ length (front ++ entry ∷ []) = ap length is in
          let m = length-append front (entry ∷ []) in
          let last : entry.number ≡ length (updates_in g.us) = omega (arith, number, n, m) in
          let whole : take entry.number (updates_in g.us) ≡ updates_in g.us = take_all entry.number (updates_in g.us) (omega (arith, last)) in
          let serial : entry.serial.0 ≡ zone_serial (zone_at first (updates_in g.us) entry.number) = it.serial ∙ ap (λ u. zone_serial (replay first u)) (same_us ∙ sym whole) in
          let window : 0 < before.window = subst (λ w. 0 < w) same_window (some_window after front entry h is) in
          record {
            each = subst (AreSerials first (updates_in g.us)) (sym is) (serials_with first (updates_in g.us) front entry (serials_drop first (updates_in g.us) (length (leaving before.window before.entries entry.serial.0)) before.entries each) (omega (arith, last), serial));
            fit = ap (λ w. fits w (serials_in after.entries)) same_window ∙ (ap (λ es. fits before.window (serials_in es)) it.entered_so ∙ entered_fit before.window entry before.entries window);
          }
          )
    ]
