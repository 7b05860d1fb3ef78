-- What the look-up of one prerequisite tells of its set.
use Rattle.std.proofs.Common.{◌≡◌, ℕ, zero, suc, ◌<◌, Bool, true, false, List, [], ◌∷◌, Option, None, Some, MatchOption, length, get_or, bytes_eq, MatchBool, refl, sym, ap, subst, ◌∙◌, arith}
use Rattle.std.specs.List.{list_any, AllPairs}
use Rattle.std.specs.Option.{is_some}
use Rattle.std.specs.Ordering.{nat_cmp, is_lt}
use Rattle.std.specs.Cmp.Lexicographic.{slice_cmp}
use Rattle.std.proofs.lemmas.Bool as bool
use Rattle.std.proofs.lemmas.List.{get_or-map, get_or_read, length-map}
use Rattle.std.proofs.lemmas.List.Folds.{list_all_at}
use Rattle.std.proofs.lemmas.Slice.Eq.{bytes_eq-Decides}
use Rattle.dns_name.specs.Name.{Name}
use Rattle.dns_rdata.specs.Data.{Data}
use Rattle.dns_rdata.specs.Record.{Record, IsBefore, records_with, has_data}
use Rattle.dns_rdata.specs.Raw.{RawRecord}
use Rattle.update_core.specs.Ordered.{is_sought, place_behind, LeadsOn, is_of_whole}
use Rattle.update_core.proofs.ListLemmas.{any_mapped, either_right}

by_answer : (b : Bool) (P Q : Type 0) → (b ≡ true → P) → (b ≡ false → Q) → MatchBool b P Q
by_answer true P Q on_true on_false = on_true refl
by_answer false P Q on_true on_false = on_false refl

abbrev some_data : Data
some_data = record { rtype = 0; octets = [] }

module _ (owner : Name) (rtype ttl : ℕ) where
  abbrev as_record : Data → Record
  as_record d = record { owner = owner; rtype = rtype; ttl = ttl; rdata = d.octets }

  -- a place's data
  data_at : (ds : List Data) (i : ℕ) (d : Data) (e : Record) → i < length ds → (get_or (records_with owner rtype ttl ds) i e).rdata ≡ (get_or ds i d).octets
  data_at ds i d e below = ap (λ (r : Record). r.rdata) (get_or-map as_record ds i d e below)

  records_rise : (ds : List Data) → AllPairs IsBefore ds → AllPairs (λ s t. is_lt (slice_cmp nat_cmp s.rdata t.rdata) ≡ true) (records_with owner rtype ttl ds)
  records_rise ds rises =
      λ i j e before below.
      let within : j < length ds = subst (λ n. j < n) (length-map ds as_record) below in
      let first = data_at ds i some_data e (omega (arith, before, within)) in
      let second = data_at ds j some_data e within in
      ap (λ octets. is_lt (slice_cmp nat_cmp octets (get_or (records_with owner rtype ttl ds) j e).rdata)) first
      ∙ ap (λ octets. is_lt (slice_cmp nat_cmp (get_or ds i some_data).octets octets)) second
      ∙ rises i j some_data before within

  -- its data is in the set, and the data behind was sent
  pub leads_here : (ds : List Data) → AllPairs IsBefore ds → (sent : List RawRecord) (r : RawRecord) (at : ℕ) → at < length ds → ((d : Data) → (get_or ds at d).octets ≡ r.octets)
      → place_behind (length ds) at < length ds → ((d : Data) → list_any (is_sought r.owner r.rtype (get_or ds (place_behind (length ds) at) d).octets) sent ≡ true) → LeadsOn (records_with owner rtype ttl ds) sent r
  leads_here ds rises sent r at below here within sought = record {
    ascending = records_rise ds rises;
    at = at;
    below = subst (λ n. at < n) (sym (length-map ds as_record)) below;
    here = λ e. data_at ds at some_data e below ∙ here some_data;
    behind = λ e.
        ap (λ n. list_any (is_sought r.owner r.rtype (get_or (records_with owner rtype ttl ds) (place_behind n at) e).rdata) sent) (length-map ds as_record)
        ∙ ap (λ octets. list_any (is_sought r.owner r.rtype octets) sent) (data_at ds (place_behind (length ds) at) some_data e within) ∙ sought some_data;
  }

  -- its data isn't in the set
  pub lacks_data : (ds : List Data) (sent : List RawRecord) (r : RawRecord) → list_any (λ d. bytes_eq r.octets d.octets) ds ≡ false → is_of_whole (records_with owner rtype ttl ds) sent r ≡ false
  lacks_data ds sent r lacks =
      bool.and_left (has_data (records_with owner rtype ttl ds) r.octets) _ (any_mapped (λ s. bytes_eq r.octets s.rdata) as_record ds ∙ lacks)

  -- a place, or none, tells whether its data is there
  any_at : (octets : List ℕ) (ds : List Data) (at : ℕ) → at < length ds → ((d : Data) → (get_or ds at d).octets ≡ octets) → list_any (λ d. bytes_eq octets d.octets) ds ≡ true
  any_at octets [] at below is = absurd (omega arith)
  any_at octets (d ∷ ds) zero below is = let here : bytes_eq octets d.octets ≡ true = (bytes_eq-Decides octets d.octets).1 (sym (is d)) in rw here refl
  any_at octets (d ∷ ds) (suc at) below is = either_right (bytes_eq octets d.octets) (list_any (λ d. bytes_eq octets d.octets) ds) (any_at octets ds at (omega arith) is)

  pub is_among_by : (octets : List ℕ) (ds : List Data) (place : Option ℕ) → MatchOption place (list_any (λ d. bytes_eq octets d.octets) ds ≡ false) (λ at. (at < length ds) × ((d : Data) → (get_or ds at d).octets ≡ octets))
      → is_some place ≡ has_data (records_with owner rtype ttl ds) octets
  is_among_by octets ds None lacks = sym (any_mapped (λ s. bytes_eq octets s.rdata) as_record ds ∙ lacks)
  is_among_by octets ds (Some at) found = sym (any_mapped (λ s. bytes_eq octets s.rdata) as_record ds ∙ any_at octets ds at found.0 found.1)

  -- one of the set's data wasn't sent
  pub lacks_sent : (ds : List Data) (sent : List RawRecord) (r : RawRecord) (i : ℕ) → i < length ds → ((d : Data) → list_any (is_sought r.owner r.rtype (get_or ds i d).octets) sent ≡ false) → is_of_whole (records_with owner rtype ttl ds) sent r ≡ false
  lacks_sent ds sent r i below lacks =
      let some_record : Record = as_record some_data in
      bool.and_right (has_data (records_with owner rtype ttl ds) r.octets) _
      (list_all_at (λ s. list_any (is_sought r.owner r.rtype s.rdata) sent) (records_with owner rtype ttl ds) i some_record (subst (λ n. i < n) (sym (length-map ds as_record)) below)
      (ap (λ octets. list_any (is_sought r.owner r.rtype octets) sent) (data_at ds i some_data some_record below) ∙ lacks some_data))

  -- so an answer about the data behind it tells whether it leads on
  pub reported : (ds : List Data) → AllPairs IsBefore ds → (sent : List RawRecord) (r : RawRecord) (at next : ℕ) (d : Data) → at < length ds → ((e : Data) → (get_or ds at e).octets ≡ r.octets)
      → next ≡ place_behind (length ds) at → next < length ds → d ≡ get_or ds next d → (b : Bool) → b ≡ list_any (is_sought r.owner r.rtype d.octets) sent
      → (set : List Record) → set ≡ records_with owner rtype ttl ds → MatchBool b (LeadsOn set sent r) (is_of_whole set sent r ≡ false)
  reported ds rises sent r at next d below here place within is b says set found =
      let at_next : (e : Data) → list_any (is_sought r.owner r.rtype (get_or ds next e).octets) sent ≡ b =
      λ e. ap (λ (f : Data). list_any (is_sought r.owner r.rtype f.octets) sent) (sym (get_or_read ds next d within is e)) ∙ sym says
      in
      by_answer b (LeadsOn set sent r) (is_of_whole set sent r ≡ false)
      (λ sent_too. subst (λ s. LeadsOn s sent r) (sym found)
      (leads_here ds rises sent r at below here (subst (λ n. n < length ds) place within)
      (λ e. ap (λ n. list_any (is_sought r.owner r.rtype (get_or ds n e).octets) sent) (sym place) ∙ at_next e ∙ sent_too)))
      (λ unsent. ap (λ s. is_of_whole s sent r) found ∙ lacks_sent ds sent r next within (λ e. at_next e ∙ unsent))

-- what an answer tells, where it says yes
pub lead_if : (set : List Record) (sent : List RawRecord) (r : RawRecord) (b : Bool) → MatchBool b (LeadsOn set sent r) (is_of_whole set sent r ≡ false) → b ≡ true → LeadsOn set sent r
lead_if set sent r true leads said = leads
lead_if set sent r false part said = absurd (cc)
