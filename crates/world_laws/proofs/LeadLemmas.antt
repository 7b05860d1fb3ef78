-- What is told of the versions that are kept, and what it leads to.
use Rattle.std.proofs.Common.{◌≡◌, refl, sym, ap, ◌∙◌, subst, ℕ, zero, suc, ◌+◌, ◌^◌, ◌<◌, ◌≤◌, true, false, inl, inr, List, [], ◌∷◌, ◌++◌, length, take, arith, Some, All}
use Rattle.std.specs.Prelude.{◌==◌, unwrap_or}
use Rattle.std.specs.List.{slice_get}
use Rattle.std.proofs.Math.ListN.{get_or}
use Rattle.std.proofs.lemmas.Bool.{cases_Bool}
use Rattle.std.proofs.lemmas.Bool.Decides.{eqb_tells}
use Rattle.std.proofs.lemmas.List.{take_more, length-map}
use Rattle.std.proofs.lemmas.List.Elements.{All-head, All-tail}
use Rattle.std.proofs.lemmas.Option.{slice_get_within, get_or_from_slice_get}
use Rattle.cell_core.proofs.SeatLemmas.{get_within}
use Rattle.dns_message.specs.declared.update.Update.{Update as DynamicUpdate}
use Rattle.dns_rdata.proofs.SoaSerial.{serial_of-small}
use Rattle.dns_rdata.specs.Data.{data_of, serial_of}
use Rattle.dns_rdata.specs.Numbers.{type_SOA}
use Rattle.dns_rdata.specs.Record.{Record, IsLawful}
use Rattle.dns_rdata.specs.SerialOrder.{serial_less}
use Rattle.transfer_core.specs.Chain.{zones_of}
use Rattle.update_core.proofs.ActKeeps.{act_zone, act_apex}
use Rattle.update_core.proofs.SerialLaw.{rises}
use Rattle.update_core.specs.Act.{act, replay}
use Rattle.zone_tree.specs.Version.{Version as Numbered, zone_serial, first_data}
use Rattle.zone_tree.specs.Zone.{IsZone, apex_of, soa_of}
use Rattle.world_laws.specs.Replays.{AreReplays}
use Rattle.world_laws.proofs.CallReplays.{replay_more}
use Rattle.world_laws.proofs.ChainLists.{Zone, IsChain, AreChain}
use Rattle.world_laws.proofs.SentUpdates.{reads_sent}

-- the zone behind the first so many updates
abbrev pub zone_at : Zone → List DynamicUpdate → ℕ → Zone
zone_at first updates k = replay first (take k updates)

-- one update more
one_more : (first : Zone) (updates : List DynamicUpdate) (k : ℕ) (u : DynamicUpdate) (next : Zone) → slice_get updates k ≡ Some u → act (zone_at first updates k) u ≡ Some next → zone_at first updates (k + 1) ≡ next
one_more first updates k u next at made =
    let within = slice_get_within updates k u at in
    let there : get_or updates k u ≡ u = get_or_from_slice_get updates k u u at in
    ap (replay first) (take_more updates k u within ∙ ap (λ v. take k updates ++ v ∷ []) there)
    ∙ (replay_more first (take k updates) u ∙ ap (λ o. unwrap_or o (zone_at first updates k)) made)

-- a zone's serial has 32 bits
small_first : (zs : List Record) → 0 < length (soa_of zs) → All IsLawful zs → serial_of (first_data (soa_of zs)) < 2 ^ 32
small_first [] some lawful = absurd (omega arith)
small_first (z ∷ zs) some lawful =
    elim (cases_Bool (z.rtype == type_SOA)) [
      | inl soa ↦ (
          let own = All-head IsLawful z zs lawful in
          let rtype : z.rtype ≡ type_SOA = elim (eqb_tells z.rtype type_SOA) [ inl same ↦ same.1 | inr other ↦ absurd (let wrong : true ≡ false = sym soa ∙ other.0 in cc) ] in
          let small = serial_of-small z.rdata (subst (λ t. data_of t z.rdata ≡ Some z.rdata) rtype own.form) own.octets in
          let is : soa_of (z ∷ zs) ≡ z ∷ soa_of zs = rw soa refl in
          subst (λ s. serial_of (first_data s) < 2 ^ 32) (sym is) small
          )
      | inr other ↦ (
          let is : soa_of (z ∷ zs) ≡ soa_of zs = rw other refl in
          let n : length (soa_of (z ∷ zs)) ≡ length (soa_of zs) = ap length is in
          subst (λ s. serial_of (first_data s) < 2 ^ 32) (sym is) (small_first zs (omega (arith, some, n)) (All-tail IsLawful z zs lawful))
          )
    ]

small_serial : (zone : Zone) → IsZone zone → zone_serial zone < 2 ^ 32
small_serial zone is = small_first zone (omega (arith, is.rules.one_soa)) is.rules.lawful

module _ (S : List ℕ → Type 0) (first : Zone) (published : List Numbered) (updates : List DynamicUpdate) (r : AreReplays S first published updates)
    (octets : (request : List ℕ) → S request → All (λ octet. octet < 256) request) (is : IsZone first) where
  -- each zone is one, of one apex
  pub zone_is : (k : ℕ) → k ≤ length updates → IsZone (zone_at first updates k) × (apex_of (zone_at first updates k) ≡ apex_of first)
  zone_is zero within = (is, refl)
  zone_is (suc k) within =
      let before = zone_is k (omega (arith, within)) in
      let u = get_within updates k (omega (arith, within)) in
      let a = r.accepted k u.0 u.1 in
      let sent = reads_sent a.1.request u.0 (octets a.1.request a.1.sent) a.1.read in
      let e : zone_at first updates (suc k) ≡ a.0 = (let s : suc k ≡ k + 1 = omega arith in ap (zone_at first updates) s ∙ one_more first updates k u.0 a.0 u.1 a.1.made) in
      let next : IsZone a.0 = act_zone (zone_at first updates k) a.0 u.0 true before.0 sent a.1.let_through a.1.made in
      let apex : apex_of a.0 ≡ apex_of (zone_at first updates k) = act_apex (zone_at first updates k) a.0 u.0 true before.0 sent a.1.let_through a.1.made in
      (subst IsZone (sym e) next, ap apex_of e ∙ (apex ∙ before.1))

  -- and serials rise
  rises_at : (k : ℕ) → k < length updates → serial_less (zone_serial (zone_at first updates k)) (zone_serial (zone_at first updates (k + 1))) ≡ true
  rises_at k within =
      let u = get_within updates k within in
      let a = r.accepted k u.0 u.1 in
      let e = one_more first updates k u.0 a.0 u.1 a.1.made in
      elim (rises (zone_at first updates k) a.0 u.0 true (zone_is k (omega (arith, within))).0 a.1.let_through a.1.made) [
        | inl same ↦ absurd (a.1.changes same)
        | inr less ↦ subst (λ z. serial_less (zone_serial (zone_at first updates k)) (zone_serial z) ≡ true) (sym e) less
      ]

  pub chain_from : (zone : Zone) (zones : List Zone) (k : ℕ) → zone ≡ zone_at first updates k → ((j : ℕ) (z : Zone) → slice_get zones j ≡ Some z → z ≡ zone_at first updates (k + 1 + j)) → k + length zones ≤ length updates → IsChain zone zones
  chain_from zone [] k e each within =
      let z = zone_is k (omega (arith, within)) in
      let here = subst IsZone (sym e) z.0 in (here, small_serial zone here)
  chain_from zone (next ∷ zones) k e each within =
      let z = zone_is k (omega (arith, within)) in
      let here = subst IsZone (sym e) z.0 in
      let e_next : next ≡ zone_at first updates (k + 1) = (let s : k + 1 + 0 ≡ k + 1 = omega arith in each 0 next refl ∙ ap (zone_at first updates) s) in
      let after = zone_is (k + 1) (omega (arith, within)) in
      let apex : apex_of next ≡ apex_of zone = ap apex_of e_next ∙ (after.1 ∙ (sym z.1 ∙ ap apex_of (sym e))) in
      let less = rises_at k (omega (arith, within)) in
      let less_so : serial_less (zone_serial zone) (zone_serial next) ≡ true = ap (λ a. serial_less (zone_serial a) (zone_serial next)) e ∙ (ap (λ b. serial_less (zone_serial (zone_at first updates k)) (zone_serial b)) e_next ∙ less) in
      (here, small_serial zone here, apex, less_so, chain_from next zones (k + 1) e_next (λ j a at. (let s : k + 1 + suc j ≡ k + 1 + 1 + j = omega arith in each (suc j) a at ∙ ap (zone_at first updates) s)) (omega (arith, within)))

  pub zone_of_at : (versions : List Numbered) (j : ℕ) (z : Zone) → slice_get (zones_of versions) j ≡ Some z → (v : Numbered) × (slice_get versions j ≡ Some v) × (v.zone ≡ z)
  zone_of_at [] j z e = absurd (let wrong = e in cc)
  zone_of_at (v ∷ versions) zero z e = (v, refl, (let f = e in cc))
  zone_of_at (v ∷ versions) (suc j) z e = zone_of_at versions j z e

  pub are_chain : AreChain (zones_of published)
  are_chain = by published refl
    where
      by : (versions : List Numbered) → versions ≡ published → AreChain (zones_of versions)
      by [] e = tt
      by (v ∷ versions) e =
          let n : length (v ∷ versions) ≡ length published = ap length e in
          chain_from v.zone (zones_of versions) 0 ((r.versions 0 v (ap (λ p. slice_get p 0) (sym e))).1)
          (λ j z at. (
          let found = zone_of_at versions j z at in
          let there : slice_get published (suc j) ≡ Some found.0 = ap (λ p. slice_get p (suc j)) (sym e) ∙ found.1 in
          let s : suc j ≡ 0 + 1 + j = omega arith in
          sym found.2 ∙ ((r.versions (suc j) found.0 there).1 ∙ ap (zone_at first updates) s)
          ))
          (let m = length-map versions (λ (w : Numbered). w.zone) in omega (arith, n, m, r.counted))
