-- The records of the update, by what goes and comes and by whether the zones share an NS.
use Rattle.std.proofs.Common.{◌≡◌, refl, sym, ap, ◌∙◌, ◌<◌, Bool, true, false, true≢false, cond, if◌then◌else◌, List, [], ◌++◌, map, take, unwrap_or, lit<, None}
use Rattle.dns_name.specs.Name.{Name}
use Rattle.dns_rdata.specs.Raw.{RawRecord}
use Rattle.std.proofs.Math.Bridge.{le_prop}
use Rattle.std.specs.List.{list_any}
use Rattle.std.specs.Cmp.Lexicographic.{pointwise}
use Rattle.dns_rdata.specs.Record.{Record}
use Rattle.dns_rdata.specs.SerialOrder.{serial_less, serial_next}
use Rattle.zone_tree.specs.Zone.{IsZone, soa_of, apex_of}
use Rattle.zone_tree.specs.Change.{is_same_record, left_out}
use Rattle.zone_tree.specs.Patch.{is_among}
use Rattle.zone_tree.specs.Version.{zone_serial, Changes, AreChanges}
use Rattle.update_core.specs.Act.{at_serial, effects}
use Rattle.update_core.proofs.ListLemmas.{by_test}
use Rattle.zone_change.specs.Change.{aimed, put_in, taken_out, standing, update_from, steps, servers_of, first_server, with_first, change_records, change_head, AreBeside}
use Rattle.zone_change.proofs.Law.{pointwise_itself, servers_same}
use Rattle.zone_change.proofs.Serials.{out_of_serial, serial_left_out}

-- a header of these parts is the header of the definition
pub same_head : (h : 5 < 16) → record { id = 0; opcode = 5; rd = false; four_bits = h } ≡ change_head
same_head h = ap (λ (k : 5 < 16). record { id = 0; opcode = 5; rd = false; four_bits = k }) (le_prop h (lit< tt))

-- an update of these parts is the one of the definition
pub same_update : (old : List Record) (rs : List RawRecord) (h : 5 < 16) (name : Name) (ps us : List RawRecord) → name ≡ apex_of old → ps ≡ map standing (soa_of old) → us ≡ rs
    → record { head = record { id = 0; opcode = 5; rd = false; four_bits = h }; edns = None; zone = record { name = name; rtype = record { 0 = 6 }; class = record { 0 = 1 } }; prerequisites = ps; updates = us } ≡ update_from old rs
same_update old rs h name ps us is is_present are = λ i. record {
  head = same_head h i;
  edns = None;
  zone = record { name = is i; rtype = record { 0 = 6 }; class = record { 0 = 1 } };
  prerequisites = is_present i;
  updates = are i;
}

-- what goes, the SOA and what comes, of changes
abbrev pub steps_of : Changes → List Record → List RawRecord
steps_of d soa = map taken_out d.deletions ++ (map put_in soa ++ map put_in d.additions)

-- the zone that a change is to lead to has the next zone's records beside the SOA
pub record IsLike (old next aim : List Record) : Type 0 where
  pub beside : AreBeside aim next
  pub servers : servers_of aim ≡ servers_of next

module _ (old next : List Record) (h : IsZone old) (k : IsZone next) (apart : pointwise is_same_record old (aimed old next) ≡ false) where
  pub like : IsLike old next (aimed old next)
  like =
      by_test (λ z. pointwise is_same_record old z ≡ false → IsLike old next z) (serial_less (zone_serial old) (zone_serial next)) next (if pointwise is_same_record old (at_serial (zone_serial old) next) then old else at_serial (serial_next (zone_serial old)) next)
      (λ _ _. record { beside = λ other. (refl, refl); servers = refl })
      (λ _. by_test (λ z. pointwise is_same_record old z ≡ false → IsLike old next z) (pointwise is_same_record old (at_serial (zone_serial old) next)) old (at_serial (serial_next (zone_serial old)) next)
      (λ _ no. absurd (true≢false (sym (pointwise_itself old) ∙ no)))
      (λ _ _. record {
        beside = λ other. (serial_left_out (serial_next (zone_serial old)) next other, out_of_serial (serial_next (zone_serial old)) other next);
        servers = servers_same (serial_next (zone_serial old)) next k;
      }))
      apart

  abbrev aim : List Record
  aim = aimed old next

  records : (b : Bool) → list_any (is_among old) (servers_of next) ≡ b → change_records old aim ≡ map put_in (cond b [] (take 1 (servers_of next))) ++ steps (unwrap_or (effects old (map put_in (cond b [] (take 1 (servers_of next))))) old) aim
  records b e =
      ap (λ c. if c then [] else map put_in (first_server old aim) ++ steps (with_first old aim) aim) apart
      ∙ ap (λ ns. map put_in (if list_any (is_among old) ns then [] else take 1 ns) ++ steps (unwrap_or (effects old (map put_in (if list_any (is_among old) ns then [] else take 1 ns))) old) aim) like.servers
      ∙ ap (λ c. map put_in (cond c [] (take 1 (servers_of next))) ++ steps (unwrap_or (effects old (map put_in (cond c [] (take 1 (servers_of next))))) old) aim) e

  -- where they share an NS
  pub shared_records : (d : Changes) (soa : List Record) → list_any (is_among old) (servers_of next) ≡ true → AreChanges d old aim → soa ≡ soa_of aim → change_records old aim ≡ steps_of d soa
  shared_records d soa e changes is_soa = records true e ∙ (λ i. map taken_out (sym changes.deletions i) ++ (map put_in (sym is_soa i) ++ map put_in (sym changes.additions i)))

  -- and where they don't
  pub first_records : (d : Changes) (soa between : List Record) → list_any (is_among old) (servers_of next) ≡ false → AreBeside between (unwrap_or (effects old (map put_in (take 1 (servers_of next)))) old) → AreChanges d between next → soa ≡ soa_of aim
      → change_records old aim ≡ map put_in (take 1 (servers_of next)) ++ steps_of d soa
  first_records d soa between e beside changes is_soa =
      let mid = unwrap_or (effects old (map put_in (take 1 (servers_of next)))) old in
      let gone : left_out mid aim ≡ d.deletions = (like.beside mid).1 ∙ sym (beside next).0 ∙ sym changes.deletions in
      let come : left_out aim mid ≡ d.additions = (like.beside mid).0 ∙ sym (beside next).1 ∙ sym changes.additions in
      records false e ∙ (λ i. map put_in (take 1 (servers_of next)) ++ (map taken_out (gone i) ++ (map put_in (sym is_soa i) ++ map put_in (come i))))
