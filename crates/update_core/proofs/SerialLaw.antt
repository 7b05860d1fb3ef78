-- The serial of each zone that an update makes is greater than that of the zone before.
use Rattle.std.proofs.Common.{◌≡◌, ◌⊎◌, inl, inr, ℕ, ◌<◌, ◌^◌, Bool, true, false, ◌==◌, cond, if◌then◌else◌, List, [], ◌∷◌, length, All, Option, None, Some, ◌+◌, refl, ap, subst, ◌∙◌, arith, lit<}
use Rattle.std.proofs.Math.Nat.{mod-lt}
use Rattle.std.proofs.lemmas.Bool.{eqb-true}
use Rattle.std.specs.Option.{option_map, IfSome}
use Rattle.std.specs.Cmp.Lexicographic.{pointwise}
use Rattle.std.proofs.lemmas.List.Elements.{All-nil, All-cons, All-head, All-tail, All-weaker}
use Rattle.dns_rdata.specs.Numbers.{type_SOA}
use Rattle.dns_rdata.specs.Data.{data_of, serial_of}
use Rattle.dns_rdata.specs.Record.{Record, IsLawful}
use Rattle.dns_rdata.specs.Raw.{RawRecord}
use Rattle.dns_rdata.specs.SerialOrder.{serial_less, serial_next}
use Rattle.dns_rdata.proofs.SerialLemmas.{less-next}
use Rattle.dns_message.specs.declared.update.Update.{Update}
use Rattle.zone_tree.specs.Zone.{IsZone, soa_of}
use Rattle.update_core.specs.Verdict.{check, permission, prescan, prescan_of, verdict}
use Rattle.zone_tree.specs.Change.{is_same_record}
use Rattle.zone_tree.specs.Version.{zone_serial, first_data}
use Rattle.update_core.specs.Act.{act, effects, completed, at_serial}
use Rattle.update_core.proofs.ListLemmas.{by_test}
use Rattle.dns_rdata.proofs.SoaSerial.{serial_of-with_serial, serial_of-small}
use Rattle.update_core.proofs.SentLemmas.{no_first, passed}
use Rattle.update_core.proofs.SoaKept.{HasForm, HasSoa, IsFormed, effects_keep}

-- the records of class IN of a scanned update have their types' forms
formed : (zone : List Record) (rs : List RawRecord) → prescan zone rs ≡ None → All IsFormed rs
formed zone [] e = All-nil IsFormed
formed zone (r ∷ rs) e = let both = no_first (prescan_of zone r) (prescan zone rs) e in All-cons IsFormed r rs (λ class. (passed zone r both.0 class).form) (formed zone rs both.1)

-- an SOA that is first has the serial that is put in
first_serial : (n : ℕ) (zs : List Record) → n < 2 ^ 32 → 0 < length (soa_of zs) → All HasForm zs → serial_of (first_data (soa_of (at_serial n zs))) ≡ n
first_serial n [] small some form = absurd (omega arith)
first_serial n (z ∷ zs) small some form =
    by (z.rtype == type_SOA) refl some (λ more. first_serial n zs small more (All-tail HasForm z zs form))
  where
    by : (b : Bool) → (z.rtype == type_SOA) ≡ b → 0 < length (cond b (z ∷ soa_of zs) (soa_of zs)) → (0 < length (soa_of zs) → serial_of (first_data (soa_of (at_serial n zs))) ≡ n)
        → serial_of (first_data (soa_of (at_serial n (z ∷ zs)))) ≡ n
    by true e some behind = rw (e, e) (serial_of-with_serial z.rdata n (form 0 z (omega arith) e) small)
    by false e some behind = rw (e, e) (behind some)

first_small : (zs : List Record) → 0 < length (soa_of zs) → All IsLawful zs → serial_of (first_data (soa_of zs)) < 2 ^ 32
first_small [] some lawful = absurd (omega arith)
first_small (z ∷ zs) some lawful =
    by (z.rtype == type_SOA) refl some (λ more. first_small zs more (All-tail IsLawful z zs lawful))
  where
    by : (b : Bool) → (z.rtype == type_SOA) ≡ b → 0 < length (cond b (z ∷ soa_of zs) (soa_of zs)) → (0 < length (soa_of zs) → serial_of (first_data (soa_of zs)) < 2 ^ 32)
        → serial_of (first_data (cond b (z ∷ soa_of zs) (soa_of zs))) < 2 ^ 32
    by true e some behind =
        let own = All-head IsLawful z zs lawful in
        serial_of-small z.rdata (subst (λ t. data_of t z.rdata ≡ Some z.rdata) (eqb-true z.rtype type_SOA e) own.form) own.octets
    by false e some behind = behind some

small_serial : (zone : List Record) → IsZone zone → zone_serial zone < 2 ^ 32
small_serial zone is = first_small zone (omega (arith, is.rules.one_soa)) is.rules.lawful

-- the three ways of what is completed
rises_by : (zone after : List Record) → IsZone zone → HasSoa after → (completed zone after ≡ zone) ⊎ (serial_less (zone_serial zone) (zone_serial (completed zone after)) ≡ true)
rises_by zone after is h =
    by_test (λ (z : List Record). (z ≡ zone) ⊎ (serial_less (zone_serial zone) (zone_serial z) ≡ true)) (pointwise is_same_record zone after) zone
    (if serial_less (zone_serial zone) (zone_serial after) then after else at_serial (serial_next (zone_serial zone)) after) (λ _. inl refl)
    (λ _. by_test (λ (z : List Record). (z ≡ zone) ⊎ (serial_less (zone_serial zone) (zone_serial z) ≡ true)) (serial_less (zone_serial zone) (zone_serial after)) after (at_serial (serial_next (zone_serial zone)) after)
    (λ less. inr less)
    (λ _. inr (ap (serial_less (zone_serial zone)) (first_serial (serial_next (zone_serial zone)) after (mod-lt (zone_serial zone + 1) (lit< tt)) h.some h.form) ∙ less-next (zone_serial zone) (small_serial zone is))))

by_effects : (zone after : List Record) (o : Option (List Record)) → IsZone zone → IfSome o HasSoa → option_map (completed zone) o ≡ Some after → (after ≡ zone) ⊎ (serial_less (zone_serial zone) (zone_serial after) ≡ true)
by_effects zone after None is keeps e = absurd (cc)
by_effects zone after (Some made) is keeps e =
    let same : after ≡ completed zone made = cc in
    rw same (rises_by zone made is keeps)

lawful_form : (s : Record) → IsLawful s → HasForm s
lawful_form s k own = subst (λ t. data_of t s.rdata ≡ Some s.rdata) (eqb-true s.rtype type_SOA own) k.form

own_soa : (zone : List Record) → IsZone zone → HasSoa zone
own_soa zone is = record { some = omega (arith, is.rules.one_soa); form = All-weaker IsLawful HasForm lawful_form zone is.rules.lawful }

pub rises : (zone after : List Record) (update : Update) (may : Bool) → IsZone zone → verdict zone update may ≡ None → act zone update ≡ Some after → (after ≡ zone) ⊎ (serial_less (zone_serial zone) (zone_serial after) ≡ true)
rises zone after update may is taken e =
    let first = no_first (check zone update) _ taken in
    let last = no_first (permission may) (prescan zone update.updates) first.1 in
    by_effects zone after (effects zone update.updates) is (effects_keep zone update.updates (formed zone update.updates last.1) (own_soa zone is)) e

-- the serial behind a zone's is greater, in any zone that has an SOA
pub next_serial_less : (zone after : List Record) → IsZone zone → IsZone after → serial_less (zone_serial zone) (zone_serial (at_serial (serial_next (zone_serial zone)) after)) ≡ true
next_serial_less zone after is also =
    let soa = own_soa after also in
    ap (serial_less (zone_serial zone)) (first_serial (serial_next (zone_serial zone)) after (mod-lt (zone_serial zone + 1) (lit< tt)) soa.some soa.form) ∙ less-next (zone_serial zone) (small_serial zone is)
