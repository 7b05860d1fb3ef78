-- No rule gives an update NOERROR, so that no serials are told with a rule's code.
use Rattle.std.proofs.Common.{◌≡◌, ◌≢◌, refl, ℕ, Bool, true, false, List, [], ◌∷◌, Option, None, Some, ap, ◌∙◌}
use Rattle.std.specs.Prelude.{◌&&◌, ◌||◌, not, ◌==◌, if◌then◌else◌}
use Rattle.std.specs.Option.{option_or, is_some}
use Rattle.dns_name.specs.Name.{is_same, is_under}
use Rattle.dns_rdata.specs.Numbers.{type_NS, type_SOA, type_ANY, class_IN, class_NONE, class_ANY}
use Rattle.dns_rdata.specs.Record.{Record}
use Rattle.dns_rdata.specs.Raw.{RawRecord}
use Rattle.dns_rdata.specs.declared.numbers.Rcode.{Rcode}
use Rattle.dns_rdata.specs.declared.numbers.Rcode.TheVariants.{NoError, FormErr, ServFail, NxDomain, NotImp, Refused, YXDomain, YXRRSet, NXRRSet, NotAuth, NotZone, BadVers}
use Rattle.dns_message.specs.declared.update.Update.{Update}
use Rattle.dns_message.specs.declared.update.ZoneEntry.{ZoneEntry}
use Rattle.zone_tree.specs.Zone.{apex_of, is_wild}
use Rattle.zone_tree.specs.Version.{Version}
use Rattle.update_core.specs.Verdict.{is_in_use, has_rrset, is_empty, first_code, zone_section, prerequisite, prerequisites, are_met, permission, is_recognised, has_form, prescan_of, prescan, check, verdict}
use Rattle.update_core.specs.Act.{act}
use Rattle.update_core.specs.Applied.{code_of}
use Rattle.update_batches.specs.Verdict.{serials_with}
use Rattle.zone_server.specs.UpdateResult.{AreOwn}

-- it is another code, or none
abbrev IsOther : Option Rcode → Type 0
IsOther o = o ≢ Some NoError

none : IsOther None
none same = cc

choose : (b : Bool) (x y : Option Rcode) → IsOther x → IsOther y → IsOther (if b then x else y)
choose true x y one other = one
choose false x y one other = other

either : (x y : Option Rcode) → IsOther x → IsOther y → IsOther (option_or x y)
either None y one other = other
either (Some code) y one other = one

first : (test : RawRecord → Option Rcode) → ((r : RawRecord) → IsOther (test r)) → (rs : List RawRecord) → IsOther (first_code test rs)
first test each [] = none
first test each (r ∷ rs) = either (test r) (first_code test rs) (each r) (first test each rs)

of_form : IsOther (Some FormErr)
of_form same = cc

of_zone : IsOther (Some NotZone)
of_zone same = cc

of_auth : IsOther (Some NotAuth)
of_auth same = cc

of_refused : IsOther (Some Refused)
of_refused same = cc

of_fail : IsOther (Some ServFail)
of_fail same = cc

of_name : IsOther (Some NxDomain)
of_name same = cc

of_set : IsOther (Some NXRRSet)
of_set same = cc

of_used : IsOther (Some YXDomain)
of_used same = cc

of_there : IsOther (Some YXRRSet)
of_there same = cc

in_zone : (zone : List Record) (entry : ZoneEntry) → IsOther (zone_section zone entry)
in_zone zone entry = choose (not (entry.rtype.0 == type_SOA)) _ _ of_form (choose (not (is_same entry.name (apex_of zone))) _ _ of_auth (choose (not (entry.class.0 == class_IN)) _ _ of_auth none))

in_prerequisite : (zone : List Record) (r : RawRecord) → IsOther (prerequisite zone r)
in_prerequisite zone r =
    choose (not (r.ttl == 0)) _ _ of_form
    (choose (not (is_under r.owner (apex_of zone))) _ _ of_zone
    (choose (r.class == class_ANY && not (is_empty r)) _ _ of_form
    (choose (r.class == class_ANY && r.rtype == type_ANY && not (is_in_use zone r.owner)) _ _ of_name
    (choose (r.class == class_ANY && not (r.rtype == type_ANY) && not (has_rrset zone r.owner r.rtype)) _ _ of_set
    (choose (r.class == class_NONE && not (is_empty r)) _ _ of_form
    (choose (r.class == class_NONE && r.rtype == type_ANY && is_in_use zone r.owner) _ _ of_used
    (choose (r.class == class_NONE && not (r.rtype == type_ANY) && has_rrset zone r.owner r.rtype) _ _ of_there
    (choose (not (r.class == class_ANY || r.class == class_NONE || r.class == class_IN)) _ _ of_form none))))))))

in_prescan : (zone : List Record) (r : RawRecord) → IsOther (prescan_of zone r)
in_prescan zone r =
    choose (not (is_under r.owner (apex_of zone))) _ _ of_zone
    (choose (r.class == class_IN && not (has_form r)) _ _ of_form
    (choose (r.class == class_IN && r.rtype == type_NS && is_wild r.owner) _ _ of_refused
    (choose (r.class == class_ANY && (not (r.ttl == 0) || not (is_empty r) || not (r.rtype == type_ANY || is_recognised r.rtype))) _ _ of_form
    (choose (r.class == class_NONE && (not (r.ttl == 0) || not (has_form r))) _ _ of_form
    (choose (not (r.class == class_IN || r.class == class_ANY || r.class == class_NONE)) _ _ of_form none)))))

in_permission : (may : Bool) → IsOther (permission may)
in_permission may = choose may _ _ none of_refused

in_verdict : (zone : List Record) (update : Update) (may : Bool) → IsOther (verdict zone update may)
in_verdict zone update may =
    either (check zone update) _
    (either (zone_section zone update.zone) (prerequisites zone update.prerequisites) (in_zone zone update.zone)
    (either (first_code (prerequisite zone) update.prerequisites) _ (first (prerequisite zone) (in_prerequisite zone) update.prerequisites)
    (choose (are_met zone update.prerequisites) _ _ none of_set)))
    (either (permission may) (prescan zone update.updates) (in_permission may) (first (prescan_of zone) (in_prescan zone) update.updates))

-- the code that a rule gives, or a limit, isn't NOERROR
pub code_other : (zone : List Record) (update : Update) (may : Bool) (code : Rcode) → code_of zone update may ≡ Some code → code ≢ NoError
code_other zone update may code coded same =
    either (verdict zone update may) _ (in_verdict zone update may) (choose (is_some (act zone update)) _ _ none of_fail) (coded ∙ ap Some same)

-- with another code than NOERROR there are no serials
pub own_other : (version : Version) (update : Update) (serial : ℕ) (code : Rcode) → code ≢ NoError → AreOwn version update code (serials_with serial code)
own_other version update serial NoError other = absurd (other refl)
own_other version update serial FormErr other = other
own_other version update serial ServFail other = other
own_other version update serial NxDomain other = other
own_other version update serial NotImp other = other
own_other version update serial Refused other = other
own_other version update serial YXDomain other = other
own_other version update serial YXRRSet other = other
own_other version update serial NXRRSet other = other
own_other version update serial NotAuth other = other
own_other version update serial NotZone other = other
own_other version update serial BadVers other = other
