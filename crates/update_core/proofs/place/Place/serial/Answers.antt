use Rattle.std.proofs.Common.{length, refl, sym, ap, ◌∙◌, arith}
use Rattle.dns_rdata.specs.Data.{serial_of}
use Rattle.zone_tree.specs.Zone.{apex_of}
use Rattle.update_core.proofs.VerdictLemmas.{rrset_of-same}
use Rattle.zone_tree.specs.Version.{first_data}
use Rattle.zone_tree.proofs.LawLemmas.{soa_is_at_apex}
use Rattle.zone_tree.proofs.VersionLemmas.{rtype_of-soa}
use Rattle.update_core.proofs.place.Place.serial.Goals as goal

pub serial_in-requires-clause-typed : goal.serial_in-requires-clause-typed
serial_in-requires-clause-typed c =
    let made = c.args.self.now.made in
    let h = c.check.ensures in
    let is = c.in-Some.ensures.set ∙ rrset_of-same made c.args.self.now.owner (apex_of made) 6 c.requires ∙ soa_is_at_apex made h in
    rtype_of-soa made c.in-Some.soa.now is (ap length is ∙ h.rules.one_soa)

pub serial_in-requires-clause-one : goal.serial_in-requires-clause-one
serial_in-requires-clause-one c =
    let made = c.args.self.now.made in
    let h = c.check.ensures in
    let is = c.in-Some.ensures.set ∙ rrset_of-same made c.args.self.now.owner (apex_of made) 6 c.requires ∙ soa_is_at_apex made h in
    ap length is ∙ h.rules.one_soa

pub unreachable-requires : goal.unreachable-requires
unreachable-requires c =
    let made = c.args.self.now.made in
    let h = c.check.ensures in
    let is = sym (rrset_of-same made c.args.self.now.owner (apex_of made) 6 c.requires) ∙ c.in-None.ensures.none.0 refl in
    let one = h.rules.one_soa in
    absurd (omega (arith, one, ap length (sym (soa_is_at_apex made h) ∙ is)))

pub returns : goal.returns
returns c =
    let made = c.args.self.now.made in
    let h = c.check.ensures in
    let is = c.in-Some.ensures.set ∙ rrset_of-same made c.args.self.now.owner (apex_of made) 6 c.requires ∙ soa_is_at_apex made h in
    c.serial_in.ensures ∙ ap (λ s. serial_of (first_data s)) is
