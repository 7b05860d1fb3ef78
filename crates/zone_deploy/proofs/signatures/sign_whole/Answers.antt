use Rattle.std.proofs.Common.{◌≡◌, ◌≤◌, [], length, take, List, ℕ, sym, ap, ◌∙◌, subst}
use Rattle.dns_name.specs.Name.{Name, wire_of}
use Rattle.tsig.specs.Digested.{mac_over}
use Rattle.tsig.specs.Signing.{stamped, signed}
use Rattle.zone_deploy.proofs.SignedLemmas.{front_fits}
use Rattle.zone_deploy.proofs.signatures.sign_whole.Goals as goal

pub returns-clause-octets : goal.returns-clause-octets
returns-clause-octets c =
    let short = subst (λ (n : Name). length (wire_of n) ≤ 128) c.name-name.ensures.name c.name-name.ensures.short in
    c.sign.ensures.octets
    ∙ ap (λ (p : List ℕ). signed c.args.key.now c.args.prior.now.items c.args.stamp.now p) (front_fits c.args.key.now c.args.stamp.now c.args.out.now c.args.len short c.requires.header c.requires.room c.requires.counted)

pub returns-clause-mac : goal.returns-clause-mac
returns-clause-mac c =
    let short = subst (λ (n : Name). length (wire_of n) ≤ 128) c.name-name.ensures.name c.name-name.ensures.short in
    c.sign.ensures.mac
    ∙ ap (λ (p : List ℕ). mac_over c.args.key.now c.args.prior.now.items p (stamped c.args.stamp.now p [])) (front_fits c.args.key.now c.args.stamp.now c.args.out.now c.args.len short c.requires.header c.requires.room c.requires.counted)
