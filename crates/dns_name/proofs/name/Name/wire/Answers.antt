use Rattle.std.proofs.Common.{◌≡◌, ℕ, List, length, ◌≤◌, ◌<◌, All, get_or, ap, arith, rules}
use mir.Val.{Fits}
use mir.Syntax.{w8}
use Rattle.std.proofs.lemmas.Grind.{get_or_default_zero}
use Rattle.dns_name.specs.Labels.{labels_in, IsWhole}
use Rattle.dns_name.specs.Name.{wire_of, IsName}
use Rattle.dns_name.proofs.LabelLemmas.{wire_of-labels_in, IsLabel_each, AreOctets-name}
use Rattle.dns_name.proofs.name.Name.wire.Goals as goal

pub returns-clause-octets : goal.returns-clause-octets
returns-clause-octets c =
    let own = wire_of-labels_in c.octets-octets.result.now c.octets-octets.ensures.whole in
    let name = c.octets-octets.ensures.labels in
    cc

lawful_at : (octets : List ℕ) (name : List (List ℕ)) → labels_in octets ≡ name → IsWhole octets → length octets ≤ 255 → IsName name
lawful_at octets name e h l =
    let own = ap length (wire_of-labels_in octets h) in
    let is : IsName (labels_in octets) = record { labels = IsLabel_each octets h; short = omega arith } in
    rw e at is

pub returns-clause-lawful : goal.returns-clause-lawful
returns-clause-lawful c = lawful_at _ _ c.octets-octets.ensures.labels c.octets-octets.ensures.whole c.octets-octets.ensures.short

pub returns-clause-bytes : goal.returns-clause-bytes
returns-clause-bytes c =
    let own = wire_of-labels_in c.octets-octets.result.now c.octets-octets.ensures.whole in
    let name = c.octets-octets.ensures.labels in
    let same : c.octets-octets.result.now ≡ wire_of c.args.self.now = cc in
    let octets = c.octets-octets.result.now in
    let each : All (λ octet. octet < 256) octets = λ k d within. let fit : Fits w8 (get_or octets k 0) = search rules in omega (arith, fit, get_or_default_zero octets k d within) in
    AreOctets-name c.args.self.now (rw same at each)
