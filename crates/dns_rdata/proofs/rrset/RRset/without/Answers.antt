use Rattle.std.proofs.Common.{◌≡◌, ◌<◌, not, length, bytes_eq, refl, rules}
use Rattle.dns_rdata.specs.Data.{Data}
use Rattle.dns_rdata.proofs.KeptLemmas.{left_is, none_left, some_left, IsSet-filter}
use Rattle.dns_rdata.proofs.rrset.RRset.without.Goals as goal

-- nothing is left
pub returns-then-is_empty-clause-none : goal.returns-then-is_empty-clause-none
returns-then-is_empty-clause-none c =
    let own = c.self.inside in
    let none : length c.without_octets-rdata.result.items ≡ 0 = search rules in
    (λ _. none_left _ _ _ _ _ (left_is own.owner own.rtype.0 own.ttl.0 c.args.octets.now own.rdata.items c.without_octets-rdata.result.items c.args.self c.self.view_is c.without_octets-rdata.ensures) none, λ _. refl)

-- a set is left
pub invariant_of-result : goal.invariant_of-result
invariant_of-result c =
    let own = c.self.inside in
    let some : 0 < length c.without_octets-rdata.result.items = search rules in
    let test = λ (d : Data). not (bytes_eq c.args.octets.now d.octets) in
    rw c.without_octets-rdata.ensures (IsSet-filter own.owner own.rtype.0 own.ttl.0 test own.rdata.items c.self.invariant (rw c.without_octets-rdata.ensures at some))

pub returns-clause-none : goal.returns-clause-none
returns-clause-none c =
    let own = c.self.inside in
    let some : 0 < length c.without_octets-rdata.result.items = search rules in
    (λ wrong. cc, λ none. some_left _ _ _ _ _ (left_is own.owner own.rtype.0 own.ttl.0 c.args.octets.now own.rdata.items c.without_octets-rdata.result.items c.args.self c.self.view_is c.without_octets-rdata.ensures) some none)

pub returns-clause-left : goal.returns-clause-left
returns-clause-left c =
    let own = c.self.inside in
    left_is own.owner own.rtype.0 own.ttl.0 c.args.octets.now own.rdata.items c.without_octets-rdata.result.items c.args.self c.self.view_is c.without_octets-rdata.ensures
