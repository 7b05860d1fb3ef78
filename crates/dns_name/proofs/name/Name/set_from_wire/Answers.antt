use Rattle.std.proofs.Common.{◌≡◌, ℕ, ◌≤◌, List, ◌++◌, Some, length, drop, sym, ap, subst, ◌∙◌, arith}
use Rattle.dns_name.specs.Labels.{labels_in, IsWhole}
use Rattle.dns_name.specs.Name.{wire_of, IsName}
use Rattle.dns_name.proofs.FirstLemmas.{first_size, first_octets, put_first}
use Rattle.dns_name.proofs.name.Name.set_from_wire.Goals as goal

own_is : (c : goal.After-append) → c.append.new.to.items ≡ c.in_ok-own.own.now
own_is c = put_first _ _ _ c.clear.ensures c.append.ensures

short_own : (own : List ℕ) → IsWhole own → IsName (labels_in own) → length own ≤ 255
short_own own whole lawful =
    let size = first_size own whole in
    let short = lawful.short in
    omega arith

pub append-requires : goal.append-requires
append-requires c =
    let none = ap length c.clear.ensures in
    let short = short_own c.in_ok-own.own.now c.in_ok-own.ensures.whole c.in_ok-own.ensures.lawful in
    omega arith

pub invariant_of-self : goal.invariant_of-self
invariant_of-self c =
    let short = short_own c.in_ok-own.own.now c.in_ok-own.ensures.whole c.in_ok-own.ensures.lawful in
    let same = ap length (own_is c) in
    (subst IsWhole (sym (own_is c)) c.in_ok-own.ensures.whole, omega arith)

pub returns-clause-name : goal.returns-clause-name
returns-clause-name c = c.in_ok-own.ensures.name ∙ ap (λ (x : List ℕ). Some (labels_in x)) (sym (own_is c))

pub returns-clause-lawful : goal.returns-clause-lawful
returns-clause-lawful c = subst (λ (x : List ℕ). IsName (labels_in x)) (sym (own_is c)) c.in_ok-own.ensures.lawful

pub returns-clause-octets : goal.returns-clause-octets
returns-clause-octets c =
    let own = c.in_ok-own.own.now in
    let octets = c.args.octets.now in (
      first_size own c.in_ok-own.ensures.whole ∙ ap (λ (x : List ℕ). length (wire_of (labels_in x))) (sym (own_is c)),
      first_octets octets own _ c.in_ok-own.ensures ∙ ap (λ (x : List ℕ). wire_of (labels_in x) ++ drop (length own) octets) (sym (own_is c)),
    )
