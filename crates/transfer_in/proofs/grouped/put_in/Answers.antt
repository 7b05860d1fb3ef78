use Rattle.std.proofs.Common.{◌≡◌, ◌++◌, ℕ, List, [], ◌∷◌, refl, sym, ◌∙◌, subst, arith}
use Rattle.std.specs.List.{AllByRecursion}
use Rattle.std.specs.Ordering.{nat_cmp}
use Rattle.std.specs.declared.cmp.Ordering.TheVariants.{Greater}
use Rattle.std.specs.Cmp.Lexicographic.{slice_cmp}
use Rattle.dns_rdata.specs.Record.{Record, owner_of, rtype_of, ttl_of}
use Rattle.transfer_in.proofs.GroupLemmas.{IsUniform, uniform_from, behind_last, behind_data, has_room, unshared, joined_is, joined_records, joined_order}
use Rattle.transfer_in.proofs.grouped.put_in.Goals as goal

pub returns-then-ttl-clause-other : goal.returns-then-ttl-clause-other
returns-then-ttl-clause-other c =
    let u = subst (λ (set : List Record). IsUniform set) (sym c.data-records.ensures.records) (uniform_from (owner_of c.args.last) (rtype_of c.args.last) (ttl_of c.args.last) c.data-records.result.now c.data-records.ensures.lawful.some) in
    unshared c.args.held.now (c.args.sets.now.items ++ c.args.last ∷ []) c.args.sets.now.items c.args.last refl u c.requires.owner c.requires.rtype
    (λ same. c.if-ttl.true (c.ttl.ensures ∙ same ∙ sym c.ttl-2.ensures.of))

pub with_last-requires-clause-room : goal.with_last-requires-clause-room
with_last-requires-clause-room c =
    let u = subst (λ (set : List Record). IsUniform set) (sym c.data-records.ensures.records) (uniform_from (owner_of c.args.last) (rtype_of c.args.last) (ttl_of c.args.last) c.data-records.result.now c.data-records.ensures.lawful.some) in
    let few = has_room c.args.held.now (c.args.sets.now.items ++ c.args.last ∷ []) c.args.sets.now.items c.args.last refl u c.requires.owner c.requires.rtype c.requires.room in
    omega (arith, few)

pub with_last-requires-clause-behind : goal.with_last-requires-clause-behind
with_last-requires-clause-behind c =
    let u = subst (λ (set : List Record). IsUniform set) (sym c.data-records.ensures.records) (uniform_from (owner_of c.args.last) (rtype_of c.args.last) (ttl_of c.args.last) c.data-records.result.now c.data-records.ensures.lawful.some) in
    let behind = behind_last c.args.held.now (c.args.sets.now.items ++ c.args.last ∷ []) c.args.sets.now.items c.args.last refl c.requires.behind in
    let h = behind_data c.args.held.now c.args.last u behind c.requires.owner c.requires.rtype (sym c.ttl.ensures ∙ c.if-ttl.false ∙ c.ttl-2.ensures.of) in
    (subst (λ (octets : List ℕ). AllByRecursion (λ (r : Record). slice_cmp nat_cmp octets r.rdata ≡ Greater) c.args.last) (sym c.in_ok-data.ensures.octets) h)

pub returns-clause-records : goal.returns-clause-records
returns-clause-records c =
    let next = joined_is c.args.held.now _ c.args.last c.in_ok-with_last.field-0 c.in_ok-data.field-0 refl c.requires.owner (sym c.ttl.ensures ∙ c.if-ttl.false ∙ c.ttl-2.ensures.of) c.in_ok-data.ensures.rtype c.in_ok-data.ensures.octets c.in_ok-with_last.ensures in
    joined_records c.args.held.now (c.args.sets.now.items ++ c.args.last ∷ []) c.push.new.self.items c.args.sets.now.items c.args.last c.in_ok-with_last.field-0 refl c.in_ok-push.ensures.items next

pub returns-clause-rising : goal.returns-clause-rising
returns-clause-rising c =
    let u = subst (λ (set : List Record). IsUniform set) (sym c.data-records.ensures.records) (uniform_from (owner_of c.args.last) (rtype_of c.args.last) (ttl_of c.args.last) c.data-records.result.now c.data-records.ensures.lawful.some) in
    let next = joined_is c.args.held.now _ c.args.last c.in_ok-with_last.field-0 c.in_ok-data.field-0 refl c.requires.owner (sym c.ttl.ensures ∙ c.if-ttl.false ∙ c.ttl-2.ensures.of) c.in_ok-data.ensures.rtype c.in_ok-data.ensures.octets c.in_ok-with_last.ensures in
    joined_order c.args.held.now (c.args.sets.now.items ++ c.args.last ∷ []) c.push.new.self.items c.args.sets.now.items c.args.last c.in_ok-with_last.field-0 refl c.in_ok-push.ensures.items next u.some c.requires.rising
