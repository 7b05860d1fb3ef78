use Rattle.std.proofs.Common.{◌≡◌, ◌==◌, true, false, ◌∙◌, sym, ap}
use Rattle.std.specs.List.{list_any, flat_map}
use Rattle.dns_name.specs.Name.{is_same}
use Rattle.dns_rdata.specs.Record.{owner_of, rtype_of}
use Rattle.lookup_core.proofs.AdditionalLemmas.{any_entry-typed, any_entry-other}
use Rattle.lookup_core.proofs.additional.shows.Goals as goal

-- of the set's type
pub returns-then-has_type : goal.returns-then-has_type
returns-then-has_type c =
    let sets = flat_map (λ set. set) c.args.shown.now.sets.now in
    let typed : list_any (λ r. r.rtype == rtype_of c.args.set.now) sets ≡ true = ap (λ t. list_any (λ r. r.rtype == t) sets) (sym c.rtype.ensures.of) ∙ sym c.has_type.ensures ∙ c.if-has_type.true in
    c.eq.ensures ∙ ap (λ owner. is_same owner c.owner.result) c.to_name.ensures ∙ ap (is_same c.args.shown.now.owner) c.owner.ensures.of
    ∙ sym (any_entry-typed c.args.shown.now (owner_of c.args.set.now) (rtype_of c.args.set.now) typed)

-- of other types
pub returns-else-has_type : goal.returns-else-has_type
returns-else-has_type c =
    let sets = flat_map (λ set. set) c.args.shown.now.sets.now in
    let other : list_any (λ r. r.rtype == rtype_of c.args.set.now) sets ≡ false = ap (λ t. list_any (λ r. r.rtype == t) sets) (sym c.rtype.ensures.of) ∙ sym c.has_type.ensures ∙ c.if-has_type.false in
    c.if-has_type.false ∙ sym (any_entry-other c.args.shown.now (owner_of c.args.set.now) (rtype_of c.args.set.now) other)
