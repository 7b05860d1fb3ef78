use Rattle.std.proofs.Common.{◌≡◌, sym, ap, ◌∙◌, subst, [], ◌++◌}
use Rattle.std.specs.Option.{option_copied}
use Rattle.std.proofs.lemmas.List.{append_assoc, append-nil}
use Rattle.zone_tree.specs.Zone.{rrsets_of}
use Rattle.zone_tree.specs.Delta.{other_than_soa, DifferOnlyAt}
use Rattle.zone_tree.specs.Sets.{records_in}
use Rattle.zone_change.specs.Apart.{records_left}
use Rattle.zone_change.proofs.ApartLemmas.{next_left}
use Rattle.zone_change.proofs.apart.owners_apart.Goals as goal

pub loop-set-init : goal.loop-set-init
loop-set-init c =
    let all : records_left (option_copied c.next-next.result) c.next-next.new.self ≡ c.args.other.now =
    ap records_in (next_left c.walk-others.result c.next-next.new.self c.next-next.result c.next-next.ensures.steps) ∙ c.walk-others.ensures.records in
    let whole = sym (ap records_in c.into_iter-set-iterator.ensures.into_iter_gives ∙ c.walk-set-items.ensures.records) in
    ([], whole, λ name e. ap (λ zs. other_than_soa (rrsets_of zs name)) all)

pub loop-set-preserved : goal.loop-set-preserved
loop-set-preserved c =
    let front = c.loop-set.invariant.0 in
    let set = c.in-Some.set.now in
    let here = c.loop-set.invariant.1 ∙ ap (λ ss. front ++ records_in ss) c.in-Some.ensures.steps ∙ sym (append_assoc front set (records_in c.next.new.self)) in
    let before = c.in_ok-next.ensures front c.args.other.now c.loop-set.invariant.2 in
    (front ++ set, here, c.in_ok-next-2.ensures front c.args.other.now before)

pub returns : goal.returns
returns c =
    let front = c.loop-set.invariant.0 in
    let same : c.args.zone.now ≡ front = c.loop-set.invariant.1 ∙ ap (λ ss. front ++ records_in ss) c.in-None.ensures.steps.0 ∙ append-nil front in
    subst (λ zs. DifferOnlyAt c.pass_all.new.owners.items zs c.args.other.now) (sym same) (c.in_ok-pass_all.ensures front c.args.other.now c.loop-set.invariant.2)
