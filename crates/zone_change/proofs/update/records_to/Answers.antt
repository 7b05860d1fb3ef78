use Rattle.std.proofs.Common.{◌≡◌, refl, unwrap_or, true≢false, ◌++◌, map, take, All, None, sym, ap, ◌∙◌, subst}
use Rattle.std.specs.List.{list_any}
use Rattle.std.proofs.lemmas.Result.{err_from_is_err_and}
use Rattle.zone_tree.specs.Patch.{is_among}
use Rattle.zone_tree.specs.Version.{AreChanges}
use Rattle.update_core.specs.Verdict.{prescan}
use Rattle.update_core.specs.Act.{effects, IsSent}
use Rattle.zone_change.specs.declared.fault.ChangeFault.TheVariants.{NoRoom}
use Rattle.zone_change.specs.Change.{put_in, servers_of, AreBeside}
use Rattle.zone_change.proofs.Lists.{by_false}
use Rattle.zone_change.proofs.RecordsLemmas.{steps_of, shared_records, first_records}
use Rattle.zone_change.proofs.FirstLemmas.{err_again, first_passed, first_sent, has_effect}
use Rattle.zone_change.proofs.update.records_to.Goals as goal

pub returns-in_default-clause-records : goal.returns-in_default-clause-records
returns-in_default-clause-records c =
    let d = c.args.change.now.delta in
    let soa = c.args.change.now.soa in
    c.in_ok-put_steps.ensures ∙ ap (λ l. l ++ steps_of d soa) c.new-raws.ensures.items
    ∙ sym (shared_records c.args.old.now c.args.next.now c.requires.zones.0 c.requires.zones.1 c.requires.apart d soa (c.in_default.ensures.none.0 refl) c.requires.delta c.requires.soa)

pub with_first-requires-clause-passed : goal.with_first-requires-clause-passed
with_first-requires-clause-passed c =
    let old = c.args.old.now in
    let next = c.args.next.now in
    let e = by_false (list_any (is_among old) (servers_of next)) (λ t. true≢false (c.in-Some.ensures.none.1 t)) in
    subst (λ ns. prescan old (map put_in (take 1 ns)) ≡ None) (sym c.in-Some.ensures.set) (first_passed old next c.requires.zones.0 c.requires.zones.1 c.requires.apex c.requires.apart e)

pub with_first-requires-clause-sent : goal.with_first-requires-clause-sent
with_first-requires-clause-sent c =
    let old = c.args.old.now in
    let next = c.args.next.now in
    let e = by_false (list_any (is_among old) (servers_of next)) (λ t. true≢false (c.in-Some.ensures.none.1 t)) in
    subst (λ ns. All IsSent (map put_in (take 1 ns))) (sym c.in-Some.ensures.set) (first_sent old next c.requires.zones.0 c.requires.zones.1 c.requires.apex c.requires.apart e)

pub returns-in_err-between-clause-room : goal.returns-in_err-between-clause-room
returns-in_err-between-clause-room c =
    let old = c.args.old.now in
    let next = c.args.next.now in
    let e = by_false (list_any (is_among old) (servers_of next)) (λ t. true≢false (c.in-Some.ensures.none.1 t)) in
    let p = err_from_is_err_and c.from_residual-in_err-between.result c.from_residual-in_err-between.ensures.1 in
    rw (p.1, p.2)
    (λ reported room.
    has_effect old next c.requires.zones.0 c.requires.zones.1 c.requires.apex c.requires.apart e room
    (subst (λ ns. effects old (map put_in (take 1 ns)) ≡ None) c.in-Some.ensures.set (c.in_err-between.ensures.room (err_again c.in_err-between.field-0.0 NoRoom reported))))

pub returns-clause-records : goal.returns-clause-records
returns-clause-records c =
    let old = c.args.old.now in
    let next = c.args.next.now in
    let e = by_false (list_any (is_among old) (servers_of next)) (λ t. true≢false (c.in-Some.ensures.none.1 t)) in
    let d = c.in_ok-delta.delta in
    let soa = c.args.change.now.soa in
    let set = c.in-Some.ensures.set in
    let first = c.in_ok-put_first.ensures ∙ (λ i. c.new-raws.ensures.items i ++ map put_in (take 1 (set i))) in
    let beside = subst (λ ns. AreBeside c.in_ok-between.between.zone (unwrap_or (effects old (map put_in (take 1 ns))) old)) set c.in_ok-between.ensures.left in
    let changes = subst (λ z. AreChanges d z next) c.zone.ensures c.in_ok-delta.ensures in
    c.in_ok-put_steps-2.ensures ∙ ap (λ l. l ++ steps_of d soa) first
    ∙ sym (first_records old next c.requires.zones.0 c.requires.zones.1 c.requires.apart d soa c.in_ok-between.between.zone e beside changes c.requires.soa)
