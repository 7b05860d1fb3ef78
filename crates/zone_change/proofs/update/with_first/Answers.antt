use Rattle.std.proofs.Common.{◌++◌, map, take, sym, ap, ◌∙◌, Some, None, if◌then◌else◌, true}
use Rattle.std.specs.Option.{option_or, is_some}
use Rattle.dns_rdata.specs.declared.numbers.Rcode.TheVariants.{ServFail}
use Rattle.zone_tree.specs.Version.{Version}
use Rattle.update_core.specs.Verdict.{verdict}
use Rattle.update_core.specs.Act.{act}
use Rattle.zone_change.specs.Change.{put_in, update_from}
use Rattle.zone_change.proofs.FirstLemmas.{first_makes, first_refused}
use Rattle.zone_change.proofs.update.with_first.Goals as goal

pub returns-in-Next-clause-left : goal.returns-in-Next-clause-left
returns-in-Next-clause-left c =
    let old = c.args.old.now in
    let rs = map put_in (take 1 c.args.servers.now) in
    let u = c.in_ok-update.update in
    let is = c.in_ok-update.ensures ∙ ap (update_from old) (c.in_ok-put_first.ensures ∙ ap (λ l. l ++ rs) c.new-first.ensures.items) in
    let same = ap (λ (v : Version). v.zone) c.first-version.ensures ∙ c.in_ok-same_zone.ensures in
    first_makes old rs c.requires.zone c.requires.passed c.requires.sent u c.in-Next.next.zone is (ap (λ z. act z u) (sym same) ∙ c.in-Next.ensures.reported.1)

pub returns-in-Unchanged-clause-left : goal.returns-in-Unchanged-clause-left
returns-in-Unchanged-clause-left c =
    let old = c.args.old.now in
    let rs = map put_in (take 1 c.args.servers.now) in
    let u = c.in_ok-update.update in
    let is = c.in_ok-update.ensures ∙ ap (update_from old) (c.in_ok-put_first.ensures ∙ ap (λ l. l ++ rs) c.new-first.ensures.items) in
    let same = ap (λ (v : Version). v.zone) c.first-version.ensures ∙ c.in_ok-same_zone.ensures in
    first_makes old rs c.requires.zone c.requires.passed c.requires.sent u c.first-version.result.zone is (ap (λ z. act z u) (sym same) ∙ c.in-Unchanged.ensures.reported.1)

pub returns-in-Refused-clause-room : goal.returns-in-Refused-clause-room
returns-in-Refused-clause-room c = λ _.
    let old = c.args.old.now in
    let rs = map put_in (take 1 c.args.servers.now) in
    let u = c.in_ok-update.update in
    let is = c.in_ok-update.ensures ∙ ap (update_from old) (c.in_ok-put_first.ensures ∙ ap (λ l. l ++ rs) c.new-first.ensures.items) in
    let same = ap (λ (v : Version). v.zone) c.first-version.ensures ∙ c.in_ok-same_zone.ensures in
    first_refused old rs c.requires.zone c.requires.passed c.requires.sent u c.in-Refused.field-0 is
    ((λ i. option_or (verdict (sym same i) u true) (if is_some (act (sym same i) u) then None else Some ServFail)) ∙ c.in-Refused.ensures.reported)
