-- The first version is the newest, and the history has it alone.
use Rattle.std.proofs.Common.{◌≡◌, ◌+◌, ◌∷◌, [], length, Some, ap, sym, ◌∙◌, arith}
use Rattle.std.specs.List.{slice_get}
use Rattle.zone_tree.specs.Version.{Version, zone_serial}
use Rattle.cell_core.specs.declared.words.Version.{Version as Numbered}
use Rattle.snapshot_cell.specs.Tokens.{PublisherState, ReaderState}
use Rattle.dns_engine.specs.Held.{IsNewest, free_of}
use Rattle.dns_engine.specs.Entries.{history_of}
use Rattle.dns_engine.proofs.ReplayLemmas.{last_number_of}
use Rattle.dns_engine.proofs.EntryLemmas.{history_begun, only_one, begun_newest}
use Rattle.dns_engine.proofs.engine.Engine.new.Goals as goal

pub invariant_of-result : goal.invariant_of-result
invariant_of-result g c =
    let first = g.Z.FirstZone.zone in
    let published = c.args.publisher.published in
    let value = c.args.publisher.value in
    let learned = c.learn_last.ensures in
    let own : value.number ≡ c.args.publisher.number = last_number_of first published (record { number = c.args.publisher.number; value = value }) learned.history learned.last in
    let begins : value.number ≡ 0 = own ∙ c.requires in
    let size : length published ≡ 1 = learned.last.0 ∙ ap (λ n. n + 1) c.requires in
    let one = only_one published value size (ap (slice_get published) (sym c.requires) ∙ learned.last.1) in
    let loaded : c.in-Ok.last ≡ record { number = c.args.publisher.number; value = value } = c.in-Ok.ensures.newest.0 in
    let noted = c.in-Ok.ensures.noted.0 in
    let seen : c.newest_with_weak.new.reader.seen ≡ published = ap (λ (r : ReaderState Version). r.seen) c.in-Ok.ensures.newest.1 in
    let last : c.in-Ok.last.value ≡ value = ap (λ (o : Numbered Version). o.value) loaded in
    let weak : c.in-Ok.weak ≡ record { number = value.number; value = value } = c.in-Ok.ensures.weak ∙ loaded ∙ (λ i. record { number = sym own i; value = value }) in
    let serial : c.serial.result.0 ≡ zone_serial value.zone = c.serial.ensures ∙ ap (λ (v : Version). zone_serial v.zone) (c.get-2.ensures ∙ c.get.ensures ∙ last) in
    let newest = begun_newest first published value c.args.keep c.new.result one learned.history c.new.ensures begins in (
      c.if-keep-gt-KEPT.false,
      ap (λ (p : PublisherState Version). p.published) noted ∙ sym seen,
      ap (λ (p : PublisherState Version). p.value) noted ∙ sym last,
      ap (λ (p : PublisherState Version). p.number) noted ∙ sym own ∙ ap (λ (v : Version). v.number) (sym last),
      rw (seen, last) newest,
      history_begun published value c.new-history.result c.push.new.self c.in-Ok.weak c.serial.result.0 one c.new-history.ensures weak serial c.push.ensures ∙ ap history_of (sym seen),
    )

pub returns-clause-made : goal.returns-clause-made
returns-clause-made g c =
    let noted = c.in-Ok.ensures.noted.0 in
    let reader = c.in-Ok.ensures.newest.1 in
    let loaded = c.in-Ok.ensures.newest.0 in
    λ i.
    record {
      held = record { published = (reader i).seen; last = (loaded i).value; keep = c.args.keep; older = c.new.ensures i };
      left = (reader i).left;
      free = free_of (noted i).ready (reader i).left (noted i).noted (loaded i).value.number;
    }
