use Rattle.std.proofs.Common.{◌++◌, List, ℕ, filter, flat_map, string_bytes, sym, ap, ◌∙◌}
use Rattle.std.proofs.lemmas.List.{append_assoc, append-nil}
use Rattle.dns_rdata.specs.Record.{Record}
use Rattle.master_file.specs.WrittenZone.{record_line, is_other}
use Rattle.master_file.proofs.ZoneTextLemmas.{other_lines, set_in_front, soa_in_front}
use Rattle.master_file.proofs.zone_text.write_others.Goals as goal

pub loop-set-init : goal.loop-set-init
loop-set-init g c = ap (λ (rs : List Record). string_bytes c.args.text.now ++ flat_map record_line (filter is_other rs)) (ap (flat_map (λ (set : List Record). set)) c.into_iter-set-iterator.ensures.into_iter_gives ∙ c.walk-set-items.ensures.records)

pub loop-set-preserved-in-Continue-1 : goal.loop-set-preserved-in-Continue-1
loop-set-preserved-in-Continue-1 g c =
    let rest = c.next.new.self in
    let set = c.in-Some.set.now in
    let before = string_bytes c.loop-set.text in
    let left = ap other_lines c.in-Some.ensures.steps in
    ap (λ (os : List ℕ). os ++ other_lines rest) c.in_ok-write_set.ensures
    ∙ append_assoc before (flat_map record_line set) (other_lines rest)
    ∙ ap (λ (os : List ℕ). before ++ os) (sym (left ∙ set_in_front c.rtype.result.0 set rest c.rtype.ensures.shared (sym c.ne.ensures ∙ c.if-ne.true)))
    ∙ c.loop-set.invariant

pub loop-set-preserved : goal.loop-set-preserved
loop-set-preserved g c =
    let rest = c.next.new.self in
    let set = c.in-Some.set.now in
    let before = string_bytes c.loop-set.text in
    let left = ap other_lines c.in-Some.ensures.steps in
    ap (λ (os : List ℕ). before ++ os) (sym (left ∙ soa_in_front c.rtype.result.0 set rest c.rtype.ensures.shared (sym c.ne.ensures ∙ c.if-ne.false)))
    ∙ c.loop-set.invariant

pub returns : goal.returns
returns g c =
    sym (ap (λ (ss : List (List Record)). string_bytes c.loop-set.text ++ other_lines ss) c.in-None.ensures.steps.0 ∙ append-nil (string_bytes c.loop-set.text)) ∙ c.loop-set.invariant
