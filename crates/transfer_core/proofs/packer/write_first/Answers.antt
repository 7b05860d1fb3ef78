use Rattle.std.proofs.Common.{◌++◌, None, not, drop, map, refl, ap, ◌∙◌, arith}
use Rattle.std.proofs.lemmas.List.{length-take-le, take-append-le, drop_at}
use Rattle.std.specs.Option.{option_copied, option_to_list}
use Rattle.transfer_core.specs.Packed.{spelt, listed}
use Rattle.transfer_core.proofs.CountLemmas.{passed}
use Rattle.transfer_core.proofs.PackedLemmas.{IsOpen, begins_small, open_listed, open_asked, copied_some, packs}
use Rattle.transfer_core.proofs.packer.write_first.Goals as goal
use Rattle.transfer_core.proofs.packer.write_first.Goals.{else-ended-via-then-ended+else-is_none, else-ended-via-else-ended}

pub returns-clause-message : goal.returns-clause-message
returns-clause-message g c =
    let old = c.args.records.now in
    let list = map (spelt old.name.now) (option_to_list old.next ++ listed old.rest) in
    let question = option_copied c.args.question in
    let size = length-take-le 16384 c.args.out.now c.requires in
    let more : IsOpen question list = elim c.else-ended.branch [
      | else-ended-via-then-ended+else-is_none w ↦ open_asked _ _ (copied_some c.args.question w.if-is_none.ensures)
      | else-ended-via-else-ended w ↦ open_listed _ _ _ c.first.ensures.shown (c.is_none-ended.ensures ∙ ap not w.if-ended.false)
    ] in
    let small = begins_small _ _ c.first.ensures.shown c.first.ensures.lawful c.first.ensures.short in
    let octets = take-append-le c.write_answers.result.0 c.write_answers.new.out (drop 16384 c.args.out.now) (omega (arith, c.write_answers.ensures.len, c.write_answers.auto.out)) in (
      packs c.args.head question question None c.args.opt c.opt_beside-opt.result None _ list _ _ size refl c.opt_beside-opt.ensures refl more small (octets ∙ c.write_answers.ensures.octets) c.write_answers.ensures.left,
      omega (arith, c.write_answers.ensures.len),
      passed _ _ _ _ list _ _ c.write_answers.ensures.left c.write_answers.ensures.count,
    )

pub returns-clause-behind : goal.returns-clause-behind
returns-clause-behind g c =
    let size = length-take-le 16384 c.args.out.now c.requires in
    drop_at c.write_answers.new.out (drop 16384 c.args.out.now) 16384 (c.write_answers.auto.out ∙ size)
