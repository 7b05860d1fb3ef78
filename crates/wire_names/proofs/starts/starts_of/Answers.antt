use Rattle.std.proofs.Common.{◌<◌, ◌≡◌, ◌+◌, length, sym, arith, ◌∙◌}
use Rattle.std.proofs.lemmas.List.{length-set, get_or-set_same}
use Rattle.wire_names.proofs.StartLemmas.{IsNextStart, start_next, start_some, each_more}
use Rattle.wire_names.proofs.starts.starts_of.Goals as goal

next : (c : goal.After-from) → IsNextStart c.args.octets.now c.loop-at.found.count c.loop-at.at c.from.result
next c =
    let own = c.loop-at.invariant.at_is in
    let test = c.loop-at-test.true in
    let some = c.requires.some in
    start_next _ _ _ _ own c.from.ensures (λ none. start_some _ _ _ own (omega arith) (sym c.from.ensures ∙ none))

pub overflow_cast-found : goal.overflow_cast-found
overflow_cast-found c = let within = (next c).start.within in let short = c.requires.short in record { fits = omega arith }

pub loop-at-preserved : goal.loop-at-preserved
loop-at-preserved c =
    let own = c.loop-at.invariant in
    let n = next c in
    let few = own.few in
    let wide = own.wide in
    let within = n.start.within in
    let short = c.requires.short in
    let more = n.more in
    let some : c.from.result ≡ 0 → ⊥ = λ none. absurd (start_some _ _ _ own.at_is (let test = c.loop-at-test.true in let size = c.requires.some in omega arith) (sym c.from.ensures ∙ none)) in
    let room : c.loop-at.found.count + 1 < length c.loop-at.found.starts = omega arith in
    record {
      here = get_or-set_same c.loop-at.found.starts (c.loop-at.found.count + 1) (c.loop-at.at + (1 + c.from.result)) 0 room;
      at_is = n.start;
      wide = length-set c.loop-at.found.starts (c.loop-at.found.count + 1) (c.loop-at.at + (1 + c.from.result)) ∙ wide;
      few = omega arith;
      within = omega arith;
      each = each_more _ _ _ _ room n.start own.each;
    }
