use Rattle.std.proofs.Common.{◌≡◌, ◌<◌, ◌≤◌, ◌^◌, ◌∙◌, ◌++◌, ℕ, List, length, get_or, ap, rules}
use Rattle.journal.specs.Frame.{framed}
use Rattle.store_compaction.specs.declared.body.Body.{Body}
use Rattle.store_compaction.specs.declared.next.NextJournal.{NextJournal}
use Rattle.store_compaction.proofs.MarkedLemmas.{journal_more, next_from}
use Rattle.store_compaction.proofs.marked.Compaction.journal.Goals as goal

pub loop-number-preserved : goal.loop-number-preserved
loop-number-preserved c =
    let all = c.args.self.now.bodies.items in
    let body = c.body-item.result in
    let within : c.loop-number.number < length all = search rules in
    let is : body ≡ get_or all c.loop-number.number body = c.body-item.is ∙ ap (λ (bs : List Body). get_or bs c.loop-number.number body) c.deref-body-items.ensures.value in
    let salt = c.in_ok-octets.salt in
    let frame : c.in_ok-frame.frame.items ≡ framed salt c.loop-number.number body.octets.items = c.in_ok-frame.ensures.frame ∙ ap (λ (o : List ℕ). framed salt c.loop-number.number o) c.deref.ensures.value in
    let old = c.loop-number.octets.items in
    let more : c.extend_from_slice.new.self.items ≡ old ++ c.in_ok-frame.frame.items =
    c.in_ok-extend_from_slice.ensures.items ∙ ap (λ (o : List ℕ). old ++ o) c.deref-in-loop-number.ensures.value in
    journal_more c.args.head.now all c.loop-number.number body salt c.in_ok-frame.frame.items old c.extend_from_slice.new.self.items within is (c.in_ok-octets.ensures).1 frame
    c.loop-number.invariant more

pub returns : goal.returns
returns c =
    let all = c.args.self.now.bodies.items in
    let next : NextJournal = record { octets = c.loop-number.octets; salt = c.in_ok-octets.salt; number = c.len.result } in
    let few : length all < 2 ^ 64 = search rules in
    let whole : length all ≤ c.loop-number.number = search rules in
    let number : c.len.result ≡ length all = search rules in
    next_from c.args.head.now all c.loop-number.number next whole c.loop-number.invariant (c.in_ok-octets.ensures).1 number few
