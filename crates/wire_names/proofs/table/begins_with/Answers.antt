use Rattle.std.proofs.Common.{arith}
use Rattle.wire_names.proofs.BeginsLemmas.{there, other_length, other_octet, one_octet, two_octets, all_octets, label_bounds}
use Rattle.wire_names.proofs.table.begins_with.Goals as goal

pub returns-then-from-len : goal.returns-then-from-len
returns-then-from-len c = other_length _ _ _ c.requires.label c.requires.whole c.requires.some _ _ c.from.ensures c.from-len.ensures c.if-from-len.true

pub returns-then-msg-at : goal.returns-then-msg-at
returns-then-msg-at c =
    other_octet _ _ _ c.requires.label c.requires.whole c.requires.some 0 (there _ _ _ c.requires.label c.requires.whole c.requires.some).some c.if-msg-at.true

pub returns-then-len-eq1 : goal.returns-then-len-eq1
returns-then-len-eq1 c = one_octet _ _ _ c.requires.label c.requires.whole c.requires.some _ _ c.from.ensures c.from-len.ensures c.if-from-len.false c.if-len-eq1.true c.if-msg-at.false

pub returns-then-msg-at-2 : goal.returns-then-msg-at-2
returns-then-msg-at-2 c =
    let at = there _ _ _ c.requires.label c.requires.whole c.requires.some in
    let first = at.first in
    let some = at.some in
    let n = c.from.ensures in
    let same = c.if-from-len.false in
    let many = c.if-len-eq1.false in
    other_octet _ _ _ c.requires.label c.requires.whole c.requires.some 1 (omega arith) c.if-msg-at-2.true

pub label_at-requires : goal.label_at-requires
label_at-requires c = (label_bounds _ _ _ c.requires.label c.requires.whole c.requires.some _ _ c.from.ensures c.from-len.ensures c.if-from-len.false).1

pub label_at-requires-2 : goal.label_at-requires-2
label_at-requires-2 c = (label_bounds _ _ _ c.requires.label c.requires.whole c.requires.some _ _ c.from.ensures c.from-len.ensures c.if-from-len.false).0

pub returns-then-len-eq2 : goal.returns-then-len-eq2
returns-then-len-eq2 c = two_octets _ _ _ c.requires.label c.requires.whole c.requires.some _ _ c.from.ensures c.from-len.ensures c.if-from-len.false c.if-len-eq2.true c.if-msg-at.false c.if-msg-at-2.false

pub returns : goal.returns
returns c =
    all_octets _ _ _ c.requires.label c.requires.whole c.requires.some _ _ c.label_at.result.now c.label_at-2.result.now c.differ.result c.from.ensures c.from-len.ensures c.if-from-len.false c.label_at.ensures c.label_at-2.ensures c.differ.ensures
