use Rattle.std.proofs.Common.{refl, ◌∙◌, arith}
use Rattle.counted_handles.proofs.CallLemmas.{share_splits_publisher, settling_next, swapped_in, swapped_to}
use Rattle.counted_handles.proofs.calls.swap_in.Goals as goal

pub settle-requires-clause-settling : goal.settle-requires-clause-settling
settle-requires-clause-settling g c =
    let due = c.requires.prepared in
    let reported = c.swap-found.ensures.published due.0 due.1 due.2 in
    let b = g.C.Names.begins in
    let f = g.C.Follows.follows in
    let spots = c.args.words.now.key.places.items in
    (swapped_to b f spots due.0 due.1 reported.0 c.swap-found.result, reported.0, settling_next b f spots due.0 due.1 c.swap-found.result c.swap-found.new.seat.me due.3 reported)

pub split_seat-requires : goal.split_seat-requires
split_seat-requires g c =
    let due = c.requires.prepared in
    let reported = c.swap-found.ensures.published due.0 due.1 due.2 in
    let b = g.C.Names.begins in
    let f = g.C.Follows.follows in
    let spots = c.args.words.now.key.places.items in
    let is = c.settle.ensures.settled (swapped_to b f spots due.0 due.1 reported.0 c.swap-found.result) reported.0 (settling_next b f spots due.0 due.1 c.swap-found.result c.swap-found.new.seat.me due.3 reported) in
    (c.settle.ensures.seat.0 ∙ c.swap-found.ensures.seat.0 ∙ c.requires.fits.1, omega (arith, c.requires.fits.0.0), share_splits_publisher b f spots c.settle.new.seat.id c.settle.new.seat.me.0 _ is.mark (λ i. (is.me_is i).0) refl)

pub returns-clause-published : goal.returns-clause-published
returns-clause-published g c p value due whole =
    let reported = c.swap-found.ensures.published p value due in
    let b = g.C.Names.begins in
    let f = g.C.Follows.follows in
    let spots = c.args.words.now.key.places.items in
    let is = c.settle.ensures.settled (swapped_to b f spots p value reported.0 c.swap-found.result) reported.0 (settling_next b f spots p value c.swap-found.result c.swap-found.new.seat.me whole reported) in
    swapped_in b f spots p value c.swap-found.result c.swap-found.new.seat.me c.settle.new.seat.me c.split_seat.new.seat.me c.split_seat.result.me whole reported is c.split_seat.ensures.2 c.split_seat.ensures.4
