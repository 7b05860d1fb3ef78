use Rattle.std.proofs.Common.{◌≡◌, sym, ap, ◌∙◌, ◌+◌, vec_len, arith}
use Rattle.counted_handles.specs.Cuts.{lodged}
use Rattle.snapshot_cell.specs.Tokens.{published_in}
use Rattle.snapshot_cell.proofs.EndLemmas.{looked, begun_closing, closing_next, host_of, like_again, publisher_again, one_last}
use Rattle.snapshot_cell.proofs.ending.end_all.Goals as goal

pub end_readers-requires-clause-closing : goal.end_readers-requires-clause-closing
end_readers-requires-clause-closing g c =
    let inv = c.publisher.invariant in
    let inside = c.publisher.inside in
    let p = inv.publishing in
    let taken = c.take_in.ensures.taken p inv.rest inv.views_are inv.spare_is in
    let all : vec_len c.args.readers.now ≡ inside.readers = omega arith in
    let name = inv.name_is ∙ ap (λ z. z.views_name) (ap (λ s. s.cell) c.publisher.view_is ∙ c.requires.fits.1) in
    (lodged p inv.rest, closing_next p inv.rest (inside.readers + 1) (vec_len c.args.readers.now) inside.badge.views c.take_in.new.badge.views (begun_closing p (inside.readers + 1) inside.badge.views inv.views_are inv.how inv.whole inv.readers_are) taken (ap (λ n. n + 1) (sym all)), name)

pub give_back-spare-requires-clause-guest : goal.give_back-spare-requires-clause-guest
give_back-spare-requires-clause-guest g c =
    let inv = c.publisher.invariant in
    let inside = c.publisher.inside in
    let p = inv.publishing in
    let taken = c.take_in.ensures.taken p inv.rest inv.views_are inv.spare_is in
    let all : vec_len c.args.readers.now ≡ inside.readers = omega arith in
    let begun = begun_closing p (inside.readers + 1) inside.badge.views inv.views_are inv.how inv.whole inv.readers_are in
    let reported = c.in-Err.ensures.in_use (lodged p inv.rest) (closing_next p inv.rest (inside.readers + 1) (vec_len c.args.readers.now) inside.badge.views c.take_in.new.badge.views begun taken (ap (λ n. n + 1) (sym all))) in
    (looked (lodged p inv.rest) reported.0.0 reported.0.1, inv.rest, p.guests, host_of p inv.rest (inside.readers + 1) inside.badge.views c.end_readers.new.badge.views reported.0.0 reported.0.1 begun inv.spare_whole reported.0.2)

pub invariant_of-result : goal.invariant_of-result
invariant_of-result g c =
    let inv = c.publisher.invariant in
    let inside = c.publisher.inside in
    let p = inv.publishing in
    let taken = c.take_in.ensures.taken p inv.rest inv.views_are inv.spare_is in
    let all : vec_len c.args.readers.now ≡ inside.readers = omega arith in
    let begun = begun_closing p (inside.readers + 1) inside.badge.views inv.views_are inv.how inv.whole inv.readers_are in
    let reported = c.in-Err.ensures.in_use (lodged p inv.rest) (closing_next p inv.rest (inside.readers + 1) (vec_len c.args.readers.now) inside.badge.views c.take_in.new.badge.views begun taken (ap (λ n. n + 1) (sym all))) in
    let host = host_of p inv.rest (inside.readers + 1) inside.badge.views c.end_readers.new.badge.views reported.0.0 reported.0.1 begun inv.spare_whole reported.0.2 in
    let home = c.give_back-spare.ensures.back (looked (lodged p inv.rest) reported.0.0 reported.0.1) inv.rest p.guests host in
    let like = like_again p inv.rest (inside.readers + 1) inside.badge.views c.give_back-spare.new.badge.views reported.0.0 reported.0.1 begun (omega arith) home.0 in
    publisher_again g.C.Names.begins g.C.Follows.follows inside.badge.table_id c.give_back-spare.new.badge.table_id inside.badge.id c.give_back-spare.new.badge.id inside.badge.views c.give_back-spare.new.badge.views inside.spare.table_id c.give_back-spare.result.table_id inside.spare.views c.give_back-spare.result.views inside.number inside.last.value inside.readers inside.noted reported.0.1 inv
    (c.give_back-spare.ensures.badges.0 ∙ c.end_readers.ensures.badge.0 ∙ c.take_in.ensures.badge.0)
    (c.give_back-spare.ensures.badges.1 ∙ c.end_readers.ensures.badge.1 ∙ c.take_in.ensures.badge.1)
    (c.give_back-spare.ensures.badges.2 ∙ sym c.give_back-spare.ensures.badges.0) like home.1

pub returns-in-Ok-clause-ended : goal.returns-in-Ok-clause-ended
returns-in-Ok-clause-ended g c =
    let inv = c.publisher.invariant in
    let inside = c.publisher.inside in
    let p = inv.publishing in
    let taken = c.take_in.ensures.taken p inv.rest inv.views_are inv.spare_is in
    let all : vec_len c.args.readers.now ≡ inside.readers = omega arith in
    let begun = begun_closing p (inside.readers + 1) inside.badge.views inv.views_are inv.how inv.whole inv.readers_are in
    let reported = c.in-Ok.ensures.ended (lodged p inv.rest) (closing_next p inv.rest (inside.readers + 1) (vec_len c.args.readers.now) inside.badge.views c.take_in.new.badge.views begun taken (ap (λ n. n + 1) (sym all))) in (
      one_last p.published c.in-Ok.value inside.last.value inside.number reported.0 inv.last inv.value_is ∙ ap (λ s. s.value) c.publisher.view_is,
      c.end_readers.ensures.badge.0 ∙ c.take_in.ensures.badge.0 ∙ ap (λ s. s.cell) c.publisher.view_is ∙ c.requires.fits.1,
      c.end_readers.ensures.badge.1 ∙ c.take_in.ensures.badge.1 ∙ inv.first,
      reported.1,
    )

pub returns-in-Err-clause-out : goal.returns-in-Err-clause-out
returns-in-Err-clause-out g c =
    let inv = c.publisher.invariant in
    let inside = c.publisher.inside in
    let p = inv.publishing in
    let taken = c.take_in.ensures.taken p inv.rest inv.views_are inv.spare_is in
    let all : vec_len c.args.readers.now ≡ inside.readers = omega arith in
    let begun = begun_closing p (inside.readers + 1) inside.badge.views inv.views_are inv.how inv.whole inv.readers_are in
    let reported = c.in-Err.ensures.in_use (lodged p inv.rest) (closing_next p inv.rest (inside.readers + 1) (vec_len c.args.readers.now) inside.badge.views c.take_in.new.badge.views begun taken (ap (λ n. n + 1) (sym all))) in
    let host = host_of p inv.rest (inside.readers + 1) inside.badge.views c.end_readers.new.badge.views reported.0.0 reported.0.1 begun inv.spare_whole reported.0.2 in
    let home = c.give_back-spare.ensures.back (looked (lodged p inv.rest) reported.0.0 reported.0.1) inv.rest p.guests host in
    let like = like_again p inv.rest (inside.readers + 1) inside.badge.views c.give_back-spare.new.badge.views reported.0.0 reported.0.1 begun (omega arith) home.0 in
    let cell = c.give_back-spare.ensures.badges.0 ∙ c.end_readers.ensures.badge.0 ∙ c.take_in.ensures.badge.0 in
    let published = ap published_in like ∙ sym (ap published_in inv.views_are) in
    ((λ i. record { cell = cell i; published = published i; number = inside.number; value = inside.last.value; readers = inside.readers; noted = inside.noted; ready = inside.ready }) ∙ c.publisher.view_is, reported.1)
