use Rattle.std.proofs.Common.{◌≡◌, sym, ap, ◌∙◌, ◌+◌, List, [], ◌∷◌, ◌++◌, None, vec_len, arith, append-nil}
use Rattle.counted_handles.specs.Cuts.{lodged}
use Rattle.snapshot_cell.specs.Tokens.{seen_in, gone_in, ReaderState}
use Rattle.snapshot_cell.proofs.EndLemmas.{looked, closing_next, host_of, like_again, reader_again, front, back, ok_too, err_too}
use Rattle.snapshot_cell.proofs.ending.+end_readers.Goals as goal

pub returns-in_default-clause-ended : goal.returns-in_default-clause-ended
returns-in_default-clause-ended g t c =
    let none : vec_len c.args.readers.now ≡ 0 = omega (arith, c.in_default.ensures.cases) in
    ok_too c.end.result _ _ (λ value last p is. last p (is.views_are, is.how, is.readers ∙ none)) c.end.ensures.ended

pub returns-in_default-clause-in_use : goal.returns-in_default-clause-in_use
returns-in_default-clause-in_use g t c =
    let none : vec_len c.args.readers.now ≡ 0 = omega (arith, c.in_default.ensures.cases) in
    err_too c.end.result _ _ (λ fault like p is. (like p (is.views_are, is.how, is.readers ∙ none), sym (c.in_default.ensures.items ∙ append-nil _))) c.end.ensures.in_use

pub end_readers-requires : goal.end_readers-requires
end_readers-requires g t c κs l =
    let due = c.requires.closing in
    let r = c.reader.invariant in
    let taken = c.take_in.ensures.taken due.0 r.reading due.1.views_are r.views_are in
    let one : vec_len c.args.readers.now ≡ vec_len c.pop.new.self + 1 = omega (arith, c.in-Some.ensures.cases) in (
      omega (arith, c.decreases, one),
      (
        l.0,
        (
          l.1,
          (
            (c.requires.fits.0, c.take_in.ensures.badge.0 ∙ c.requires.fits.1, c.take_in.ensures.badge.1 ∙ c.requires.fits.2),
            (
              front (λ x. x.cell ≡ c.args.words.now.table_id) c.pop.new.self.items c.args.readers.now.items c.in-Some.reader c.in-Some.ensures.items c.requires.cells,
              (lodged due.0 r.reading, closing_next due.0 r.reading (vec_len c.args.readers.now) (vec_len c.pop.new.self) c.args.badge.now.views c.take_in.new.badge.views due.1 taken one, due.2),
            ),
          ),
        ),
      ),
    )

pub give_back-badge-requires-clause-guest : goal.give_back-badge-requires-clause-guest
give_back-badge-requires-clause-guest g t c =
    let due = c.requires.closing in
    let r = c.reader.invariant in
    let taken = c.take_in.ensures.taken due.0 r.reading due.1.views_are r.views_are in
    let one : vec_len c.args.readers.now ≡ vec_len c.pop.new.self + 1 = omega (arith, c.in-Some.ensures.cases) in
    let reported = c.in-Err.ensures.in_use (lodged due.0 r.reading) (closing_next due.0 r.reading (vec_len c.args.readers.now) (vec_len c.pop.new.self) c.args.badge.now.views c.take_in.new.badge.views due.1 taken one) in
    (looked (lodged due.0 r.reading) reported.0.0 reported.0.1, r.reading, due.0.guests, host_of due.0 r.reading (vec_len c.args.readers.now) c.args.badge.now.views c.end_readers.new.badge.views reported.0.0 reported.0.1 due.1 r.whole reported.0.2)

pub invariant_of-push_reserved : goal.invariant_of-push_reserved
invariant_of-push_reserved g t c =
    let due = c.requires.closing in
    let r = c.reader.invariant in
    let inside = c.reader.inside in
    let taken = c.take_in.ensures.taken due.0 r.reading due.1.views_are r.views_are in
    let one : vec_len c.args.readers.now ≡ vec_len c.pop.new.self + 1 = omega (arith, c.in-Some.ensures.cases) in
    let reported = c.in-Err.ensures.in_use (lodged due.0 r.reading) (closing_next due.0 r.reading (vec_len c.args.readers.now) (vec_len c.pop.new.self) c.args.badge.now.views c.take_in.new.badge.views due.1 taken one) in
    let host = host_of due.0 r.reading (vec_len c.args.readers.now) c.args.badge.now.views c.end_readers.new.badge.views reported.0.0 reported.0.1 due.1 r.whole reported.0.2 in
    let home = c.give_back-badge.ensures.back (looked (lodged due.0 r.reading) reported.0.0 reported.0.1) r.reading due.0.guests host in
    let its = ap (λ s. s.cell) c.reader.view_is ∙ back (λ x. x.cell ≡ c.args.words.now.table_id) c.pop.new.self.items c.args.readers.now.items c.in-Some.reader c.in-Some.ensures.items c.requires.cells in
    let cell = c.give_back-badge.ensures.badges.2 ∙ c.end_readers.ensures.badge.0 ∙ c.take_in.ensures.badge.0 ∙ c.requires.fits.1 in
    reader_again inside.badge.table_id c.give_back-badge.result.table_id inside.badge.views c.give_back-badge.result.views inside.left r (cell ∙ sym its) home.1

pub returns-in-Err-clause-in_use : goal.returns-in-Err-clause-in_use
returns-in-Err-clause-in_use g t c p is =
    let r = c.reader.invariant in
    let inside = c.reader.inside in
    let taken = c.take_in.ensures.taken p r.reading is.views_are r.views_are in
    let one : vec_len c.args.readers.now ≡ vec_len c.pop.new.self + 1 = omega (arith, c.in-Some.ensures.cases) in
    let reported = c.in-Err.ensures.in_use (lodged p r.reading) (closing_next p r.reading (vec_len c.args.readers.now) (vec_len c.pop.new.self) c.args.badge.now.views c.take_in.new.badge.views is taken one) in
    let host = host_of p r.reading (vec_len c.args.readers.now) c.args.badge.now.views c.end_readers.new.badge.views reported.0.0 reported.0.1 is r.whole reported.0.2 in
    let home = c.give_back-badge.ensures.back (looked (lodged p r.reading) reported.0.0 reported.0.1) r.reading p.guests host in
    let its = ap (λ s. s.cell) c.reader.view_is ∙ back (λ x. x.cell ≡ c.args.words.now.table_id) c.pop.new.self.items c.args.readers.now.items c.in-Some.reader c.in-Some.ensures.items c.requires.cells in
    let cell = c.give_back-badge.ensures.badges.2 ∙ c.end_readers.ensures.badge.0 ∙ c.take_in.ensures.badge.0 ∙ c.requires.fits.1 in
    let seen = ap seen_in home.1 ∙ sym (ap seen_in r.views_are) in
    let gone = ap gone_in home.1 ∙ sym (ap gone_in r.views_are) in
    let R : Type 0 = ReaderState g.row.T.Denot in
    let made : R = record { cell = c.give_back-badge.result.table_id; seen = seen_in c.give_back-badge.result.views; left = inside.left; gone = gone_in c.give_back-badge.result.views } in
    let rest : List R = c.pop.new.self.items in
    let same : made ≡ c.in-Some.reader = (λ i. record { cell = (cell ∙ sym its) i; seen = seen i; left = inside.left; gone = gone i }) ∙ c.reader.view_is in (
      (None, reported.0.1, like_again p r.reading (vec_len c.args.readers.now) c.args.badge.now.views c.give_back-badge.new.badge.views reported.0.0 reported.0.1 is (omega (arith, one)) home.0),
      c.push_reserved.ensures.items ∙ ap (λ (xs : List R). xs ++ made ∷ []) reported.1 ∙ ap (λ (x : R). rest ++ x ∷ []) same ∙ sym c.in-Some.ensures.items,
    )

pub returns-in-Ok-clause-ended : goal.returns-in-Ok-clause-ended
returns-in-Ok-clause-ended g t c p is =
    let r = c.reader.invariant in
    let taken = c.take_in.ensures.taken p r.reading is.views_are r.views_are in
    let one : vec_len c.args.readers.now ≡ vec_len c.pop.new.self + 1 = omega (arith, c.in-Some.ensures.cases) in
    c.in-Ok.ensures.ended (lodged p r.reading) (closing_next p r.reading (vec_len c.args.readers.now) (vec_len c.pop.new.self) c.args.badge.now.views c.take_in.new.badge.views is taken one)
