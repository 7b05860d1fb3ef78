use Rattle.std.proofs.Common.{refl, ap, ◌∙◌, subst, arith}
use Rattle.counted_handles.specs.Cuts.{sharing, kept_untied}
use Rattle.counted_handles.specs.Tells.{tie_of}
use Rattle.counted_handles.specs.Plays.{NoteTells}
use Rattle.counted_handles.proofs.CallLemmas.{share_splits_publisher}
use Rattle.counted_handles.proofs.HostLemmas.{borrow_allowed, note_allowed, untie_splits, lending, noted_as, noted_once, noted_of}
use Rattle.counted_handles.proofs.guests.note.Goals as goal

pub join_seat-requires : goal.join_seat-requires
join_seat-requires g c =
    let has = c.requires.has in
    let fits = c.requires.fits in
    (fits.1, fits.3, (λ i. (has.5 i).1), omega (arith, fits.0.0), borrow_allowed g.C.Names.begins g.C.Follows.follows c.args.words.now.key.places.items c.args.seat.now.id c.args.owner.id c.args.seat.now.me.0 c.args.owner.me.0 has.0 has.1 (λ i. (has.2 i).0) (λ i. (has.5 i).0) has.3)

pub fetch_add-requires : goal.fetch_add-requires
fetch_add-requires g c =
    let has = c.requires.has in
    let fits = c.requires.fits in
    let me = c.join_seat.ensures.2 ∙ (λ i. (sharing (has.2 i).0 (has.5 i).0, (has.2 i).1)) in
    (c.join_seat.ensures.0 ∙ fits.1, omega (arith, fits.0.0, fits.4), note_allowed g.C.Names.begins g.C.Follows.follows c.args.words.now.key.places.items _ c.join_seat.new.seat.id _ c.join_seat.new.seat.me (lending has.0 has.1) has.1 fits.0.1 (c.join_seat.ensures.1 ∙ fits.2) (omega (arith, has.6)) me refl has.4)

pub split_seat-weak-requires : goal.split_seat-weak-requires
split_seat-weak-requires g c =
    let has = c.requires.has in
    let fits = c.requires.fits in
    let me = c.join_seat.ensures.2 ∙ (λ i. (sharing (has.2 i).0 (has.5 i).0, (has.2 i).1)) in
    let reported = subst (λ v. NoteTells v c.fetch_add.new.seat.me) (λ i. (me i).0) c.fetch_add.ensures.2 in
    (c.fetch_add.ensures.0 ∙ c.join_seat.ensures.0 ∙ fits.1, omega (arith, fits.0.0), untie_splits g.C.Names.begins g.C.Follows.follows c.args.words.now.key.places.items c.fetch_add.new.seat.id c.fetch_add.new.seat.me.0 (noted_as has.0 has.1) has.1 (tie_of has.1) (λ i. (reported i).0) refl)

pub split_seat-owner-requires : goal.split_seat-owner-requires
split_seat-owner-requires g c =
    let has = c.requires.has in
    let fits = c.requires.fits in
    let me = c.join_seat.ensures.2 ∙ (λ i. (sharing (has.2 i).0 (has.5 i).0, (has.2 i).1)) in
    let reported = subst (λ v. NoteTells v c.fetch_add.new.seat.me) (λ i. (me i).0) c.fetch_add.ensures.2 in
    let kept = c.split_seat-weak.ensures.2 ∙ ap (λ m. (kept_untied m.0, m.1)) reported in
    (c.split_seat-weak.ensures.0 ∙ c.fetch_add.ensures.0 ∙ c.join_seat.ensures.0 ∙ fits.1, omega (arith, fits.0.0), share_splits_publisher g.C.Names.begins g.C.Follows.follows c.args.words.now.key.places.items c.split_seat-weak.new.seat.id c.split_seat-weak.new.seat.me.0 (noted_once has.0 has.1) has.1 (λ i. (kept i).0) refl)

pub returns-clause-noted : goal.returns-clause-noted
returns-clause-noted g c p mark is whole owner =
    let me = c.join_seat.ensures.2 ∙ (λ i. (sharing (is i).0 (owner i).0, (is i).1)) in
    let reported = subst (λ v. NoteTells v c.fetch_add.new.seat.me) (λ i. (me i).0) c.fetch_add.ensures.2 in
    noted_of p mark c.fetch_add.new.seat.me c.split_seat-weak.new.seat.me c.split_seat-weak.result.me c.split_seat-owner.new.seat.me c.split_seat-owner.result.me whole reported c.split_seat-weak.ensures.2 c.split_seat-weak.ensures.4 c.split_seat-owner.ensures.2 c.split_seat-owner.ensures.4
