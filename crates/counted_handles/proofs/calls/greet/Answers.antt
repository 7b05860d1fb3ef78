use Rattle.std.proofs.Common.{◌∙◌, subst, arith}
use Rattle.counted_handles.specs.Cuts.{lodged, lodging}
use Rattle.counted_handles.specs.Plays.{GreetTells}
use Rattle.counted_handles.proofs.EndLemmas.{lodge_allowed}
use Rattle.counted_handles.proofs.GuestLemmas.{greet_allowed, met_splits, greeted_as, greeted_of}
use Rattle.counted_handles.proofs.calls.greet.Goals as goal

pub join_seat-requires : goal.join_seat-requires
join_seat-requires g c =
    let idle = c.requires.idle in
    let fits = c.requires.fits in
    (fits.1, fits.3, (λ i. (idle.3.0 i).1), omega (arith, fits.0.0), lodge_allowed g.C.Names.begins g.C.Follows.follows c.args.words.now.key.places.items c.args.seat.now.id c.args.guest.id c.args.seat.now.me.0 c.args.guest.me.0 idle.0 idle.1 (λ i. (idle.2.0 i).0) (λ i. (idle.3.0 i).0) idle.3.1)

pub load-requires : goal.load-requires
load-requires g c =
    let idle = c.requires.idle in
    let fits = c.requires.fits in
    let me = c.join_seat.ensures.2 ∙ (λ i. (lodging (idle.2.0 i).0 (idle.3.0 i).0, (idle.2.0 i).1)) in
    (c.join_seat.ensures.0 ∙ fits.1, omega (arith, fits.0.0), greet_allowed g.C.Names.begins g.C.Follows.follows c.args.words.now.key.places.items _ c.join_seat.new.seat.id c.join_seat.new.seat.me (lodged idle.0 idle.1) fits.0.1 (c.join_seat.ensures.1 ∙ fits.2) me)

pub split_seat-requires : goal.split_seat-requires
split_seat-requires g c =
    let idle = c.requires.idle in
    let fits = c.requires.fits in
    let me = c.join_seat.ensures.2 ∙ (λ i. (lodging (idle.2.0 i).0 (idle.3.0 i).0, (idle.2.0 i).1)) in
    let reported = subst (λ v. GreetTells v c.load.new.seat.me) (λ i. (me i).0) c.load.ensures.2 in
    (c.load.ensures.0 ∙ c.join_seat.ensures.0 ∙ fits.1, omega (arith, fits.0.0), met_splits g.C.Names.begins g.C.Follows.follows c.args.words.now.key.places.items c.load.new.seat.id c.load.new.seat.me.0 (greeted_as g.C.Names.begins g.C.Follows.follows c.args.words.now.key.places.items idle.0 idle.1) (λ i. (reported.0 i).0) idle.2.1)

pub returns-clause-greeted : goal.returns-clause-greeted
returns-clause-greeted g c p r idle guest =
    let me = c.join_seat.ensures.2 ∙ (λ i. (lodging (idle.0 i).0 (guest.0 i).0, (idle.0 i).1)) in
    let reported = subst (λ v. GreetTells v c.load.new.seat.me) (λ i. (me i).0) c.load.ensures.2 in
    greeted_of g.C.Names.begins g.C.Follows.follows c.args.words.now.key.places.items p r c.load.new.seat.me c.split_seat.new.seat.me c.split_seat.result.me idle.2 reported c.split_seat.ensures.2 c.split_seat.ensures.4
