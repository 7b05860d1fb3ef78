use Rattle.std.proofs.Common.{ap, ◌∙◌, [], ◌∷◌}
use Rattle.counted_handles.proofs.MadeLemmas.{took_first, lent_first, offering_of}
use Rattle.counted_handles.proofs.made.make_publisher.Goals as goal

pub slot_mut-room-requires : goal.slot_mut-room-requires
slot_mut-room-requires g c =
    let opened = c.open.ensures.opened c.args.version.value.value c.requires.first.0 in
    (c.open.ensures.seat.0 ∙ c.requires.fits.1, took_first c.args.version.value.value c.open.new.seat.me opened)

pub share-requires : goal.share-requires
share-requires g c =
    let opened = c.open.ensures.opened c.args.version.value.value c.requires.first.0 in
    ap (λ y. y.stake) (lent_first c.args.version.value.value c.open.new.seat.me c.slot_mut-room.result.now opened c.slot_mut-room.ensures.value) ∙ opened.whole

pub offer-requires-clause-shared : goal.offer-requires-clause-shared
offer-requires-clause-shared g c =
    let value = c.args.version.value.value in
    let opened = c.open.ensures.opened value c.requires.first.0 in
    let s = c.share.ensures.shared in
    let same = c.share.ensures.same in
    (value, c.args.words.now.table_id.views_name, opened.spot, offering_of g.C.Names.begins value c.args.words.now.table_id.views_name c.args.version.value c.open.new.seat.me c.slot_mut-room.result.now c.share.new.self opened c.requires.first.2 c.requires.first.1 c.slot_mut-room.ensures.value same.0 same.1 s.0 s.1 s.2 s.3)

pub into_badge-requires : goal.into_badge-requires
into_badge-requires g c =
    let value = c.args.version.value.value in
    let opened = c.open.ensures.opened value c.requires.first.0 in
    let s = c.share.ensures.shared in
    let same = c.share.ensures.same in
    let name = c.args.words.now.table_id.views_name in
    let offered = c.offer.ensures.offered value name opened.spot (offering_of g.C.Names.begins value name c.args.version.value c.open.new.seat.me c.slot_mut-room.result.now c.share.new.self opened c.requires.first.2 c.requires.first.1 c.slot_mut-room.ensures.value same.0 same.1 s.0 s.1 s.2 s.3) in
    λ i. (offered i).1

pub returns-clause-begun : goal.returns-clause-begun
returns-clause-begun g c =
    let value = c.args.version.value.value in
    let opened = c.open.ensures.opened value c.requires.first.0 in
    let s = c.share.ensures.shared in
    let same = c.share.ensures.same in
    let name = c.args.words.now.table_id.views_name in
    let offered = c.offer.ensures.offered value name opened.spot (offering_of g.C.Names.begins value name c.args.version.value c.open.new.seat.me c.slot_mut-room.result.now c.share.new.self opened c.requires.first.2 c.requires.first.1 c.slot_mut-room.ensures.value same.0 same.1 s.0 s.1 s.2 s.3) in
    (opened.spot, c.into_badge.ensures.2 ∙ ap (λ m. m.0 ∷ []) offered)
