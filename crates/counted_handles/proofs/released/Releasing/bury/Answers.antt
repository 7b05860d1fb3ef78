use Rattle.std.proofs.Common.{◌≡◌, refl, sym, ap, ◌∙◌, [], ◌∷◌}
use Rattle.atomic_table.specs.Table.{rest}
use Rattle.raw_slots.specs.Places.{first_with}
use Rattle.counted_handles.specs.Ruled.{stake_of}
use Rattle.counted_handles.proofs.Rights.{alone_right}
use Rattle.counted_handles.proofs.Burials.{lost_of, won_of}
use Rattle.counted_handles.proofs.released.Releasing.bury.Goals as goal

pub returns-then-found-ne0-clause-tried : goal.returns-then-found-ne0-clause-tried
returns-then-found-ne0-clause-tried g c = lost_of g.C.Names.begins g.C.Follows.follows c.args.slot _ c.bury-found.result c.bury-found.new.seat.me c.if-found-ne0.true (c.bury-found.ensures.tried _ c.requires.due.1)

pub collect-requires : goal.collect-requires
collect-requires g c =
    let won = won_of g.C.Names.begins g.C.Follows.follows c.args.slot _ c.bury-found.result c.bury-found.new.seat.me c.if-found-ne0.false (c.bury-found.ensures.tried _ c.requires.due.1) in
    let carried : c.bury-found.new.seat.me.1 ≡ (c.args.slot, won.room) ∷ [] = λ i. (won.me_is i).1 in (
      c.bury-found.ensures.seat.0 ∙ c.requires.fits.1,
      (
        won.room,
        stake_of won.mark,
        carried ∙ ap (λ l. (c.args.slot, won.room) ∷ rest l) (sym carried),
        won.stake,
        won.name_is,
        alone_right g.C.Names.begins g.C.Follows.follows c.args.words.now.key.places.items c.bury-found.new.seat.id c.args.slot won.spot won.mark c.bury-found.new.seat.me.0 (λ i. (won.me_is i).0) won.slot_is,
      ),
    )

pub returns-clause-tried : goal.returns-clause-tried
returns-clause-tried g c =
    let won = won_of g.C.Names.begins g.C.Follows.follows c.args.slot _ c.bury-found.result c.bury-found.new.seat.me c.if-found-ne0.false (c.bury-found.ensures.tried _ c.requires.due.1) in (
      refl,
      record {
        spot = won.spot;
        room = record (won.room) { stake = [] };
        mark = won.mark;
        me_is = c.collect.ensures.2 ∙ ap (λ m. (m.0, first_with (λ y. record y { stake = [] }) m.1)) won.me_is;
        lies = won.lies;
        version = won.version;
        whole = refl;
        older = won.older;
      },
    )
