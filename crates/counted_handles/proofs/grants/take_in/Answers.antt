use Rattle.std.proofs.Common.{sym, ap, ◌∙◌, [], ◌∷◌, arith}
use Rattle.counted_handles.specs.declared.view.View.TheVariants.{Publishes, Reads}
use Rattle.counted_handles.specs.Cuts.{lodging}
use Rattle.counted_handles.proofs.CallLemmas.{only_one}
use Rattle.counted_handles.proofs.EndLemmas.{lodge_allowed}
use Rattle.counted_handles.proofs.grants.take_in.Goals as goal

pub join_seat-requires : goal.join_seat-requires
join_seat-requires g c =
    let whole = c.requires.whole in
    let seat = c.into_seat-seat in
    let guest = c.into_seat in
    let view = only_one seat.result.me.0 (Publishes whole.0) (sym seat.ensures.2 ∙ ap (λ b. b.views) c.replace.ensures.value ∙ whole.2) in
    let reads = only_one guest.result.me.0 (Reads whole.1) (sym guest.ensures.2 ∙ whole.3) in (
      seat.ensures.0 ∙ ap (λ b. b.table_id) c.replace.ensures.value ∙ c.requires.fits.1,
      guest.ensures.0 ∙ c.requires.fits.2,
      guest.ensures.3,
      omega (arith, c.requires.fits.0.0),
      lodge_allowed g.C.Names.begins g.C.Follows.follows c.args.words.now.key.places.items seat.result.id guest.result.id seat.result.me.0 guest.result.me.0 whole.0 whole.1 view reads whole.4,
    )

pub returns-clause-taken : goal.returns-clause-taken
returns-clause-taken g c p r is reads_is =
    let seat = c.into_seat-seat in
    let guest = c.into_seat in
    let view = only_one seat.result.me.0 (Publishes p) (sym seat.ensures.2 ∙ ap (λ b. b.views) c.replace.ensures.value ∙ is) in
    let reads = only_one guest.result.me.0 (Reads r) (sym guest.ensures.2 ∙ reads_is) in
    c.into_badge.ensures.2 ∙ ap (λ m. m.0 ∷ []) c.join_seat.ensures.2 ∙ (λ i. lodging (view i) (reads i) ∷ [])
