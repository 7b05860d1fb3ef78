use Rattle.std.proofs.Common.{◌∙◌, sym, subst}
use Rattle.atomic_table.specs.Table.{opening}
use Rattle.counted_handles.specs.declared.view.View.TheVariants.{Begin}
use Rattle.counted_handles.specs.Ruled.{Ruled, first_words}
use Rattle.counted_handles.proofs.Opening.{opening_ruled}
use Rattle.counted_handles.proofs.made.make.Goals as goal

pub new-requires : goal.new-requires
new-requires g c =
    let laid = c.in_ok-rooms.ensures in
    let begins = g.C.Names.begins in
    let follows = g.C.Follows.follows in
    let made = c.in_ok-rooms.field-0 in
    subst (λ words. Ruled begins follows made.spots.places.items (opening words made.rooms.items (Begin made.spots.first.value))) (sym (c.as_slice.ensures.value ∙ c.in_ok-words.ensures))
    (subst (λ v. Ruled begins follows made.spots.places.items (opening first_words made.rooms.items (Begin v))) (sym laid.1) (opening_ruled begins follows made.spots.places.items c.args.first made.rooms.items laid.0))
