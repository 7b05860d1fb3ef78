-- What the rule allows a publisher that takes a reader in, loads, and gives the grants to a reader again.
use Rattle.std.proofs.Common.{◌≡◌, sym, ap, ◌∙◌, subst, ℕ, ◌+◌, ◌-◌, ◌%◌, ◌^◌, ◌<◌, ◌≤◌, List, [], Some, None, arith}
use Rattle.atomic_table.specs.Table.{Allows, Splits}
use Rattle.cell_core.specs.Words.{slots}
use Rattle.counted_handles.specs.declared.view.Mark.{Mark}
use Rattle.counted_handles.specs.declared.view.Reading.{Reading}
use Rattle.counted_handles.specs.declared.view.Publishing.{Publishing}
use Rattle.counted_handles.specs.declared.view.Hold.TheVariants.{Once}
use Rattle.counted_handles.specs.declared.view.View.{View}
use Rattle.counted_handles.specs.declared.view.View.TheVariants.{Publishes}
use Rattle.counted_handles.specs.Ruled.{RoomSpot, Ruled}
use Rattle.counted_handles.specs.Cuts.{kept_share, given_share, kept_back, handed_back, kept_dealt, dealt, kept_met, handed_met, met_guest, lodged, with_reader, reader_of, met_by, gone_of}
use Rattle.counted_handles.specs.Tells.{Sat, Newest, Greeted}
use Rattle.counted_handles.specs.Plays.{NewestTells, GreetTells}
use Rattle.counted_handles.specs.Calls.{IsNewest, IsGreeted}
use Rattle.counted_handles.proofs.NewestStep.{newests, greets}
use Rattle.counted_handles.proofs.SplitStep.{splits_reading, splits_met}
use Rattle.counted_handles.proofs.Later.{splits_later}
use Rattle.counted_handles.proofs.CallLemmas.{at_seat}

module _ {T : Type 0} (begins : T → Type 0) (follows : T → T → Type 0) (spots : List (RoomSpot T)) where
  pub newest_allowed : (n id : ℕ) (me : Sat T) (p : Publishing T) → n ≡ slots → id ≡ 0 → me ≡ (Publishes p, []) → p.share ≡ None → 0 < p.left → Allows (Ruled begins follows spots) n id me 0 (λ k. (k + 1) % 2 ^ 64) (λ found new. NewestTells begins follows me.0 found new)
  newest_allowed n id me p count seat is whole some_left =
      at_seat begins follows spots n id 0 0 me (Publishes p, []) (λ k. (k + 1) % 2 ^ 64) (λ m found new. NewestTells begins follows m.0 found new) count seat is tt (newests begins follows spots p whole some_left)

  pub greet_allowed : (n id : ℕ) (me : Sat T) (p : Publishing T) → n ≡ slots → id ≡ 0 → me ≡ (Publishes p, []) → Allows (Ruled begins follows spots) n id me 0 (λ k. k) (λ _ new. GreetTells me.0 new)
  greet_allowed n id me p count seat is =
      at_seat begins follows spots n id 0 0 me (Publishes p, []) (λ k. k) (λ m _ new. GreetTells m.0 new) count seat is tt (greets begins follows spots p)

  pub rest_splits : (id : ℕ) (view : View T) (p : Publishing T) → view ≡ Publishes p → p.share ≡ None → Splits (Ruled begins follows spots) id view (kept_back view) (handed_back view)
  rest_splits id view p is whole =
      subst (λ v. Splits (Ruled begins follows spots) id v (kept_back v) (handed_back v)) (sym is)
      (splits_later begins follows spots id (Publishes p) (Publishes (with_reader p p.left)) (reader_of p p.left) tt (splits_reading begins follows spots id p.left p whole (omega arith)))

  pub met_splits : (id : ℕ) (view : View T) (p : Publishing T) → view ≡ Publishes p → p.share ≡ None → Splits (Ruled begins follows spots) id view (kept_met view) (handed_met view)
  met_splits id view p is whole =
      subst (λ v. Splits (Ruled begins follows spots) id v (kept_met v) (handed_met v)) (sym is)
      (splits_later begins follows spots id (Publishes p) (Publishes (met_guest p)) (met_by p (gone_of p.guests) p.left) tt (splits_met begins follows spots id p whole))

  pub deal_splits : (id n : ℕ) (view : View T) (p : Publishing T) → view ≡ Publishes p → p.share ≡ None → n ≤ p.left → Splits (Ruled begins follows spots) id view (kept_dealt n view) (dealt n view)
  deal_splits id n view p is whole enough =
      subst (λ v. Splits (Ruled begins follows spots) id v (kept_dealt n v) (dealt n v)) (sym is)
      (splits_later begins follows spots id (Publishes p) (Publishes (with_reader p n)) (reader_of p n) tt (splits_reading begins follows spots id n p whole enough))

  -- the publisher as each act finds it
  abbrev pub loaded_as : Publishing T → Reading T → Mark T → Publishing T
  loaded_as p r mark = record (lodged p r) { share = Some (Once mark); left = p.left + r.left - 1; fixed = None }

  abbrev pub cut_as : Publishing T → Reading T → Publishing T
  cut_as p r = record (lodged p r) { share = None; left = p.left + r.left - 1; fixed = None }

  pub newest_of : (p : Publishing T) (r : Reading T) (found : ℕ) (loaded kept share last reader : Sat T) → p.share ≡ None → p.left ≡ 0 → 0 < r.left → (reported : Newest begins follows (lodged p r) found loaded) → kept ≡ (kept_share loaded.0, loaded.1) → share ≡ (given_share loaded.0, [])
      → last ≡ (kept_met kept.0, kept.1) → reader ≡ (handed_met kept.0, []) → IsNewest begins follows p r found last share reader
  newest_of p r found loaded kept share last reader whole none_left some_left reported is_kept is_share is_last is_reader =
      let kept_is : kept ≡ (Publishes (cut_as p r), []) = is_kept ∙ ap (λ (m : Sat T). (kept_share m.0, m.1)) reported.1 in
      let rest : p.left + r.left - 1 ≡ r.left - 1 = omega (arith, none_left) in
      let nothing : p.left + r.left - 1 - (p.left + r.left - 1) ≡ 0 = omega arith in
      record {
        mark = reported.0;
        last = record { history = reported.2.history; last = reported.2.last; value = reported.2.value; slot = reported.2.slot; within = reported.2.within; name_is = reported.2.name_is };
        me_is = is_last ∙ ap (λ (m : Sat T). (kept_met m.0, m.1)) kept_is ∙ (λ i. (Publishes (record p { share = sym whole i; left = nothing i; readers = p.readers - 1 + 1; fixed = None }), []));
        share_is = is_share ∙ ap (λ (m : Sat T). (given_share m.0, [])) reported.1;
        reader_is = is_reader ∙ ap (λ (m : Sat T). (handed_met m.0, [])) kept_is ∙ ap (λ n. (met_by p r.gone n, [])) rest;
        begun = reported.3.0.2;
      }

  abbrev pub greeted_as : Publishing T → Reading T → Publishing T
  greeted_as p r = record (lodged p r) { fixed = None }

  pub greeted_of : (p : Publishing T) (r : Reading T) (greeted last reader : Sat T) → p.left ≡ 0 → Greeted (lodged p r) greeted → last ≡ (kept_met greeted.0, greeted.1) → reader ≡ (handed_met greeted.0, []) → IsGreeted p r last reader
  greeted_of p r greeted last reader none_left reported is_last is_reader =
      let rest : p.left + r.left ≡ r.left = omega (arith, none_left) in
      let nothing : p.left + r.left - (p.left + r.left) ≡ 0 = omega arith in
      record {
        me_is = is_last ∙ ap (λ (m : Sat T). (kept_met m.0, m.1)) reported.0 ∙ (λ i. (Publishes (record p { left = nothing i; readers = p.readers - 1 + 1; fixed = None }), []));
        reader_is = is_reader ∙ ap (λ (m : Sat T). (handed_met m.0, [])) reported.0 ∙ ap (λ n. (met_by p r.gone n, [])) rest;
        begun = reported.1.0.2;
      }
