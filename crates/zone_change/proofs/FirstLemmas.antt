-- What an NS that comes first makes of a zone, by what becomes of the update that adds it.
use Rattle.std.proofs.Common.{◌≡◌, refl, sym, ap, ◌∙◌, Bool, true, false, cond, if◌then◌else◌, List, [], ◌∷◌, ◌++◌, map, take, All, true≢false, inl, inr, ◌⊎◌, Option, None, Some, Err, unwrap_or}
use Rattle.std.specs.Option.{option_map, option_or, option_and_then, is_some}
use Rattle.std.specs.Result.{IsErrOf}
use Rattle.std.specs.List.{list_any}
use Rattle.std.specs.Cmp.Lexicographic.{pointwise}
use Rattle.dns_rdata.specs.Record.{Record}
use Rattle.dns_rdata.specs.Raw.{RawRecord}
use Rattle.dns_rdata.specs.SerialOrder.{serial_less}
use Rattle.dns_rdata.specs.declared.numbers.Rcode.{Rcode}
use Rattle.dns_rdata.specs.declared.numbers.Rcode.TheVariants.{ServFail}
use Rattle.dns_message.specs.declared.update.Update.{Update}
use Rattle.zone_tree.specs.Zone.{IsZone, apex_of}
use Rattle.zone_tree.specs.Change.{is_same_record}
use Rattle.zone_tree.specs.Patch.{is_among}
use Rattle.zone_tree.specs.Version.{zone_serial}
use Rattle.update_core.specs.Verdict.{prescan, verdict}
use Rattle.update_core.specs.Act.{effect, effects, act, completed, IsSent}
use Rattle.update_core.proofs.EffectKeeps.{effects_keep}
use Rattle.zone_change.specs.Change.{aimed, put_in, steps, servers_of, first_server, with_first, update_from, AreBeside, HasRoom, CanChange}
use Rattle.zone_change.proofs.Passed.{all_pass, all_sent}
use Rattle.zone_change.proofs.First.{first_passes, leads_on}
use Rattle.zone_change.proofs.Law.{IsAim, taken_by, aims}
use Rattle.zone_change.proofs.UpdateLemmas.{beside_effects}
use Rattle.zone_change.proofs.RecordsLemmas.{like}

module _ (old : List Record) (rs : List RawRecord) (h : IsZone old) (passed : prescan old rs ≡ None) (sent : All IsSent rs) where
  -- it breaks no rule
  pub first_taken : (u : Update) → u ≡ update_from old rs → verdict old u true ≡ None
  first_taken u is = ap (λ v. verdict old v true) is ∙ taken_by old h rs passed

  -- where it is taken, it makes a zone with the same records beside the SOA
  pub first_makes : (u : Update) (z : List Record) → u ≡ update_from old rs → act old u ≡ Some z → AreBeside z (unwrap_or (effects old rs) old)
  first_makes u z is acts = beside_effects old z (effects old rs) h (effects_keep old rs h sent passed) (ap (act old) (sym is) ∙ acts)

  -- where it is refused, it has no effect
  none_told : (o : Option (List Record)) (code : Rcode) → cond (is_some (option_map (completed old) o)) None (Some ServFail) ≡ Some code → o ≡ None
  none_told None code e = refl
  none_told (Some mid) code e = cc

  pub first_refused : (u : Update) (code : Rcode) → u ≡ update_from old rs → option_or (verdict old u true) (if is_some (act old u) then None else Some ServFail) ≡ Some code → effects old rs ≡ None
  first_refused u code is reported =
      none_told (effects old rs) code
      (ap (λ v. option_or v (if is_some (act old (update_from old rs)) then None else Some ServFail)) (sym (taken_by old h rs passed))
      ∙ ap (λ v. option_or (verdict old v true) (if is_some (act old v) then None else Some ServFail)) (sym is) ∙ reported)

-- a fault in place of one value is that in place of another
pub err_again : {X Y E : Type 0} (f g : E) → IsErrOf {T = X} (Err f) g → IsErrOf {T = Y} (Err f) g
err_again f g e = let is : f ≡ g = cc in ap Err is

-- records without effect have none before others
none_first : (zone : List Record) (rs ss : List RawRecord) → effects zone rs ≡ None → effects zone (rs ++ ss) ≡ None
none_first zone [] ss e = cc
none_first zone (r ∷ rs) ss e = by (effect zone r) e (λ z. none_first z rs ss)
  where
    by : (o : Option (List Record)) → option_and_then (λ z. effects z rs) o ≡ None → ((z : List Record) → effects z rs ≡ None → effects z (rs ++ ss) ≡ None) → option_and_then (λ z. effects z (rs ++ ss)) o ≡ None
    by None f more = refl
    by (Some z) f more = more z f

no_lead : (rs ss : List RawRecord) (old aim : List Record) → effects old rs ≡ None → effects old (rs ++ ss) ≡ Some aim → ⊥
no_lead rs ss old aim none some = absurd (apart (sym (none_first old rs ss none) ∙ some))
  where
    apart : None ≡ Some aim → ⊥
    apart e = cc

-- a change that there is room for leads to its zone
leads_to : (old next : List Record) → CanChange old next → pointwise is_same_record old (aimed old next) ≡ false → effects old (map put_in (first_server old (aimed old next)) ++ steps (with_first old (aimed old next)) (aimed old next)) ≡ Some (aimed old next)
leads_to old next can differ = on aim.way
  where
    aim : IsAim old (aimed old next)
    aim = aims old next can

    on : (pointwise is_same_record old (aimed old next) ≡ true) ⊎ ((serial_less (zone_serial old) (zone_serial (aimed old next)) ≡ true) × HasRoom old (aimed old next))
        → effects old (map put_in (first_server old (aimed old next)) ++ steps (with_first old (aimed old next)) (aimed old next)) ≡ Some (aimed old next)
    on (inl same) = absurd (true≢false (sym same ∙ differ))
    on (inr way) = leads_on old (aimed old next) (record { old_zone = can.old_zone; next_zone = aim.is; apex = aim.apex; rises = way.0; room = way.1 })

module _ (old next : List Record) (h : IsZone old) (k : IsZone next) (apex : apex_of old ≡ apex_of next) (differ : pointwise is_same_record old (aimed old next) ≡ false) (e : list_any (is_among old) (servers_of next) ≡ false) where
  -- the first NS of the next zone passes
  passes : (b : Bool) → b ≡ false → prescan old (map put_in (cond b [] (take 1 (servers_of next)))) ≡ None → prescan old (map put_in (take 1 (servers_of next))) ≡ None
  passes true f p = absurd (true≢false f)
  passes false f p = p

  pub first_passed : prescan old (map put_in (take 1 (servers_of next))) ≡ None
  first_passed = passes (list_any (is_among old) (servers_of next)) e (all_pass old (map put_in (first_server old next)) (first_passes old next h k apex))

  sents : (b : Bool) → b ≡ false → All IsSent (map put_in (cond b [] (take 1 (servers_of next)))) → All IsSent (map put_in (take 1 (servers_of next)))
  sents true f p = absurd (true≢false f)
  sents false f p = p

  pub first_sent : All IsSent (map put_in (take 1 (servers_of next)))
  first_sent = sents (list_any (is_among old) (servers_of next)) e (all_sent old (map put_in (first_server old next)) (first_passes old next h k apex))

  -- and where there is room it has an effect
  pub has_effect : HasRoom old next → effects old (map put_in (take 1 (servers_of next))) ≡ None → ⊥
  has_effect room none =
      let can : CanChange old next = record { old_zone = h; next_zone = k; apex = apex; room = room } in
      let first : first_server old (aimed old next) ≡ take 1 (servers_of next) =
      ap (λ ns. if list_any (is_among old) ns then [] else take 1 ns) (like old next h k differ).servers ∙ ap (λ b. if b then [] else take 1 (servers_of next)) e in
      no_lead (map put_in (first_server old (aimed old next))) (steps (with_first old (aimed old next)) (aimed old next)) old (aimed old next)
      (ap (λ ns. effects old (map put_in ns)) first ∙ none) (leads_to old next can differ)
