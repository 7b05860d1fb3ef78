use Rattle.std.proofs.Common.{◌≡◌, ◌++◌, [], ◌∷◌, map, Err, refl, sym, ap, ◌∙◌}
use Rattle.std.specs.List.{list_any}
use Rattle.dns_rdata.specs.Record.{Record}
use Rattle.master_file.specs.declared.record_entry.RecordEntry.{RecordEntry}
use Rattle.master_file.specs.ZoneText.{record_in, in_lower}
use Rattle.master_file.specs.SetOrder.{put_last, is_over}
use Rattle.master_file.proofs.PutLemmas.{put_in}
use Rattle.master_file.proofs.OverLemmas.{put_full}
use Rattle.master_file.proofs.sorted.put_in.Goals as goal

pub returns-clause-put : goal.returns-clause-put
returns-clause-put c =
    let parts = c.into_parts-rdata.result in
    let rr : RecordEntry = record { line = c.args.kept.line; owner = c.args.kept.owner; ttl = parts.1; rdata = parts.2 } in
    let is : rr ≡ c.args.kept = λ i. record { line = c.args.kept.line; owner = c.args.kept.owner; ttl = c.into_parts-rdata.ensures.ttl i; rdata = c.into_parts-rdata.ensures.data i } in
    let of = c.requires.of in
    c.in_ok-push.ensures.items
    ∙ put_in (c.args.sets.now.items ++ c.args.last ∷ []) c.args.sets.now.items c.args.last c.set_ttl.new.self rr refl (rw c.into_parts-rdata.ensures.data of) c.requires.owner
    (c.set_ttl.ensures ∙ ap (map (λ (s : Record). record s { ttl = rr.ttl.0 })) c.in-Ok.ensures.ok)
    ∙ ap (λ (p : RecordEntry). put_last (c.args.sets.now.items ++ c.args.last ∷ []) (in_lower (record_in p))) is

pub returns-in-Err-Limit-clause-full : goal.returns-in-Err-Limit-clause-full
returns-in-Err-Limit-clause-full c =
    let parts = c.into_parts-rdata.result in
    let rr : RecordEntry = record { line = c.args.kept.line; owner = c.args.kept.owner; ttl = parts.1; rdata = parts.2 } in
    let is : rr ≡ c.args.kept = λ i. record { line = c.args.kept.line; owner = c.args.kept.owner; ttl = c.into_parts-rdata.ensures.ttl i; rdata = c.into_parts-rdata.ensures.data i } in
    let of = c.requires.of in
    let full = c.in-Err-Limit.ensures.limit.0 (λ i. Err (c.in-Err-Limit.field-0-is i)) in
    ap (λ (p : RecordEntry). list_any is_over (put_last (c.args.sets.now.items ++ c.args.last ∷ []) (in_lower (record_in p)))) (sym is)
    ∙ put_full (c.args.sets.now.items ++ c.args.last ∷ []) c.args.sets.now.items c.args.last rr refl (rw c.into_parts-rdata.ensures.data of) full.0 full.1
