use Rattle.std.proofs.Common.{◌≡◌, ◌++◌, [], List, ℕ, flat_map, drop, string_bytes, sym, ap, ◌∙◌}
use Rattle.std.proofs.lemmas.List.{append-nil, drop_all}
use Rattle.dns_name.specs.Name.{Name}
use Rattle.dns_rdata.specs.Record.{owner_of, rtype_of, ttl_of}
use Rattle.change_command.specs.ChangeText.{signed_line}
use Rattle.change_command.proofs.LineLemmas.{data_lines, data_lines-records}
use Rattle.change_command.proofs.lines.put_set.Goals as goal

pub returns : goal.returns
returns c =
    let set = c.args.set.now in
    let sign = c.args.sign.now in
    let ds = c.data-rdata-items.result.now in
    let before = string_bytes c.args.text.now in
    let lines = data_lines-records sign (owner_of set) (rtype_of set) (ttl_of set) ds c.data-rdata-items.ensures.lawful.typed in
    let all : data_lines sign (owner_of set) (ttl_of set) ds ≡ flat_map (signed_line sign) set = lines ∙ ap (flat_map (signed_line sign)) (sym c.data-rdata-items.ensures.records) in
    let owner = c.owner-owner.ensures.of in
    let ttl = c.ttl-ttl.ensures.of in
    let same : data_lines sign c.owner-owner.result c.ttl-ttl.result.0 ds ≡ data_lines sign (owner_of set) (ttl_of set) ds =
    ap (λ (o : Name). data_lines sign o c.ttl-ttl.result.0 ds) owner ∙ ap (λ (t : ℕ). data_lines sign (owner_of set) t ds) ttl in
    let lines_of = data_lines sign c.owner-owner.result c.ttl-ttl.result.0 in
    let left : lines_of (drop c.loop-rdata.rdata-index ds) ≡ [] = ap lines_of (drop_all c.loop-rdata.rdata-index ds c.loop-rdata-test.false) in
    sym (ap (λ (os : List ℕ). string_bytes c.loop-rdata.text ++ os) left ∙ append-nil (string_bytes c.loop-rdata.text))
    ∙ c.loop-rdata.invariant ∙ ap (λ (os : List ℕ). before ++ os) (same ∙ all)
