use Rattle.std.proofs.Common.{◌≡◌, ◌∙◌, ℕ, List, Option, Some, IfOk, option_map, sym, ap, subst}
use Rattle.dns_rdata.specs.declared.layout.Layout.{Layout}
use Rattle.dns_rdata.specs.Layout.{layout_of}
use Rattle.dns_message.specs.Message.{Entry}
use Rattle.dns_message.proofs.SentLemmas.{front_is_short, data_of_fields, data_of_strings, data_of_opaque, data_of_none}
use Rattle.dns_message.proofs.sent.expanded.Goals as goal

pub returns-in_default : goal.returns-in_default
returns-in_default c =
    let rtype : c.entry.inside.rtype.0 ≡ c.args.entry.now.rtype = ap (λ (e : Entry). e.rtype) c.entry.view_is in
    let is = data_of_none c.args.octets.now c.args.entry.now (c.in_default.ensures ∙ ap layout_of rtype) in
    let P : Option (List ℕ) → Type 0 = λ own. IfOk c.as_it_stands.result (λ found. option_map (λ v. v.items) found ≡ own) in
    subst P (sym is) c.as_it_stands.ensures

pub expanded_fields-requires-clause-short : goal.expanded_fields-requires-clause-short
expanded_fields-requires-clause-short c =
    let lies = ap (λ (layout : Layout). Some layout) (sym c.in-Fields.is) ∙ c.in-Some.ensures in
    front_is_short c.entry.inside.rtype.0 c.in-Fields.front c.in-Fields.names c.in-Fields.back c.in-Fields.compressed lies

pub returns-in-Fields : goal.returns-in-Fields
returns-in-Fields c =
    let rtype : c.entry.inside.rtype.0 ≡ c.args.entry.now.rtype = ap (λ (e : Entry). e.rtype) c.entry.view_is in
    let lies = ap (λ (layout : Layout). Some layout) (sym c.in-Fields.is) ∙ (c.in-Some.ensures ∙ ap layout_of rtype) in
    let is = data_of_fields c.args.octets.now c.args.entry.now c.in-Fields.front c.in-Fields.names c.in-Fields.back c.in-Fields.compressed lies in
    let P : Option (List ℕ) → Type 0 = λ own. IfOk c.expanded_fields.result (λ found. option_map (λ v. v.items) found ≡ own) in
    subst P (sym is) c.expanded_fields.ensures

pub returns-in-Strings : goal.returns-in-Strings
returns-in-Strings c =
    let rtype : c.entry.inside.rtype.0 ≡ c.args.entry.now.rtype = ap (λ (e : Entry). e.rtype) c.entry.view_is in
    let lies = ap (λ (layout : Layout). Some layout) (sym c.in-Strings.is) ∙ (c.in-Some.ensures ∙ ap layout_of rtype) in
    let is = data_of_strings c.args.octets.now c.args.entry.now lies in
    let P : Option (List ℕ) → Type 0 = λ own. IfOk c.as_it_stands-in-Strings.result (λ found. option_map (λ v. v.items) found ≡ own) in
    subst P (sym is) c.as_it_stands-in-Strings.ensures

pub returns-in-Opaque : goal.returns-in-Opaque
returns-in-Opaque c =
    let rtype : c.entry.inside.rtype.0 ≡ c.args.entry.now.rtype = ap (λ (e : Entry). e.rtype) c.entry.view_is in
    let lies = ap (λ (layout : Layout). Some layout) (sym c.in-Opaque.is) ∙ (c.in-Some.ensures ∙ ap layout_of rtype) in
    let is = data_of_opaque c.args.octets.now c.args.entry.now lies in
    let P : Option (List ℕ) → Type 0 = λ own. IfOk c.as_it_stands-in-Opaque.result (λ found. option_map (λ v. v.items) found ≡ own) in
    subst P (sym is) c.as_it_stands-in-Opaque.ensures
