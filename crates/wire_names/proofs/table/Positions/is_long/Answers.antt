use Rattle.std.proofs.Common.{◌≡◌, ◌<◌, Bool, true, false, List, ℕ, length, get_or, not, refl, sym, ap, ◌∙◌, arith}
use Rattle.std.specs.Bool.{OnTrue}
use Rattle.std.specs.Str.{bytes_eq}
use Rattle.std.proofs.lemmas.Slice.Eq.{bytes_eq-Decides}
use Rattle.dns_name.specs.Labels.{labels_in}
use Rattle.wire_names.specs.Place.{IsKnown}
use Rattle.wire_names.specs.Table.{Entry}
use Rattle.wire_names.proofs.IndexLemmas.{no_entry}
use Rattle.wire_names.proofs.LongLemmas.{entries_many, long_spelt, octets_at}
use Rattle.wire_names.proofs.TableLemmas.{equal_from}
use Rattle.wire_names.proofs.table.Positions.is_long.Goals as goal

on_alike : (own octets : List ℕ) (b : Bool) (P : Type 0) → b ≡ not (bytes_eq own octets) → (own ≡ octets → P) → OnTrue (not b) P
on_alike own octets true P e f = tt
on_alike own octets false P e f = f ((bytes_eq-Decides own octets).0 (equal_from (bytes_eq own octets) false e refl))

pub returns : goal.returns
returns c =
    let many = entries_many c.self.inside.heads.items c.self.inside.longs in
    let size = ap (λ (xs : List Entry). length xs) c.self.view_is in
    let few = c.self.invariant.0.few in
    λ msg table. on_alike _ _ c.differ.result _ c.differ.ensures (λ same.
    long_spelt msg _ _ c.args.index table (omega arith) c.requires.whole (omega arith)
    (sym (octets_at c.self.inside.heads.items c.self.inside.longs _ c.args.index no_entry c.self.view_is (omega arith)) ∙ sym c.octets.ensures ∙ same))
