use Rattle.std.proofs.Common.{Option, sym, ap, subst, ◌∙◌}
use Rattle.master_file.specs.Records.{records_of}
use Rattle.wide_file.specs.Included.{Whole, read_to, text_at, whole_of}
use Rattle.wide_file.specs.PlainText.{Spelled}
use Rattle.wide_file.specs.Private.{AreOfZone}
use Rattle.wide_file.specs.declared.wide_fault.WideFault.{WideFault}
use Rattle.wide_file.proofs.SpellLemmas.{same_whole, whole_put}
use Rattle.wide_file.proofs.TextBackLemmas.{back}
use Rattle.wide_file.proofs.spelling.plain_text.Goals as goal

pub returns-clause-records : goal.returns-clause-records
returns-clause-records c other =
    let files = text_at c.args.files.now in
    let origin = c.args.origin.now in
    let text = c.args.text.now in
    let whole = whole_of files origin text in
    let read = read_to c.max_depth.result files c.zone-zone.result c.new-context.result text in
    let same = same_whole files origin text c.zone-zone.result c.max_depth.result c.new-context.result c.zone-zone.ensures c.max_depth.ensures c.new-context.ensures.start in
    let put = whole_put c.new-plain.result c.spell_file.new.plain read whole c.new-plain.ensures same c.in_ok-spell_file.ensures.read in
    let lawful = subst (λ (w : Whole). AreOfZone w.entries) same c.in_ok-spell_file.ensures.lawful in
    ap (λ (p : Spelled × Option WideFault). records_of other p.0.text) (sym put) ∙ back whole.entries lawful other
