use Rattle.std.proofs.Common.{◌≡◌, ◌⊎◌, Some, IfErr, rules, ap, sym, subst, ◌∙◌}
use Rattle.wide_file.specs.Fault.{no_memory}
use Rattle.wide_file.specs.Included.{Whole, entry_read, included_to, read_to, text_at}
use Rattle.wide_file.specs.Mark.{after_mark}
use Rattle.wide_file.specs.WideRecords.{in_front}
use Rattle.wide_file.specs.declared.context.Context.{Context}
use Rattle.wide_file.specs.declared.record_entry.WideEntry.TheVariants as entry
use Rattle.wide_file.specs.declared.wide_fault.WideFault.{WideFault}
use Rattle.wide_file.proofs.SpellLemmas.{step_of_zone, step_read}
use Rattle.wide_file.proofs.spelling.+spelling.Goals as goal

-- the fault of an included file is that of the entry
pub spell_entry-returns-in_ok-found-in-Include-clause-fault : goal.spell_entry-returns-in_ok-found-in-Include-clause-fault
spell_entry-returns-in_ok-found-in-Include-clause-fault t c =
    let files = text_at c.args.files.now in
    let found = c.in_ok-found-in-Include.found in
    let included = included_to c.args.depth files c.args.file.now in
    let path = found.file.now.path in
    let marked = after_mark found.file.now.text.items in
    let is : c.args.own.now ≡ entry.Include c.in-Include.own = search rules in
    let context : c.copy-context.result ≡ c.in-Include.own.context = search rules in
    let text : c.without_mark-text.result.now ≡ marked = search rules in
    let same = ap (entry_read included c.args.file.now) is
    ∙ c.in_ok-found-in-Include.ensures.read
    ∙ ap (λ (begun : Context). read_to found.depth files path begun marked) (sym context)
    ∙ ap (read_to found.depth files path c.copy-context.result) (sym text) in
    subst (λ (w : Whole). IfErr c.spell_file.result (λ (fault : WideFault). (fault ≡ no_memory) ⊎ (w.fault ≡ Some fault))) (sym same) c.spell_file.ensures.fault

-- an entry is written, and the rest is left
pub spell_file-loop-records-preserved-in_ok-spell_entry-3 : goal.spell_file-loop-records-preserved-in_ok-spell_entry-3
spell_file-loop-records-preserved-in_ok-spell_entry-3 t c =
    let included = included_to c.args.depth (text_at c.args.files.now) c.args.file.now in
    let file = c.args.file.now in
    let own = c.in-Some.own in
    let before = c.loop-records.records in
    let after = c.next_of.new.records in
    let plain = c.loop-records.plain in
    let next = c.spell_entry.new.plain in
    let is : before ≡ in_front own after = search rules in
    let put = c.in_ok-spell_entry.ensures.read in
    record {
      read = sym (step_read included file own before after plain next is put) ∙ c.loop-records.invariant.read;
      lawful = λ rest. c.loop-records.invariant.lawful (step_of_zone included file own before after plain next is put c.in_ok-spell_entry.ensures.lawful rest);
    }
