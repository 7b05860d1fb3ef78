use Rattle.std.proofs.Common.{◌≡◌, ◌+◌, Some, None, rules}
use Rattle.wide_file.specs.Included.{found_in, text_at}
use Rattle.wide_file.proofs.SpellLemmas.{opened, told_none}
use Rattle.wide_file.proofs.spelling.file_for.Goals as goal

pub returns-in-Ok-Some-clause-read : goal.returns-in-Ok-Some-clause-read
returns-in-Ok-Some-clause-read c =
    let file = c.in-Ok-Some.file.now in
    let deeper : c.args.depth ≡ c.in-Some.depth + 1 = search rules in
    let found : found_in (text_at c.args.files.now) c.args.file.now c.args.own.now.path ≡ Some (file.path, file.text.items) = search rules in
    opened c.args.depth c.in-Some.depth (text_at c.args.files.now) c.args.file.now c.args.own.now file.path file.text.items deeper found

pub returns-in-Ok-None-clause-fault : goal.returns-in-Ok-None-clause-fault
returns-in-Ok-None-clause-fault c =
    let deeper : c.args.depth ≡ c.in-Some.depth + 1 = search rules in
    let found : found_in (text_at c.args.files.now) c.args.file.now c.args.own.now.path ≡ None = search rules in
    told_none c.args.depth c.in-Some.depth (text_at c.args.files.now) c.args.file.now c.args.own.now c.fault_at-in-Ok-None.result deeper found c.fault_at-in-Ok-None.ensures
