use Rattle.std.proofs.Common.{◌≡◌, drop}
use Rattle.wide_file.specs.Included.{text_at}
use Rattle.wide_file.proofs.included.file_at.Given as goal

abbrev pub invariant-loop-file : goal.invariant-loop-file
invariant-loop-file l = text_at (drop l.file-index l.files) l.path ≡ text_at l.files l.path
