use Rattle.std.proofs.Common.{◌≡◌, ◌==◌, drop, map}
use Rattle.std.specs.List.{find}
use Rattle.wide_text.specs.Mnemonics.{Mnemonic, mnemonic_seen}
use Rattle.wide_text.proofs.mnemonics.word_numbered.Given as goal

abbrev pub invariant-loop-mnemonic : goal.invariant-loop-mnemonic
invariant-loop-mnemonic l =
    find (λ (m : Mnemonic). m.number == l.number) (map mnemonic_seen (drop l.mnemonic-index l.mnemonics)) ≡ find (λ (m : Mnemonic). m.number == l.number) (map mnemonic_seen l.mnemonics)
