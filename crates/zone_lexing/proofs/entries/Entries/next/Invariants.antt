use Rattle.std.proofs.Common.{◌≡◌, ◌≤◌, ◌<◌, ◌+◌, ◌^◌, map, vec_capacity, length}
use Rattle.zone_lexing.specs.Items.{items}
use Rattle.zone_lexing.specs.Word.{written}
use Rattle.zone_lexing.specs.Entries.{entries_left}
use Rattle.zone_lexing.specs.Steps.{left, has_word}
use Rattle.zone_lexing.proofs.entries.Entries.next.Given as goal

abbrev pub invariant-loop-word : goal.invariant-loop-word
invariant-loop-word l =
    (l.fn.self ≡ left l.reading (map written l.words.items))
    × (l.reading.some ≡ has_word (map written l.words.items))
    × (vec_capacity l.fn.words ≤ vec_capacity l.words)
    × (entries_left (l.self-inside.lines + 1) (items 0 l.self-inside.rest.now) ≡ l.fn.self)
    × (l.self-inside.lines + length l.self-inside.rest.now < 2 ^ 64)

abbrev pub decreases-loop-word : goal.decreases-loop-word
decreases-loop-word l = length l.reading.rest.now
