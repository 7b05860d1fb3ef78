use Rattle.std.proofs.Common.{◌≡◌, ℕ, List, ◌∷◌, [], nat_lt, if◌then◌else◌, ap, ◌∙◌, subst, IfOk}
use Rattle.world_run.specs.declared.entries.Entry.{Entry}
use Rattle.world_run.specs.Numbered.{first_version}
use Rattle.cell_core.specs.Words.{State}
use Rattle.zone_tree.specs.Version.{Version as Numbered}
use Rattle.world_run.specs.World.{World, started_words, started_within, started, first_entries}
use Rattle.world_run.proofs.play.Play.new.Goals as goal

-- the first world, by its words and its entries
abbrev world : State Numbered → ℕ → ℕ → List Entry → World
world words keep window entries = record {
  words = words;
  names = [];
  weak_names = [];
  calls = [];
  keep = keep;
  window = window;
  kept = 0 ∷ [];
  entries = entries;
}

-- the entry of a first version of a serial, where there is a window
abbrev entry_at : ℕ → ℕ → List Entry
entry_at window serial = if nat_lt 0 window then record { number = 0; serial = record { 0 = serial }; owner = 1 } ∷ [] else []

world_is : (words others : State Numbered) (keep window : ℕ) (entries more : List Entry) → words ≡ others → entries ≡ more → world words keep window entries ≡ world others keep window more
world_is words others keep window entries more e f = λ i. world (e i) keep window (f i)

pub returns-in-Ok-clause-made : goal.returns-in-Ok-clause-made
returns-in-Ok-clause-made c =
    let window = c.min-window.result in
    let entries : entry_at window c.serial-first.result.0 ≡ first_entries c.args.zone window = ap (entry_at window) c.serial-first.ensures in
    let is : world c.in-Ok.machine c.args.options.keep window (entry_at window c.serial-first.result.0) ≡ started c.args.zone c.args.options.keep c.args.options.window =
    world_is c.in-Ok.machine (started_words (first_version c.args.zone) window) c.args.options.keep window (entry_at window c.serial-first.result.0) (first_entries c.args.zone window) c.in-Ok.ensures.made entries
    ∙ ap (started_within c.args.zone c.args.options.keep) c.min-window.ensures in
    subst (λ (w : World). IfOk c.in_words.result (λ play. play ≡ w)) is c.in_words.ensures.made
