-- The right tells how many versions are published.
use Rattle.std.proofs.Common.{◌≡◌, List, [], ◌∷◌, ◌++◌, length, sym, ap, ◌∙◌, append-nil, append_assoc}
use Rattle.zone_tree.specs.Version.{Version}
use Rattle.dns_engine.specs.Held.{Held, held_with, held_through}
use Rattle.zone_server.proofs.server.Server.resume.Goals as goal

through : (held : Held) (later : List Version) → (held_through held later).published ≡ held.published ++ later
through held [] = sym (append-nil held.published)
through held (version ∷ later) = through (held_with held version) later ∙ append_assoc held.published (version ∷ []) later

pub returns-clause-right : goal.returns-clause-right
returns-clause-right g c =
    c.of-state.ensures.right ∙ (ap (λ (h : Held). length h.published) c.in_ok-engine.ensures.held ∙ ap length (through _ c.args.later.items))
