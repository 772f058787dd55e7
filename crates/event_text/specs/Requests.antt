-- Requests for events.
use Rattle.std.specs.Prelude.{◌≡◌, ℕ, [], ◌∷◌}
use Rattle.domain_core.specs.declared.event.By.{By}
use Rattle.domain_core.specs.declared.event.Event.{Event}
use Rattle.event_text.specs.declared.request.Request.{Request}
use Rattle.event_text.specs.declared.request.Request.TheVariants.{Events}

-- a request asks one event of a domain, by this asker, and nothing else
abbrev pub AsksOnly : ℕ → By → Event → Request → Type 0
AsksOnly domain by event (Events d b events) = (d ≡ domain) × (b ≡ by) × (events.items ≡ event ∷ [])
AsksOnly domain by event request = ⊥
