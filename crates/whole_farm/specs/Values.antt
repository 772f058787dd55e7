-- Domains in the order of their plan, as contracts see them, and what the words of their outputs say.
use Rattle.std.specs.Prelude.{List, map}
use Rattle.crossbar.specs.declared.word.Word.{Word}
use Rattle.crossbar.specs.Word.{connection_of}
use Rattle.crossbar.specs.Row.{input_of, is_ready}
use Rattle.domain_core.specs.PrivateFarm.{State}
use Rattle.domain_core.specs.Domain.{DomainValue, state_of}
use Rattle.whole_farm.specs.Places.{Place}
use Rattle.whole_farm.specs.Whole.{Farm}
use Rattle.whole_farm.specs.Domains.{Output, IsMadeOf}
use Rattle.whole_farm.specs.Merges.{own_place}

-- the places of the domains
abbrev pub all_places : List DomainValue → List Place
all_places domains = map own_place domains

-- the states of the domains
abbrev pub all_states : List DomainValue → List State
all_states domains = map state_of domains

-- the whole farm is made of what the domains are
abbrev pub IsMadeOfDomains : Farm → List DomainValue → Type 0
IsMadeOfDomains farm domains = IsMadeOf (all_places domains) farm (all_states domains)

-- what a word says of its output, the driver by its physical number
abbrev pub output_told : Word → Output
output_told word = record { driver = input_of (connection_of word); ready = is_ready (connection_of word) }
