-- The verbs of script lines.
use Rattle.std.specs.Prelude.{ℕ, List, Option, Some, None, codes}
use Rattle.script_lines.specs.declared.command.Command.{Command}
use Rattle.script_lines.specs.declared.command.Command.TheVariants as command
use Rattle.script_lines.specs.declared.verb.Verb.{Verb}
use Rattle.script_lines.specs.declared.verb.Verb.TheVariants.{Config, Write, Boot, Poke, Peek, Collect, Reset, Look}

-- the word of a verb
abbrev pub name_of : Verb → List ℕ
name_of Config = codes "config"
name_of Write = codes "write"
name_of Boot = codes "boot"
name_of Poke = codes "poke"
name_of Peek = codes "peek"
name_of Collect = codes "collect"
name_of Reset = codes "reset"
name_of Look = codes "look"

-- the verb of a command
abbrev pub verb_of : Command → Verb
verb_of (command.Config bytes) = Config
verb_of (command.Write host bytes) = Write
verb_of (command.Boot host code) = Boot
verb_of (command.Poke host address word) = Poke
verb_of (command.Peek host address) = Peek
verb_of (command.Collect host) = Collect
verb_of (command.Reset node) = Reset
verb_of (command.Look node) = Look

-- the number of the host or node that a command asks, if it asks one
abbrev pub target_asked : Command → Option ℕ
target_asked (command.Config bytes) = None
target_asked (command.Write host bytes) = Some host
target_asked (command.Boot host code) = Some host
target_asked (command.Poke host address word) = Some host
target_asked (command.Peek host address) = Some host
target_asked (command.Collect host) = Some host
target_asked (command.Reset node) = Some node
target_asked (command.Look node) = Some node
