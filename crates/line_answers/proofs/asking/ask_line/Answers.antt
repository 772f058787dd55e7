use Rattle.std.proofs.Common.{ap, sym, refl, List, ℕ}
use Rattle.domain_core.specs.declared.event.Event.TheVariants as event
use Rattle.script_lines.specs.declared.command.Command.TheVariants as command
use Rattle.line_answers.specs.Asks.{next_config, next_write, next_boot, next_collect, once}
use Rattle.line_answers.proofs.Exchange.{once_asked}
use Rattle.line_answers.proofs.Lines.{of_command}
use Rattle.line_answers.proofs.asking.ask_line.Goals as goal

pub returns-in-Config : goal.returns-in-Config
returns-in-Config g c =
    of_command (next_config c.as_slice.result.now) c.args.command.now (command.Config c.in-Config.bytes)
    c.args.session.now c.configure_all.new.session c.configure_all.result c.in-Config.is
    (λ told. ap (λ (bytes : List ℕ). next_config bytes told) (sym c.as_slice.ensures.value)) c.configure_all.ensures

pub returns-in-Write : goal.returns-in-Write
returns-in-Write g c =
    of_command (next_write c.in-Write.host c.as_slice-in-Write.result.now) c.args.command.now
    (command.Write c.in-Write.host c.in-Write.bytes) c.args.session.now c.write_all.new.session c.write_all.result
    c.in-Write.is
    (λ told. ap (λ (bytes : List ℕ). next_write c.in-Write.host bytes told) (sym c.as_slice-in-Write.ensures.value))
    c.write_all.ensures

pub returns-in-Boot : goal.returns-in-Boot
returns-in-Boot g c =
    of_command (next_boot c.in-Boot.host c.as_slice-in-Boot.result.now) c.args.command.now
    (command.Boot c.in-Boot.host c.in-Boot.code) c.args.session.now c.boot.new.session c.boot.result c.in-Boot.is
    (λ told. ap (λ (code : List ℕ). next_boot c.in-Boot.host code told) (sym c.as_slice-in-Boot.ensures.value))
    c.boot.ensures

pub returns-in-Poke : goal.returns-in-Poke
returns-in-Poke g c =
    of_command (next_write c.in-Poke.host c.poke_message.result) c.args.command.now
    (command.Poke c.in-Poke.host c.in-Poke.address c.in-Poke.word) c.args.session.now c.write_all-in-Poke.new.session
    c.write_all-in-Poke.result c.in-Poke.is
    (λ told. ap (λ (bytes : List ℕ). next_write c.in-Poke.host bytes told) (sym c.poke_message.ensures.answer))
    c.write_all-in-Poke.ensures

pub returns-in-Collect : goal.returns-in-Collect
returns-in-Collect g c =
    of_command (next_collect c.in-Collect.host) c.args.command.now (command.Collect c.in-Collect.host)
    c.args.session.now c.read_all.new.session c.read_all.result c.in-Collect.is
    (λ told. refl) c.read_all.ensures

pub returns-in-Reset : goal.returns-in-Reset
returns-in-Reset g c =
    of_command (once (event.Reset c.in-Reset.node)) c.args.command.now (command.Reset c.in-Reset.node)
    c.args.session.now c.reset.new.self c.without_reply.result c.in-Reset.is
    (λ told. refl)
    (once_asked (event.Reset c.in-Reset.node) c.args.session.now c.reset.new.self c.reset.result tt
    c.without_reply.result c.reset.ensures.answer c.reset.ensures.list c.without_reply.ensures)

pub returns-in-Look : goal.returns-in-Look
returns-in-Look g c =
    of_command (once (event.Look c.in-Look.node)) c.args.command.now (command.Look c.in-Look.node) c.args.session.now
    c.look.new.self c.without_reply-in-Look.result c.in-Look.is
    (λ told. refl)
    (once_asked (event.Look c.in-Look.node) c.args.session.now c.look.new.self c.look.result tt
    c.without_reply-in-Look.result c.look.ensures.answer c.look.ensures.list c.without_reply-in-Look.ensures)
