use Rattle.std.proofs.Common.{ap, sym, map, ◌≡◌, ◌∙◌}
use Rattle.std.specs.Str.Parse.{ExplainsUnsignedError, HasUnsignedDigitsIfOk, ParsesUnsigned}
use Rattle.clap.specs.Words.{App, app_of, fault_of}
use Rattle.clap.specs.Faults.{is_simple_and_free}
use Rattle.farm_cli.specs.Settings.{farm_command}
use Rattle.farm_cli.proofs.CommandLine.{farm_is_free, quantum_said, workers_said}
use Rattle.farm_cli.proofs.command_line.settings.Goals as goal

pub returns-clause-refused : goal.returns-clause-refused
returns-clause-refused g c =
    let is : app_of c.in_ok-farm_command.field-0 ≡ farm_command = c.in_ok-farm_command.ensures in
    ap (λ (a : App). fault_of a (map g.S.AsStr.text c.args.words.now)) (sym is)
    ∙ c.in_ok-matches.ensures.kinds (ap is_simple_and_free is ∙ farm_is_free)

pub returns-clause-in_range : goal.returns-clause-in_range
returns-clause-in_range g c =
    let is : app_of c.in_ok-farm_command.field-0 ≡ farm_command = c.in_ok-farm_command.ensures in
    let words = map g.S.AsStr.text c.args.words.now in
    let workers =
    workers_said c.in_ok-farm_command.field-0 c.in_ok-matches.matches words is c.in_ok-matches.ensures.parsed
    c.in_ok-matches.ensures.matches
    _ (λ bs r. ParsesUnsigned 8 10 bs r × ExplainsUnsignedError 10 bs r × HasUnsignedDigitsIfOk bs r)
    c.get_one.result 2 c.get_one.ensures.value (λ u x h. h.0) c.unwrap_or-workers.result c.unwrap_or-workers.ensures in
    let quantum =
    quantum_said c.in_ok-farm_command.field-0 c.in_ok-matches.matches words is c.in_ok-matches.ensures.parsed
    c.in_ok-matches.ensures.matches
    _ (λ bs r. ParsesUnsigned 16 10 bs r × ExplainsUnsignedError 10 bs r × HasUnsignedDigitsIfOk bs r)
    c.get_one-2.result 256 c.get_one-2.ensures.value (λ u x h. h.0)
    c.unwrap_or-quantum.result c.unwrap_or-quantum.ensures in
    record { some_workers = workers.0; few_workers = workers.1; some_steps = quantum.0; few_steps = quantum.1 }

pub returns-clause-said : goal.returns-clause-said
returns-clause-said g c =
    let is : app_of c.in_ok-farm_command.field-0 ≡ farm_command = c.in_ok-farm_command.ensures in
    let words = map g.S.AsStr.text c.args.words.now in
    let workers =
    workers_said c.in_ok-farm_command.field-0 c.in_ok-matches.matches words is c.in_ok-matches.ensures.parsed
    c.in_ok-matches.ensures.matches
    _ (λ bs r. ParsesUnsigned 8 10 bs r × ExplainsUnsignedError 10 bs r × HasUnsignedDigitsIfOk bs r)
    c.get_one.result 2 c.get_one.ensures.value (λ u x h. h.0) c.unwrap_or-workers.result c.unwrap_or-workers.ensures in
    let quantum =
    quantum_said c.in_ok-farm_command.field-0 c.in_ok-matches.matches words is c.in_ok-matches.ensures.parsed
    c.in_ok-matches.ensures.matches
    _ (λ bs r. ParsesUnsigned 16 10 bs r × ExplainsUnsignedError 10 bs r × HasUnsignedDigitsIfOk bs r)
    c.get_one-2.result 256 c.get_one-2.ensures.value (λ u x h. h.0)
    c.unwrap_or-quantum.result c.unwrap_or-quantum.ensures in
    record { workers = workers.2; quantum = quantum.2 }
