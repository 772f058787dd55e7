use Rattle.live_lines.proofs.parsing.parse_shorthand_arguments.Goals as goal

pub returns-in-Err-clause-fault : goal.returns-in-Err-clause-fault
returns-in-Err-clause-fault c = λ f told.
    let why = c.unread_of.ensures.wrong f told in (why.0, c.in-Err.ensures.nothing why.1)
