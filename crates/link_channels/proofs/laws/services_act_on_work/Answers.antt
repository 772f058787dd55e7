use Rattle.link_channels.proofs.LinksWithWork.{does_something-serve_all, quiet-links}
use Rattle.link_channels.proofs.laws.services_act_on_work.Goals as goal

pub returns-clause-does_something : goal.returns-clause-does_something
returns-clause-does_something c = does_something-serve_all

pub returns-clause-rest : goal.returns-clause-rest
returns-clause-rest c = quiet-links
