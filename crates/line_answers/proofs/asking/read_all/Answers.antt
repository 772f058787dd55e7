use Rattle.std.proofs.Common.{rules, subst, sym, Ok}
use Rattle.farm_service.specs.Passes.{SessionValue}
use Rattle.line_answers.specs.Asks.{next_collect}
use Rattle.line_answers.specs.Sessions.{AsksJust}
use Rattle.line_answers.proofs.Exchange.{collect_more, collect_none, collect_refused}
use Rattle.line_answers.proofs.asking.read_all.Goals as goal
use Rattle.line_answers.proofs.asking.read_all.Goals.{in-None, in-Some+in_ok-read+then-not-is_byte}

pub loop-preserved : goal.loop-preserved
loop-preserved g c = (
  tt,
  tt,
  collect_more c.args.host c.args.session.now c.loop.session c.read.new.self c.in_ok-read.field-0 c.loop.invariant.2
      c.in_ok-read.ensures.list (search rules),
)

pub returns : goal.returns
returns g c = elim c.match-next.branch [
  | in-None w ↦ search rules
  | in-Some+in_ok-read+then-not-is_byte w ↦
      subst (λ (v : SessionValue). AsksJust {A = Unit {0}} (next_collect c.args.host) c.args.session.now (Ok tt) v)
      (sym w.session-is)
      (collect_none c.args.host c.args.session.now c.loop.session w.read.new.self w.in_ok-read.field-0 tt
      c.loop.invariant.2 w.in_ok-read.ensures.list (search rules))
]

pub returns-in_err-read : goal.returns-in_err-read
returns-in_err-read g c =
    collect_refused c.args.host c.args.session.now c.loop.session c.read.new.self c.in_err-read.field-0.0
    c.from_residual.result c.loop.invariant.2
    c.in_err-read.ensures.list c.in_err-read.ensures.answer c.from_residual.ensures.1
