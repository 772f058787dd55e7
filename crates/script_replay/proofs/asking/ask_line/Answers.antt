use Rattle.script_replay.proofs.Exchanges.{peeks_whole}
use Rattle.script_replay.proofs.asking.ask_line.Goals as goal

pub returns-in-Ok : goal.returns-in-Ok
returns-in-Ok g c =
    peeks_whole c.args.line.now c.args.told.now.items c.ask_on-2.new.told.items c.ask_on-in-Ok.new.told.items
    c.args.farm.now.farm c.ask_on-2.new.farm.farm c.settle.new.self.farm c.ask_on-in-Ok.new.farm.farm
    c.ask_on-in-Ok.result c.is_peek.result c.requires c.is_peek.ensures c.if-not-is_peek.false
    c.ask_on-2.ensures.asked c.settle.ensures.on c.ask_on-in-Ok.ensures.asked c.ask_on-in-Ok.ensures.ended
