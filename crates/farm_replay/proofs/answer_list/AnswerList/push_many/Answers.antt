use Rattle.std.proofs.Common.{rules, arith, string_bytes}
use Rattle.farm_replay.proofs.Groups.{push_alike, push_other}
use Rattle.farm_replay.proofs.answer_list.AnswerList.push_many.Goals as goal

pub returns-then-eq : goal.returns-then-eq
returns-then-eq c =
    record {
      kept =
          λ texts so.
          push_alike texts c.args.self.now _ _ c.args.times so (search rules) (search rules) (search rules)
          (search rules)
          (search rules);
    }

pub returns : goal.returns
returns c =
    record {
      kept =
          λ texts so.
          push_other texts c.args.self.now
          (record { text = string_bytes c.push_str.new.self; last = string_bytes c.args.answer; count = c.args.times })
          (string_bytes c.args.answer) c.args.times so (search rules) (search rules) (search rules) (search rules)
          (omega arith) (search rules);
    }
