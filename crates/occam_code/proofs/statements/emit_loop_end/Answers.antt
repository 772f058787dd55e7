use Rattle.std.proofs.Common.{◌∙◌}
use Rattle.occam_code.proofs.Patch.{patch_loop_end}
use Rattle.occam_code.proofs.statements.emit_loop_end.Goals as goal

pub returns : goal.returns
returns c =
    c.land_from.ensures
    ∙ patch_loop_end c.args.code.now.items _ _ _ c.args.word c.args.body _ _ c.in_ok-put.ensures
    (c.len-size.ensures ∙ c.put.new.code.ok.0) c.in_ok-put-2.ensures c.in_ok-operate.ensures
