use Rattle.std.proofs.Common.{◌≡◌, ◌≤◌, ◌++◌, ◌∙◌, ℕ, List, length, sym, subst, arith, inl, inr}
use Rattle.std.proofs.lemmas.List.{append-nil, take_all}
use Rattle.std.proofs.lemmas.Option.{slice_get_cases}
use Rattle.std.proofs.lemmas.Result.{IfOk-from_err}
use Rattle.domain_core.specs.declared.journal.Entry.{Entry}
use Rattle.domain_core.specs.Journal.{expanded}
use Rattle.farm_service.specs.Commands.{commands_of}
use Rattle.farm_service.proofs.DoneAgain.{told_more}
use Rattle.farm_service.proofs.histories.list_commands.Goals as goal

pub loop-index-preserved : goal.loop-index-preserved
loop-index-preserved c = record {
  listed = told_more c.journals_add_up.ensures.law c.args.user c.args.journal.now.entries c.args.told.now.items
      c.loop-index.told.items
      c.list_command.new.told.items c.loop-index.index c.in-Some.entry
      (sym c.get.ensures ∙ c.in-Some.is) c.loop-index.invariant.listed c.in_ok-list_command.ensures.listed;
  capacity = let a = c.loop-index.invariant.capacity in let b = c.in_ok-list_command.ensures.capacity in omega arith;
}

pub returns-clause-listed : goal.returns-clause-listed
returns-clause-listed c =
    let all : length c.args.journal.now.entries ≤ c.loop-index.index =
    subst (λ (n : ℕ). n ≤ c.loop-index.index) c.len-index-end.ensures c.loop-index-test.false in
    subst
    (λ (j : List Entry). c.loop-index.told.items ≡ c.args.told.now.items ++ commands_of c.args.user (expanded j))
    (take_all c.loop-index.index c.args.journal.now.entries all) c.loop-index.invariant.listed

pub loop-index-init : goal.loop-index-init
loop-index-init c = record {
  listed = sym (append-nil c.args.told.now.items);
  capacity = omega arith;
}

pub returns-in_err-list_command-clause-listed : goal.returns-in_err-list_command-clause-listed
returns-in_err-list_command-clause-listed c = IfOk-from_err c.from_residual.result _ c.from_residual.ensures.0

pub unreachable-requires : goal.unreachable-requires
unreachable-requires c = elim (slice_get_cases c.args.journal.now.entries c.loop-index.index).1 [
  | inl found ↦ c.in_default.not-Some found.0 (c.get.ensures ∙ found.2)
  | inr past ↦ absurd (omega (arith, past.0, c.loop-index-test.true, c.len-index-end.ensures))
]
