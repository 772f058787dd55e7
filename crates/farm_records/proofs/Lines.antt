-- The text of Steps whose last didn't run as the others: the contract of `write_run`.
use Rattle.std.specs.Prelude.{◌≡◌, ◌≢◌, ℕ, zero, suc, [], ◌∷◌, ◌++◌, ◌-◌}
use Rattle.std.proofs.Common.{refl, ap, ◌∙◌, arith}
use Rattle.std.proofs.lemmas.List.{append-nil}
use Rattle.std.proofs.lemmas.Grind.{flat_map-append}
use Rattle.t414_step.specs.declared.stepping.Stepped.{Stepped}
use Rattle.t414_step.specs.declared.stepping.Stepped.TheVariants as stepped
use Rattle.domain_core.specs.declared.event.By.{By}
use Rattle.domain_core.specs.Journal.{answered_step}
use Rattle.farm_records.specs.RecordText.{record_line_text, record_text, ran_lines, run_lines}

-- one less than one more
less_one : (more : ℕ) → more ≡ suc more - 1
less_one more = omega arith

-- their lines are those of the Steps that ran, and one for the last
pub ended_run : (by : By) (node count : ℕ) (last : Stepped) → last ≢ stepped.Ran → count ≢ 0
    → run_lines by node count last
    ≡ ran_lines by node (count - 1) ++ record { times = 1; answered = answered_step by node last } ∷ []
ended_run by node zero last differs some = absurd (some refl)
ended_run by node (suc more) stepped.Ran differs some = absurd (differs refl)
ended_run by node (suc more) stepped.Idle differs some =
    ap (λ k. ran_lines by node k ++ record { times = 1; answered = answered_step by node stepped.Idle } ∷ [])
    (less_one more)
ended_run by node (suc more) (stepped.Fault fault) differs some =
    ap (λ k. ran_lines by node k ++ record { times = 1; answered = answered_step by node (stepped.Fault fault) } ∷ [])
    (less_one more)

-- so is their text
pub ended_run_text : (by : By) (node count : ℕ) (last : Stepped) → last ≢ stepped.Ran → count ≢ 0
    → record_text (run_lines by node count last)
    ≡ record_text (ran_lines by node (count - 1))
    ++ record_line_text (record { times = 1; answered = answered_step by node last })
ended_run_text by node count last differs some =
    ap record_text (ended_run by node count last differs some) ∙
    (flat_map-append record_line_text (ran_lines by node (count - 1))
    (record { times = 1; answered = answered_step by node last } ∷ [])
    ∙ ap (λ text. record_text (ran_lines by node (count - 1)) ++ text)
    (append-nil (record_line_text (record { times = 1; answered = answered_step by node last }))))
