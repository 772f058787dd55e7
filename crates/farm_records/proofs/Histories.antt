-- What the lines of entries stand for, and records that are cut: the laws `records_are_histories` and
-- `beginnings_are_records`.
use Rattle.std.specs.Prelude.{◌≡◌, ℕ, zero, suc, [], ◌∷◌, ◌++◌, ◌+◌, replicate, take, drop}
use Rattle.std.proofs.Common.{refl, ap, ◌∙◌, sym, arith}
use Rattle.std.proofs.lemmas.List.{append-nil, take-append-drop, replicate_more}
use Rattle.std.proofs.lemmas.Grind.{flat_map-append}
use Rattle.t414_step.specs.declared.stepping.Stepped.{Stepped}
use Rattle.t414_step.specs.declared.stepping.Stepped.TheVariants as stepped
use Rattle.domain_core.specs.declared.event.By.{By}
use Rattle.domain_core.specs.declared.journal.Entry.TheVariants.{One, Run}
use Rattle.domain_core.specs.Journal.{answered_step, steps}
use Rattle.farm_records.specs.RecordText.{record_line_text, line_history, record_text}
use Rattle.farm_records.specs.RecordText.{record_history, ran_lines, run_lines, lines_of}
use Rattle.farm_records.specs.Laws.{RecordsAreHistories, BeginningsAreRecords}

-- the line of Steps that all ran stands for them
ran_history : (by : By) (node count : ℕ)
    → record_history (ran_lines by node count) ≡ replicate count (answered_step by node stepped.Ran)
ran_history by node zero = refl
ran_history by node (suc more) = append-nil (replicate (suc more) (answered_step by node stepped.Ran))

-- and with a last line after it for one Step more
ended_history : (by : By) (node more : ℕ) (last : Stepped)
    → record_history (ran_lines by node more ++ record { times = 1; answered = answered_step by node last } ∷ [])
    ≡ steps by node (suc more) last
ended_history by node more last =
    flat_map-append line_history (ran_lines by node more)
    (record { times = 1; answered = answered_step by node last } ∷ [])
    ∙ ap (λ h. h ++ answered_step by node last ∷ []) (ran_history by node more)

-- one more
one_more : (more : ℕ) → suc more ≡ more + 1
one_more more = omega arith

-- the lines of Steps stand for them
run_history : (by : By) (node count : ℕ) (last : Stepped)
    → record_history (run_lines by node count last) ≡ steps by node count last
run_history by node zero last = refl
run_history by node (suc more) stepped.Ran =
    ran_history by node (suc more)
    ∙ (ap (λ n. replicate n (answered_step by node stepped.Ran)) (one_more more)
    ∙ sym (replicate_more more (answered_step by node stepped.Ran)))
run_history by node (suc more) stepped.Idle = ended_history by node more stepped.Idle
run_history by node (suc more) (stepped.Fault fault) = ended_history by node more (stepped.Fault fault)

-- the lines of entries stand for what the entries stand for
pub records_are_histories : RecordsAreHistories
records_are_histories [] = refl
records_are_histories (One by event reply ∷ entries) =
    ap (λ h. record { call = record { by = by; event = event }; reply = reply } ∷ h) (records_are_histories entries)
records_are_histories (Run by node count last ∷ entries) =
    flat_map-append line_history (run_lines by node count last) (lines_of entries)
    ∙ (ap (λ h. h ++ record_history (lines_of entries)) (run_history by node count last)
    ∙ ap (λ h. steps by node count last ++ h) (records_are_histories entries))

-- a record can be cut after each of its lines
pub beginnings_are_records : BeginningsAreRecords
beginnings_are_records lines count = record {
  text =
      ap record_text (sym (take-append-drop count lines))
      ∙ flat_map-append record_line_text (take count lines) (drop count lines);
  history =
      ap record_history (sym (take-append-drop count lines))
      ∙ flat_map-append line_history (take count lines) (drop count lines);
}
