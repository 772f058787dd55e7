-- The code of each sequential process does what the process does: for the law of processes.
use Rattle.std.proofs.Common.{arith}
use Rattle.occam_core.specs.declared.channel.CoreChannel.TheVariants.{Link}
use Rattle.occam_core.specs.declared.process.CoreProcess.{CoreProcess}
use Rattle.occam_core.specs.declared.process.CoreProcess.TheVariants.{Skip, Stop, Line', Assign, AssignElement, Copy, Input, InputElement, InputArray, Output, OutputArray, Sequence', If', While', Repeat'}
use Rattle.occam_core.specs.Processes.{IsSequential}
use Rattle.occam_code.specs.Behaves.{ProcessIsWithin}
use Rattle.occam_code.proofs.ArrayMessages.{input_element_runs, input_array_runs, output_array_runs}
use Rattle.occam_code.proofs.Copying.{copy_runs}
use Rattle.occam_code.proofs.Elements.{assign_element_runs}
use Rattle.occam_code.proofs.Hearing.{input_runs}
use Rattle.occam_code.proofs.Speaking.{output_runs}
use Rattle.occam_code.proofs.Repeating.{repeat_runs}
use Rattle.occam_code.proofs.Behaving.{Ground, Runs, skip_runs, stop_runs, assign_runs, sequence_runs, if_runs, loops}

module _ (ground : Ground) where
  open ground use {base, count}

  -- the code of a sequential process does what the process does
  pub process_runs : (p : CoreProcess) → IsSequential p → ProcessIsWithin count p → Runs ground p
  process_runs Skip sequential fit = skip_runs ground
  process_runs Stop sequential fit = stop_runs ground
  process_runs (Line' place box p) sequential fit = process_runs p sequential fit
  process_runs (Assign v e) sequential fit = assign_runs ground v e fit
  process_runs (Sequence' box p box' q) sequential fit =
      sequence_runs ground box box' p q (process_runs p sequential.0 fit.0) (process_runs q sequential.1 fit.1)
  process_runs (If' e box p box' q) sequential fit =
      if_runs ground e box box' p q fit.0 (process_runs p sequential.0 fit.1) (process_runs q sequential.1 fit.2)
  process_runs (While' e box p) sequential fit =
      λ n k t a b c m x r lies held free room. loops ground e box p fit.0 (process_runs p sequential fit.1) n n k t a
      b c m x r
      (omega arith) lies held free room
  process_runs (AssignElement array i e) sequential fit = assign_element_runs ground array i e fit
  process_runs (Copy to from) sequential fit = copy_runs ground to from sequential fit.0 fit.1
  process_runs (Input (Link c) kind v) sequential fit = input_runs ground c kind v sequential.0 sequential.1 fit
  process_runs (InputElement (Link c) array e) sequential fit =
      input_element_runs ground c array e sequential.0 sequential.1 fit.0 fit.1
  process_runs (InputArray (Link c) array) sequential fit =
      input_array_runs ground c array sequential.0 sequential.1 fit
  process_runs (OutputArray (Link c) array) sequential fit = output_array_runs ground c array sequential fit
  process_runs (Output (Link c) kind e) sequential fit = output_runs ground c kind e sequential fit
  process_runs (Repeat' v e times box p) sequential fit =
      repeat_runs ground v e times box p fit (process_runs p sequential fit.3)
  process_runs _ sequential fit = absurd sequential
