-- Runs of instructions, one after another, and where code lies in a program.
use Rattle.std.proofs.Common.{◌≡◌, ℕ, zero, suc, ◌+◌, ◌<◌, ◌≤◌, List, [], ◌∷◌, ◌++◌, length, Some, refl, sym, ap, ◌∙◌, subst, arith, append_assoc, length-append}
use Rattle.std.specs.Prelude.{slice_get}
use Rattle.std.proofs.Math.Seq.{get_or-append_seam}
use Rattle.std.proofs.lemmas.Option.{slice_get-get_or}
use Rattle.node_memory.specs.Effect.{Gave, Halted}
use Rattle.node_memory.specs.declared.fault.Fault.TheVariants.{ErrorSet}
use Rattle.link_channels.specs.declared.link.FourLinks.{FourLinks}
use Rattle.t414_decode.specs.declared.instruction.Function.{Function}
use Rattle.t414_assembly.specs.declared.statement.Operand.{Operand}
use Rattle.t414_assembly.specs.declared.statement.Statement.{Statement}
use Rattle.t414_assembly.specs.declared.statement.Statement.TheVariants.{Instruction}
use Rattle.t414_step.specs.declared.cpu.Cpu.{Cpu}
use Rattle.occam_code.specs.Machine.{done_at, Leads, Falls}

-- these statements are in the program from this place on
abbrev pub HasAt : List Statement → ℕ → List Statement → Type 0
HasAt program k [] = Unit {0}
HasAt program k (i ∷ is) = (slice_get program k ≡ Some i) × HasAt program (k + 1) is

-- the first part of a code that is in a program
pub has_front : (program : List Statement) (k : ℕ) (front back : List Statement) → HasAt program k (front ++ back)
    → HasAt program k front
has_front program k [] back has = tt
has_front program k (i ∷ front) back has = (has.0, has_front program (k + 1) front back has.1)

-- the second part of a code that is in a program
pub has_back : (program : List Statement) (k : ℕ) (front back : List Statement) → HasAt program k (front ++ back)
    → HasAt program (k + length front) back
has_back program k [] back has = let e : k ≡ k + 0 = omega arith in subst (λ n. HasAt program n back) e has
has_back program k (i ∷ front) back has =
    let e : k + 1 + length front ≡ k + length (i ∷ front) = omega arith in
    subst (λ n. HasAt program n back) e (has_back program (k + 1) front back has.1)

-- a code after another is in both together
pub has_all : (is pre : List Statement) → HasAt (pre ++ is) (length pre) is
has_all [] pre = tt
has_all (i ∷ is) pre =
    let within : length pre < length (pre ++ i ∷ is) = omega (arith, length-append pre (i ∷ is)) in
    let here =
    slice_get-get_or (pre ++ i ∷ is) (length pre) i within ∙ ap Some (get_or-append_seam pre i is i) in
    let n : length (pre ++ i ∷ []) ≡ length pre + 1 = omega (arith, length-append pre (i ∷ [])) in
    let rest = has_all is (pre ++ i ∷ []) in
    let rest' = subst (λ l. HasAt l (length (pre ++ i ∷ [])) is) (append_assoc pre (i ∷ []) is) rest in
    (here, subst (λ m. HasAt (pre ++ i ∷ is) m is) n rest')

-- so are they in a program that is the same at these places
pub has_same : (program code is : List Statement) (k : ℕ)
    → ((i : ℕ) → k ≤ i → i < k + length is → slice_get program i ≡ slice_get code i) → HasAt code k is
    → HasAt program k is
has_same program code [] k same has = tt
has_same program code (i ∷ is) k same has = (
  same k (omega arith) (omega arith) ∙ has.0,
  has_same program code is (k + 1) (λ j from below. same j (omega arith) (omega arith)) has.1,
)

-- one run after another
pub record Goes (address : ℕ → ℕ) (program : List Statement) (ls : FourLinks) (s : Cpu) (m : List ℕ) (t : Cpu)
    (u : List ℕ) : Type 0 where
  pub number : ℕ
  pub leads : Leads address program ls number s m t u

module _ (address : ℕ → ℕ) (program : List Statement) (ls : FourLinks) where
  lead_on : (n : ℕ) (s t end : Cpu) (m u w : List ℕ) → Leads address program ls n s m t u
      → Goes address program ls t u end w → Goes address program ls s m end w
  lead_on zero s t end m u w leads goes =
      subst (λ p. Goes address program ls p m end w) (sym leads.0)
      (subst (λ q. Goes address program ls t q end w) (sym leads.1) goes)
  lead_on (suc n) s t end m u w leads goes =
      let rest = lead_on n leads.0 t end leads.1 u w leads.3 goes in
      record { number = suc rest.number; leads = (leads.0, leads.1, leads.2, rest.leads) }

  -- two runs, one after the other
  pub goes_on : (s t end : Cpu) (m u w : List ℕ) → Goes address program ls s m t u
      → Goes address program ls t u end w → Goes address program ls s m end w
  goes_on s t end m u w before goes = lead_on before.number s t end m u w before.leads goes

  -- a run, and then one that halts
  pub falls_on : (s t : Cpu) (m u : List ℕ) → Goes address program ls s m t u → Falls address program ls t u
      → Falls address program ls s m
  falls_on s t m u before falls =
      let all = goes_on s t falls.registers m u falls.memory before
      (record { number = falls.count; leads = falls.leads }) in
      record {
        count = all.number;
        registers = falls.registers;
        memory = falls.memory;
        leads = all.leads;
        falls = falls.falls;
      }

  -- no instruction
  pub stays : (s : Cpu) (m : List ℕ) → Goes address program ls s m s m
  stays s m = record { number = zero; leads = (refl, refl) }

  -- one instruction
  pub step : (k : ℕ) (f : Function) (o : Operand) (s t : Cpu) (m u : List ℕ)
      → slice_get program k ≡ Some (Instruction f o) → s.instruction ≡ address k
      → done_at address k f o s ls m ≡ Gave t ls u → Goes address program ls s m t u
  step k f o s t m u is here gives =
      record {
        number = 1;
        leads =
            (t, u, record { place = k; function = f; operand = o; here = here; is = is; gives = gives }, (refl, refl));
      }

  -- one that halts the node
  pub fall : (k : ℕ) (f : Function) (o : Operand) (s : Cpu) (m : List ℕ)
      → slice_get program k ≡ Some (Instruction f o) → s.instruction ≡ address k
      → done_at address k f o s ls m ≡ Halted ErrorSet ls m → Falls address program ls s m
  fall k f o s m is here gives =
      record {
        count = zero;
        registers = s;
        memory = m;
        leads = (refl, refl);
        falls = record { place = k; function = f; operand = o; here = here; is = is; gives = gives };
      }
