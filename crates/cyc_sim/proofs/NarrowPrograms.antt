-- A narrow program gives what the program gives that it was made of.
use Rattle.std.proofs.Common.{◌≡◌, ℕ, ◌+◌, true, List, ◌++◌, length, ap, sym, subst, ◌∙◌, arith}
use Rattle.std.proofs.lemmas.List.{length-map}
use Rattle.cyc_sim.specs.declared.arrangement.Arrangement.{Arrangement}
use Rattle.cyc_sim.specs.declared.narrow_program.NarrowProgram.{NarrowProgram}
use Rattle.cyc_sim.specs.declared.program.Program.{Program}
use Rattle.cyc_sim.specs.Operations.{are_places, values_after, values_in}
use Rattle.sim_lanes.specs.Narrow.{narrow_after}
use Rattle.cyc_sim.specs.Narrowed.{Narrows}
use Rattle.sim_lanes.specs.Runs.{AreRuns}
use Rattle.cyc_sim.proofs.Arranging.{IsMade, alike_after, values_alike}

-- the values at some places of a program
same_in : (p : Program) (q : NarrowProgram) (a : Arrangement) → a.first ≡ p.inputs + length p.registers.items → IsMade a p.operations.items q.operations.items → q.constants.items ≡ a.constants.items
    → (olds news : List ℕ) → news ≡ values_in a.places.items olds → are_places p.total olds ≡ true → (base : List ℕ) → length base ≡ p.inputs + length p.registers.items
    → values_in (narrow_after q.operations.items (base ++ q.constants.items)) news ≡ values_in (values_after p.operations.items base) olds
same_in p q a first made constants olds news is within base long =
    let all : p.total ≡ a.first + length p.operations.items = omega (arith, p.sized, first) in
    let alike = alike_after a p.operations.items q.operations.items base made (long ∙ sym first) (length p.operations.items) (omega arith) in
    ap (λ cs. values_in (narrow_after q.operations.items (base ++ cs)) news) constants
    ∙ (ap (values_in (narrow_after q.operations.items (base ++ a.constants.items))) is
    ∙ values_alike a.places.items (values_after p.operations.items base) (narrow_after q.operations.items (base ++ a.constants.items)) olds (a.first + length p.operations.items) alike
    (subst (λ n. are_places n olds ≡ true) all within))

pub narrows_as : (p : Program) (q : NarrowProgram) (a : Arrangement) → a.first ≡ p.inputs + length p.registers.items → IsMade a p.operations.items q.operations.items → q.inputs ≡ p.inputs → q.constants.items ≡ a.constants.items
    → q.outputs.items ≡ values_in a.places.items p.outputs.items → q.registers.items ≡ values_in a.places.items p.registers.items → AreRuns q.operations.items q.runs.items → Narrows p q
narrows_as p q a first made inputs constants outs regs runs = record {
  runs = runs;
  inputs = inputs;
  outputs = ap length outs ∙ length-map p.outputs.items _;
  registers = ap length regs ∙ length-map p.registers.items _;
  outs = λ base long. same_in p q a first made constants p.outputs.items q.outputs.items outs p.outputs_within base long;
  nexts = λ base long. same_in p q a first made constants p.registers.items q.registers.items regs p.registers_within base long;
}
