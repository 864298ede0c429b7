-- What a script sees of a block's machine, seen of a module that agrees with the block.
use Rattle.std.proofs.Common.{◌≡◌, ℕ, Ok, Err, List, get_or, map, zip, refl, ap, sym, ◌∙◌, subst}
use Rattle.std.proofs.lemmas.Nat.{pow_pos}
use Rattle.v_design.specs.Design.{module_of}
use Rattle.rb_model.specs.declared.block.Block.{Block}
use Rattle.rb_model.specs.Agreement.{Agrees}
use Rattle.rb_model.specs.Kept.{Fits, kept, register_width}
use Rattle.rb_model.specs.Protocol.{KeepsProtocol}
use Rattle.rb_model.specs.Run.{MachineRun, apb, buses}
use Rattle.rb_model.specs.Sound.{IsSound}
use Rattle.rb_model.proofs.ApbFront.{contain, within}
use Rattle.rb_model.proofs.Runs.{one_run}
use Rattle.sim_run.specs.Simulated as simulated
use Rattle.drive_lang.specs.Steps.{Step, played}
use Rattle.drive_lang.proofs.Keeping.{keeps}
use Rattle.drive_lang.specs.Scripts.{Lines, at_first, lines_from, most_vectors, script_of, steps_in}
use Rattle.drive_lang.specs.Lines.{lines_of}
use Rattle.machine_run.specs.Runs.{zeros}
use Rattle.drive_run.specs.Playing.{IsTranscriptOf}
use Rattle.drive_run.specs.Transcript.{failed_in, transcript}
use Rattle.drive_run.specs.Modules.{IsSeenOf}

zeros_fit : (b : Block) → Fits b zeros
zeros_fit b k d within = pow_pos (register_width b (get_or (kept b) k d))

-- the vectors of a script keep the protocol
pub script_keeps : (b : Block) (bytes : List ℕ) (steps : List Step) → script_of b bytes ≡ Ok steps → KeepsProtocol 0 (buses b (map (λ s. s.vector) steps))
script_keeps b bytes steps e = go (lines_from b 1 most_vectors (lines_of bytes)) e
  where
    go : (ls : Lines) → steps_in b ls ≡ Ok steps → KeepsProtocol 0 (buses b (map (λ s. s.vector) steps))
    go (Ok ls) e = let same : played ls (at_first b) ≡ steps = cc e in subst (λ ss. KeepsProtocol 0 (buses b (map (λ s. s.vector) ss))) same (keeps b ls (at_first b))
    go (Err x) e = cc e

pub agree : (b : Block) (verilog bytes text : List ℕ) (failed : ℕ) → b.waits ≡ 0 → Agrees verilog (apb b) → IsTranscriptOf b bytes text failed → IsSeenOf b verilog bytes text failed
agree b verilog bytes text failed none agrees of = record {
  module_ = module_of agrees.tree;
  is_module = record { tree = agrees.tree; is_tree = agrees.is_tree; well_formed = agrees.well_formed; is = refl };
  steps = of.steps;
  script = of.script;
  results = of.seen.results;
  run = agrees.runs zeros simulated.zeros (map (λ s. s.vector) of.steps) of.seen.results (within b zeros (zeros_fit b)) (contain b zeros simulated.zeros (λ k has. refl)) of.fits
      (subst (λ w. KeepsProtocol w (buses b (map (λ s. s.vector) of.steps))) (sym none) (script_keeps b bytes of.steps of.script)) of.seen.run;
  text_is = of.seen.text_is;
  failed_is = of.seen.failed_is;
}

-- one script has one transcript
pub one : (b : Block) → IsSound b → (bytes text other : List ℕ) (failed count : ℕ) → IsTranscriptOf b bytes text failed → IsTranscriptOf b bytes other count → (text ≡ other) × (failed ≡ count)
one b sound bytes text other failed count s t =
    let steps : s.steps ≡ t.steps = (let p = s.script in let q = t.script in cc) in
    let run = subst (λ ss. MachineRun b zeros (map (λ s. s.vector) ss) s.seen.results) steps s.seen.run in
    let results : s.seen.results ≡ t.seen.results = one_run b sound zeros (map (λ s. s.vector) t.steps) s.seen.results t.seen.results run t.seen.run in (
      s.seen.text_is ∙ ap (λ ss. transcript ss s.seen.results) steps ∙ ap (transcript t.steps) results ∙ sym t.seen.text_is,
      s.seen.failed_is ∙ ap (λ ss. failed_in (zip ss s.seen.results)) steps ∙ ap (λ os. failed_in (zip t.steps os)) results ∙ sym t.seen.failed_is,
    )
