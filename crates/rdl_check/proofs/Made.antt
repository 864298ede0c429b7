-- A block made of its lists.
use Rattle.std.proofs.Common.{◌≡◌, ◌∙◌, ℕ, true, ◌==◌, List, [], ◌∷◌, Some, IsPermutation, length, map, refl, sym, ap, subst, arith}
use Rattle.std.proofs.lemmas.Bool.{eqb-true}
use Rattle.rdl_base.specs.declared.fault.Fault.{Fault}
use Rattle.rb_model.specs.declared.block.Block.{Block}
use Rattle.rb_model.specs.declared.kinds.RefItem.{RefItem}
use Rattle.rb_model.specs.Items.{items}
use Rattle.rb_model.specs.References.{IsOrdered}
use Rattle.rdl_tree.specs.declared.node.Elab.{Elab}
use Rattle.rdl_values.specs.Elaborated.{nodes_of, top_name}
use Rattle.rdl_values.specs.Elaboration.{IsClean}
use Rattle.rdl_values.specs.Instances.{top_of}
use Rattle.rdl_values.specs.Lineages.{lineages_of}
use Rattle.rdl_values.specs.Verdict.{IsListOf}
use Rattle.rdl_refs.specs.Answers.{IsBound}
use Rattle.rdl_refs.specs.Follows.{edges_of}
use Rattle.rdl_refs.specs.Graph.{IsOrder}
use Rattle.rdl_addr.specs.Rules as addr
use Rattle.rdl_rules.specs.Answers.{meaning_fails}
use Rattle.rdl_rules.specs.Block as blocks
use Rattle.rdl_rules.specs.Block.{IsBlockOf}
use Rattle.rdl_rules.specs.Numbers.{all_signals, registers}
use Rattle.rdl_rules.specs.Words.{AreByAddress, read_words, write_words}
use Rattle.rdl_sound_laws.specs.Lists.{HasLists}
use Rattle.rdl_block_laws.specs.Ordered.{in_turn}
use Rattle.rdl_check.specs.Trees.{AreInTurn, IsClear}
use Rattle.rdl_check.proofs.Named.{one-name}

abbrev pub OfOrder : (Block → List RefItem → Type 0) → Type 0
OfOrder P = (e : Elab) (b : Block) (ks : List ℕ) → IsClean e → IsBound e → IsListOf (meaning_fails e) [] → HasLists (Some (top_name e)) e.source.now b → IsOrder (edges_of (lineages_of e)) ks → P b (in_turn (lineages_of e) ks)

pub made : (e : Elab) (b : Block) → IsClear e → b.signals ≡ map blocks.signal_of (all_signals (nodes_of e)) → b.fields ≡ blocks.fields e.source.now (lineages_of e) → b.views ≡ blocks.views (lineages_of e)
    → b.regs ≡ map blocks.reg_of (registers (nodes_of e)) → AreByAddress (read_words (addr.registers (Some (top_name e)) e.source.now)) b.reads → AreByAddress (write_words (addr.registers (Some (top_name e)) e.source.now)) b.writes
    → b.name ≡ top_name e → b.waits ≡ 0 → AreInTurn e b.order → OfOrder (λ b is. IsPermutation (items b) is) → OfOrder IsOrdered → IsBlockOf (Some (top_name e)) e.source.now 0 b
made e b clear signals fields views regs reads writes name waits turn each after =
    let tree = clear.ready.clean.elaborated.tree in
    let lists : HasLists (Some (top_name e)) e.source.now b = record { signals_ = signals; fields_ = fields; regs_ = regs } in
    record {
      name = one-name [] tree.between e.count e.top.now (top_of (Some (top_name e)) e.source.now) tree.top ∙ ap (λ t. t ∷ []) (sym name);
      signals = signals;
      fields_ = fields;
      views_ = views;
      regs = regs;
      reads = reads;
      writes = writes;
      waits_ = waits;
      each_item = subst (IsPermutation (items b)) (sym turn.turned) (each e b turn.numbers clear.ready.clean clear.ready.bound clear.none lists turn.order);
      ordered = subst (IsOrdered b) (sym turn.turned) (after e b turn.numbers clear.ready.clean clear.ready.bound clear.none lists turn.order);
    }

pub nothing : (fs : List Fault) (len : ℕ) → len ≡ length fs → (len == 0) ≡ true → fs ≡ []
nothing [] len e t = refl
nothing (f ∷ fs) len e t = let none = eqb-true len 0 t in absurd (omega (arith, e, none))
