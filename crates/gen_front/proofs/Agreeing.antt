-- A text of a netlist of a block behind a bus agrees with that.
use Rattle.std.proofs.Common.{◌≡◌, ◌↔◌, ℕ, List, ◌++◌, ap, sym, ◌∙◌, subst}
use Rattle.std.specs.Prelude.{Contains}
use Rattle.rb_base.specs.declared.ports.Pin.{Pin}
use Rattle.rb_base.specs.declared.ports.Port.{Port}
use Rattle.rtl_net.specs.Net.{Net}
use Rattle.v_printer.specs.TextOf.{IsTextOf}
use Rattle.v_printer.specs.Module as printed_module
use Rattle.v_design.specs.Header.{header}
use Rattle.rb_model.specs.Front.{Front, register_pins}
use Rattle.rb_model.specs.Agreement.{Agrees}
use Rattle.gen_front.specs.Netlist.{IsNetlistOf}

pub agrees : (net : Net) (F : Front) (text : List ℕ) → IsNetlistOf net F → IsTextOf net text → Agrees text F
agrees net F text is of =
    let head : header net.name (printed_module.ports net) ≡ header F.name F.ports =
    ap (λ (n : List ℕ). header n (printed_module.ports net)) is.named
    ∙ ap (λ (ps : List Port). header F.name ps) is.ported in
    let P : List Pin → Type 0 = λ ps. (p : Pin) → Contains ps p ↔ Contains (register_pins F) p in
    record {
      tree = of.tree;
      is_tree = of.is_tree;
      well_formed = of.well_formed;
      body = of.body;
      headed = of.headed ∙ ap (λ (h : List ℕ). h ++ of.body) head;
      named = of.named ∙ is.named;
      ported = of.ported ∙ is.ported;
      kept_only = subst P (sym of.kept) is.kept_only;
      runs = λ k contents vectors outputs within held inputs_fit keeps machine.
          (of.runs contents vectors outputs).0 (is.runs k contents vectors outputs within held inputs_fit keeps machine);
    }
