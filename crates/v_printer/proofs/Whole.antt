-- The text of a netlist is a module of it.
use Rattle.std.specs.List.{AllByRecursion}
use Rattle.std.proofs.Common.{suc, ◌≡◌, ℕ, ◌<◌, ◌^◌, true, List, [], ◌∷◌, ◌++◌, codes, map, length, slice_get, Some, refl, ap, ◌∙◌, subst, arith}
use Rattle.rb_grammar.specs.Printing.{cells_text}
use Rattle.rb_grammar.proofs.Laying.{printed}
use Rattle.rtl_net.specs.Net.{Net}
use Rattle.rtl_net.specs.Made.{IsMade}
use Rattle.rtl_net.specs.declared.node.NetNode.{NetNode}
use Rattle.rtl_net.specs.declared.node.NetNode.TheVariants.{Input, Register, Wire}
use Rattle.rtl_net.specs.declared.node.Seat.{Seat}
use Rattle.rtl_net.proofs.Places.{slice_get-within}
use Rattle.v_design.specs.Lexemes.{Spells}
use Rattle.v_design.specs.Tree.{Statement, tokens_of}
use Rattle.v_design.specs.WellFormed.{IsWellFormed, all_among, used, names, nets, drives_well, fits_well, RisesAlong}
use Rattle.v_design.proofs.Printing.{printer}
use Rattle.v_design.proofs.TreeText.{tree_cells, stmt_cells}
use Rattle.v_printer.specs.Module.{numbered, port_of, register_decl, wire_decl, stmts, tree_of}
use Rattle.v_printer.specs.Layout.{section_text, shown_text, text_of}
use Rattle.v_printer.specs.TextOf.{IsWhole, IsTextOf}
use Rattle.v_printer.specs.declared.section.Section.TheVariants.{Registers, Wires, Assignments, Blocks}
use Rattle.v_printer.proofs.Tokens.{tree_same}
use Rattle.v_printer.proofs.Laying.{tree_laid}
use Rattle.v_printer.proofs.Sections.{text_is}
use Rattle.v_printer.proofs.Places.{all_append, all_one, all_map, all_of, list_all_of, numbered_all}
use Rattle.v_printer.proofs.Words.{identifier_word, wire_word}
use Rattle.v_printer.proofs.Printable.{IsNamed, PrintsLine, tree_prints}
use Rattle.v_printer.proofs.Nested.{tree_nests}
use Rattle.v_printer.proofs.Nodes.{seat_word, register_word, ws, rank}
use Rattle.v_printer.proofs.Sound.{IsSound, all_sound}
use Rattle.v_printer.proofs.Driven.{once, single, all_have, ranges, register_wide, wire_wide, registers_are}
use Rattle.v_printer.proofs.Runs.{net_runs, module_runs}

as_many : (ss : List Seat) → length ss ≡ length (map port_of ss)
as_many [] = refl
as_many (s ∷ ss) = ap suc (as_many ss)

module _ (net : Net) (made : IsMade net) (whole : IsWhole net) (few : length net.nodes < 2 ^ 64) where
  abbrev Sound : Statement → Type 0
  Sound = IsSound net made few

  register_named : (k : ℕ) (n : NetNode) → slice_get net.nodes k ≡ Some n → AllByRecursion (λ d. IsNamed d.name d.width) (register_decl k n)
  register_named k (Input name w) h = tt
  register_named k (Register name w reset next) h = (record { word = register_word net made few k name w reset next h; most = (register_wide net made k name w reset next h).1 }, tt)
  register_named k (Wire e) h = tt

  wire_named : (k : ℕ) (n : NetNode) → slice_get net.nodes k ≡ Some n → AllByRecursion (λ d. IsNamed d.name d.width) (wire_decl net k n)
  wire_named k (Input name w) h = tt
  wire_named k (Register name w reset next) h = tt
  wire_named k (Wire e) h = (record { word = wire_word k (let l : k < length net.nodes = slice_get-within net.nodes k (Wire e) h in omega arith); most = (wire_wide net made k e h).1 }, tt)

  spelled : Spells (text_of net) (tokens_of (tree_of net))
  spelled =
      let cells = tree_cells (tree_of net) in
      let can = tree_prints (tree_of net) (identifier_word net.name made.identifier)
      (all_map (λ p. IsNamed p.name p.width) port_of net.seats (all_of (λ s. IsNamed s.name s.width) net.seats (λ i s h. record { word = seat_word net made few i s h; most = (made.seats i s h).0.1 })))
      (all_append (λ d. IsNamed d.name d.width) (numbered register_decl 0 net.nodes) _ (numbered_all register_decl (λ d. IsNamed d.name d.width) net.nodes register_named)
      (numbered_all (wire_decl net) (λ d. IsNamed d.name d.width) net.nodes wire_named))
      (all_one Sound (λ s. PrintsLine (stmt_cells s)) (stmts net) (λ s h. h.line) (all_sound net made few)) in
      subst (λ t. Spells t (tokens_of (tree_of net))) (tree_laid (tree_of net) ∙ text_is net)
      (subst (Spells (cells_text printer cells (10 ∷ []))) (tree_same (tree_of net)) (printed printer cells (10 ∷ []) can.is refl))

  well_formed : IsWellFormed (tree_of net)
  well_formed = record {
    once = once net made few whole.driven;
    declared = list_all_of (λ s. all_among (names (nets (tree_of net))) (used s)) (stmts net) (all_one Sound (λ s. all_among (names (nets (tree_of net))) (used s) ≡ true) (stmts net) (λ s h. h.declared) (all_sound net made few));
    drives = list_all_of (drives_well (nets (tree_of net))) (stmts net) (all_one Sound (λ s. drives_well (nets (tree_of net)) s ≡ true) (stmts net) (λ s h. h.drives) (all_sound net made few));
    single = single net made few whole.driven;
    driven_all = all_have net made few whole.driven;
    fits = list_all_of (fits_well (ws net made few)) (stmts net) (all_one Sound (λ s. fits_well (ws net made few) s ≡ true) (stmts net) (λ s h. h.fits) (all_sound net made few));
    rank = rank net made few;
    rises = all_one Sound (RisesAlong (rank net made few)) (stmts net) (λ s h. h.rises) (all_sound net made few);
  }

  pub text_of_net : IsTextOf net (text_of net)
  unfolding text_of
  text_of_net = record {
    tree = tree_of net;
    is_tree = record { spelled = spelled; ported = subst (λ n. 0 < n) (as_many net.seats) whole.some; ranges = ranges net made; nested = tree_nests net };
    well_formed = well_formed;
    body = section_text net Registers ++ (section_text net Wires ++ (section_text net Assignments ++ (numbered (shown_text net) 0 net.seats ++ (section_text net Blocks ++ codes "endmodule\n"))));
    headed = refl;
    named = refl;
    ported = refl;
    kept = registers_are net;
    runs = λ contents vectors outputs. (net_runs net made few whole contents vectors outputs, module_runs net made few whole contents vectors outputs);
  }
