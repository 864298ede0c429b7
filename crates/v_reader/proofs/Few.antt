-- A module has fewer ports than its text has bytes.
use Rattle.std.proofs.Common.{◌≡◌, ℕ, suc, ◌+◌, ◌<◌, ◌≤◌, false, true, List, [], ◌∷◌, ◌++◌, length, refl, ap, sym, ◌∙◌, arith, length-append}
use Rattle.std.proofs.lemmas.List.{length-map}
use Rattle.rb_base.specs.declared.ports.Port.{Port}
use Rattle.rb_grammar.specs.Lexemes.{has_form}
use Rattle.rb_grammar.specs.Separators.{Skips, stay, skip}
use Rattle.rb_grammar.specs.Spelling.{At, StartsWith, SpellsFrom, Spells, tokens_of}
use Rattle.v_design.specs.Lexemes.{Token, verilog}
use Rattle.v_design.specs.Tree.{Tree, IsTree, quoted, ports_tokens, port_tokens, decls_tokens, stmts_tokens}
use Rattle.v_design.specs.Tree as tree
use Rattle.v_design.specs.declared.design.Design.{Design}
use Rattle.v_design.specs.Design.{module_of}
use Rattle.v_design.specs.Seen.{module_seen}
use Rattle.v_reader.specs.Reading.{IsDesign}

skips_short : (text left : List ℕ) → Skips verilog.comments text left → length left ≤ length text
skips_short text _ stay = omega arith
skips_short text left (skip separator rest e s k) = let more = skips_short rest left k in omega (arith, more, ap length e, length-append separator rest)

word_some : (word : List ℕ) → has_form verilog word ≡ true → 0 < length word
word_some [] h = let f : false ≡ true = h in cc
word_some (b ∷ bs) h = omega arith

start_short : (size : ℕ) (text : List ℕ) (t : At Token) (rest : List ℕ) → StartsWith verilog size text t rest → length rest < length text
start_short size text t rest s =
    let word = word_some s.word s.next.form in
    omega (arith, word, skips_short text s.left s.skips, ap length s.next.whole, length-append s.word rest)

spelled_few : (size : ℕ) (text : List ℕ) (ts : List (At Token)) → SpellsFrom verilog size text ts → length ts ≤ length text
spelled_few size text [] s = omega arith
spelled_few size text (t ∷ ts) s = let more = spelled_few size s.0 ts s.2 in let one = start_short size text t s.0 s.1 in omega (arith, more, one)

port_some : (p : Port) → 0 < length (port_tokens p)
port_some p = omega arith

ports_few : (ps : List Port) → length ps ≤ length (ports_tokens ps)
ports_few [] = omega arith
ports_few (p ∷ []) = let one = port_some p in omega (arith, one)
ports_few (p ∷ q ∷ ps) = let one = port_some p in let more = ports_few (q ∷ ps) in omega (arith, one, more, length-append (port_tokens p) (quoted "," ∷ ports_tokens (q ∷ ps)))

tree_few : (t : Tree) → length (ports_tokens t.ports) ≤ length (tree.tokens_of t)
tree_few t = omega (arith, length-append (ports_tokens t.ports) (quoted ")" ∷ quoted ";" ∷ (decls_tokens t.decls ++ (stmts_tokens t.stmts ++ quoted "endmodule" ∷ []))))

pub ports_fewer : (bytes : List ℕ) (d : Design) → IsDesign bytes d → length d.ports.items ≤ length bytes
ports_fewer bytes d h =
    let tokens : List Token = tree.tokens_of h.tree in
    let spelled = h.is_tree.spelled in
    let few = spelled_few (length bytes) bytes spelled.0 spelled.1 in
    let same : length spelled.0 ≡ length (tree.tokens_of h.tree) = sym (length-map spelled.0 (λ t. t.token)) ∙ ap length spelled.2 in
    let ports : d.ports.items ≡ h.tree.ports = ap (λ m. m.ports) h.is in
    omega (arith, few, same, tree_few h.tree, ports_few h.tree.ports, ap length ports)
