-- Texts that depend on a width.
use Rattle.std.specs.Fmt.{decimal}
use Rattle.std.proofs.Common.{◌≡◌, ℕ, ◌-◌, ◌<◌, ◌==◌, Bool, true, false, if◌then◌else◌, List, [], ◌++◌, slice_get, Some, codes, refl, ap, sym, ◌∙◌, arith, append_assoc, append-nil}
use Rattle.std.proofs.lemmas.Bool.Decides.{nat_tests}
use Rattle.rtl_net.specs.Value.{expr_width}
use Rattle.rtl_net.specs.Net.{Net, width_in, widths}
use Rattle.rtl_net.specs.Made.{IsMade}
use Rattle.rtl_net.specs.declared.node.Id.{Id}
use Rattle.rtl_net.specs.declared.node.NetExpr.{NetExpr}
use Rattle.rtl_net.specs.declared.node.NetNode.{NetNode}
use Rattle.rtl_net.specs.declared.node.NetNode.TheVariants.{Wire}
use Rattle.rtl_net.specs.declared.node.NetReset.{NetReset}
use Rattle.rtl_net.specs.declared.node.NetReset.TheVariants.{Async}
use Rattle.rtl_net.proofs.Places.{slice_get-within}
use Rattle.rtl_net.proofs.Widths.{width_at, width_most}
use Rattle.rtl_net.proofs.Making.{wire_width}
use Rattle.v_design.specs.Tree.{Plain, Joined, Whole, Bit, Part, Sized, edge_word}
use Rattle.v_design.specs.declared.design.VTwo.TheVariants.{And}
use Rattle.v_design.specs.Header.{range_text}
use Rattle.v_printer.specs.Module.{selected, node_name, wire_name, block}
use Rattle.v_printer.specs.Layout.{term_text, operand_text, negation_text, constant_text, event_text, test_text, reset_value_text, next_text, stmt_text, line_text}
use Rattle.v_printer.specs.declared.section.Section.TheVariants.{Wires}
use Rattle.plain_lemmas.proofs.Numbers.{not-number as other_number}

pub same_number : (a b : ℕ) → a ≡ b → (a == b) ≡ true
same_number a b e = grind (arith, nat_tests)

pub range_is : (w : ℕ) → (w ≡ 1 → ⊥) → codes "[" ++ (decimal (w - 1) ++ codes ":0] ") ≡ range_text w
range_is w n = ap (λ (b : Bool). if b then [] else codes "[" ++ (decimal (w - 1) ++ codes ":0] ")) (sym (other_number w 1 n))

pub only_bit_is : (w : ℕ) (n : List ℕ) (hi lo : ℕ) → w ≡ 1 → n ++ (codes " & " ++ constant_text 1 1) ≡ term_text (selected w n hi lo)
only_bit_is w n hi lo e = ap (λ (b : Bool). term_text (if b then Joined And (Whole n) (Sized 1 1) else Plain (if hi == lo then Bit n hi else Part n hi lo))) (sym (same_number w 1 e))

module _ (w : ℕ) (n : List ℕ) (hi lo : ℕ) (wide : w ≡ 1 → ⊥) where
  chosen : (d : Bool) → (hi == lo) ≡ d → term_text (selected w n hi lo) ≡ operand_text (if d then Bit n hi else Part n hi lo)
  chosen d f =
      ap (λ (b : Bool). term_text (if b then Joined And (Whole n) (Sized 1 1) else Plain (if hi == lo then Bit n hi else Part n hi lo))) (other_number w 1 wide)
      ∙ ap (λ (b : Bool). operand_text (if b then Bit n hi else Part n hi lo)) f

  pub bit_is : hi ≡ lo → n ++ (codes "[" ++ (decimal hi ++ codes "]")) ≡ term_text (selected w n hi lo)
  bit_is e = sym (chosen true (same_number hi lo e))

  pub bits_are : (hi ≡ lo → ⊥) → n ++ (codes "[" ++ (decimal hi ++ (codes ":" ++ (decimal lo ++ codes "]")))) ≡ term_text (selected w n hi lo)
  bits_are e = sym (chosen false (other_number hi lo e))

-- what stands behind the name of a net of several bits
abbrev pub bits_text : (hi lo : ℕ) → List ℕ
bits_text hi lo = if hi == lo then codes "[" ++ (decimal hi ++ codes "]") else codes "[" ++ (decimal hi ++ (codes ":" ++ (decimal lo ++ codes "]")))

behind_name : (n : List ℕ) (hi lo : ℕ) (d : Bool)
    → operand_text (if d then Bit n hi else Part n hi lo) ≡ n ++ (if d then codes "[" ++ (decimal hi ++ codes "]") else codes "[" ++ (decimal hi ++ (codes ":" ++ (decimal lo ++ codes "]"))))
behind_name n hi lo true = refl
behind_name n hi lo false = refl

pub part_is : (w : ℕ) (n : List ℕ) (hi lo : ℕ) → (w ≡ 1 → ⊥) → n ++ bits_text hi lo ≡ term_text (selected w n hi lo)
part_is w n hi lo wide = sym (chosen w n hi lo wide (hi == lo) refl ∙ behind_name n hi lo (hi == lo))

block_parts : (c r p g n v a : List ℕ) → (c ++ (r ++ (codes " " ++ p))) ++ (codes ")\n    if (" ++ (g ++ (p ++ codes ") "))) ++ ((n ++ (codes " <= " ++ (v ++ codes ";\n    else "))) ++ (n ++ (codes " <= " ++ (a ++ codes ";\n"))))
    ≡ c ++ (r ++ (codes " " ++ (p ++ (codes ")\n    if (" ++ (g ++ (p ++ (codes ") " ++ (n ++ (codes " <= " ++ (v ++ (codes ";\n    else " ++ (n ++ (codes " <= " ++ (a ++ codes ";\n"))))))))))))))
block_parts c r p g n v a = simp append_assoc

-- the block of a register with a reset, from its parts
pub block_is : (net : Net) (name : List ℕ) (w : ℕ) (reset : NetReset) (next pin : Id) (low : Bool) (value : ℕ) → reset ≡ Async pin low value
    → (event_text low (node_name net.nodes pin.0) ++ test_text low (node_name net.nodes pin.0)) ++ (reset_value_text name w value ++ next_text name (node_name net.nodes next.0)) ≡ stmt_text (block net name w reset next)
block_is net name w reset next pin low value e =
    block_parts (codes "  always @(posedge PCLK or ") (edge_word low) (node_name net.nodes pin.0) (negation_text low) name (constant_text w value) (node_name net.nodes next.0)
    ∙ ap (λ r. stmt_text (block net name w r next)) (sym e)

-- the declaration of a wire
pub wire_line : (net : Net) → IsMade net → (k w : ℕ) (n : NetNode) (e : NetExpr) → slice_get net.nodes k ≡ Some n → n ≡ Wire e → (0 < width_in net (record { 0 = k }) → w ≡ width_in net (record { 0 = k }))
    → codes "  wire " ++ (range_text w ++ (wire_name k ++ codes ";\n")) ≡ line_text net Wires k n
wire_line net made k w n e h is wide =
    let g : slice_get net.nodes k ≡ Some (Wire e) = h ∙ ap Some is in
    let m = made.nodes k (Wire e) g in
    let a : width_in net (record { 0 = k }) ≡ expr_width (widths net) e = width_at net made k (Wire e) g (slice_get-within net.nodes k (Wire e) g) in
    let p : 0 < expr_width (widths net) e = (wire_width net e (width_most net made) m.0).0 in
    let v : w ≡ width_in net (record { 0 = k }) = wide (omega arith) in
    ap (λ x. codes "  wire " ++ (range_text x ++ (wire_name k ++ codes ";\n"))) v
    ∙ (sym (append-nil (codes "  wire " ++ (range_text (width_in net (record { 0 = k })) ++ (wire_name k ++ codes ";\n"))))
    ∙ ap (line_text net Wires k) (sym is))
