-- Further sources, beside those of single rules.
use Rattle.std.proofs.Common.{[], ◌∷◌, None, Some, codes}
use Rattle.rdl_tree.specs.declared.item.Item.TheVariants as item
use Rattle.rdl_tree.specs.declared.item.Source.{Source}
use Rattle.rdl_tree.specs.declared.expr.Expr.TheVariants as expr
use Rattle.rdl_tree.specs.declared.item.Kind.TheVariants as kind
use Rattle.rdl_tree.specs.declared.item.PType.TheVariants as ptype
use Rattle.rdl_base.specs.declared.keyword.Keyword.TheVariants as keyword
use Rattle.rdl_verdict_laws.proofs.WorkedTrees.{lend, at, name, step_to, path_of, word, value, assign, inst, insts_of, component, source}

-- addrmap x { name = "\"q\""; };
abbrev pub quoted_name : Source
quoted_name = source (
    item.Def (component kind.Addrmap (Some (name (codes "x") 8)) [] 8 (
    item.Local (assign (name (codes "name") 12) None (value (expr.Str (lend (codes "\\\"q\\\"")) (at 19))) 12) ∷ []) None) ∷ [])

-- addrmap x { regfile { reg { field {} f; } q @18446744073709551614; reg { field {} f; } s; } a @18446744073709551614; };
abbrev pub far_registers : Source
far_registers = source (
    item.Def (component kind.Addrmap (Some (name (codes "x") 8)) [] 8 (
    item.Def (component kind.Regfile None [] 12 (
    item.Def (component kind.Reg None [] 22 (
    item.Def (component kind.Field None [] 28 [] (Some (insts_of [] ((inst (name (codes "f") 37)) ∷ [])))) ∷ []) (Some (insts_of [] ((record (inst (name (codes "q") 42)) { at = Some (lend (expr.Number 18446744073709551614 (at 45))) }) ∷ [])))) ∷
    item.Def (component kind.Reg None [] 67 (
    item.Def (component kind.Field None [] 73 [] (Some (insts_of [] ((inst (name (codes "f") 82)) ∷ [])))) ∷ []) (Some (insts_of [] ((inst (name (codes "s") 87)) ∷ [])))) ∷ []) (Some (insts_of [] ((record (inst (name (codes "a") 92)) { at = Some (lend (expr.Number 18446744073709551614 (at 95))) }) ∷ [])))) ∷ []) None) ∷ [])

-- addrmap x { reg A #(longint n) { field {} f; }; reg B { field {} f; }; A p; alias p B s; };
abbrev pub alias_of_no_node : Source
alias_of_no_node = source (
    item.Def (component kind.Addrmap (Some (name (codes "x") 8)) [] 8 (
    item.Def (component kind.Reg (Some (name (codes "A") 16)) ((record { name = (name (codes "n") 28); ptype = ptype.Number; default = None }) ∷ []) 16 (
    item.Def (component kind.Field None [] 33 [] (Some (insts_of [] ((inst (name (codes "f") 42)) ∷ [])))) ∷ []) None) ∷
    item.Def (component kind.Reg (Some (name (codes "B") 52)) [] 52 (
    item.Def (component kind.Field None [] 56 [] (Some (insts_of [] ((inst (name (codes "f") 65)) ∷ [])))) ∷ []) None) ∷
    item.Made None (name (codes "A") 71) (insts_of [] ((inst (name (codes "p") 73)) ∷ [])) ∷
    item.Made (Some (name (codes "p") 82)) (name (codes "B") 84) (insts_of [] ((inst (name (codes "s") 86)) ∷ [])) ∷ []) None) ∷ [])

-- signal {} s; addrmap x { reg { field { sw=r; hw=w; } f; f->next = s; } a; };
abbrev pub wire_of_a_signal : Source
wire_of_a_signal = source (
    item.Def (component kind.Signal None [] 0 [] (Some (insts_of [] ((inst (name (codes "s") 10)) ∷ [])))) ∷
    item.Def (component kind.Addrmap (Some (name (codes "x") 21)) [] 21 (
    item.Def (component kind.Reg None [] 25 (
    item.Def (component kind.Field None [] 31 (
    item.Local (assign (name (codes "sw") 39) None (word keyword.R) 39) ∷
    item.Local (assign (name (codes "hw") 45) None (word keyword.W) 45) ∷ []) (Some (insts_of [] ((inst (name (codes "f") 53)) ∷ [])))) ∷
    item.Dynamic (path_of ((step_to (name (codes "f") 56) []) ∷ [])) (assign (name (codes "next") 59) None (value (expr.Ref (path_of ((step_to (name (codes "s") 66) []) ∷ [])) None)) 56) ∷ []) (Some (insts_of [] ((inst (name (codes "a") 71)) ∷ [])))) ∷ []) None) ∷ [])
