-- Sources on addresses and bits.
use Rattle.std.proofs.Common.{[], ◌∷◌, None, Some, codes}
use Rattle.rdl_tree.specs.declared.item.Item.TheVariants as item
use Rattle.rdl_tree.specs.declared.item.Source.{Source}
use Rattle.rdl_tree.specs.declared.expr.Expr.TheVariants as expr
use Rattle.rdl_tree.specs.declared.expr.Op.TheVariants as op
use Rattle.rdl_tree.specs.declared.item.Kind.TheVariants as kind
use Rattle.rdl_base.specs.declared.keyword.Keyword.TheVariants as keyword
use Rattle.rdl_verdict_laws.proofs.WorkedTrees.{lend, at, name, step_to, path_of, word, value, assign, inst, insts_of, component, source}

-- addrmap m { addressing = compact; reg W { field {} f[32]; }; reg B { regwidth=8; field {} f[8]; }; regfile G { W p[3]; }; W ra[3] @0x10 += 0xC; W s %= 0x20; B t; G u[2]; };
abbrev pub compact_map : Source
compact_map = source (
    item.Def (component kind.Addrmap (Some (name (codes "m") 8)) [] 8 (
    item.Local (assign (name (codes "addressing") 12) None (word keyword.Compact) 12) ∷
    item.Def (component kind.Reg (Some (name (codes "W") 38)) [] 38 (
    item.Def (component kind.Field None [] 42 [] (Some (insts_of [] ((record (inst (name (codes "f") 51)) { dims = lend ((expr.Number 32 (at 53)) ∷ []) }) ∷ [])))) ∷ []) None) ∷
    item.Def (component kind.Reg (Some (name (codes "B") 65)) [] 65 (
    item.Local (assign (name (codes "regwidth") 69) None (value (expr.Number 8 (at 78))) 69) ∷
    item.Def (component kind.Field None [] 81 [] (Some (insts_of [] ((record (inst (name (codes "f") 90)) { dims = lend ((expr.Number 8 (at 92)) ∷ []) }) ∷ [])))) ∷ []) None) ∷
    item.Def (component kind.Regfile (Some (name (codes "G") 107)) [] 107 (
    item.Made None (name (codes "W") 111) (insts_of [] ((record (inst (name (codes "p") 113)) { dims = lend ((expr.Number 3 (at 115)) ∷ []) }) ∷ [])) ∷ []) None) ∷
    item.Made None (name (codes "W") 122) (insts_of [] ((record (inst (name (codes "ra") 124)) { dims = lend ((expr.Number 3 (at 127)) ∷ []); at = Some (lend (expr.Number 16 (at 131))); stride = Some (lend (expr.Number 12 (at 139))) }) ∷ [])) ∷
    item.Made None (name (codes "W") 144) (insts_of [] ((record (inst (name (codes "s") 146)) { align = Some (lend (expr.Number 32 (at 151))) }) ∷ [])) ∷
    item.Made None (name (codes "B") 157) (insts_of [] ((inst (name (codes "t") 159)) ∷ [])) ∷
    item.Made None (name (codes "G") 162) (insts_of [] ((record (inst (name (codes "u") 164)) { dims = lend ((expr.Number 2 (at 166)) ∷ []) }) ∷ [])) ∷ []) None) ∷ [])

-- addrmap m { reg W { field {} f[32]; }; reg B { regwidth=8; field {} f[8]; }; regfile G { W p[3]; }; W ra[3] @0x10 += 0xC; W s %= 0x20; B t; G u[2]; };
abbrev pub regalign_map : Source
regalign_map = source (
    item.Def (component kind.Addrmap (Some (name (codes "m") 8)) [] 8 (
    item.Def (component kind.Reg (Some (name (codes "W") 16)) [] 16 (
    item.Def (component kind.Field None [] 20 [] (Some (insts_of [] ((record (inst (name (codes "f") 29)) { dims = lend ((expr.Number 32 (at 31)) ∷ []) }) ∷ [])))) ∷ []) None) ∷
    item.Def (component kind.Reg (Some (name (codes "B") 43)) [] 43 (
    item.Local (assign (name (codes "regwidth") 47) None (value (expr.Number 8 (at 56))) 47) ∷
    item.Def (component kind.Field None [] 59 [] (Some (insts_of [] ((record (inst (name (codes "f") 68)) { dims = lend ((expr.Number 8 (at 70)) ∷ []) }) ∷ [])))) ∷ []) None) ∷
    item.Def (component kind.Regfile (Some (name (codes "G") 85)) [] 85 (
    item.Made None (name (codes "W") 89) (insts_of [] ((record (inst (name (codes "p") 91)) { dims = lend ((expr.Number 3 (at 93)) ∷ []) }) ∷ [])) ∷ []) None) ∷
    item.Made None (name (codes "W") 100) (insts_of [] ((record (inst (name (codes "ra") 102)) { dims = lend ((expr.Number 3 (at 105)) ∷ []); at = Some (lend (expr.Number 16 (at 109))); stride = Some (lend (expr.Number 12 (at 117))) }) ∷ [])) ∷
    item.Made None (name (codes "W") 122) (insts_of [] ((record (inst (name (codes "s") 124)) { align = Some (lend (expr.Number 32 (at 129))) }) ∷ [])) ∷
    item.Made None (name (codes "B") 135) (insts_of [] ((inst (name (codes "t") 137)) ∷ [])) ∷
    item.Made None (name (codes "G") 140) (insts_of [] ((record (inst (name (codes "u") 142)) { dims = lend ((expr.Number 2 (at 144)) ∷ []) }) ∷ [])) ∷ []) None) ∷ [])

-- addrmap m { addressing = fullalign; reg W { field {} f[32]; }; reg B { regwidth=8; field {} f[8]; }; regfile G { W p[3]; }; W ra[3] @0x10 += 0xC; W s %= 0x20; B t; G u[2]; };
abbrev pub fullalign_map : Source
fullalign_map = source (
    item.Def (component kind.Addrmap (Some (name (codes "m") 8)) [] 8 (
    item.Local (assign (name (codes "addressing") 12) None (word keyword.Fullalign) 12) ∷
    item.Def (component kind.Reg (Some (name (codes "W") 40)) [] 40 (
    item.Def (component kind.Field None [] 44 [] (Some (insts_of [] ((record (inst (name (codes "f") 53)) { dims = lend ((expr.Number 32 (at 55)) ∷ []) }) ∷ [])))) ∷ []) None) ∷
    item.Def (component kind.Reg (Some (name (codes "B") 67)) [] 67 (
    item.Local (assign (name (codes "regwidth") 71) None (value (expr.Number 8 (at 80))) 71) ∷
    item.Def (component kind.Field None [] 83 [] (Some (insts_of [] ((record (inst (name (codes "f") 92)) { dims = lend ((expr.Number 8 (at 94)) ∷ []) }) ∷ [])))) ∷ []) None) ∷
    item.Def (component kind.Regfile (Some (name (codes "G") 109)) [] 109 (
    item.Made None (name (codes "W") 113) (insts_of [] ((record (inst (name (codes "p") 115)) { dims = lend ((expr.Number 3 (at 117)) ∷ []) }) ∷ [])) ∷ []) None) ∷
    item.Made None (name (codes "W") 124) (insts_of [] ((record (inst (name (codes "ra") 126)) { dims = lend ((expr.Number 3 (at 129)) ∷ []); at = Some (lend (expr.Number 16 (at 133))); stride = Some (lend (expr.Number 12 (at 141))) }) ∷ [])) ∷
    item.Made None (name (codes "W") 146) (insts_of [] ((record (inst (name (codes "s") 148)) { align = Some (lend (expr.Number 32 (at 153))) }) ∷ [])) ∷
    item.Made None (name (codes "B") 159) (insts_of [] ((inst (name (codes "t") 161)) ∷ [])) ∷
    item.Made None (name (codes "G") 164) (insts_of [] ((record (inst (name (codes "u") 166)) { dims = lend ((expr.Number 2 (at 168)) ∷ []) }) ∷ [])) ∷ []) None) ∷ [])

-- addrmap o { reg { field {} f; } a @0x0; reg { field {} f; } b @0x2; };
abbrev pub odd_address : Source
odd_address = source (
    item.Def (component kind.Addrmap (Some (name (codes "o") 8)) [] 8 (
    item.Def (component kind.Reg None [] 12 (
    item.Def (component kind.Field None [] 18 [] (Some (insts_of [] ((inst (name (codes "f") 27)) ∷ [])))) ∷ []) (Some (insts_of [] ((record (inst (name (codes "a") 32)) { at = Some (lend (expr.Number 0 (at 35))) }) ∷ [])))) ∷
    item.Def (component kind.Reg None [] 40 (
    item.Def (component kind.Field None [] 46 [] (Some (insts_of [] ((inst (name (codes "f") 55)) ∷ [])))) ∷ []) (Some (insts_of [] ((record (inst (name (codes "b") 60)) { at = Some (lend (expr.Number 2 (at 63))) }) ∷ [])))) ∷ []) None) ∷ [])

-- addrmap e { reg { field {} f[8]; } a[2]; a[0]->regwidth = 16; reg { field {} f[8]; } b; };
abbrev pub one_element_narrower : Source
one_element_narrower = source (
    item.Def (component kind.Addrmap (Some (name (codes "e") 8)) [] 8 (
    item.Def (component kind.Reg None [] 12 (
    item.Def (component kind.Field None [] 18 [] (Some (insts_of [] ((record (inst (name (codes "f") 27)) { dims = lend ((expr.Number 8 (at 29)) ∷ []) }) ∷ [])))) ∷ []) (Some (insts_of [] ((record (inst (name (codes "a") 35)) { dims = lend ((expr.Number 2 (at 37)) ∷ []) }) ∷ [])))) ∷
    item.Dynamic (path_of ((step_to (name (codes "a") 41) ((expr.Number 0 (at 43)) ∷ [])) ∷ [])) (assign (name (codes "regwidth") 47) None (value (expr.Number 16 (at 58))) 41) ∷
    item.Def (component kind.Reg None [] 62 (
    item.Def (component kind.Field None [] 68 [] (Some (insts_of [] ((record (inst (name (codes "f") 77)) { dims = lend ((expr.Number 8 (at 79)) ∷ []) }) ∷ [])))) ∷ []) (Some (insts_of [] ((inst (name (codes "b") 85)) ∷ [])))) ∷ []) None) ∷ [])

-- addrmap n { addressing = compact; reg Q { accesswidth = 8; field {} g[8]; }; addrmap { reg { regwidth = 8; field {} f[8]; } p; Q q; } m; reg { regwidth = 8; field {} f[8]; } t; Q u; };
abbrev pub nested_map : Source
nested_map = source (
    item.Def (component kind.Addrmap (Some (name (codes "n") 8)) [] 8 (
    item.Local (assign (name (codes "addressing") 12) None (word keyword.Compact) 12) ∷
    item.Def (component kind.Reg (Some (name (codes "Q") 38)) [] 38 (
    item.Local (assign (name (codes "accesswidth") 42) None (value (expr.Number 8 (at 56))) 42) ∷
    item.Def (component kind.Field None [] 59 [] (Some (insts_of [] ((record (inst (name (codes "g") 68)) { dims = lend ((expr.Number 8 (at 70)) ∷ []) }) ∷ [])))) ∷ []) None) ∷
    item.Def (component kind.Addrmap None [] 77 (
    item.Def (component kind.Reg None [] 87 (
    item.Local (assign (name (codes "regwidth") 93) None (value (expr.Number 8 (at 104))) 93) ∷
    item.Def (component kind.Field None [] 107 [] (Some (insts_of [] ((record (inst (name (codes "f") 116)) { dims = lend ((expr.Number 8 (at 118)) ∷ []) }) ∷ [])))) ∷ []) (Some (insts_of [] ((inst (name (codes "p") 124)) ∷ [])))) ∷
    item.Made None (name (codes "Q") 127) (insts_of [] ((inst (name (codes "q") 129)) ∷ [])) ∷ []) (Some (insts_of [] ((inst (name (codes "m") 134)) ∷ [])))) ∷
    item.Def (component kind.Reg None [] 137 (
    item.Local (assign (name (codes "regwidth") 143) None (value (expr.Number 8 (at 154))) 143) ∷
    item.Def (component kind.Field None [] 157 [] (Some (insts_of [] ((record (inst (name (codes "f") 166)) { dims = lend ((expr.Number 8 (at 168)) ∷ []) }) ∷ [])))) ∷ []) (Some (insts_of [] ((inst (name (codes "t") 174)) ∷ [])))) ∷
    item.Made None (name (codes "Q") 177) (insts_of [] ((inst (name (codes "u") 179)) ∷ [])) ∷ []) None) ∷ [])

-- addrmap a { reg { field {} f[32]; } r[2] += 2; reg { field {} f[32]; } s %= 0; };
abbrev pub small_stride : Source
small_stride = source (
    item.Def (component kind.Addrmap (Some (name (codes "a") 8)) [] 8 (
    item.Def (component kind.Reg None [] 12 (
    item.Def (component kind.Field None [] 18 [] (Some (insts_of [] ((record (inst (name (codes "f") 27)) { dims = lend ((expr.Number 32 (at 29)) ∷ []) }) ∷ [])))) ∷ []) (Some (insts_of [] ((record (inst (name (codes "r") 36)) { dims = lend ((expr.Number 2 (at 38)) ∷ []); stride = Some (lend (expr.Number 2 (at 44))) }) ∷ [])))) ∷
    item.Def (component kind.Reg None [] 47 (
    item.Def (component kind.Field None [] 53 [] (Some (insts_of [] ((record (inst (name (codes "f") 62)) { dims = lend ((expr.Number 32 (at 64)) ∷ []) }) ∷ [])))) ∷ []) (Some (insts_of [] ((record (inst (name (codes "s") 71)) { align = Some (lend (expr.Number 0 (at 76))) }) ∷ [])))) ∷ []) None) ∷ [])

-- addrmap a { reg { field {} f; } q[2] += 2**63; };
abbrev pub far_stride : Source
far_stride = source (
    item.Def (component kind.Addrmap (Some (name (codes "a") 8)) [] 8 (
    item.Def (component kind.Reg None [] 12 (
    item.Def (component kind.Field None [] 18 [] (Some (insts_of [] ((inst (name (codes "f") 27)) ∷ [])))) ∷ []) (Some (insts_of [] ((record (inst (name (codes "q") 32)) { dims = lend ((expr.Number 2 (at 34)) ∷ []); stride = Some (lend (expr.Binary op.Pow (lend (expr.Number 2 (at 40))) (lend (expr.Number 63 (at 43))) (at 41))) }) ∷ [])))) ∷ []) None) ∷ [])

-- addrmap s { reg { field { sw=r; hw=w; } st[32]; } a @0x0; reg { field { sw=w; hw=r; } cmd[32] = 0; } b @0x0; };
abbrev pub read_and_write : Source
read_and_write = source (
    item.Def (component kind.Addrmap (Some (name (codes "s") 8)) [] 8 (
    item.Def (component kind.Reg None [] 12 (
    item.Def (component kind.Field None [] 18 (
    item.Local (assign (name (codes "sw") 26) None (word keyword.R) 26) ∷
    item.Local (assign (name (codes "hw") 32) None (word keyword.W) 32) ∷ []) (Some (insts_of [] ((record (inst (name (codes "st") 40)) { dims = lend ((expr.Number 32 (at 43)) ∷ []) }) ∷ [])))) ∷ []) (Some (insts_of [] ((record (inst (name (codes "a") 50)) { at = Some (lend (expr.Number 0 (at 53))) }) ∷ [])))) ∷
    item.Def (component kind.Reg None [] 58 (
    item.Def (component kind.Field None [] 64 (
    item.Local (assign (name (codes "sw") 72) None (word keyword.W) 72) ∷
    item.Local (assign (name (codes "hw") 78) None (word keyword.R) 78) ∷ []) (Some (insts_of [] ((record (inst (name (codes "cmd") 86)) { dims = lend ((expr.Number 32 (at 90)) ∷ []); reset = Some (lend (expr.Number 0 (at 96))) }) ∷ [])))) ∷ []) (Some (insts_of [] ((record (inst (name (codes "b") 101)) { at = Some (lend (expr.Number 0 (at 104))) }) ∷ [])))) ∷ []) None) ∷ [])

-- addrmap s { reg { field { sw=r; hw=w; } st[32]; } a @0x0; reg { field { sw=rw; hw=r; } cmd[32] = 0; } b @0x0; };
abbrev pub read_and_read_write : Source
read_and_read_write = source (
    item.Def (component kind.Addrmap (Some (name (codes "s") 8)) [] 8 (
    item.Def (component kind.Reg None [] 12 (
    item.Def (component kind.Field None [] 18 (
    item.Local (assign (name (codes "sw") 26) None (word keyword.R) 26) ∷
    item.Local (assign (name (codes "hw") 32) None (word keyword.W) 32) ∷ []) (Some (insts_of [] ((record (inst (name (codes "st") 40)) { dims = lend ((expr.Number 32 (at 43)) ∷ []) }) ∷ [])))) ∷ []) (Some (insts_of [] ((record (inst (name (codes "a") 50)) { at = Some (lend (expr.Number 0 (at 53))) }) ∷ [])))) ∷
    item.Def (component kind.Reg None [] 58 (
    item.Def (component kind.Field None [] 64 (
    item.Local (assign (name (codes "sw") 72) None (word keyword.Rw) 72) ∷
    item.Local (assign (name (codes "hw") 79) None (word keyword.R) 79) ∷ []) (Some (insts_of [] ((record (inst (name (codes "cmd") 87)) { dims = lend ((expr.Number 32 (at 91)) ∷ []); reset = Some (lend (expr.Number 0 (at 97))) }) ∷ [])))) ∷ []) (Some (insts_of [] ((record (inst (name (codes "b") 102)) { at = Some (lend (expr.Number 0 (at 105))) }) ∷ [])))) ∷ []) None) ∷ [])

-- addrmap s { reg { field { sw=r; hw=w; } st[32]; } a @0x0; reg { regwidth=16; field { sw=w; hw=r; } cmd[16] = 0; } b @0x0; };
abbrev pub read_and_narrow_write : Source
read_and_narrow_write = source (
    item.Def (component kind.Addrmap (Some (name (codes "s") 8)) [] 8 (
    item.Def (component kind.Reg None [] 12 (
    item.Def (component kind.Field None [] 18 (
    item.Local (assign (name (codes "sw") 26) None (word keyword.R) 26) ∷
    item.Local (assign (name (codes "hw") 32) None (word keyword.W) 32) ∷ []) (Some (insts_of [] ((record (inst (name (codes "st") 40)) { dims = lend ((expr.Number 32 (at 43)) ∷ []) }) ∷ [])))) ∷ []) (Some (insts_of [] ((record (inst (name (codes "a") 50)) { at = Some (lend (expr.Number 0 (at 53))) }) ∷ [])))) ∷
    item.Def (component kind.Reg None [] 58 (
    item.Local (assign (name (codes "regwidth") 64) None (value (expr.Number 16 (at 73))) 64) ∷
    item.Def (component kind.Field None [] 77 (
    item.Local (assign (name (codes "sw") 85) None (word keyword.W) 85) ∷
    item.Local (assign (name (codes "hw") 91) None (word keyword.R) 91) ∷ []) (Some (insts_of [] ((record (inst (name (codes "cmd") 99)) { dims = lend ((expr.Number 16 (at 103)) ∷ []); reset = Some (lend (expr.Number 0 (at 109))) }) ∷ [])))) ∷ []) (Some (insts_of [] ((record (inst (name (codes "b") 114)) { at = Some (lend (expr.Number 0 (at 117))) }) ∷ [])))) ∷ []) None) ∷ [])

-- addrmap s { reg { field { sw=r; hw=w; } st[7:0]; field { sw=w; hw=r; } cmd[7:4]; field {} more[9:8]; field {} last[3]; field {} over[8:8]; field {} high[32:32]; } a; };
abbrev pub shared_bits : Source
shared_bits = source (
    item.Def (component kind.Addrmap (Some (name (codes "s") 8)) [] 8 (
    item.Def (component kind.Reg None [] 12 (
    item.Def (component kind.Field None [] 18 (
    item.Local (assign (name (codes "sw") 26) None (word keyword.R) 26) ∷
    item.Local (assign (name (codes "hw") 32) None (word keyword.W) 32) ∷ []) (Some (insts_of [] ((record (inst (name (codes "st") 40)) { range = (Some (lend ((expr.Number 7 (at 43)), (expr.Number 0 (at 45))))) }) ∷ [])))) ∷
    item.Def (component kind.Field None [] 49 (
    item.Local (assign (name (codes "sw") 57) None (word keyword.W) 57) ∷
    item.Local (assign (name (codes "hw") 63) None (word keyword.R) 63) ∷ []) (Some (insts_of [] ((record (inst (name (codes "cmd") 71)) { range = (Some (lend ((expr.Number 7 (at 75)), (expr.Number 4 (at 77))))) }) ∷ [])))) ∷
    item.Def (component kind.Field None [] 81 [] (Some (insts_of [] ((record (inst (name (codes "more") 90)) { range = (Some (lend ((expr.Number 9 (at 95)), (expr.Number 8 (at 97))))) }) ∷ [])))) ∷
    item.Def (component kind.Field None [] 101 [] (Some (insts_of [] ((record (inst (name (codes "last") 110)) { dims = lend ((expr.Number 3 (at 115)) ∷ []) }) ∷ [])))) ∷
    item.Def (component kind.Field None [] 119 [] (Some (insts_of [] ((record (inst (name (codes "over") 128)) { range = (Some (lend ((expr.Number 8 (at 133)), (expr.Number 8 (at 135))))) }) ∷ [])))) ∷
    item.Def (component kind.Field None [] 139 [] (Some (insts_of [] ((record (inst (name (codes "high") 148)) { range = (Some (lend ((expr.Number 32 (at 153)), (expr.Number 32 (at 156))))) }) ∷ [])))) ∷ []) (Some (insts_of [] ((inst (name (codes "a") 163)) ∷ [])))) ∷ []) None) ∷ [])

-- addrmap m { reg { field {} f[8]; } a; a->regwidth = 8; reg { regwidth=8; field {} f[8]; } b; };
abbrev pub width_from_outside : Source
width_from_outside = source (
    item.Def (component kind.Addrmap (Some (name (codes "m") 8)) [] 8 (
    item.Def (component kind.Reg None [] 12 (
    item.Def (component kind.Field None [] 18 [] (Some (insts_of [] ((record (inst (name (codes "f") 27)) { dims = lend ((expr.Number 8 (at 29)) ∷ []) }) ∷ [])))) ∷ []) (Some (insts_of [] ((inst (name (codes "a") 35)) ∷ [])))) ∷
    item.Dynamic (path_of ((step_to (name (codes "a") 38) []) ∷ [])) (assign (name (codes "regwidth") 41) None (value (expr.Number 8 (at 52))) 38) ∷
    item.Def (component kind.Reg None [] 55 (
    item.Local (assign (name (codes "regwidth") 61) None (value (expr.Number 8 (at 70))) 61) ∷
    item.Def (component kind.Field None [] 73 [] (Some (insts_of [] ((record (inst (name (codes "f") 82)) { dims = lend ((expr.Number 8 (at 84)) ∷ []) }) ∷ [])))) ∷ []) (Some (insts_of [] ((inst (name (codes "b") 90)) ∷ [])))) ∷ []) None) ∷ [])

-- addrmap m { regfile { reg { field { sw=rw; hw=w; } f; } a @0; reg { field { sw=w; hw=r; } g; } b @0; } x; x.a.f->sw = r; };
abbrev pub access_from_outside : Source
access_from_outside = source (
    item.Def (component kind.Addrmap (Some (name (codes "m") 8)) [] 8 (
    item.Def (component kind.Regfile None [] 12 (
    item.Def (component kind.Reg None [] 22 (
    item.Def (component kind.Field None [] 28 (
    item.Local (assign (name (codes "sw") 36) None (word keyword.Rw) 36) ∷
    item.Local (assign (name (codes "hw") 43) None (word keyword.W) 43) ∷ []) (Some (insts_of [] ((inst (name (codes "f") 51)) ∷ [])))) ∷ []) (Some (insts_of [] ((record (inst (name (codes "a") 56)) { at = Some (lend (expr.Number 0 (at 59))) }) ∷ [])))) ∷
    item.Def (component kind.Reg None [] 62 (
    item.Def (component kind.Field None [] 68 (
    item.Local (assign (name (codes "sw") 76) None (word keyword.W) 76) ∷
    item.Local (assign (name (codes "hw") 82) None (word keyword.R) 82) ∷ []) (Some (insts_of [] ((inst (name (codes "g") 90)) ∷ [])))) ∷ []) (Some (insts_of [] ((record (inst (name (codes "b") 95)) { at = Some (lend (expr.Number 0 (at 98))) }) ∷ [])))) ∷ []) (Some (insts_of [] ((inst (name (codes "x") 103)) ∷ [])))) ∷
    item.Dynamic (path_of ((step_to (name (codes "x") 106) []) ∷ (step_to (name (codes "a") 108) []) ∷ (step_to (name (codes "f") 110) []) ∷ [])) (assign (name (codes "sw") 113) None (word keyword.R) 106) ∷ []) None) ∷ [])

-- addrmap e { regfile { reg { regwidth = 8; field {} f[8]; } a, b; a->regwidth = 16; } g; g.b->regwidth = 32; addrmap { reg { regwidth = 8; field {} f[8]; } x; reg { field {} f[8]; accesswidth = 8; } y; } m; m->addressing = compact; reg { regwidth = 8; field {} f[8]; } z; };
abbrev pub mode_from_outside : Source
mode_from_outside = source (
    item.Def (component kind.Addrmap (Some (name (codes "e") 8)) [] 8 (
    item.Def (component kind.Regfile None [] 12 (
    item.Def (component kind.Reg None [] 22 (
    item.Local (assign (name (codes "regwidth") 28) None (value (expr.Number 8 (at 39))) 28) ∷
    item.Def (component kind.Field None [] 42 [] (Some (insts_of [] ((record (inst (name (codes "f") 51)) { dims = lend ((expr.Number 8 (at 53)) ∷ []) }) ∷ [])))) ∷ []) (Some (insts_of [] ((inst (name (codes "a") 59)) ∷ (inst (name (codes "b") 62)) ∷ [])))) ∷
    item.Dynamic (path_of ((step_to (name (codes "a") 65) []) ∷ [])) (assign (name (codes "regwidth") 68) None (value (expr.Number 16 (at 79))) 65) ∷ []) (Some (insts_of [] ((inst (name (codes "g") 85)) ∷ [])))) ∷
    item.Dynamic (path_of ((step_to (name (codes "g") 88) []) ∷ (step_to (name (codes "b") 90) []) ∷ [])) (assign (name (codes "regwidth") 93) None (value (expr.Number 32 (at 104))) 88) ∷
    item.Def (component kind.Addrmap None [] 108 (
    item.Def (component kind.Reg None [] 118 (
    item.Local (assign (name (codes "regwidth") 124) None (value (expr.Number 8 (at 135))) 124) ∷
    item.Def (component kind.Field None [] 138 [] (Some (insts_of [] ((record (inst (name (codes "f") 147)) { dims = lend ((expr.Number 8 (at 149)) ∷ []) }) ∷ [])))) ∷ []) (Some (insts_of [] ((inst (name (codes "x") 155)) ∷ [])))) ∷
    item.Def (component kind.Reg None [] 158 (
    item.Def (component kind.Field None [] 164 [] (Some (insts_of [] ((record (inst (name (codes "f") 173)) { dims = lend ((expr.Number 8 (at 175)) ∷ []) }) ∷ [])))) ∷
    item.Local (assign (name (codes "accesswidth") 179) None (value (expr.Number 8 (at 193))) 179) ∷ []) (Some (insts_of [] ((inst (name (codes "y") 198)) ∷ [])))) ∷ []) (Some (insts_of [] ((inst (name (codes "m") 203)) ∷ [])))) ∷
    item.Dynamic (path_of ((step_to (name (codes "m") 206) []) ∷ [])) (assign (name (codes "addressing") 209) None (word keyword.Compact) 206) ∷
    item.Def (component kind.Reg None [] 231 (
    item.Local (assign (name (codes "regwidth") 237) None (value (expr.Number 8 (at 248))) 237) ∷
    item.Def (component kind.Field None [] 251 [] (Some (insts_of [] ((record (inst (name (codes "f") 260)) { dims = lend ((expr.Number 8 (at 262)) ∷ []) }) ∷ [])))) ∷ []) (Some (insts_of [] ((inst (name (codes "z") 268)) ∷ [])))) ∷ []) None) ∷ [])
